use Rattle.std.proofs.Common.{List, ◌+◌, ◌∙◌, sym, subst, ap}
use Rattle.cx_base.specs.Literals.{Literal}
use Rattle.gf2_lists.proofs.MadeLaws.{Taken, taken_more, taken_all}
use Rattle.gf2_lists.proofs.unpacked.literals_of.Goals as goal

pub loop-column-preserved : goal.loop-column-preserved
loop-column-preserved c =
    let m = c.args.matrix.now in
    let found = c.in-Some.ensures in
    subst (λ (l : List Literal). Taken m c.args.row l (c.in-Some.column + 1)) (sym c.in_ok-push.ensures.items)
    (taken_more m c.args.row c.loop-column.lits.items c.loop-column.from c.in-Some.column c.new-in-Some.result c.requires.of_given.columns_are c.loop-column.invariant found.0 found.1 found.2 found.3
    (ap (λ (l : Literal). l.variable) c.new-in-Some.ensures ∙ c.new.ensures ∙ c.column.ensures.is))

pub returns-clause-all : goal.returns-clause-all
returns-clause-all c =
    taken_all c.args.matrix.now c.args.row c.loop-column.lits.items c.loop-column.from c.requires.of_given c.requires.row_in c.loop-column.invariant c.in_default.ensures
