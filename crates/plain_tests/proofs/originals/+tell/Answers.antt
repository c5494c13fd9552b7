use Rattle.std.proofs.Common.{◌≡◌, ◌++◌, sym, ap, List, [], drop, arith}
use Rattle.std.proofs.lemmas.List.{drop_all}
use Rattle.cx_base.specs.declared.constraint.Constraint.{Constraint}
use Rattle.cx_semantics.specs.Marked.{original_events}
use Rattle.plain_tests.proofs.originals.+tell.Goals as goal

pub returns-then-place-len : goal.returns-then-place-len
returns-then-place-len t c =
    let constraints = c.args.formula.now.constraints in
    let none : ◌≡◌ {A = List Constraint} (drop c.args.place constraints) [] = (let e = c.if-place-len.true in let long = c.len.ensures.len in drop_all c.args.place constraints (omega (arith, e, long))) in
    (c.args.events.now, ap (λ cs. original_events c.args.clauses c.args.parities cs ++ c.args.events.now) (sym none))
