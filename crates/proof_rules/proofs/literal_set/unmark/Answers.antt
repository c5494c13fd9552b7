use Rattle.std.proofs.Common.{◌≡◌, ◌∙◌, sym, subst, ap, ◌+◌, Bool, List, drop, set, false}
use Rattle.std.proofs.Math.ListN.{drop_of_length-le}
use Rattle.cx_base.specs.Literals.{Literal, code_of}
use Rattle.proof_rules.specs.LiteralSets.{AreMarkedOnly}
use Rattle.proof_rules.proofs.LiteralLaws.{next_item}
use Rattle.proof_rules.proofs.MarkLaws.{marked_less, none_marked}
use Rattle.proof_rules.proofs.literal_set.unmark.Goals as goal

pub loop-lit-preserved : goal.loop-lit-preserved
loop-lit-preserved c only =
    let lits = c.args.lits.now in
    let marks : List Bool = c.loop-lit.marks in
    let lit = c.lit-item.result in
    let rest : List Literal = drop (c.loop-lit.lit-index + 1) lits in
    let next = next_item lits c.loop-lit.lit-index lit c.loop-lit-test.true c.lit-item.is in
    let cleared : ◌≡◌ {A = List Bool} c.clear_mark.new.marks (set marks (code_of lit) false) = c.clear_mark.ensures ∙ ap (λ n. set marks n false) c.code.ensures.code in
    subst (λ (ms : List Bool). AreMarkedOnly ms rest) (sym cleared) (marked_less marks lit rest (subst (λ (ls : List Literal). AreMarkedOnly marks ls) next (c.loop-lit.invariant only)))

pub returns : goal.returns
returns c only = none_marked c.loop-lit.marks _ (drop_of_length-le c.args.lits.now c.loop-lit-test.false) (c.loop-lit.invariant only)
