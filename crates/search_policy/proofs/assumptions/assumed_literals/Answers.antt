use Rattle.std.proofs.Common.{ap, ◌∙◌, arith}
use Rattle.std.proofs.lemmas.List.{take_all}
use Rattle.cx_base.specs.Assumptions.{assumptions_of}
use Rattle.search_policy.proofs.AssumingLaws.{none_assumed}
use Rattle.search_policy.proofs.assumptions.assumed_literals.Goals as goal

pub loop-place-init : goal.loop-place-init
loop-place-init c = c.new-lits.ensures.items ∙ none_assumed c.args.formula.now.constraints

pub returns : goal.returns
returns c =
    let far = c.loop-place-test.false in
    let long = c.len-place-end.ensures.len in
    c.loop-place.invariant ∙ ap assumptions_of (take_all c.loop-place.place c.args.formula.now.constraints (omega (arith, far, long)))
