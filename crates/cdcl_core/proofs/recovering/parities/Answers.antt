use Rattle.std.proofs.Common.{ap, ◌∙◌, arith}
use Rattle.std.proofs.lemmas.List.{take_all}
use Rattle.cx_base.specs.Problem.{parities_of}
use Rattle.cdcl_core.proofs.OriginalLaws.{no_parity}
use Rattle.cdcl_core.proofs.recovering.parities.Goals as goal

pub loop-place-init : goal.loop-place-init
loop-place-init c = c.in_ok-parities.ensures.items ∙ no_parity c.args.formula.now.constraints

pub returns : goal.returns
returns c =
    let far = c.loop-place-test.false in
    let long = c.len-place-end.ensures.len in
    c.loop-place.invariant ∙ ap parities_of (take_all c.loop-place.place c.args.formula.now.constraints (omega (arith, far, long)))
