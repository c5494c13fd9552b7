use Rattle.std.proofs.Common.{◌∙◌, ap, sym}
use Rattle.proof_rules.specs.VariableMarks.{mark_at, is_odd}
use Rattle.proof_rules.proofs.LoopSteps.{any_passed, any_ended}
use Rattle.proof_rules.proofs.parity_sum.any_left.Goals as goal

pub loop-variable-preserved : goal.loop-variable-preserved
loop-variable-preserved c =
    let marks = c.args.marks.now in
    let number = c.number.ensures.number ∙ c.variable-item.is in
    let even = sym (c.is_odd.ensures ∙ ap is_odd (c.mark_at.ensures ∙ ap (mark_at marks) number)) ∙ c.if-is_odd.false in
    any_passed (λ x. is_odd (mark_at marks x)) c.args.met.now c.loop-variable.variable-index _ c.loop-variable-test.true even ∙ c.loop-variable.invariant

pub returns : goal.returns
returns c = any_ended (λ x. is_odd (mark_at c.args.marks.now x)) c.args.met.now _ c.loop-variable-test.false ∙ c.loop-variable.invariant
