use Rattle.std.proofs.Common.{sym, subst}
use Rattle.cx_trail.specs.Sequence.{TrailState, IsAssignedIn}
use Rattle.conflict_learn.specs.declared.learning.Resolved.{Resolved}
use Rattle.cdcl_core.proofs.GradedTies.{graded_still, graded_on, live_reasons_on, same_trail}
use Rattle.cdcl_core.proofs.grading.grade_resolved.Goals as goal

pub loop-step-init : goal.loop-step-init
loop-step-init c = record { graded = graded_still c.args.state.now; clear = c.requires.clear }

pub grade_reason-requires : goal.grade_reason-requires
grade_reason-requires c =
    let old = c.args.state.now in
    let now = c.loop-step.state in
    let i = c.loop-step.step-index in
    let graded = c.loop-step.invariant.graded in
    record {
      reasons = live_reasons_on old now graded c.requires.reasons;
      assigned = subst (λ v. IsAssignedIn now.trail.entries v) (sym c.var.ensures)
          (subst (λ (t : TrailState). IsAssignedIn t.entries c.step-item.result.literal.variable) (sym (same_trail old now graded))
          (subst (λ (r : Resolved). IsAssignedIn old.trail.entries r.literal.variable) (sym c.step-item.is) (c.requires.assigned i c.step-item.result c.loop-step-test.true)));
      clear = c.loop-step.invariant.clear;
    }

pub loop-step-preserved : goal.loop-step-preserved
loop-step-preserved c = record {
  graded = graded_on c.args.state.now c.loop-step.state c.grade_reason.new.state c.loop-step.invariant.graded c.in_ok-grade_reason.ensures.graded;
  clear = c.in_ok-grade_reason.ensures.clear;
}

pub returns-in_err-grade_reason : goal.returns-in_err-grade_reason
returns-in_err-grade_reason c = record {
  graded = graded_on c.args.state.now c.loop-step.state c.grade_reason.new.state c.loop-step.invariant.graded c.in_err-grade_reason.ensures.graded;
  clear = c.in_err-grade_reason.ensures.clear;
}
