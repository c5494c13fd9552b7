use Rattle.std.proofs.Common.{◌≡◌, ◌+◌, ◌-◌, ◌<◌, ◌∙◌, ap, subst, suc, [], nat_eq, drop, length, length-set, drop-cons, arith}
use Rattle.cx_base.specs.declared.steps.ProofStep.TheVariants as step
use Rattle.proof_trim.specs.Marking.{is_nil, wants, marks_of}
use Rattle.proof_trim.specs.NameSets.{Has, has_name}
use Rattle.proof_trim.specs.Puts.{step_at}
use Rattle.proof_trim.proofs.BackLaws.{is_last, back_marked, back_wanted}
use Rattle.proof_trim.proofs.back.go_back.Goals as goal

pub loop-left-preserved : goal.loop-left-preserved
loop-left-preserved c =
    let before = c.loop-left.invariant in
    let proof = c.args.proof.now in
    let at = c.loop-left.left - 1 in
    let next : c.loop-left.left ≡ suc at = omega (arith, c.loop-left-test.true) in
    let up : at + 1 ≡ suc at = omega arith in
    let less : at < length proof = omega (arith, next, before.within) in
    let split = drop-cons proof at (step.DeleteParities []) less in
    let ends = ap (nat_eq (at + 1)) c.len-in-loop-left.ensures ∙ is_last proof (at + 1) (omega (arith, next, before.within)) ∙ ap (λ k. is_nil (drop k proof)) up in
    let has = subst (λ k. Has c.loop-left.wanted (wants (drop k proof))) next before.wanted in
    record {
      within = omega (arith, before.within);
      long = length-set c.loop-left.marks.items at c.in_ok-marks.field-0 ∙ before.long;
      marked = back_marked proof at (step_at proof at) (has_name c.loop-left.wanted) c.in_ok-marks.field-0 _ split ends has c.in_ok-marks.ensures.needed c.loop-left.marks.items
          (omega (arith, next, before.within, before.long)) (subst (λ k. drop k c.loop-left.marks.items ≡ marks_of (drop k proof)) next before.marked);
      wanted = back_wanted proof at (step_at proof at) (has_name c.loop-left.wanted) c.in_ok-marks.field-0 _ split ends has c.in_ok-marks.ensures.needed (has_name c.back_over.new.wanted)
          c.in_ok-marks.ensures.wanted;
    }
