use Rattle.std.proofs.Common.{◌≡◌, ◌∙◌, refl, sym, ap, subst}
use Rattle.cx_base.specs.declared.steps.ProofStep.{ProofStep}
use Rattle.proof_text.specs.Borrowed.{step_of}
use Rattle.proof_trim.specs.NameSets.{KeepsOne}
use Rattle.proof_trim.specs.Puts.{step_at}
use Rattle.proof_trim.proofs.StoreLaws.{if_ok}
use Rattle.proof_trim.proofs.PutLaws.{if_both, kept_put, step_there}
use Rattle.proof_trim.proofs.keep.keep_at.Goals as goal

pub returns-in-Some-clause-kept : goal.returns-in-Some-clause-kept
returns-in-Some-clause-kept c =
    if_both c.keep_put.result _ _ _
    (λ said is has. kept_put c.args.is_needed said (step_at c.args.proof.now c.args.place) _ c.args.live.now c.keep_put.new.live (sym c.put_at.ensures ∙ c.in-Some.is) is has)
    c.keep_put.ensures.stays c.keep_put.ensures.live

pub returns-in-None-clause-kept : goal.returns-in-None-clause-kept
returns-in-None-clause-kept c =
    let here = step_there c.args.proof.now _ c.args.place _ (c.open_at.ensures.step) in
    if_ok c.keep_one.result _ _ (λ stays kept. subst (λ (s : ProofStep). KeepsOne c.args.is_needed s c.args.live.now c.keep_one.new.live stays) (c.step.ensures ∙ sym here) kept) c.keep_one.ensures
