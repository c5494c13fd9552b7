use Rattle.std.proofs.Common.{[], sym, subst, ℤ, w64, rules}
use Rattle.std.proofs.lemmas.Int.{to_z-of_z}
use mir.Val.{SFits}
use Rattle.cx_texts.specs.Printed.{HasProofText}
use Rattle.cx_base.specs.declared.steps.ProofStep.TheVariants as step
use Rattle.fratx_elab.proofs.Texts.{clause_of_parity_text}
use Rattle.fratx_elab.proofs.steps.clause_of_parity_step.Goals as goal

pub returns-clause-text : goal.returns-clause-text
returns-clause-text c =
    let hint : ℤ = c.hint.result in
    let fits : SFits w64 hint = search rules in
    subst (λ z. HasProofText (step.ClauseOfParity c.number.result c.args.lits z)) (sym (to_z-of_z w64 hint fits))
    (clause_of_parity_text c.number.result c.args.lits [] c.number.ensures.low c.number.ensures.high c.as_slice-lits.ensures.proper hint c.hint.ensures.some c.hint.ensures.within)
