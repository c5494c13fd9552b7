use Rattle.std.proofs.Common.{refl, ℕ, suc, Bool, true, false, cond, List, [], ◌∷◌, inl, inr}
use Rattle.cx_base.specs.declared.steps.ProofStep.{ProofStep}
use Rattle.cx_semantics.specs.Tables.{Tables, first_tables}
use Rattle.cx_semantics.specs.ProofRules.{after_step}
use Rattle.proof_trim.specs.Laws.{IsPartOf}
use Rattle.proof_trim.specs.Trimmed.{stays, staying}
use Rattle.proof_trim.proofs.laws.trimmed_is_a_part.Goals as goal

one_part : (b : Bool) (s : ProofStep) (with_it without steps : List ProofStep) → IsPartOf with_it steps → IsPartOf without steps → IsPartOf (cond b (s ∷ with_it) without) (s ∷ steps)
one_part true s with_it without steps h k = inr (with_it, refl, h)
one_part false s with_it without steps h k = inl k

part : (needed : ℕ → Bool) (n : ℕ) (t : Tables) (steps : List ProofStep) → IsPartOf (staying needed n t steps) steps
part needed n t [] = refl
part needed n t (s ∷ steps) = one_part (stays needed n t s) s _ _ steps (part needed (suc n) (after_step t s) steps) (part needed (suc n) t steps)

pub returns : goal.returns
returns c = λ formula proof needed. part needed 1 (first_tables formula) proof
