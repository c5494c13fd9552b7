-- Steps that a text reads to have a text again, and so have those that stay of them.
use Rattle.std.proofs.Common.{sym, subst, ℕ, suc, Bool, true, false, cond, List, [], ◌∷◌, ◌++◌}
use Rattle.std.specs.List.{AllByRecursion}
use Rattle.cx_base.specs.declared.steps.ProofStep.{ProofStep}
use Rattle.cx_base.specs.Endings.{Ending}
use Rattle.cx_base.specs.Problem.{Problem}
use Rattle.cx_semantics.specs.Tables.{Tables, first_tables}
use Rattle.cx_semantics.specs.ProofRules.{after_step}
use Rattle.cx_texts.specs.Words.{Word, Placed, words, IsWithin}
use Rattle.cx_texts.specs.Grammar.{Spells, Reading}
use Rattle.cx_texts.specs.ProofText.{proof_steps}
use Rattle.cx_texts.specs.Printed.{HasProofText}
use Rattle.proof_trim.specs.Trimmed.{stays, staying, trimmed}

words_have : (P : Word → Type 0) (front : List Placed) → AllByRecursion (λ p. P p.word) front → AllByRecursion P (words front)
words_have P [] h = tt
words_have P (p ∷ front) h = (h.0, words_have P front h.1)

spelled_has_text : (s : ProofStep) (placed rest : List Placed) → Spells proof_steps s placed rest → HasProofText s
spelled_has_text s placed rest h = (h.step.0, subst (λ ws. AllByRecursion (IsWithin proof_steps.limit) ws) (sym h.step.1) (words_have (IsWithin proof_steps.limit) h.front h.within))

pub have_texts : (len : ℕ) (placed : List Placed) (steps : List ProofStep) (ending : Ending) → Reading proof_steps len placed steps ending → AllByRecursion HasProofText steps
have_texts len placed [] ending h = tt
have_texts len placed (s ∷ steps) ending (rest, spells, reads) = (spelled_has_text s placed rest spells, have_texts len rest steps ending reads)

pub all_before : {X : Type 0} (P : X → Type 0) (xs ys : List X) → AllByRecursion P (xs ++ ys) → AllByRecursion P xs
all_before P [] ys h = tt
all_before P (x ∷ xs) ys h = (h.0, all_before P xs ys h.1)

-- what holds of the steps holds of those that stay
one_stays : (P : ProofStep → Type 0) (b : Bool) (s : ProofStep) (with_it without : List ProofStep) → P s → AllByRecursion P with_it → AllByRecursion P without → AllByRecursion P (cond b (s ∷ with_it) without)
one_stays P true s with_it without p h k = (p, h)
one_stays P false s with_it without p h k = k

all_stay : (P : ProofStep → Type 0) (needed : ℕ → Bool) (n : ℕ) (t : Tables) (steps : List ProofStep) → AllByRecursion P steps → AllByRecursion P (staying needed n t steps)
all_stay P needed n t [] h = tt
all_stay P needed n t (s ∷ steps) h = one_stays P (stays needed n t s) s _ _ h.0 (all_stay P needed (suc n) (after_step t s) steps h.1) (all_stay P needed (suc n) t steps h.1)

pub trimmed_have : (P : ProofStep → Type 0) (f : Problem) (needed : ℕ → Bool) (proof : List ProofStep) → AllByRecursion P proof → AllByRecursion P (trimmed f needed proof)
trimmed_have P f needed proof h = all_stay P needed 1 (first_tables f) proof h
