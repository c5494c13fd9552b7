-- Steps of a proof: nothing goes on with a whole one.
use Rattle.std.proofs.Common.{◌≡◌, ◌≢◌, refl, ap, ◌∙◌, subst, zero, suc, ℤ, pos, negsuc, List, [], ◌∷◌, ◌++◌, flat_map}
use Rattle.std.specs.List.{AllByRecursion}
use Rattle.cx_base.specs.declared.steps.ProofStep.{ProofStep}
use Rattle.cx_base.specs.declared.steps.ProofStep.TheVariants as proof
use Rattle.cx_texts.specs.Words.{Word, Placed}
use Rattle.cx_texts.specs.Grammar.{integer, end, ids, integers, spelled_list, IsProper, spelling, IsStep, Begins, Stops}
use Rattle.cx_texts.specs.ProofText.{proof_steps, proof_fields}
use Rattle.cx_texts.proofs.Shapes.{Kind, a_mark, some_ids, some_integers}
use Rattle.cx_texts.proofs.Remaining.{remaining, remaining-push, after_word, rows_of, begins_nowhere, all_passed, positive}
use Rattle.cx_texts.proofs.Grammars.{proof_forms}

abbrev pub proof_rows : List (List Kind)
proof_rows = rows_of proof_steps proof_forms.forms

abbrev IsOver : ProofStep → Type 0
IsOver s = remaining proof_rows (spelling proof_steps s) ≡ [] ∷ []

-- after a positive id the letter d may follow, or a list
first_list : (lits : List ℤ) (ws : List Word) → AllByRecursion (λ z. z ≢ pos 0) lits
    → remaining ((some_integers ∷ some_integers ∷ []) ∷ (a_mark 100 ∷ some_ids ∷ []) ∷ []) (spelled_list lits ++ ws) ≡ remaining ((some_integers ∷ some_integers ∷ []) ∷ []) (spelled_list lits ++ ws)
first_list [] ws h = refl
first_list (pos zero ∷ lits) ws h = absurd (h.0 refl)
first_list (pos (suc n) ∷ lits) ws h = refl
first_list (negsuc n ∷ lits) ws h = refl

over : (s : ProofStep) → AllByRecursion IsProper (proof_fields s) → IsOver s
unfolding proof_forms
over (proof.Clause n lits hints) h = positive (λ m. IsOver (proof.Clause m lits hints)) n h.0 (λ m. first_list lits (spelled_list hints ++ []) h.1.0 ∙ all_passed (integers lits ∷ integers hints ∷ []) [] h.1)
over (proof.DeleteClauses n names) h = positive (λ m. IsOver (proof.DeleteClauses m names)) n h.0 (λ m. all_passed (ids names ∷ []) [] h.1.1)
over (proof.Parity n lits hints) h = positive (λ m. IsOver (proof.Parity m lits hints)) n h.1.0 (λ m. all_passed (integers lits ∷ integers hints ∷ []) [] h.1.1)
over (proof.DeleteParities names) h = all_passed (ids names ∷ []) [] h.1.1
over (proof.ClauseOfParity n lits hint) h = positive (λ m. IsOver (proof.ClauseOfParity m lits hint)) n h.1.0 (λ m. all_passed (integers lits ∷ integer hint ∷ end ∷ []) [] h.1.1)
over (proof.ParityOfClauses n lits hints) h = positive (λ m. IsOver (proof.ParityOfClauses m lits hints)) n h.1.1.0 (λ m. all_passed (integers lits ∷ integers hints ∷ []) [] h.1.1.1)

pub no_more : (s : ProofStep) (ws : List Word) (w : Word) → IsStep proof_steps ws s → ¬ Begins proof_steps (ws ++ w ∷ [])
no_more s ws w h = begins_nowhere proof_steps proof_forms (ws ++ w ∷ [])
    (remaining-push proof_rows ws w ∙ ap (flat_map (after_word w)) (subst (λ x. remaining proof_rows x ≡ [] ∷ []) h.1 (over s h.0)))

pub stops : (s : ProofStep) (ws : List Word) (rest : List Placed) → IsStep proof_steps ws s → Stops proof_steps ws rest
stops s ws [] h = tt
stops s ws (p ∷ rest) h = no_more s ws p.word h
