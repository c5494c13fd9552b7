-- The states of a reader within a clause step of a proof.
use Rattle.std.proofs.Common.{◌≡◌, ◌≢◌, ap, ◌∙◌, ℕ, suc, ℤ, pos, List, [], ◌∷◌, ◌++◌, map, flat_map}
use Rattle.std.specs.List.{AllByRecursion}
use Rattle.cx_texts.specs.Words.{number, letter}
use Rattle.cx_texts.specs.Grammar.{Begins}
use Rattle.cx_texts.specs.ProofText.{proof_steps}
use Rattle.cx_texts.proofs.Shapes.{some_integers}
use Rattle.cx_texts.proofs.Remaining.{remaining, remaining-push, after_word, begins_nowhere, integers_stay}
use Rattle.cx_texts.proofs.Grammars.{proof_forms}
use Rattle.cx_texts.proofs.ProofSteps.{proof_rows}

-- after an id and a first literal both lists are still to come
pub in_literals : (n m : ℕ) (zs : List ℤ) → AllByRecursion (λ z. z ≢ pos 0) zs → remaining proof_rows (number (pos (suc n)) ∷ number (pos (suc m)) ∷ map number zs) ≡ (some_integers ∷ some_integers ∷ []) ∷ []
unfolding proof_forms
in_literals n m zs h = integers_stay zs (some_integers ∷ []) h

-- so a letter there fits no step
pub no_letter : (n m : ℕ) (zs : List ℤ) (c : ℕ) → AllByRecursion (λ z. z ≢ pos 0) zs → ¬ Begins proof_steps ((number (pos (suc n)) ∷ number (pos (suc m)) ∷ map number zs) ++ letter c ∷ [])
no_letter n m zs c h = begins_nowhere proof_steps proof_forms ((number (pos (suc n)) ∷ number (pos (suc m)) ∷ map number zs) ++ letter c ∷ [])
    (remaining-push proof_rows (number (pos (suc n)) ∷ number (pos (suc m)) ∷ map number zs) (letter c) ∙ ap (flat_map (after_word (letter c))) (in_literals n m zs h))
