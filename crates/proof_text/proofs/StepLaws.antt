-- The six steps of proofs from their parts, and what was taken and refused in the grammar of proofs.
use Rattle.std.proofs.Common.{◌≡◌, ◌≢◌, refl, ℕ, ◌<◌, pos, false, List, [], ◌∷◌, Result, Ok, Err}
use Rattle.cx_base.specs.declared.steps.ProofStep.{ProofStep}
use Rattle.cx_texts.specs.Words.{Word, number, letter, Placed, words}
use Rattle.cx_texts.specs.Grammar.{mark, id, IsStep, Spells}
use Rattle.cx_texts.specs.ProofText.{proof_steps, proof_fields}
use Rattle.cx_texts.proofs.Shapes.{Kind, a_mark, an_id, an_integer, an_end, some_ids, some_integers}
use Rattle.cx_texts.proofs.Remaining.{remaining, positive}
use Rattle.cx_texts.proofs.Grammars.{proof_forms}
use Rattle.cx_texts.proofs.ProofSteps.{proof_rows, no_more, stops}
use Rattle.step_text.specs.declared.source.TextRefusal.{TextRefusal}
use Rattle.step_text.specs.Heads.{is_head_letter}
use Rattle.step_text.specs.Taking.{Takes, HeadFails, MayGoOn, RefusedIn}
use Rattle.proof_text.specs.ProofTaking.{TakesStep}
use Rattle.step_text.specs.Reading.{ReadsStep}
use Rattle.step_text.proofs.TakingLaws.{takes_append, refused_then, head_refused}
use Rattle.step_text.proofs.Choices.{head_refuses, refused_beside}
use Rattle.step_text.proofs.ReadingLaws as reading

abbrev lists : List Kind
lists = some_integers ∷ some_integers ∷ []

abbrev hinted : List Kind
hinted = an_id ∷ lists

abbrev implied : List Kind
implied = an_id ∷ some_integers ∷ an_integer ∷ an_end ∷ []

after_id : (n : ℕ) → 0 < n → remaining proof_rows (number (pos n) ∷ []) ≡ lists ∷ (a_mark 100 ∷ some_ids ∷ []) ∷ []
unfolding proof_forms
after_id n h = positive (λ m. remaining proof_rows (number (pos m) ∷ []) ≡ lists ∷ (a_mark 100 ∷ some_ids ∷ []) ∷ []) n h (λ m. refl)

after_id_d : (n : ℕ) → 0 < n → remaining proof_rows (number (pos n) ∷ letter 100 ∷ []) ≡ (some_ids ∷ []) ∷ []
unfolding proof_forms
after_id_d n h = positive (λ m. remaining proof_rows (number (pos m) ∷ letter 100 ∷ []) ≡ (some_ids ∷ []) ∷ []) n h (λ m. refl)

after_x : remaining proof_rows (letter 120 ∷ []) ≡ hinted ∷ (a_mark 100 ∷ some_ids ∷ []) ∷ []
unfolding proof_forms
after_x = refl

after_x_d : remaining proof_rows (letter 120 ∷ letter 100 ∷ []) ≡ (some_ids ∷ []) ∷ []
unfolding proof_forms
after_x_d = refl

after_i : remaining proof_rows (letter 105 ∷ []) ≡ implied ∷ (a_mark 120 ∷ hinted) ∷ []
unfolding proof_forms
after_i = refl

after_i_x : remaining proof_rows (letter 105 ∷ letter 120 ∷ []) ≡ hinted ∷ []
unfolding proof_forms
after_i_x = refl

-- neither x nor i, and no id
pub no_start : (size : ℕ) (r : TextRefusal) (a : List Placed) → is_head_letter 120 a ≡ false → is_head_letter 105 a ≡ false → HeadFails an_id size r a → RefusedIn proof_rows size r a
unfolding proof_forms
no_start size r a x i h = head_refused an_id lists _ size r a
    (λ p rest e no_id. let no_x = head_refuses 120 a x p rest e in let no_i = head_refuses 105 a i p rest e in (no_id, (no_x, (no_x, (no_i, (no_i, tt)))))) h

pub clause_lists_refused : (n size : ℕ) (r : TextRefusal) (a b : List Placed) → Takes (id n ∷ []) a b → is_head_letter 100 b ≡ false → RefusedIn (lists ∷ []) size r b → RefusedIn proof_rows size r a
clause_lists_refused n size r a b t no_d h =
    refused_then (id n ∷ []) proof_rows _ size r a b t (after_id n t.proper.0)
    (refused_beside lists ((a_mark 100 ∷ some_ids ∷ []) ∷ []) size r b (λ p rest e. (head_refuses 100 b no_d p rest e, tt)) h)

pub clause_names_refused : (n size : ℕ) (r : TextRefusal) (a b c : List Placed) → Takes (id n ∷ []) a b → Takes (mark 100 ∷ []) b c → RefusedIn ((some_ids ∷ []) ∷ []) size r c → RefusedIn proof_rows size r a
clause_names_refused n size r a b c t d h =
    refused_then (id n ∷ mark 100 ∷ []) proof_rows _ size r a c (takes_append (id n ∷ []) (mark 100 ∷ []) a b c t d) (after_id_d n t.proper.0) h

pub parity_refused : (size : ℕ) (r : TextRefusal) (a b : List Placed) → Takes (mark 120 ∷ []) a b → is_head_letter 100 b ≡ false → RefusedIn (hinted ∷ []) size r b → RefusedIn proof_rows size r a
parity_refused size r a b t no_d h =
    refused_then (mark 120 ∷ []) proof_rows _ size r a b t after_x
    (refused_beside hinted ((a_mark 100 ∷ some_ids ∷ []) ∷ []) size r b (λ p rest e. (head_refuses 100 b no_d p rest e, tt)) h)

pub parity_names_refused : (size : ℕ) (r : TextRefusal) (a b c : List Placed) → Takes (mark 120 ∷ []) a b → Takes (mark 100 ∷ []) b c → RefusedIn ((some_ids ∷ []) ∷ []) size r c → RefusedIn proof_rows size r a
parity_names_refused size r a b c t d h = refused_then (mark 120 ∷ mark 100 ∷ []) proof_rows _ size r a c (takes_append (mark 120 ∷ []) (mark 100 ∷ []) a b c t d) after_x_d h

pub implied_clause_refused : (size : ℕ) (r : TextRefusal) (a b : List Placed) → Takes (mark 105 ∷ []) a b → is_head_letter 120 b ≡ false → RefusedIn (implied ∷ []) size r b → RefusedIn proof_rows size r a
implied_clause_refused size r a b t no_x h =
    refused_then (mark 105 ∷ []) proof_rows _ size r a b t after_i
    (refused_beside implied ((a_mark 120 ∷ hinted) ∷ []) size r b (λ p rest e. (head_refuses 120 b no_x p rest e, tt)) h)

pub implied_parity_refused : (size : ℕ) (r : TextRefusal) (a b c : List Placed) → Takes (mark 105 ∷ []) a b → Takes (mark 120 ∷ []) b c → RefusedIn (hinted ∷ []) size r c → RefusedIn proof_rows size r a
implied_parity_refused size r a b c t d h = refused_then (mark 105 ∷ mark 120 ∷ []) proof_rows _ size r a c (takes_append (mark 105 ∷ []) (mark 120 ∷ []) a b c t d) after_i_x h

-- ---- in the grammar

step_spells : (s : ProofStep) (a b : List Placed) → Takes (proof_fields s) a b → Spells proof_steps s a b
step_spells s a b t = reading.step_spells proof_steps proof_forms refl s a b t (stops s (words t.front) b (t.proper, t.spells))

whole : (s : ProofStep) (ws : List Word) → IsStep proof_steps ws s → ¬ MayGoOn (remaining proof_rows ws)
whole s ws step h = let w = reading.goes_on proof_steps proof_forms refl ws (remaining proof_rows ws) refl h in no_more s ws w.0 step w.1

-- what was taken of some words, or refused, is so in the grammar
pub taken_is_read : (size : ℕ) (r : Result ProofStep TextRefusal) (a b : List Placed) → a ≢ [] → TakesStep size a r b → ReadsStep proof_steps size a r b
taken_is_read size (Ok s) a b some t = step_spells s a b t
taken_is_read size (Err r) a b some h = reading.refused_tells proof_steps proof_forms refl whole size r a some h
