-- The steps of logs from their parts, and what was taken and refused in the grammar of logs.
use Rattle.std.proofs.Common.{◌≡◌, ◌≢◌, refl, ap, ◌∙◌, subst, ℕ, ◌<◌, ℤ, pos, false, List, [], ◌∷◌, ◌++◌, flat_map, Some, None, Result, Ok, Err}
use Rattle.std.specs.List.{AllByRecursion}
use Rattle.cx_base.specs.declared.steps.LogStep.{LogStep}
use Rattle.cx_base.specs.declared.steps.LogStep.TheVariants as log
use Rattle.cx_texts.specs.Words.{Word, number, letter, Placed, words}
use Rattle.cx_texts.specs.Grammar.{mark, id, integers, spelled_list, IsStep, Stops, Spells}
use Rattle.cx_texts.specs.LogText.{log_steps, log_fields}
use Rattle.cx_texts.proofs.Shapes.{Kind, a_mark, an_id, an_end, some_ids, some_integers, some_pairs}
use Rattle.cx_texts.proofs.Remaining.{after_word, remaining, remaining-push, begins_nowhere, both_passed, positive}
use Rattle.cx_texts.proofs.LogSteps.{log_rows, maybe_hinted, behind_step, behind_words}
use Rattle.cx_texts.proofs.Grammars.{log_forms}
use Rattle.step_text.specs.declared.source.TextRefusal.{TextRefusal}
use Rattle.step_text.specs.declared.source.TextRefusal.TheVariants.{BadToken, Unterminated}
use Rattle.step_text.specs.declared.ahead.SeenWord.{SeenWord}
use Rattle.step_text.specs.Heads.{seen_head, is_head_letter}
use Rattle.step_text.specs.Taking.{Takes, HeadFails, MayGoOn, RefusedIn}
use Rattle.step_text.specs.Reading.{ReadsStep}
use Rattle.step_text.proofs.TakingLaws.{takes_append, refused_then, head_refused, none_after}
use Rattle.step_text.proofs.Choices.{head_refuses, refused_beside}
use Rattle.step_text.proofs.ReadingLaws as reading
use Rattle.log_text.specs.declared.plain.Plain.{Plain}
use Rattle.log_text.specs.declared.plain.Plain.TheVariants as plain
use Rattle.log_text.specs.Taking.{letter_of, listed_rows, StandsAlone, TakesLogStep}
use Rattle.log_text.proofs.TwoLists.{both_refused}

abbrev named : List Kind
named = an_id ∷ some_integers ∷ []

abbrev hinted : List Kind
hinted = an_id ∷ some_integers ∷ a_mark 108 ∷ some_integers ∷ []

abbrev sourced : List Kind
sourced = an_id ∷ some_integers ∷ a_mark 108 ∷ some_ids ∷ []

abbrev implied : List Kind
implied = an_id ∷ some_integers ∷ a_mark 108 ∷ an_id ∷ an_end ∷ []

-- ---- what may follow the first words

after_plain : (p : Plain) → remaining log_rows (letter (letter_of p) ∷ []) ≡ listed_rows
unfolding log_forms
after_plain plain.Original = refl
after_plain plain.Delete = refl
after_plain plain.Final = refl

after_a : remaining log_rows (letter 97 ∷ []) ≡ named ∷ hinted ∷ (a_mark 120 ∷ sourced) ∷ []
unfolding log_forms
after_a = refl

after_i : remaining log_rows (letter 105 ∷ []) ≡ implied ∷ (a_mark 120 ∷ sourced) ∷ []
unfolding log_forms
after_i = refl

after_r : remaining log_rows (letter 114 ∷ []) ≡ (some_pairs ∷ []) ∷ (a_mark 120 ∷ some_pairs ∷ []) ∷ []
unfolding log_forms
after_r = refl

-- after an added clause's letter and id
abbrev listed : List (List Kind)
listed = (some_integers ∷ []) ∷ (some_integers ∷ a_mark 108 ∷ some_integers ∷ []) ∷ []

after_a_id : (n : ℕ) (ws : List Word) → 0 < n → remaining log_rows (letter 97 ∷ number (pos n) ∷ ws) ≡ remaining listed ws
after_a_id n ws h = ap (λ r. remaining r (number (pos n) ∷ ws)) after_a ∙ positive (λ m. remaining (named ∷ hinted ∷ (a_mark 120 ∷ sourced) ∷ []) (number (pos m) ∷ ws) ≡ remaining listed ws) n h (λ m. refl)

after_a_lits : (n : ℕ) (lits : List ℤ) (ws : List Word) → 0 < n → AllByRecursion (λ z. z ≢ pos 0) lits → remaining log_rows (letter 97 ∷ number (pos n) ∷ (spelled_list lits ++ ws)) ≡ remaining maybe_hinted ws
after_a_lits n lits ws h k = after_a_id n (spelled_list lits ++ ws) h ∙ both_passed lits [] (a_mark 108 ∷ some_integers ∷ []) ws k

-- ---- what is refused

pub plain_refused : (p : Plain) (size : ℕ) (r : TextRefusal) (a b : List Placed) → Takes (mark (letter_of p) ∷ []) a b → RefusedIn listed_rows size r b → RefusedIn log_rows size r a
plain_refused p size r a b t h = refused_then (mark (letter_of p) ∷ []) log_rows listed_rows size r a b t (after_plain p) h

pub listed_refused : (size : ℕ) (r : TextRefusal) (a : List Placed) → is_head_letter 120 a ≡ false → RefusedIn (named ∷ []) size r a → RefusedIn listed_rows size r a
listed_refused size r a no_x h = refused_beside named ((a_mark 120 ∷ named) ∷ []) size r a (λ p rest e. (head_refuses 120 a no_x p rest e, tt)) h

pub listed_parity_refused : (size : ℕ) (r : TextRefusal) (a b : List Placed) → Takes (mark 120 ∷ []) a b → RefusedIn (named ∷ []) size r b → RefusedIn listed_rows size r a
listed_parity_refused size r a b t h = refused_then (mark 120 ∷ []) listed_rows (named ∷ []) size r a b t refl h

pub added_parity_refused : (size : ℕ) (r : TextRefusal) (a b c : List Placed) → Takes (mark 97 ∷ []) a b → Takes (mark 120 ∷ []) b c → RefusedIn (sourced ∷ []) size r c → RefusedIn log_rows size r a
added_parity_refused size r a b c t x h =
    refused_then (mark 97 ∷ mark 120 ∷ []) log_rows (sourced ∷ []) size r a c (takes_append (mark 97 ∷ []) (mark 120 ∷ []) a b c t x) (ap (λ rs. remaining rs (letter 120 ∷ [])) after_a) h

pub added_id_refused : (size : ℕ) (r : TextRefusal) (a b : List Placed) → Takes (mark 97 ∷ []) a b → is_head_letter 120 b ≡ false → HeadFails an_id size r b → RefusedIn log_rows size r a
added_id_refused size r a b t no_x h =
    refused_then (mark 97 ∷ []) log_rows _ size r a b t after_a
    (head_refused an_id (some_integers ∷ []) (hinted ∷ (a_mark 120 ∷ sourced) ∷ []) size r b (λ p rest e no_id. (no_id, (head_refuses 120 b no_x p rest e, tt))) h)

pub added_literals_refused : (n size : ℕ) (r : TextRefusal) (a b : List Placed) → Takes (mark 97 ∷ id n ∷ []) a b → RefusedIn ((some_integers ∷ []) ∷ []) size r b → RefusedIn log_rows size r a
added_literals_refused n size r a b t h =
    refused_then (mark 97 ∷ id n ∷ []) log_rows listed size r a b t (after_a_id n [] t.proper.1.0) (both_refused [] (a_mark 108 ∷ some_integers ∷ []) size r b h)

pub added_hints_refused : (n : ℕ) (lits : List ℤ) (size : ℕ) (r : TextRefusal) (a b : List Placed) → Takes (mark 97 ∷ id n ∷ integers lits ∷ mark 108 ∷ []) a b → RefusedIn ((some_integers ∷ []) ∷ []) size r b → RefusedIn log_rows size r a
added_hints_refused n lits size r a b t h =
    refused_then (mark 97 ∷ id n ∷ integers lits ∷ mark 108 ∷ []) log_rows ((some_integers ∷ []) ∷ []) size r a b t (after_a_lits n lits (letter 108 ∷ []) t.proper.1.0 t.proper.1.1.0) h

pub implied_parity_refused : (size : ℕ) (r : TextRefusal) (a b c : List Placed) → Takes (mark 105 ∷ []) a b → Takes (mark 120 ∷ []) b c → RefusedIn (sourced ∷ []) size r c → RefusedIn log_rows size r a
implied_parity_refused size r a b c t x h =
    refused_then (mark 105 ∷ mark 120 ∷ []) log_rows (sourced ∷ []) size r a c (takes_append (mark 105 ∷ []) (mark 120 ∷ []) a b c t x) (ap (λ rs. remaining rs (letter 120 ∷ [])) after_i) h

pub implied_clause_refused : (size : ℕ) (r : TextRefusal) (a b : List Placed) → Takes (mark 105 ∷ []) a b → is_head_letter 120 b ≡ false → RefusedIn (implied ∷ []) size r b → RefusedIn log_rows size r a
implied_clause_refused size r a b t no_x h =
    refused_then (mark 105 ∷ []) log_rows _ size r a b t after_i
    (refused_beside implied ((a_mark 120 ∷ sourced) ∷ []) size r b (λ p rest e. (head_refuses 120 b no_x p rest e, tt)) h)

pub parity_moves_refused : (size : ℕ) (r : TextRefusal) (a b c : List Placed) → Takes (mark 114 ∷ []) a b → Takes (mark 120 ∷ []) b c → RefusedIn ((some_pairs ∷ []) ∷ []) size r c → RefusedIn log_rows size r a
parity_moves_refused size r a b c t x h =
    refused_then (mark 114 ∷ mark 120 ∷ []) log_rows ((some_pairs ∷ []) ∷ []) size r a c (takes_append (mark 114 ∷ []) (mark 120 ∷ []) a b c t x) (ap (λ rs. remaining rs (letter 120 ∷ [])) after_r) h

pub clause_moves_refused : (size : ℕ) (r : TextRefusal) (a b : List Placed) → Takes (mark 114 ∷ []) a b → is_head_letter 120 b ≡ false → RefusedIn ((some_pairs ∷ []) ∷ []) size r b → RefusedIn log_rows size r a
clause_moves_refused size r a b t no_x h =
    refused_then (mark 114 ∷ []) log_rows _ size r a b t after_r
    (refused_beside (some_pairs ∷ []) ((a_mark 120 ∷ some_pairs ∷ []) ∷ []) size r b (λ p rest e. (head_refuses 120 b no_x p rest e, tt)) h)

-- no letter that begins a step
pub no_start : (size : ℕ) (r : TextRefusal) (a : List Placed) → is_head_letter 111 a ≡ false → is_head_letter 97 a ≡ false → is_head_letter 105 a ≡ false → is_head_letter 100 a ≡ false → is_head_letter 102 a ≡ false → is_head_letter 114 a ≡ false
    → HeadFails (a_mark 111) size r a → RefusedIn log_rows size r a
unfolding log_forms
no_start size r a no_o no_a no_i no_d no_f no_r h = head_refused (a_mark 111) named _ size r a
    (λ p rest e o.
    let a_ = head_refuses 97 a no_a p rest e in
    let i = head_refuses 105 a no_i p rest e in
    let d = head_refuses 100 a no_d p rest e in
    let f = head_refuses 102 a no_f p rest e in
    let r_ = head_refuses 114 a no_r p rest e in
    (o, (a_, (a_, (a_, (i, (i, (d, (d, (f, (f, (r_, (r_, tt))))))))))))) h

pub other_letter : (c size : ℕ) (a : List Placed) (seen : SeenWord) → is_head_letter c a ≡ false → Some seen ≡ seen_head a → HeadFails (a_mark c) size (BadToken seen.place) a
other_letter c size [] seen h e = cc
other_letter c size (p ∷ a) seen h e = let at : seen.place ≡ p.place = cc in (p, a, refl, at, head_refuses c (p ∷ a) h p a refl)

pub no_letter : (c size : ℕ) (a : List Placed) → None ≡ seen_head a → HeadFails (a_mark c) size (Unterminated size) a
no_letter c size [] e = (refl, refl)
no_letter c size (p ∷ a) e = cc

-- ---- after a whole step

nothing_behind : (s : LogStep) (p : Placed) (rest : List Placed) → StandsAlone s (p ∷ rest) → flat_map (after_word p.word) (behind_step s) ≡ []
nothing_behind (log.Clause n lits) p rest h = none_after p.word ((a_mark 108 ∷ some_integers ∷ []) ∷ []) (head_refuses 108 (p ∷ rest) h p rest refl, tt)
nothing_behind _ p rest h = refl

stops : (s : LogStep) (ws : List Word) (rest : List Placed) → IsStep log_steps ws s → StandsAlone s rest → Stops log_steps ws rest
stops s ws [] h alone = tt
stops s ws (p ∷ rest) h alone =
    begins_nowhere log_steps log_forms (ws ++ p.word ∷ []) (remaining-push log_rows ws p.word ∙ ap (flat_map (after_word p.word)) (behind_words s ws h) ∙ nothing_behind s p rest alone)

not_open : (s : LogStep) → ¬ MayGoOn (behind_step s)
not_open (log.Clause n lits) h = h
not_open _ h = h

-- ---- in the grammar

step_spells : (s : LogStep) (a b : List Placed) → Takes (log_fields s) a b → StandsAlone s b → Spells log_steps s a b
step_spells s a b t alone = reading.step_spells log_steps log_forms refl s a b t (stops s (words t.front) b (t.proper, t.spells) alone)

whole : (s : LogStep) (ws : List Word) → IsStep log_steps ws s → ¬ MayGoOn (remaining log_rows ws)
whole s ws h open_ = not_open s (subst MayGoOn (behind_words s ws h) open_)

-- what was taken of some words, or refused, is so in the grammar
pub taken_is_read : (size : ℕ) (r : Result LogStep TextRefusal) (a b : List Placed) → a ≢ [] → TakesLogStep size a r b → ReadsStep log_steps size a r b
taken_is_read size (Ok s) a b some t = step_spells s a b t.0 t.1
taken_is_read size (Err r) a b some h = reading.refused_tells log_steps log_forms refl whole size r a some h
