-- Steps of a log: the letters that begin them, and what may follow a whole one.
use Rattle.std.proofs.Common.{◌≡◌, ◌≢◌, ℕ, zero, suc, ◌<◌, pos, refl, sym, ap, ◌∙◌, subst, List, [], ◌∷◌, ◌++◌, flat_map, ◌⊎◌, inl, inr, append-nil, arith}
use Rattle.std.specs.List.{AllByRecursion}
use Rattle.cx_base.specs.declared.id_moves.IdMove.{IdMove}
use Rattle.cx_base.specs.declared.lists.IntList.{IntList}
use Rattle.cx_base.specs.declared.steps.LogStep.{LogStep}
use Rattle.cx_base.specs.declared.steps.LogStep.TheVariants as log
use Rattle.cx_texts.specs.Words.{Word, number, letter, Placed, words}
use Rattle.cx_texts.specs.Grammar.{mark, id, end, ids, integers, pairs, both_ids, spelled, spelled_list, IsProper, spelling, IsStep, IsClosed, Begins}
use Rattle.cx_texts.specs.LogText.{log_steps, log_fields}
use Rattle.cx_texts.proofs.Shapes.{Kind, a_mark, some_integers, some_pairs}
use Rattle.cx_texts.proofs.Remaining.{remaining, remaining-push, after_word, rows_of, begins_nowhere, all_passed, both_passed, positive}
use Rattle.cx_texts.proofs.Grammars.{log_forms}

-- ---- the first letter

abbrev pub IsFirst : Word → Type 0
IsFirst w = (w ≡ letter 111) ⊎ ((w ≡ letter 97) ⊎ ((w ≡ letter 105) ⊎ ((w ≡ letter 100) ⊎ ((w ≡ letter 102) ⊎ (w ≡ letter 114)))))

pub first_of : (s : LogStep) (rest : List Word) → (c : Word) × (more : List Word) × IsFirst c × (flat_map spelled (log_fields s) ++ rest ≡ c ∷ more)
first_of (log.Original n lits) rest = (_, _, inl refl, refl)
first_of (log.OriginalParity n lits) rest = (_, _, inl refl, refl)
first_of (log.Clause n lits) rest = (_, _, inr (inl refl), refl)
first_of (log.ClauseWithHints n lits hints) rest = (_, _, inr (inl refl), refl)
first_of (log.Parity n lits sources) rest = (_, _, inr (inl refl), refl)
first_of (log.ClauseOfParity n lits source) rest = (_, _, inr (inr (inl refl)), refl)
first_of (log.ParityOfClauses n lits sources) rest = (_, _, inr (inr (inl refl)), refl)
first_of (log.Delete n lits) rest = (_, _, inr (inr (inr (inl refl))), refl)
first_of (log.DeleteParity n lits) rest = (_, _, inr (inr (inr (inl refl))), refl)
first_of (log.Final n lits) rest = (_, _, inr (inr (inr (inr (inl refl)))), refl)
first_of (log.FinalParity n lits) rest = (_, _, inr (inr (inr (inr (inl refl)))), refl)
first_of (log.MoveClauses ms) rest = (_, _, inr (inr (inr (inr (inr refl)))), refl)
first_of (log.MoveParities ms) rest = (_, _, inr (inr (inr (inr (inr refl)))), refl)

-- words that begin with a step's spelling begin with such a letter
pub first_word : (s : LogStep) (placed front more : List Placed) (p : Placed) (rest : List Placed) → IsStep log_steps (words front) s → placed ≡ front ++ more → placed ≡ p ∷ rest → IsFirst p.word
first_word s placed [] more p rest h split e =
    let o = first_of s [] in
    let k : ◌≡◌ {A = List Word} [] (o.0 ∷ o.1) = sym h.1 ∙ sym (append-nil (flat_map spelled (log_fields s))) ∙ o.3 in cc
first_word s placed (q ∷ front) more p rest h split e =
    let o = first_of s [] in
    let k : q.word ∷ words front ≡ o.0 ∷ o.1 = sym h.1 ∙ sym (append-nil (flat_map spelled (log_fields s))) ∙ o.3 in
    let w : q.word ≡ o.0 = cc (k) in
    let m : p ∷ rest ≡ q ∷ (front ++ more) = sym e ∙ split in
    let n : p ≡ q = cc (m) in
    subst IsFirst (sym (ap (λ x. x.word) n ∙ w)) o.2

-- ---- after a whole step

abbrev pub log_rows : List (List Kind)
log_rows = rows_of log_steps log_forms.forms

-- after an added clause hints may follow
abbrev pub maybe_hinted : List (List Kind)
maybe_hinted = [] ∷ (a_mark 108 ∷ some_integers ∷ []) ∷ []

abbrev pub behind_step : LogStep → List (List Kind)
behind_step (log.Clause n lits) = maybe_hinted
behind_step _ = [] ∷ []

abbrev IsOver : LogStep → Type 0
IsOver s = remaining log_rows (spelling log_steps s) ≡ behind_step s

-- after the letter of moves the pairs may follow, or the letter of parities
moves_over : (ms : List IdMove) → AllByRecursion (λ m. (0 < m.from) × (0 < m.to)) ms → remaining ((some_pairs ∷ []) ∷ (a_mark 120 ∷ some_pairs ∷ []) ∷ []) (spelled_list (flat_map both_ids ms) ++ []) ≡ [] ∷ []
moves_over [] h = refl
moves_over (m ∷ ms) h = one_pair m.from m.to h.0.0 h.0.1
  where
    one_pair : (a b : ℕ) → 0 < a → 0 < b → remaining ((some_pairs ∷ []) ∷ (a_mark 120 ∷ some_pairs ∷ []) ∷ []) (number (pos a) ∷ number (pos b) ∷ (spelled_list (flat_map both_ids ms) ++ [])) ≡ [] ∷ []
    one_pair zero b p q = absurd (omega arith)
    one_pair (suc a) zero p q = absurd (omega arith)
    one_pair (suc a) (suc b) p q = all_passed (pairs ms ∷ []) [] (h.1, tt)

over : (s : LogStep) → AllByRecursion IsProper (log_fields s) → IsOver s
unfolding log_forms
over (log.Original n lits) h = positive (λ m. IsOver (log.Original m lits)) n h.1.0 (λ m. all_passed (integers lits ∷ []) [] h.1.1)
over (log.OriginalParity n lits) h = positive (λ m. IsOver (log.OriginalParity m lits)) n h.1.1.0 (λ m. all_passed (integers lits ∷ []) [] h.1.1.1)
over (log.Clause n lits) h = positive (λ m. IsOver (log.Clause m lits)) n h.1.0 (λ m. both_passed lits [] (a_mark 108 ∷ some_integers ∷ []) [] h.1.1.0)
over (log.ClauseWithHints n lits hints) h = positive (λ m. IsOver (log.ClauseWithHints m lits hints)) n h.1.0
    (λ m. both_passed lits [] (a_mark 108 ∷ some_integers ∷ []) (letter 108 ∷ spelled_list hints ++ []) h.1.1.0 ∙ all_passed (integers hints ∷ []) [] h.1.1.1.1)
over (log.Parity n lits sources) h = positive (λ m. IsOver (log.Parity m lits sources)) n h.1.1.0 (λ m. all_passed (integers lits ∷ mark 108 ∷ ids sources ∷ []) [] h.1.1.1)
over (log.ClauseOfParity n lits source) h = positive (λ m. IsOver (log.ClauseOfParity m lits source)) n h.1.0 (λ m. all_passed (integers lits ∷ mark 108 ∷ id source ∷ end ∷ []) [] h.1.1)
over (log.ParityOfClauses n lits sources) h = positive (λ m. IsOver (log.ParityOfClauses m lits sources)) n h.1.1.0 (λ m. all_passed (integers lits ∷ mark 108 ∷ ids sources ∷ []) [] h.1.1.1)
over (log.Delete n lits) h = positive (λ m. IsOver (log.Delete m lits)) n h.1.0 (λ m. all_passed (integers lits ∷ []) [] h.1.1)
over (log.DeleteParity n lits) h = positive (λ m. IsOver (log.DeleteParity m lits)) n h.1.1.0 (λ m. all_passed (integers lits ∷ []) [] h.1.1.1)
over (log.Final n lits) h = positive (λ m. IsOver (log.Final m lits)) n h.1.0 (λ m. all_passed (integers lits ∷ []) [] h.1.1)
over (log.FinalParity n lits) h = positive (λ m. IsOver (log.FinalParity m lits)) n h.1.1.0 (λ m. all_passed (integers lits ∷ []) [] h.1.1.1)
over (log.MoveClauses ms) h = moves_over ms h.1.0
over (log.MoveParities ms) h = all_passed (pairs ms ∷ []) [] h.1.1

pub behind_words : (s : LogStep) (ws : List Word) → IsStep log_steps ws s → remaining log_rows ws ≡ behind_step s
behind_words s ws h = subst (λ x. remaining log_rows x ≡ behind_step s) h.1 (over s h.0)

no_hints : (w : Word) → IsFirst w → flat_map (after_word w) maybe_hinted ≡ []
no_hints w (inl e) = ap (λ x. flat_map (after_word x) maybe_hinted) e
no_hints w (inr (inl e)) = ap (λ x. flat_map (after_word x) maybe_hinted) e
no_hints w (inr (inr (inl e))) = ap (λ x. flat_map (after_word x) maybe_hinted) e
no_hints w (inr (inr (inr (inl e)))) = ap (λ x. flat_map (after_word x) maybe_hinted) e
no_hints w (inr (inr (inr (inr (inl e))))) = ap (λ x. flat_map (after_word x) maybe_hinted) e
no_hints w (inr (inr (inr (inr (inr e))))) = ap (λ x. flat_map (after_word x) maybe_hinted) e

nothing_behind : (s : LogStep) (w : Word) → IsFirst w → flat_map (after_word w) (behind_step s) ≡ []
nothing_behind (log.Clause n lits) w h = no_hints w h
nothing_behind _ w h = refl

-- no word that begins a step goes on with one
pub no_more : (s : LogStep) (ws : List Word) (w : Word) → IsStep log_steps ws s → IsFirst w → ¬ Begins log_steps (ws ++ w ∷ [])
no_more s ws w h first = begins_nowhere log_steps log_forms (ws ++ w ∷ [])
    (remaining-push log_rows ws w ∙ ap (flat_map (after_word w)) (behind_words s ws h) ∙ nothing_behind s w first)

nothing_but_behind_clause : (s : LogStep) → ((n : ℕ) (lits : IntList) → s ≢ log.Clause n lits) → behind_step s ≡ [] ∷ []
nothing_but_behind_clause (log.Clause n lits) other = absurd (other n lits refl)
nothing_but_behind_clause _ other = refl

-- no word goes on with a step but with an added clause
pub closed : (s : LogStep) → ((n : ℕ) (lits : IntList) → s ≢ log.Clause n lits) → IsClosed log_steps s
closed s other ws w h = begins_nowhere log_steps log_forms (ws ++ w ∷ [])
    (remaining-push log_rows ws w ∙ ap (flat_map (after_word w)) (behind_words s ws h ∙ nothing_but_behind_clause s other))
