-- What may follow words that begin a step: the state of a reader that takes one word at a time.
use Rattle.std.proofs.Common.{◌≡◌, ◌≢◌, refl, sym, ap, ◌∙◌, ℕ, zero, suc, ◌<◌, ℤ, pos, negsuc, Bool, true, false, cond, eq-eqb, not, ◌&&◌, ◌||◌, List, [], ◌∷◌, ◌++◌, map, flat_map, arith}
use Rattle.std.specs.List.{list_any, AllByRecursion}
use Rattle.cx_base.specs.declared.id_moves.IdMove.{IdMove}
use Rattle.std.proofs.lemmas.Grind.{flat_map-append}
use Rattle.cx_texts.specs.Words.{Word, number}
use Rattle.cx_texts.specs.Grammar.{Field, mark, conflict_line, id, integer, end, ids, integers, pairs, both_ids, spelled, spelled_list, IsProper, Grammar, Begins}
use Rattle.cx_texts.proofs.Shapes.{Kind, a_mark, an_id, some_ids, some_integers, some_pairs, kind, Move, closes, stays, opens, refuses, move, onward, parse, is_bad, is_bad-with_field, is_bad-push, is_bad-pair}
use Rattle.cx_texts.proofs.Forms.{Form, Forms}
use Rattle.cx_texts.proofs.Evaluate.{no_begin, yes_begin}

-- the kinds that may follow a word
abbrev pub behind : Kind → List Kind → Move → List (List Kind)
behind k ks (closes f) = ks ∷ []
behind k ks (stays z) = (k ∷ ks) ∷ []
behind k ks (opens n) = (an_id ∷ k ∷ ks) ∷ []
behind k ks refuses = []

abbrev pub after_word : Word → List Kind → List (List Kind)
after_word w [] = []
after_word w (k ∷ ks) = behind k ks (move k w)

-- the lists of kinds that may follow these words, of the lists that a step may be
abbrev pub remaining : List (List Kind) → List Word → List (List Kind)
remaining rows [] = rows
remaining rows (w ∷ ws) = remaining (flat_map (after_word w) rows) ws

pub remaining-push : (rows : List (List Kind)) (ws : List Word) (w : Word) → remaining rows (ws ++ w ∷ []) ≡ flat_map (after_word w) (remaining rows ws)
remaining-push rows [] w = refl
remaining-push rows (x ∷ ws) w = remaining-push (flat_map (after_word x) rows) ws w

pub remaining-more : (rows : List (List Kind)) (us ws : List Word) → remaining rows (us ++ ws) ≡ remaining (remaining rows us) ws
remaining-more rows [] ws = refl
remaining-more rows (u ∷ us) ws = remaining-more (flat_map (after_word u) rows) us ws

remaining-append : (a b : List (List Kind)) (ws : List Word) → remaining (a ++ b) ws ≡ remaining a ws ++ remaining b ws
remaining-append a b [] = refl
remaining-append a b (w ∷ ws) = ap (λ r. remaining r ws) (flat_map-append (after_word w) a b) ∙ remaining-append (flat_map (after_word w) a) (flat_map (after_word w) b) ws

remaining-none : (ws : List Word) → remaining [] ws ≡ []
remaining-none [] = refl
remaining-none (w ∷ ws) = remaining-none ws

abbrev pub is_none : List (List Kind) → Bool
is_none [] = true
is_none (r ∷ rs) = false

is_none-append : (a b : List (List Kind)) → is_none (a ++ b) ≡ (is_none a && is_none b)
is_none-append [] b = refl
is_none-append (r ∷ a) b = refl

one_moved : (k : Kind) (ks : List Kind) (ws : List Word) → is_none (remaining (ks ∷ []) ws) ≡ is_bad (parse ks ws) → is_none (remaining ((k ∷ ks) ∷ []) ws) ≡ is_bad (parse (k ∷ ks) ws) → is_none (remaining ((an_id ∷ k ∷ ks) ∷ []) ws) ≡ is_bad (parse (an_id ∷ k ∷ ks) ws)
    → (m : Move) → is_none (remaining (behind k ks m ++ []) ws) ≡ is_bad (onward (parse ks ws) (parse (k ∷ ks) ws) (parse (an_id ∷ k ∷ ks) ws) m)
one_moved k ks ws here stay next (closes f) = here ∙ sym (is_bad-with_field f _)
one_moved k ks ws here stay next (stays z) = stay ∙ sym (is_bad-push z _)
one_moved k ks ws here stay next (opens n) = next ∙ sym (is_bad-pair n _)
one_moved k ks ws here stay next refuses = ap is_none (remaining-none ws)

one_row : (ks : List Kind) (ws : List Word) → is_none (remaining (ks ∷ []) ws) ≡ is_bad (parse ks ws)
one_row [] [] = refl
one_row (k ∷ ks) [] = refl
one_row [] (w ∷ ws) = ap is_none (remaining-none ws)
one_row (k ∷ ks) (w ∷ ws) = one_moved k ks ws (one_row ks ws) (one_row (k ∷ ks) ws) (one_row (an_id ∷ k ∷ ks) ws) (move k w)

not_and : (a b : Bool) → not (a && b) ≡ (not a || not b)
not_and true b = refl
not_and false b = refl

module _ {S : Type 0} (g : Grammar S) where
  abbrev pub rows_of : List (Form g) → List (List Kind)
  rows_of forms = map (λ f. f.kinds) forms

  some_row : (forms : List (Form g)) (ws : List Word) → not (is_none (remaining (rows_of forms) ws)) ≡ list_any (λ f. not (is_bad (parse f.kinds ws))) forms
  some_row [] ws = ap (λ r. not (is_none r)) (remaining-none ws)
  some_row (f ∷ fs) ws =
      ap (λ r. not (is_none r)) (remaining-append (f.kinds ∷ []) (rows_of fs) ws)
      ∙ ap not (is_none-append (remaining (f.kinds ∷ []) ws) (remaining (rows_of fs) ws))
      ∙ not_and (is_none (remaining (f.kinds ∷ []) ws)) (is_none (remaining (rows_of fs) ws))
      ∙ (λ i. not (one_row f.kinds ws i) || some_row fs ws i)

  -- words begin a step exactly where something may follow, be it nothing more
  pub begins_where : (all : Forms g) (ws : List Word) (ks : List Kind) (more : List (List Kind)) → remaining (rows_of all.forms) ws ≡ ks ∷ more → Begins g ws
  begins_where all ws ks more e = yes_begin g all ws (sym (some_row all.forms ws) ∙ ap (λ r. not (is_none r)) e)

  pub begins_nowhere : (all : Forms g) (ws : List Word) → remaining (rows_of all.forms) ws ≡ [] → ¬ Begins g ws
  begins_nowhere all ws e = no_begin g all ws (sym (some_row all.forms ws) ∙ ap (λ r. not (is_none r)) e)

-- ---- after fields

-- a pair leaves its list open
pair_passed : (a b : ℕ) (ks : List Kind) (ws : List Word) → 0 < a → 0 < b → remaining ((some_pairs ∷ ks) ∷ []) (number (pos a) ∷ number (pos b) ∷ ws) ≡ remaining ((some_pairs ∷ ks) ∷ []) ws
pair_passed zero b ks ws p q = absurd (omega arith)
pair_passed (suc a) zero ks ws p q = absurd (omega arith)
pair_passed (suc a) (suc b) ks ws p q = refl

pairs_passed : (ms : List IdMove) (ks : List Kind) (ws : List Word) → AllByRecursion (λ m. (0 < m.from) × (0 < m.to)) ms → remaining ((some_pairs ∷ ks) ∷ []) (spelled_list (flat_map both_ids ms) ++ ws) ≡ remaining (ks ∷ []) ws
pairs_passed [] ks ws h = refl
pairs_passed (m ∷ ms) ks ws h = pair_passed m.from m.to ks (spelled_list (flat_map both_ids ms) ++ ws) h.0.0 h.0.1 ∙ pairs_passed ms ks ws h.1

passed : (f : Field) (ks : List Kind) (ws : List Word) → IsProper f → remaining ((kind f ∷ ks) ∷ []) (spelled f ++ ws) ≡ remaining (ks ∷ []) ws
passed (mark c) ks ws h = ap (λ b. remaining (behind (a_mark c) ks (cond b (closes (mark c)) refuses) ++ []) ws) (eq-eqb c c refl)
passed (conflict_line k) ks ws h = refl
passed (id zero) ks ws h = let k : 0 < 0 = h in absurd (omega arith)
passed (id (suc n)) ks ws h = refl
passed (integer (pos zero)) ks ws h = absurd (h refl)
passed (integer (pos (suc n))) ks ws h = refl
passed (integer (negsuc n)) ks ws h = refl
passed end ks ws h = refl
passed (ids []) ks ws h = refl
passed (ids (zero ∷ ns)) ks ws h = let k : 0 < 0 = h.0 in absurd (omega arith)
passed (ids (suc n ∷ ns)) ks ws h = passed (ids ns) ks ws h.1
passed (integers []) ks ws h = refl
passed (integers (pos zero ∷ zs)) ks ws h = absurd (h.0 refl)
passed (integers (pos (suc n) ∷ zs)) ks ws h = passed (integers zs) ks ws h.1
passed (integers (negsuc n ∷ zs)) ks ws h = passed (integers zs) ks ws h.1
passed (pairs ms) ks ws h = pairs_passed ms ks ws h

-- after the fields' spelling the kinds after theirs may follow
pub all_passed : (fs : List Field) (ks : List Kind) → AllByRecursion IsProper fs → remaining ((map kind fs ++ ks) ∷ []) (flat_map spelled fs) ≡ ks ∷ []
all_passed [] ks h = refl
all_passed (f ∷ fs) ks h = passed f (map kind fs ++ ks) (flat_map spelled fs) h.0 ∙ all_passed fs ks h.1

-- the members of a list leave it open
pub ids_stay : (ns : List ℕ) (ks : List Kind) → AllByRecursion (λ n. 0 < n) ns → remaining ((some_ids ∷ ks) ∷ []) (map number (map pos ns)) ≡ (some_ids ∷ ks) ∷ []
ids_stay [] ks h = refl
ids_stay (zero ∷ ns) ks h = let k : 0 < 0 = h.0 in absurd (omega arith)
ids_stay (suc n ∷ ns) ks h = ids_stay ns ks h.1

pub integers_stay : (zs : List ℤ) (ks : List Kind) → AllByRecursion (λ z. z ≢ pos 0) zs → remaining ((some_integers ∷ ks) ∷ []) (map number zs) ≡ (some_integers ∷ ks) ∷ []
integers_stay [] ks h = refl
integers_stay (pos zero ∷ zs) ks h = absurd (h.0 refl)
integers_stay (pos (suc n) ∷ zs) ks h = integers_stay zs ks h.1
integers_stay (negsuc n ∷ zs) ks h = integers_stay zs ks h.1

-- pairs leave it open
pub pairs_stay : (ms : List IdMove) (ks : List Kind) → AllByRecursion (λ m. (0 < m.from) × (0 < m.to)) ms → remaining ((some_pairs ∷ ks) ∷ []) (map number (flat_map both_ids ms)) ≡ (some_pairs ∷ ks) ∷ []
pairs_stay [] ks h = refl
pairs_stay (m ∷ ms) ks h = pair_passed m.from m.to ks (map number (flat_map both_ids ms)) h.0.0 h.0.1 ∙ pairs_stay ms ks h.1

-- one list of integers where two lists of kinds begin with one
pub both_passed : (zs : List ℤ) (js ks : List Kind) (ws : List Word) → AllByRecursion (λ z. z ≢ pos 0) zs
    → remaining ((some_integers ∷ js) ∷ (some_integers ∷ ks) ∷ []) (spelled_list zs ++ ws) ≡ remaining (js ∷ ks ∷ []) ws
both_passed [] js ks ws h = refl
both_passed (pos zero ∷ zs) js ks ws h = absurd (h.0 refl)
both_passed (pos (suc n) ∷ zs) js ks ws h = both_passed zs js ks ws h.1
both_passed (negsuc n ∷ zs) js ks ws h = both_passed zs js ks ws h.1

-- an id is a successor
pub positive : (P : ℕ → Type 0) (n : ℕ) → 0 < n → ((m : ℕ) → P (suc m)) → P n
positive P zero h f = absurd (omega arith)
positive P (suc n) h f = f n
