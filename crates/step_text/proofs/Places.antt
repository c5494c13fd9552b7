-- The places of a text's tokens rise and stay below its length.
use Rattle.std.proofs.Common.{◌≡◌, refl, sym, ap, ◌∙◌, subst, ℕ, ◌+◌, ◌<◌, ◌≤◌, Bool, true, false, cond, not, List, [], ◌∷◌, ◌++◌, length, filter, flat_map, filter_map, ◌==◌, Option, None, arith}
use Rattle.std.specs.List.{slice_split, onto_first, enumerate_from}
use Rattle.std.proofs.lemmas.List.{map-append}
use Rattle.cx_texts.specs.Tokens.{Token, is_blank, is_comment, lines_from, token_of, tokens_of_line, tokens}
use Rattle.cx_texts.specs.Words.{Placed, words, placed_words}
use Rattle.cx_texts.specs.Grammar.{Grammar, IsStep, Spells}
use Rattle.cx_texts.proofs.Forms.{Forms}
use Rattle.cx_texts.proofs.Readings.{no_step_of_nothing}
use Rattle.step_text.specs.Heads.{head_place}
use Rattle.step_text.specs.Texts.{RisesTo, IsInOrder}
use Rattle.step_text.specs.declared.source.TextRefusal.{TextRefusal}

-- ---- words

rises_le : (size place : ℕ) (ps : List Placed) → RisesTo size place ps → place ≤ size
rises_le size place [] h = h
rises_le size place (p ∷ ps) h = let k = rises_le size (p.place + 1) ps h.1 in let l = h.0 in omega arith

lower : (size high low : ℕ) (ps : List Placed) → low ≤ high → RisesTo size high ps → RisesTo size low ps
lower size high low [] l h = omega arith
lower size high low (p ∷ ps) l h = (let k = h.0 in omega arith, h.1)

rises_behind : (size place : ℕ) (front rest : List Placed) → RisesTo size place (front ++ rest) → RisesTo size place rest
rises_behind size place [] rest h = h
rises_behind size place (p ∷ front) rest h = lower size (p.place + 1) place rest (let k = h.0 in omega arith) (rises_behind size (p.place + 1) front rest h.1)

rises_append : (from mid to : ℕ) (a b : List Placed) → RisesTo mid from a → RisesTo to mid b → RisesTo to from (a ++ b)
rises_append from mid to [] b h k = lower to mid from b h k
rises_append from mid to (p ∷ a) b h k = (h.0, rises_append (p.place + 1) mid to a b h.1 k)

-- ---- lines and the pieces between blanks

abbrev Line : Type 0
Line = List (ℕ × ℕ)

abbrev RisesIn : ℕ → ℕ → Line → Type 0
RisesIn from to [] = from ≤ to
RisesIn from to (b ∷ line) = (from ≤ b.0) × RisesIn (b.0 + 1) to line

-- pieces one after another
abbrev PiecesIn : ℕ → ℕ → List Line → Type 0
PiecesIn from to [] = from ≤ to
PiecesIn from to (piece ∷ pieces) = (mid : ℕ) × RisesIn from mid piece × PiecesIn mid to pieces

in_le : (from to : ℕ) (line : Line) → RisesIn from to line → from ≤ to
in_le from to [] h = h
in_le from to (b ∷ line) h = let k = in_le (b.0 + 1) to line h.1 in let l = h.0 in omega arith

lower_in : (high low to : ℕ) (line : Line) → low ≤ high → RisesIn high to line → RisesIn low to line
lower_in high low to [] l h = omega arith
lower_in high low to (b ∷ line) l h = (let k = h.0 in omega arith, h.1)

lower_pieces : (high low to : ℕ) (pieces : List Line) → low ≤ high → PiecesIn high to pieces → PiecesIn low to pieces
lower_pieces high low to [] l h = omega arith
lower_pieces high low to (piece ∷ pieces) l (mid, h, k) = (mid, lower_in high low mid piece l h, k)

onto : (x : ℕ × ℕ) (from to : ℕ) (pieces : List Line) → from ≤ x.0 → PiecesIn (x.0 + 1) to pieces → PiecesIn from to (onto_first x pieces)
onto x from to [] l h = (to, (l, h), omega arith)
onto x from to (piece ∷ pieces) l (mid, h, k) = (mid, (l, h), k)

cut : (x : ℕ × ℕ) (from to : ℕ) (pieces : List Line) (b : Bool) → from ≤ x.0 → PiecesIn (x.0 + 1) to pieces → PiecesIn from to (cond b ([] ∷ pieces) (onto_first x pieces))
cut x from to pieces true l h = (x.0 + 1, omega arith, h)
cut x from to pieces false l h = onto x from to pieces l h

pieces_in : (p : ℕ × ℕ → Bool) (from to : ℕ) (line : Line) → RisesIn from to line → PiecesIn from to (slice_split p line)
pieces_in p from to [] h = (to, h, omega arith)
pieces_in p from to (x ∷ line) h = cut x from to (slice_split p line) (p x) h.0 (pieces_in p (x.0 + 1) to line h.1)

kept_or_not : (from to mid : ℕ) (piece : Line) (pieces : List Line) (b : Bool) → RisesIn from mid piece → PiecesIn mid to pieces → PiecesIn from to (cond b (piece ∷ pieces) pieces)
kept_or_not from to mid piece pieces true h k = (mid, h, k)
kept_or_not from to mid piece pieces false h k = lower_pieces mid from to pieces (in_le from mid piece h) k

kept_in : (p : Line → Bool) (from to : ℕ) (pieces : List Line) → PiecesIn from to pieces → PiecesIn from to (filter p pieces)
kept_in p from to [] h = h
kept_in p from to (piece ∷ pieces) (mid, h, k) = kept_or_not from to mid piece (filter p pieces) (p piece) h (kept_in p mid to pieces k)

-- ---- tokens

pieces_rise : (from to : ℕ) (pieces : List Line) → PiecesIn from to pieces → RisesTo to from (placed_words (filter_map token_of pieces))
pieces_rise from to [] h = h
pieces_rise from to ([] ∷ pieces) (mid, h, k) = lower to mid from (placed_words (filter_map token_of pieces)) h (pieces_rise mid to pieces k)
pieces_rise from to ((b ∷ run) ∷ pieces) (mid, h, k) =
    (h.0, lower to mid (b.0 + 1) (placed_words (filter_map token_of pieces)) (in_le (b.0 + 1) mid run h.1) (pieces_rise mid to pieces k))

lines_rise : (from to : ℕ) (lines : List Line) → PiecesIn from to lines → RisesTo to from (placed_words (flat_map tokens_of_line lines))
lines_rise from to [] h = h
lines_rise from to (line ∷ lines) (mid, h, k) =
    let here = pieces_rise from mid (slice_split (λ b. is_blank b.1) line) (pieces_in (λ b. is_blank b.1) from mid line h) in
    subst (RisesTo to from) (sym (map-append _ (tokens_of_line line) (flat_map tokens_of_line lines)))
    (rises_append from mid to (placed_words (tokens_of_line line)) (placed_words (flat_map tokens_of_line lines)) here (lines_rise mid to lines k))

bytes_in : (n : ℕ) (text : List ℕ) → RisesIn n (n + length text) (enumerate_from n text)
bytes_in n [] = omega arith
bytes_in n (b ∷ text) = (omega arith, let e : (n + 1) + length text ≡ n + length (b ∷ text) = omega arith in subst (λ to. RisesIn (n + 1) to (enumerate_from (n + 1) text)) e (bytes_in (n + 1) text))

pub tokens_rise : (text : List ℕ) → RisesTo (length text) 0 (placed_words (tokens text))
unfolding tokens
tokens_rise text =
    let e : 0 + length text ≡ length text = omega arith in
    let lines = pieces_in (λ b. b.1 == 10) 0 (length text) (enumerate_from 0 text) (subst (λ to. RisesIn 0 to (enumerate_from 0 text)) e (bytes_in 0 text)) in
    lines_rise 0 (length text) (filter (λ line. not (is_comment line)) (lines_from 0 text)) (kept_in (λ line. not (is_comment line)) 0 (length text) (lines_from 0 text) lines)

-- ---- a step raises the place

head_rises : (size place : ℕ) (tokens : List Token) → place < size → RisesTo size (place + 1) (placed_words tokens) → (place < head_place size tokens) × RisesTo size (head_place size tokens) (placed_words tokens)
head_rises size place [] l h = (l, omega arith)
head_rises size place (t ∷ tokens) l h = (let k = h.0 in omega arith, (omega arith, h.1))

module _ {S : Type 0} (g : Grammar S) (all : Forms g) (size : ℕ) where
  step_rises : (place : ℕ) (s : S) (old : List Placed) (new : List Token) → RisesTo size place old → Spells g s old (placed_words new)
      → (place < head_place size new) × RisesTo size (head_place size new) (placed_words new)
  step_rises place s old new h sp = go sp.front refl
    where
      go : (front : List Placed) → sp.front ≡ front → (place < head_place size new) × RisesTo size (head_place size new) (placed_words new)
      go [] e = absurd (no_step_of_nothing g all s (subst (λ f. IsStep g (words f) s) e sp.step))
      go (p ∷ front) e =
          let r : RisesTo size place (p ∷ (front ++ placed_words new)) = subst (RisesTo size place) (sp.split ∙ ap (λ f. f ++ placed_words new) e) h in
          let behind = rises_behind size (p.place + 1) front (placed_words new) r.1 in
          let low : place ≤ p.place = r.0 in
          let top = rises_le size (p.place + 1) (placed_words new) behind in
          head_rises size place new (omega arith) (lower size (p.place + 1) (place + 1) (placed_words new) (omega arith) behind)

  -- a step of a source that has refused nothing
  pub step_in_order : (place at : ℕ) (s : S) (old new : List Token) (refused : Option TextRefusal) → refused ≡ None → IsInOrder old size place refused
      → Spells g s (placed_words old) (placed_words new) → at ≡ head_place size new → (place < at) × (at ≤ size) × IsInOrder new size at refused
  step_in_order place at s old new refused none h sp e =
      let r = step_rises place s (placed_words old) new (subst (IsInOrder old size place) none h) sp in
      let low : place < at = subst (λ n. place < n) (sym e) r.0 in
      let order : IsInOrder new size at None = subst (λ n. RisesTo size n (placed_words new)) (sym e) r.1 in
      (low, rises_le size at (placed_words new) order, subst (IsInOrder new size at) (sym none) order)
