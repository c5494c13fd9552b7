-- One word that was taken.
use Rattle.std.proofs.Common.{◌≡◌, ◌≢◌, refl, sym, ap, ◌∙◌, subst, ℕ, zero, suc, ◌≤◌, ◌<◌, ℤ, pos, negsuc, nat_abs, ◌≤ℤ◌, Bool, true, false, cond, nat_le, leb-true, List, [], ◌∷◌, ◌++◌, drop, flat_map, append-nil, Option, Some, to_z, of_z, w64, arith}
use Rattle.std.specs.List.{AllByRecursion}
use Rattle.std.proofs.lemmas.Int.{to_z-of_z, ints}
use mir.Val.{SFits}
use Rattle.cx_texts.specs.Tokens.{Token}
use Rattle.cx_texts.specs.Words.{Word, number, letter, conflict, other, Placed, words, placed_words, word_of, IsWithin}
use Rattle.cx_texts.specs.Grammar.{Field, id, integer, end, integers, spelled, spelled_list, IsProper}
use Rattle.step_text.specs.declared.ahead.SeenWord.{SeenWord}
use Rattle.step_text.specs.declared.token_word.TokenWord.{TokenWord}
use Rattle.step_text.specs.declared.token_word.TokenWord.TheVariants.{Zero, Positive, Negative, BigPositive, BigNegative}
use Rattle.step_text.specs.Seen.{limit, seen}
use Rattle.step_text.specs.Heads.{seen_head}
use Rattle.step_text.specs.Short.{TakesNumber}
use Rattle.step_text.specs.Taking.{AreSmall, Takes}

-- the words that are seen as a word are spelled by the field
abbrev pub Fills : TokenWord → Field → Type 0
Fills w f = (v : Word) → seen v ≡ w → IsProper f × (spelled f ≡ v ∷ []) × IsWithin limit v

pub taken : (tokens new : List Token) (o : Option SeenWord) (s : SeenWord) (w : TokenWord) (f : Field)
    → o ≡ Some s → o ≡ seen_head (placed_words tokens) → s.word ≡ w → new ≡ drop 1 tokens → Fills w f → Takes (f ∷ []) (placed_words tokens) (placed_words new)
taken [] new o s w f e h k n fills = cc
taken (t ∷ tokens) new o s w f e h k n fills =
    let first : Placed = record { place = t.place; word = word_of t.text } in
    let is : record { place = t.place; word = seen (word_of t.text) } ≡ s = cc in
    let d = fills (word_of t.text) (ap (λ (x : SeenWord). x.word) is ∙ k) in
    record {
      front = first ∷ [];
      split = ap (λ ts. first ∷ placed_words ts) (sym n);
      proper = (d.0, tt);
      spells = append-nil (spelled f) ∙ d.1;
      within = (d.2, tt);
    }

-- ---- what words are seen so

-- a number within the limit is written and read back
pub read_back : (v z : ℤ) → v ≡ z → nat_abs v ≤ limit → to_z w64 (of_z w64 z) ≡ v
read_back v z e h = subst (λ y. to_z w64 (of_z w64 y) ≡ v) e (to_z-of_z w64 v (fits v h))
  where
    fits : (y : ℤ) → nat_abs y ≤ limit → SFits w64 y
    fits (pos n) k = record { sfits = omega arith }
    fits (negsuc n) k = record { sfits = omega arith }

seen_positive : (n : ℕ) (z : ℤ) (b : Bool) → nat_le (suc n) limit ≡ b → cond b (Positive (pos (suc n))) BigPositive ≡ Positive z → (pos (suc n) ≡ z) × (suc n ≤ limit)
seen_positive n z true e h = (cc, leb-true (suc n) limit e)
seen_positive n z false e h = cc

seen_negative : (n : ℕ) (z : ℤ) (b : Bool) → nat_le (suc n) limit ≡ b → cond b (Negative (negsuc n)) BigNegative ≡ Negative z → (negsuc n ≡ z) × (suc n ≤ limit)
seen_negative n z true e h = (cc, leb-true (suc n) limit e)
seen_negative n z false e h = cc

no_negative : (n : ℕ) (z : ℤ) (b : Bool) → cond b (Positive (pos (suc n))) BigPositive ≡ Negative z → ⊥
no_negative n z true h = cc
no_negative n z false h = cc

no_positive : (n : ℕ) (z : ℤ) (b : Bool) → cond b (Negative (negsuc n)) BigNegative ≡ Positive z → ⊥
no_positive n z true h = cc
no_positive n z false h = cc

no_zero : (w v : TokenWord) (b : Bool) → (w ≡ Zero → ⊥) → (v ≡ Zero → ⊥) → cond b w v ≡ Zero → ⊥
no_zero w v true h k e = h e
no_zero w v false h k e = k e

pub id_fills : (z : ℤ) → Fills (Positive z) (id (nat_abs (to_z w64 (of_z w64 z))))
id_fills z (number (pos zero)) h = cc
id_fills z (number (pos (suc n))) h =
    let e = seen_positive n z (nat_le (suc n) limit) refl h in
    subst (λ y. (0 < nat_abs y) × (◌≡◌ {A = List Word} (number (pos (nat_abs y)) ∷ []) (number (pos (suc n)) ∷ [])) × (suc n ≤ limit)) (sym (read_back (pos (suc n)) z e.0 e.1)) (omega arith, refl, e.1)
id_fills z (number (negsuc n)) h = absurd (no_positive n z (nat_le (suc n) limit) h)
id_fills z (letter c) h = cc
id_fills z (conflict k) h = cc
id_fills z other h = cc

abbrev IsIntegerOf : ℤ → Word → Type 0
IsIntegerOf y v = (y ≢ pos 0) × (◌≡◌ {A = List Word} (number y ∷ []) (v ∷ [])) × IsWithin limit v

pub positive_fills : (z : ℤ) → Fills (Positive z) (integer (to_z w64 (of_z w64 z)))
positive_fills z (number (pos zero)) h = cc
positive_fills z (number (pos (suc n))) h =
    let e = seen_positive n z (nat_le (suc n) limit) refl h in
    subst (λ y. IsIntegerOf y (number (pos (suc n)))) (sym (read_back (pos (suc n)) z e.0 e.1)) ((λ k. let i : suc n ≡ 0 = ap nat_abs k in omega arith), refl, e.1)
positive_fills z (number (negsuc n)) h = absurd (no_positive n z (nat_le (suc n) limit) h)
positive_fills z (letter c) h = cc
positive_fills z (conflict k) h = cc
positive_fills z other h = cc

pub negative_fills : (z : ℤ) → Fills (Negative z) (integer (to_z w64 (of_z w64 z)))
negative_fills z (number (pos zero)) h = cc
negative_fills z (number (pos (suc n))) h = absurd (no_negative n z (nat_le (suc n) limit) h)
negative_fills z (number (negsuc n)) h =
    let e = seen_negative n z (nat_le (suc n) limit) refl h in
    subst (λ y. IsIntegerOf y (number (negsuc n))) (sym (read_back (negsuc n) z e.0 e.1)) ((λ k. cc), refl, e.1)
negative_fills z (letter c) h = cc
negative_fills z (conflict k) h = cc
negative_fills z other h = cc

pub zero_fills : Fills Zero end
zero_fills (number (pos zero)) h = (tt, refl, omega arith)
zero_fills (number (pos (suc n))) h = absurd (no_zero _ _ (nat_le (suc n) limit) (λ e. cc) (λ e. cc) h)
zero_fills (number (negsuc n)) h = absurd (no_zero _ _ (nat_le (suc n) limit) (λ e. cc) (λ e. cc) h)
zero_fills (letter c) h = cc
zero_fills (conflict k) h = cc
zero_fills other h = cc

within_one : (z : ℤ) (front : List Placed) → number z ∷ [] ≡ words front → AreSmall front → nat_abs z ≤ limit
within_one z [] e h = cc
within_one z (p ∷ front) e h = let k : p.word ≡ number z = cc in subst (IsWithin limit) k h.0

-- an integer of a text is written and read back
pub kept_integer : (z : ℤ) (a b : List Placed) → Takes (integer z ∷ []) a b → Takes (integer (to_z w64 (of_z w64 z)) ∷ []) a b
kept_integer z a b t = subst (λ y. Takes (integer y ∷ []) a b) (sym (read_back z z refl (within_one z t.front t.spells t.within))) t

within_words : (placed : List Placed) (ws : List Word) → ws ≡ words placed → AreSmall placed → AllByRecursion (IsWithin limit) ws
within_words [] [] e h = tt
within_words [] (w ∷ ws) e h = cc
within_words (p ∷ placed) [] e h = cc
within_words (p ∷ placed) (w ∷ ws) e h = let k : p.word ≡ w = cc in let m : ws ≡ words placed = cc in (subst (IsWithin limit) k h.0, within_words placed ws m h.1)

all_behind : (us ws : List Word) → AllByRecursion (IsWithin limit) (us ++ ws) → AllByRecursion (IsWithin limit) ws
all_behind [] ws h = h
all_behind (u ∷ us) ws h = all_behind us ws h.1

-- so is the hint of a clause that a parity implies
pub kept_hint : (n : ℕ) (lits : List ℤ) (z : ℤ) (a b : List Placed) → Takes (id n ∷ integers lits ∷ integer z ∷ end ∷ []) a b → Takes (id n ∷ integers lits ∷ integer (to_z w64 (of_z w64 z)) ∷ end ∷ []) a b
kept_hint n lits z a b t =
    let all = within_words t.front (flat_map spelled (id n ∷ integers lits ∷ integer z ∷ end ∷ [])) t.spells t.within in
    let small = (all_behind (spelled_list lits) (number z ∷ number (pos 0) ∷ []) all.1).0 in
    subst (λ y. Takes (id n ∷ integers lits ∷ integer y ∷ end ∷ []) a b) (sym (read_back z z refl small)) t

-- ---- numbers of a few digits

taken_number : (f : Field) (old : List Token) (z : ℤ) (new : List Token) → TakesNumber old z new → IsProper f → spelled f ≡ number z ∷ [] → Takes (f ∷ []) (placed_words old) (placed_words new)
taken_number f old z new t proper is = record {
  front = record { place = t.token.place; word = word_of t.token.text } ∷ [];
  split = ap placed_words t.split;
  proper = (proper, tt);
  spells = append-nil (spelled f) ∙ is ∙ ap (λ w. w ∷ []) (sym t.word);
  within = (subst (IsWithin limit) (sym t.word) t.small, tt);
}

pub short_end : (old : List Token) (z : ℤ) (new : List Token) → TakesNumber old z new → of_z w64 z ≡ 0 → Takes (end ∷ []) (placed_words old) (placed_words new)
short_end old z new t h = taken_number end old z new t tt (ap (λ y. number y ∷ []) (sym (ap (to_z w64) h) ∙ read_back z z refl t.small))

not_zero : (z : ℤ) → (of_z w64 z ≡ 0 → ⊥) → z ≡ pos 0 → ⊥
not_zero z h e = h (ap (of_z w64) e)

pub short_integer : (old : List Token) (z : ℤ) (new : List Token) → TakesNumber old z new → (of_z w64 z ≡ 0 → ⊥) → Takes (integer (to_z w64 (of_z w64 z)) ∷ []) (placed_words old) (placed_words new)
short_integer old z new t h = subst (λ y. Takes (integer y ∷ []) (placed_words old) (placed_words new)) (sym (read_back z z refl t.small)) (taken_number (integer z) old z new t (not_zero z h) refl)

by_sign : (old : List Token) (z : ℤ) (new : List Token) → TakesNumber old z new → pos 0 ≤ℤ z → (z ≡ pos 0 → ⊥) → Takes (id (nat_abs z) ∷ []) (placed_words old) (placed_words new)
by_sign old (pos zero) new t h k = absurd (k refl)
by_sign old (pos (suc n)) new t h k = taken_number (id (suc n)) old (pos (suc n)) new t (omega arith) refl
by_sign old (negsuc n) new t h k = absurd (omega (arith, ints))

pub short_listed_id : (old : List Token) (z : ℤ) (new : List Token) → TakesNumber old z new → pos 0 ≤ℤ z → (of_z w64 z ≡ 0 → ⊥) → Takes (id (nat_abs (to_z w64 (of_z w64 z))) ∷ []) (placed_words old) (placed_words new)
short_listed_id old z new t h k = subst (λ y. Takes (id (nat_abs y) ∷ []) (placed_words old) (placed_words new)) (sym (read_back z z refl t.small)) (by_sign old z new t h (not_zero z k))

above_zero : (z : ℤ) → pos 1 ≤ℤ z → (pos 0 ≤ℤ z) × (z ≡ pos 0 → ⊥)
above_zero (pos zero) h = absurd (omega (arith, ints))
above_zero (pos (suc n)) h = (omega (arith, ints), λ e. cc)
above_zero (negsuc n) h = absurd (omega (arith, ints))

pub short_id : (old : List Token) (z : ℤ) (new : List Token) → TakesNumber old z new → pos 1 ≤ℤ z → Takes (id (nat_abs (to_z w64 (of_z w64 z))) ∷ []) (placed_words old) (placed_words new)
short_id old z new t h = let k = above_zero z h in subst (λ y. Takes (id (nat_abs y) ∷ []) (placed_words old) (placed_words new)) (sym (read_back z z refl t.small)) (by_sign old z new t k.0 k.1)
