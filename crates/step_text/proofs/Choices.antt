-- Letters, and one list of kinds beside others.
use Rattle.std.proofs.Common.{◌≡◌, refl, sym, ap, ◌∙◌, subst, ℕ, Bool, true, false, cond, eqb, eqb-true, eq-eqb, ◌==◌, true≢false, List, [], ◌∷◌, ◌++◌, flat_map, drop}
use Rattle.std.specs.List.{AllByRecursion}
use Rattle.cx_texts.specs.Tokens.{Token}
use Rattle.cx_texts.specs.Words.{Word, number, letter, conflict, other, Placed, words, placed_words, word_of, IsWithin}
use Rattle.cx_texts.specs.Grammar.{mark}
use Rattle.cx_texts.proofs.Shapes.{Kind, a_mark, closes, refuses, move}
use Rattle.cx_texts.proofs.Remaining.{after_word, remaining}
use Rattle.step_text.specs.declared.source.TextRefusal.{TextRefusal}
use Rattle.step_text.specs.declared.source.TextRefusal.TheVariants.{BadToken, Unterminated, TooBig, TooLong, Memory, Failed}
use Rattle.step_text.specs.Seen.{limit}
use Rattle.step_text.specs.Heads.{is_letter, is_head_letter}
use Rattle.step_text.specs.Taking.{Takes, MayGoOn, BadIn, BigIn, RefusedIn}
use Rattle.step_text.proofs.TakingLaws.{Refuses, none_after}

-- ---- letters

letter_refuses_by : (c e : ℕ) (b : Bool) → eqb c e ≡ b → (e == c) ≡ false → cond b (closes (mark c)) refuses ≡ refuses
letter_refuses_by c e true k h = absurd (true≢false (sym (eq-eqb e c (sym (eqb-true c e k))) ∙ h))
letter_refuses_by c e false k h = refl

letter_refuses : (c : ℕ) (w : Word) → is_letter c w ≡ false → move (a_mark c) w ≡ refuses
letter_refuses c (letter e) h = letter_refuses_by c e (eqb c e) refl h
letter_refuses c (number z) h = refl
letter_refuses c (conflict k) h = refl
letter_refuses c other h = refl

pub head_refuses : (c : ℕ) (a : List Placed) → is_head_letter c a ≡ false → (p : Placed) (rest : List Placed) → a ≡ p ∷ rest → move (a_mark c) p.word ≡ refuses
head_refuses c a h p rest e = letter_refuses c p.word (ap (is_head_letter c) (sym e) ∙ h)

is_the_letter : (c : ℕ) (w : Word) → is_letter c w ≡ true → letter c ≡ w
is_the_letter c (letter e) h = ap letter (sym (eqb-true e c h))
is_the_letter c (number z) h = absurd (true≢false (sym h))
is_the_letter c (conflict k) h = absurd (true≢false (sym h))
is_the_letter c other h = absurd (true≢false (sym h))

pub letter_taken : (c : ℕ) (tokens new : List Token) → is_head_letter c (placed_words tokens) ≡ true → new ≡ drop 1 tokens → Takes (mark c ∷ []) (placed_words tokens) (placed_words new)
letter_taken c [] new h n = absurd (true≢false (sym h))
letter_taken c (t ∷ tokens) new h n =
    let first : Placed = record { place = t.place; word = word_of t.text } in
    let is = is_the_letter c (word_of t.text) h in
    record {
      front = first ∷ [];
      split = ap (λ ts. first ∷ placed_words ts) (sym n);
      proper = (tt, tt);
      spells = ap (λ w. w ∷ []) is;
      within = (subst (IsWithin limit) is tt, tt);
    }

-- ---- one list of kinds beside others that refuse the first word

abbrev AllRefuse : List (List Kind) → List Placed → Type 0
AllRefuse more a = (p : Placed) (rest : List Placed) → a ≡ p ∷ rest → AllByRecursion (Refuses p.word) more

same_behind : (row : List Kind) (more : List (List Kind)) (p : Placed) (front : List Placed) → AllByRecursion (Refuses p.word) more
    → remaining (row ∷ []) (words (p ∷ front)) ≡ remaining (row ∷ more) (words (p ∷ front))
same_behind row more p front h = ap (λ rows. remaining (after_word p.word row ++ rows) (words front)) (sym (none_after p.word more h))

wider : (row : List Kind) (more : List (List Kind)) → MayGoOn (row ∷ []) → MayGoOn (row ∷ more)
wider [] more h = h
wider (k ∷ ks) more h = tt

bad_beside : (row : List Kind) (more : List (List Kind)) (a : List Placed) (place : ℕ) → AllRefuse more a → (front : List Placed) (h : BadIn (row ∷ []) a place) → h.front ≡ front → BadIn (row ∷ more) a place
bad_beside row more a place others [] h e =
    let s : a ≡ h.bad ∷ h.rest = h.split ∙ ap (λ x. x ++ h.bad ∷ h.rest) e in
    let u : MayGoOn (row ∷ []) = subst (λ x. MayGoOn (remaining (row ∷ []) (words x))) e h.unfinished in
    let f : after_word h.bad.word row ++ [] ≡ [] = ap (λ x. flat_map (after_word h.bad.word) (remaining (row ∷ []) (words x))) (sym e) ∙ h.fits_not in
    record {
      front = [];
      bad = h.bad;
      rest = h.rest;
      split = s;
      at = h.at;
      unfinished = wider row more u;
      within = tt;
      fits_not = ap (λ rows. after_word h.bad.word row ++ rows) (none_after h.bad.word more (others h.bad h.rest s)) ∙ f;
    }
bad_beside row more a place others (p ∷ front) h e =
    let r = same_behind row more p front (others p (front ++ h.bad ∷ h.rest) (h.split ∙ ap (λ x. x ++ h.bad ∷ h.rest) e)) in
    let k : remaining (row ∷ []) (words h.front) ≡ remaining (row ∷ more) (words h.front) = ap (λ x. remaining (row ∷ []) (words x)) e ∙ r ∙ ap (λ x. remaining (row ∷ more) (words x)) (sym e) in
    record {
      front = h.front;
      bad = h.bad;
      rest = h.rest;
      split = h.split;
      at = h.at;
      unfinished = subst MayGoOn k h.unfinished;
      within = h.within;
      fits_not = ap (flat_map (after_word h.bad.word)) (sym k) ∙ h.fits_not;
    }

big_beside : (row : List Kind) (more : List (List Kind)) (a : List Placed) (place : ℕ) → AllRefuse more a → (front : List Placed) (h : BigIn (row ∷ []) a place) → h.front ≡ front → BigIn (row ∷ more) a place
big_beside row more a place others [] h e =
    let s : a ≡ h.big ∷ h.rest = h.split ∙ ap (λ x. x ++ h.big ∷ h.rest) e in
    let f : after_word h.big.word row ++ [] ≡ h.fits.0 ∷ h.fits.1 = ap (λ x. flat_map (after_word h.big.word) (remaining (row ∷ []) (words x))) (sym e) ∙ h.fits.2 in
    record {
      front = [];
      big = h.big;
      rest = h.rest;
      split = s;
      at = h.at;
      within = tt;
      fits = (h.fits.0, h.fits.1, ap (λ rows. after_word h.big.word row ++ rows) (none_after h.big.word more (others h.big h.rest s)) ∙ f);
      above = h.above;
    }
big_beside row more a place others (p ∷ front) h e =
    let r = same_behind row more p front (others p (front ++ h.big ∷ h.rest) (h.split ∙ ap (λ x. x ++ h.big ∷ h.rest) e)) in
    let k : remaining (row ∷ []) (words h.front) ≡ remaining (row ∷ more) (words h.front) = ap (λ x. remaining (row ∷ []) (words x)) e ∙ r ∙ ap (λ x. remaining (row ∷ more) (words x)) (sym e) in
    record {
      front = h.front;
      big = h.big;
      rest = h.rest;
      split = h.split;
      at = h.at;
      within = h.within;
      fits = (h.fits.0, h.fits.1, ap (flat_map (after_word h.big.word)) (sym k) ∙ h.fits.2);
      above = h.above;
    }

open_beside : (row : List Kind) (more : List (List Kind)) (a : List Placed) → AllRefuse more a → MayGoOn (remaining (row ∷ []) (words a)) → MayGoOn (remaining (row ∷ more) (words a))
open_beside row more [] others h = wider row more h
open_beside row more (p ∷ a) others h = subst MayGoOn (same_behind row more p a (others p a refl)) h

pub refused_beside : (row : List Kind) (more : List (List Kind)) (size : ℕ) (r : TextRefusal) (a : List Placed) → AllRefuse more a → RefusedIn (row ∷ []) size r a → RefusedIn (row ∷ more) size r a
refused_beside row more size (BadToken place) a others h = bad_beside row more a place others h.front h refl
refused_beside row more size (TooBig place) a others h = big_beside row more a place others h.front h refl
refused_beside row more size (Unterminated place) a others h = (h.0, open_beside row more a others h.1, h.2)
refused_beside row more size TooLong a others h = absurd h
refused_beside row more size Memory a others h = tt
refused_beside row more size Failed a others h = absurd h
