-- Integers that may be the last field of one list of kinds and not the last of another.
use Rattle.std.proofs.Common.{◌≡◌, refl, sym, ap, ◌∙◌, subst, ℕ, zero, suc, pos, negsuc, List, [], ◌∷◌, ◌++◌, flat_map}
use Rattle.cx_texts.specs.Words.{Word, number, letter, conflict, other, Placed, words}
use Rattle.cx_texts.proofs.Shapes.{Kind, some_integers, Move, closes, stays, opens, refuses, move}
use Rattle.cx_texts.proofs.Remaining.{behind, after_word, remaining}
use Rattle.step_text.specs.declared.source.TextRefusal.{TextRefusal}
use Rattle.step_text.specs.declared.source.TextRefusal.TheVariants.{BadToken, Unterminated, TooBig, TooLong, Memory, Failed}
use Rattle.step_text.specs.Taking.{IsFit, MayGoOn, RefusedIn}
use Rattle.step_text.proofs.TakingLaws.{none_after, some_behind}

abbrev one : List (List Kind)
one = (some_integers ∷ []) ∷ []

abbrev two : List Kind → List Kind → List (List Kind)
two ks js = (some_integers ∷ ks) ∷ (some_integers ∷ js) ∷ []

no_row : (ws : List Word) → MayGoOn (remaining [] ws) → ⊥
no_row [] h = h
no_row (w ∷ ws) h = no_row ws h

closed_row : (ws : List Word) → MayGoOn (remaining ([] ∷ []) ws) → ⊥
closed_row [] h = h
closed_row (w ∷ ws) h = no_row ws h

-- as long as the list is open, both go on with it
pub both_open : (ks js : List Kind) (ws : List Word) → MayGoOn (remaining one ws) → (remaining one ws ≡ one) × (remaining (two ks js) ws ≡ two ks js)
both_open ks js [] h = (refl, refl)
both_open ks js (number (pos zero) ∷ ws) h = absurd (closed_row ws h)
both_open ks js (number (pos (suc n)) ∷ ws) h = both_open ks js ws h
both_open ks js (number (negsuc n) ∷ ws) h = both_open ks js ws h
both_open ks js (letter c ∷ ws) h = absurd (no_row ws h)
both_open ks js (conflict k ∷ ws) h = absurd (no_row ws h)
both_open ks js (other ∷ ws) h = absurd (no_row ws h)

none_fits : (w : Word) (row : List Kind) (more : List (List Kind)) (ws : List Word) → flat_map (after_word w) (remaining [] ws) ≡ row ∷ more → ⊥
none_fits w row more [] h = cc
none_fits w row more (u ∷ ws) h = none_fits w row more ws h

closed_fits : (w : Word) (row : List Kind) (more : List (List Kind)) (ws : List Word) → flat_map (after_word w) (remaining ([] ∷ []) ws) ≡ row ∷ more → ⊥
closed_fits w row more [] h = cc
closed_fits w row more (u ∷ ws) h = none_fits w row more ws h

-- both go on with it where a word fits
both_fit : (ks js : List Kind) (w : Word) (row : List Kind) (more : List (List Kind)) (ws : List Word) → flat_map (after_word w) (remaining one ws) ≡ row ∷ more → (remaining one ws ≡ one) × (remaining (two ks js) ws ≡ two ks js)
both_fit ks js w row more [] h = (refl, refl)
both_fit ks js w row more (number (pos zero) ∷ ws) h = absurd (closed_fits w row more ws h)
both_fit ks js w row more (number (pos (suc n)) ∷ ws) h = both_fit ks js w row more ws h
both_fit ks js w row more (number (negsuc n) ∷ ws) h = both_fit ks js w row more ws h
both_fit ks js w row more (letter c ∷ ws) h = absurd (none_fits w row more ws h)
both_fit ks js w row more (conflict k ∷ ws) h = absurd (none_fits w row more ws h)
both_fit ks js w row more (other ∷ ws) h = absurd (none_fits w row more ws h)

refused_move : (m : Move) → behind some_integers [] m ++ [] ≡ [] → m ≡ refuses
refused_move (closes f) h = cc
refused_move (stays z) h = cc
refused_move (opens n) h = cc
refused_move refuses h = refl

fit_move : (m : Move) (row : List Kind) (more : List (List Kind)) → behind some_integers [] m ++ [] ≡ row ∷ more → IsFit m
fit_move (closes f) row more h = tt
fit_move (stays z) row more h = tt
fit_move (opens n) row more h = tt
fit_move refuses row more h = cc

pub both_refused : (ks js : List Kind) (size : ℕ) (r : TextRefusal) (a : List Placed) → RefusedIn one size r a → RefusedIn (two ks js) size r a
both_refused ks js size (BadToken place) a h =
    let o = both_open ks js (words h.front) h.unfinished in
    let bad = refused_move (move some_integers h.bad.word) (ap (flat_map (after_word h.bad.word)) (sym o.0) ∙ h.fits_not) in
    record {
      front = h.front;
      bad = h.bad;
      rest = h.rest;
      split = h.split;
      at = h.at;
      unfinished = subst MayGoOn (sym o.1) tt;
      within = h.within;
      fits_not = ap (flat_map (after_word h.bad.word)) o.1 ∙ none_after h.bad.word (two ks js) (bad, (bad, tt));
    }
both_refused ks js size (TooBig place) a h =
    let o = both_fit ks js h.big.word h.fits.0 h.fits.1 (words h.front) h.fits.2 in
    let fit = fit_move (move some_integers h.big.word) h.fits.0 h.fits.1 (ap (flat_map (after_word h.big.word)) (sym o.0) ∙ h.fits.2) in
    let b = some_behind some_integers ks (move some_integers h.big.word) (flat_map (after_word h.big.word) ((some_integers ∷ js) ∷ [])) fit in
    record {
      front = h.front;
      big = h.big;
      rest = h.rest;
      split = h.split;
      at = h.at;
      within = h.within;
      fits = (b.0, b.1, ap (flat_map (after_word h.big.word)) o.1 ∙ b.2);
      above = h.above;
    }
both_refused ks js size (Unterminated place) a h = (h.0, subst MayGoOn (sym (both_open ks js (words a) h.1).1) tt, h.2)
both_refused ks js size TooLong a h = absurd h
both_refused ks js size Memory a h = tt
both_refused ks js size Failed a h = absurd h
