-- What was taken is a step of the grammar, and what was refused is its first offence.
use Rattle.std.proofs.Common.{◌≡◌, ◌≢◌, refl, sym, ap, ◌∙◌, subst, ℕ, pos, Bool, true, cond, eqb, eq-eqb, List, [], ◌∷◌, ◌++◌, flat_map}
use Rattle.std.specs.List.{AllByRecursion}
use Rattle.cx_texts.specs.Tokens.{Token}
use Rattle.cx_texts.specs.Words.{Word, number, letter, conflict, Placed, words, placed_words, IsWithin}
use Rattle.cx_texts.specs.Grammar.{Grammar, mark, IsStep, Begins, IsUnfinished, Stops, AreInLimit, Spells}
use Rattle.cx_texts.proofs.Shapes.{Kind, a_mark, a_conflict, an_id, an_integer, an_end, some_ids, some_integers, some_pairs, closes, refuses, move}
use Rattle.cx_texts.proofs.Forms.{Forms}
use Rattle.cx_texts.proofs.Remaining.{after_word, remaining, remaining-push, rows_of, begins_where, begins_nowhere}
use Rattle.step_text.specs.declared.source.TextRefusal.{TextRefusal}
use Rattle.step_text.specs.declared.source.TextRefusal.TheVariants.{BadToken, Unterminated, TooBig, TooLong, Memory, Failed}
use Rattle.step_text.specs.Seen.{limit}
use Rattle.step_text.specs.Taking.{AreSmall, Takes, IsFit, MayGoOn, RefusedIn}
use Rattle.step_text.specs.Reading.{IsRefusal}
use Rattle.step_text.proofs.TakingLaws.{some_behind}

fit_by : (c : ℕ) (b : Bool) → b ≡ true → IsFit (cond b (closes (mark c)) refuses)
fit_by c b h = subst (λ x. IsFit (cond x (closes (mark c)) refuses)) (sym h) tt

some_word : (k : Kind) → (w : Word) × IsFit (move k w)
some_word (a_mark c) = (letter c, fit_by c (eqb c c) (eq-eqb c c refl))
some_word a_conflict = (conflict 0, tt)
some_word an_id = (number (pos 1), tt)
some_word an_integer = (number (pos 1), tt)
some_word an_end = (number (pos 0), tt)
some_word some_ids = (number (pos 0), tt)
some_word some_pairs = (number (pos 0), tt)
some_word some_integers = (number (pos 0), tt)

-- A grammar that is given by forms, with the limit of the reader.
module _ {S : Type 0} (g : Grammar S) (all : Forms g) (same : limit ≡ g.limit) where
  within : (placed : List Placed) → AreSmall placed → AreInLimit g placed
  within placed h = subst (λ n. AllByRecursion (λ p. IsWithin n p.word) placed) same h

  pub step_spells : (s : S) (a b : List Placed) (t : Takes (g.fields s) a b) → Stops g (words t.front) b → Spells g s a b
  step_spells s a b t stops = record {
    front = t.front;
    split = t.split;
    step = (t.proper, t.spells);
    within = within t.front t.within;
    stops = stops;
  }

  -- ---- where some kind may follow, the words begin a step and are none

  pub goes_on : (ws : List Word) (rows : List (List Kind)) → remaining (rows_of g all.forms) ws ≡ rows → MayGoOn rows → (w : Word) × Begins g (ws ++ w ∷ [])
  goes_on ws [] e h = absurd h
  goes_on ws ([] ∷ rows) e h = absurd h
  goes_on ws ((k ∷ ks) ∷ rows) e h =
      let w = some_word k in
      let b = some_behind k ks (move k w.0) (flat_map (after_word w.0) rows) w.1 in
      (w.0, begins_where g all (ws ++ w.0 ∷ []) b.0 b.1 (remaining-push (rows_of g all.forms) ws w.0 ∙ ap (flat_map (after_word w.0)) e ∙ b.2))

  begun : (ws : List Word) (rows : List (List Kind)) → remaining (rows_of g all.forms) ws ≡ rows → MayGoOn rows → Begins g ws
  begun ws [] e h = absurd h
  begun ws (row ∷ rows) e h = begins_where g all ws row rows e

  -- after a whole step nothing has to follow
  abbrev pub IsWholeAlone : Type 0
  IsWholeAlone = (s : S) (ws : List Word) → IsStep g ws s → ¬ MayGoOn (remaining (rows_of g all.forms) ws)

  unfinished : IsWholeAlone → (ws : List Word) → MayGoOn (remaining (rows_of g all.forms) ws) → IsUnfinished g ws
  unfinished whole ws h = (begun ws (remaining (rows_of g all.forms) ws) refl h, λ s step. whole s ws step h)

  pub refused_tells : IsWholeAlone → (size : ℕ) (r : TextRefusal) (a : List Placed) → a ≢ [] → RefusedIn (rows_of g all.forms) size r a → IsRefusal g size r a
  refused_tells whole size (BadToken place) a some h = record {
    front = h.front;
    bad = h.bad;
    rest = h.rest;
    split = h.split;
    at = h.at;
    unfinished = unfinished whole (words h.front) h.unfinished;
    within = within h.front h.within;
    fits_not = begins_nowhere g all (words h.front ++ h.bad.word ∷ []) (remaining-push (rows_of g all.forms) (words h.front) h.bad.word ∙ h.fits_not);
  }
  refused_tells whole size (TooBig place) a some h = record {
    front = h.front;
    big = h.big;
    rest = h.rest;
    split = h.split;
    at = h.at;
    within = within h.front h.within;
    fits = begins_where g all (words h.front ++ h.big.word ∷ []) h.fits.0 h.fits.1 (remaining-push (rows_of g all.forms) (words h.front) h.big.word ∙ h.fits.2);
    above = λ k. h.above (subst (λ n. IsWithin n h.big.word) (sym same) k);
  }
  refused_tells whole size (Unterminated place) a some h = (h.0, some, unfinished whole (words a) h.1, within a h.2)
  refused_tells whole size TooLong a some h = absurd h
  refused_tells whole size Memory a some h = tt
  refused_tells whole size Failed a some h = absurd h

pub some_words : (tokens : List Token) → (tokens ≡ [] → ⊥) → placed_words tokens ≢ []
some_words [] h = absurd (h refl)
some_words (t ∷ tokens) h = λ e. cc
