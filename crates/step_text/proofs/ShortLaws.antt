-- Integers that were taken in one go, after others.
use Rattle.std.proofs.Common.{◌≡◌, sym, ap, ◌∙◌, subst, ◌≤◌, ◌<◌, ℤ, Bool, true, false, List, [], ◌∷◌, ◌++◌, map, length, arith, length-append}
use Rattle.std.proofs.lemmas.List.{length-map}
use Rattle.cx_base.specs.Numbers.{AreStepIntegers}
use Rattle.cx_base.specs.declared.id_moves.IdMove.{IdMove}
use Rattle.cx_texts.specs.Tokens.{Token}
use Rattle.cx_texts.specs.Words.{Placed, words, placed_words}
use Rattle.cx_texts.specs.Grammar.{Field, integer, integers}
use Rattle.step_text.specs.Short.{Closes, TakesShorts}
use Rattle.step_text.specs.Taking.{Takes, fields_of_pairs}
use Rattle.step_text.proofs.StepIntegers.{step_integers}
use Rattle.step_text.proofs.TakingLaws.{closed_integers, more_integers}

length_words : (tokens : List Token) → length (placed_words tokens) ≡ length tokens
length_words tokens = length-map tokens _

module _ (zs more all : List ℤ) (a old new : List Placed) (ended : Bool) (are : all ≡ zs ++ more) (before : Takes (map integer zs) a old) (t : TakesShorts old more ended new) where
  together : Takes (map integer all) a t.behind
  together = more_integers zs more all a old t.behind are before t.numbers

  pub shorts_integers : AreStepIntegers all
  shorts_integers = step_integers all a t.behind together

  pub shorts_closed : ended ≡ true → Takes (integers all ∷ []) a new
  shorts_closed e = closed_integers all a t.behind new together (subst (λ b. Closes b t.behind new) e t.closes)

  pub shorts_taken : ended ≡ false → Takes (map integer all) a new
  shorts_taken e =
      let left : new ≡ t.behind = subst (λ b. Closes b t.behind new) e t.closes in
      subst (Takes (map integer all) a) (sym left) together

-- what is left is no longer
pub taken_shorten : (fs : List Field) (old new : List Token) → Takes fs (placed_words old) (placed_words new) → length new ≤ length old
taken_shorten fs old new t =
    omega (arith, ap length t.split, length-append t.front (placed_words new), length_words old, length_words new)

length_front : (front : List Placed) → length (words front) ≡ length front
length_front front = length-map front _

-- after a pair less is left
pub pair_shortens : (m : IdMove) (old new : List Token) → Takes (fields_of_pairs (m ∷ [])) (placed_words old) (placed_words new) → length new < length old
pair_shortens m old new t =
    omega (arith, ap length t.split, length-append t.front (placed_words new), length_words old, length_words new, ap length t.spells, length_front t.front)

pub shorts_shorten : (old new : List Token) (more : List ℤ) (ended : Bool) → ended ≡ false → TakesShorts (placed_words old) more ended (placed_words new) → length new ≤ length old
shorts_shorten old new more ended e t =
    let left : placed_words new ≡ t.behind = subst (λ b. Closes b t.behind (placed_words new)) e t.closes in
    let front = t.numbers.front in
    let split : placed_words old ≡ front ++ placed_words new = t.numbers.split ∙ ap (λ b. front ++ b) (sym left) in
    omega (arith, ap length split, length-append front (placed_words new), length_words old, length_words new)
