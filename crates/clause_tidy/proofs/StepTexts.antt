-- A text can have each step that the search tells.
use Rattle.std.proofs.Common.{◌≡◌, sym, subst, ◌≤◌, ◌<◌, ℕ, ℤ, pos, nat_abs, List, [], ◌∷◌, map, flat_map, arith}
use Rattle.std.specs.List.{AllByRecursion}
use Rattle.cx_base.specs.Numbers.{AreStepIntegers}
use Rattle.cx_base.proofs.Elements.{all_append, integers_are_proper}
use Rattle.cx_base.specs.declared.steps.LogStep.{LogStep}
use Rattle.cx_base.specs.declared.steps.LogStep.TheVariants as step
use Rattle.cx_base.specs.declared.steps.LogEvent.TheVariants.{Step}
use Rattle.cx_texts.specs.Grammar.{Field, spelled, spelled_list, IsProper}
use Rattle.cx_texts.specs.LogText.{log_fields}
use Rattle.cx_texts.specs.Printed.{HasText}
use Rattle.cx_texts.specs.Words.{Word, number, IsWithin}
use Rattle.clause_tidy.specs.Agreeing.{IsStepId}
use Rattle.clause_tidy.specs.Telling.{IsTellable}

abbrev AreWords : List Word → Type 0
AreWords ws = AllByRecursion (IsWithin 9223372036854775807) ws

zero_within : nat_abs (pos 0) ≤ 9223372036854775807
zero_within = omega arith

-- ---- integers and ids
below : (n : ℕ) → IsStepId n → n ≤ 9223372036854775807
below n i = let high = i.1 in omega (arith, high)

integer_words : (zs : List ℤ) → AreStepIntegers zs → AreWords (map number zs)
integer_words [] a = tt
integer_words (z ∷ zs) a = (a.0.1, integer_words zs a.1)

pub integers_within : (zs : List ℤ) → AreStepIntegers zs → AreWords (spelled_list zs)
integers_within zs a = all_append (IsWithin 9223372036854775807) (map number zs) (number (pos 0) ∷ []) (integer_words zs a) (zero_within, tt)

-- ---- steps
fields_within : (fs : List Field) → AllByRecursion (λ f. AreWords (spelled f)) fs → AreWords (flat_map spelled fs)
fields_within [] a = tt
fields_within (f ∷ fs) a = all_append (IsWithin 9223372036854775807) (spelled f) (flat_map spelled fs) a.0 (fields_within fs a.1)

has_text : (s : LogStep) → AllByRecursion IsProper (log_fields s) → AllByRecursion (λ f. AreWords (spelled f)) (log_fields s) → HasText (Step s)
has_text s proper within = (proper, fields_within (log_fields s) within)

positive : (n : ℕ) → IsStepId n → 0 < n
positive n i = let low = i.0 in omega (arith, low)

pub chained_text : (n : ℕ) (zs hints : List ℤ) → IsStepId n → AreStepIntegers zs → AreStepIntegers hints → IsTellable (step.ClauseWithHints n zs hints)
chained_text n zs hints i a b =
    has_text (step.ClauseWithHints n zs hints)
    (tt, (positive n i, (integers_are_proper zs a, (tt, (integers_are_proper hints b, tt)))))
    ((tt, tt), ((below n i, tt), (integers_within zs a, ((tt, tt), (integers_within hints b, tt)))))

bare_deletion : (n : ℕ) → IsStepId n → IsTellable (step.Delete n [])
bare_deletion n i = has_text (step.Delete n []) (tt, (positive n i, (tt, tt))) ((tt, tt), ((below n i, tt), ((zero_within, tt), tt)))

pub deletion_text : (n : ℕ) (zs : List ℤ) → IsStepId n → zs ≡ [] → IsTellable (step.Delete n zs)
deletion_text n zs i none = subst (λ xs. IsTellable (step.Delete n xs)) (sym none) (bare_deletion n i)
