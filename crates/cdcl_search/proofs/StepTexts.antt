-- A text can have each step that the search tells.
use Rattle.std.proofs.Common.{◌≡◌, ap, sym, subst, ◌≤◌, ◌<◌, ℕ, ℤ, pos, nat_abs, List, [], ◌∷◌, map, flat_map, arith}
use Rattle.std.specs.List.{AllByRecursion}
use Rattle.cx_base.specs.Literals.{Literal}
use Rattle.cx_base.specs.Problem.{AreWithin}
use Rattle.cx_base.specs.Integers.{integer_of, integers_of}
use Rattle.cx_base.specs.Numbers.{AreStepIntegers}
use Rattle.cx_base.proofs.Elements.{all_append, integers_are_proper}
use Rattle.cx_base.specs.declared.steps.LogStep.{LogStep}
use Rattle.cx_base.specs.declared.steps.LogStep.TheVariants as step
use Rattle.cx_base.specs.declared.steps.LogEvent.TheVariants.{Step}
use Rattle.cx_texts.specs.Grammar.{Field, spelled, spelled_list, IsProper}
use Rattle.cx_texts.specs.LogText.{log_fields}
use Rattle.cx_texts.specs.Printed.{HasText}
use Rattle.cx_texts.specs.Words.{Word, number, IsWithin}
use Rattle.cdcl_search.specs.Tells.{IsId, IsTellable}
use Rattle.cdcl_search.proofs.IntegerLaws.{spelt}

abbrev AreWords : List Word → Type 0
AreWords ws = AllByRecursion (IsWithin 9223372036854775807) ws

zero_within : nat_abs (pos 0) ≤ 9223372036854775807
zero_within = omega arith

-- ---- integers and ids
below : (n : ℕ) → IsId n → n ≤ 9223372036854775807
below n i = let high = i.1 in omega (arith, high)

integer_words : (zs : List ℤ) → AreStepIntegers zs → AreWords (map number zs)
integer_words [] a = tt
integer_words (z ∷ zs) a = (a.0.1, integer_words zs a.1)

pub integers_within : (zs : List ℤ) → AreStepIntegers zs → AreWords (spelled_list zs)
integers_within zs a = all_append (IsWithin 9223372036854775807) (map number zs) (number (pos 0) ∷ []) (integer_words zs a) (zero_within, tt)

pub ids_are_proper : (ns : List ℕ) → AllByRecursion IsId ns → AllByRecursion (λ n. 0 < n) ns
ids_are_proper [] a = tt
ids_are_proper (n ∷ ns) a = (let low = a.0.0 in omega (arith, low), ids_are_proper ns a.1)

id_words : (ns : List ℕ) → AllByRecursion IsId ns → AreWords (map number (map pos ns))
id_words [] a = tt
id_words (n ∷ ns) a = (below n a.0, id_words ns a.1)

pub ids_within : (ns : List ℕ) → AllByRecursion IsId ns → AreWords (spelled_list (map pos ns))
ids_within ns a = all_append (IsWithin 9223372036854775807) (map number (map pos ns)) (number (pos 0) ∷ []) (id_words ns a) (zero_within, tt)

-- the integers of literals of a formula are those of steps
pub literals_are_proper : (n : ℕ) (lits : List Literal) → n ≤ 268435455 → AreWithin n lits → AreStepIntegers (integers_of lits)
literals_are_proper n [] few w = tt
literals_are_proper n (l ∷ lits) few w =
    let low = w.0.0 in
    let high = w.0.1 in
    let size : nat_abs (integer_of l) ≡ l.variable = ap (λ m. m.variable) (spelt l.variable l.negative low) in
    ((λ z. absurd (let none : nat_abs (integer_of l) ≡ 0 = ap nat_abs z in omega (arith, size, none, low)), omega (arith, size, high, few)), literals_are_proper n lits few w.1)

-- ---- steps
fields_within : (fs : List Field) → AllByRecursion (λ f. AreWords (spelled f)) fs → AreWords (flat_map spelled fs)
fields_within [] a = tt
fields_within (f ∷ fs) a = all_append (IsWithin 9223372036854775807) (spelled f) (flat_map spelled fs) a.0 (fields_within fs a.1)

has_text : (s : LogStep) → AllByRecursion IsProper (log_fields s) → AllByRecursion (λ f. AreWords (spelled f)) (log_fields s) → HasText (Step s)
has_text s proper within = (proper, fields_within (log_fields s) within)

positive : (n : ℕ) → IsId n → 0 < n
positive n i = let low = i.0 in omega (arith, low)

pub original_text : (n : ℕ) (zs : List ℤ) → IsId n → AreStepIntegers zs → IsTellable (step.Original n zs)
original_text n zs i a = (has_text (step.Original n zs) (tt, (positive n i, (integers_are_proper zs a, tt))) ((tt, tt), ((below n i, tt), (integers_within zs a, tt))), i.1)

pub original_parity_text : (n : ℕ) (zs : List ℤ) → IsId n → AreStepIntegers zs → IsTellable (step.OriginalParity n zs)
original_parity_text n zs i a = (has_text (step.OriginalParity n zs) (tt, (tt, (positive n i, (integers_are_proper zs a, tt)))) ((tt, tt), ((tt, tt), ((below n i, tt), (integers_within zs a, tt)))), i.1)

pub chained_text : (n : ℕ) (zs hints : List ℤ) → IsId n → AreStepIntegers zs → AreStepIntegers hints → IsTellable (step.ClauseWithHints n zs hints)
chained_text n zs hints i a b = (
  has_text (step.ClauseWithHints n zs hints)
      (tt, (positive n i, (integers_are_proper zs a, (tt, (integers_are_proper hints b, tt)))))
      ((tt, tt), ((below n i, tt), (integers_within zs a, ((tt, tt), (integers_within hints b, tt))))),
  i.1,
)

pub sum_text : (n : ℕ) (zs : List ℤ) (ns : List ℕ) → IsId n → AreStepIntegers zs → AllByRecursion IsId ns → IsTellable (step.Parity n zs ns)
sum_text n zs ns i a b = (
  has_text (step.Parity n zs ns)
      (tt, (tt, (positive n i, (integers_are_proper zs a, (tt, (ids_are_proper ns b, tt))))))
      ((tt, tt), ((tt, tt), ((below n i, tt), (integers_within zs a, ((tt, tt), (ids_within ns b, tt)))))),
  i.1,
)

pub recovered_text : (n : ℕ) (zs : List ℤ) (ns : List ℕ) → IsId n → AreStepIntegers zs → AllByRecursion IsId ns → IsTellable (step.ParityOfClauses n zs ns)
recovered_text n zs ns i a b = (
  has_text (step.ParityOfClauses n zs ns)
      (tt, (tt, (positive n i, (integers_are_proper zs a, (tt, (ids_are_proper ns b, tt))))))
      ((tt, tt), ((tt, tt), ((below n i, tt), (integers_within zs a, ((tt, tt), (ids_within ns b, tt)))))),
  i.1,
)

pub clause_of_sum_text : (n : ℕ) (zs : List ℤ) (k : ℕ) → IsId n → AreStepIntegers zs → IsId k → IsTellable (step.ClauseOfParity n zs k)
clause_of_sum_text n zs k i a j = (
  has_text (step.ClauseOfParity n zs k)
      (tt, (positive n i, (integers_are_proper zs a, (tt, (positive k j, (tt, tt))))))
      ((tt, tt), ((below n i, tt), (integers_within zs a, ((tt, tt), ((below k j, tt), ((zero_within, tt), tt)))))),
  i.1,
)

bare_deletion : (n : ℕ) → IsId n → IsTellable (step.Delete n [])
bare_deletion n i = (has_text (step.Delete n []) (tt, (positive n i, (tt, tt))) ((tt, tt), ((below n i, tt), ((zero_within, tt), tt))), i.1)

pub deletion_text : (n : ℕ) (zs : List ℤ) → IsId n → zs ≡ [] → IsTellable (step.Delete n zs)
deletion_text n zs i none = subst (λ xs. IsTellable (step.Delete n xs)) (sym none) (bare_deletion n i)

bare_deletion_of_sum : (n : ℕ) → IsId n → IsTellable (step.DeleteParity n [])
bare_deletion_of_sum n i = (has_text (step.DeleteParity n []) (tt, (tt, (positive n i, (tt, tt)))) ((tt, tt), ((tt, tt), ((below n i, tt), ((zero_within, tt), tt)))), i.1)

pub deletion_of_sum_text : (n : ℕ) (zs : List ℤ) → IsId n → zs ≡ [] → IsTellable (step.DeleteParity n zs)
deletion_of_sum_text n zs i none = subst (λ xs. IsTellable (step.DeleteParity n xs)) (sym none) (bare_deletion_of_sum n i)
