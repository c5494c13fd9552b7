-- Rising variables.
use Rattle.std.specs.Prelude.{◌≡◌, ℕ, ◌%◌, ◌≤◌, ◌==◌, nat_eq, List}
use Rattle.std.specs.List.{list_any, count_by}
use Rattle.std.specs.List.Sorted.{IsStrictlySortedBy}
use Rattle.std.specs.Ordering.{nat_cmp}
use Rattle.cx_base.specs.declared.literal.TheConstants.{MAX_VARIABLE}

-- a number that a variable can have
abbrev pub IsVariable : ℕ → Type 0
IsVariable x = (1 ≤ x) × (x ≤ MAX_VARIABLE)

-- ys: the numbers that occur in xs an odd number of times, rising
pub record KeepsOdd (xs ys : List ℕ) : Type 0 where
  pub odd : (q : ℕ) → list_any (λ y. nat_eq y q) ys ≡ (count_by (λ x. nat_eq x q) xs % 2 == 1)
  pub rising : IsStrictlySortedBy nat_cmp ys
