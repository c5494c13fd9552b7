-- What a clause or a parity says, as a list of numbers.
use Rattle.std.specs.Prelude.{◌≡◌, ℕ, ◌%◌, ◌==◌, nat_eq, cond, List, ◌∷◌, map}
use Rattle.std.specs.List.{list_any, count_by}
use Rattle.std.specs.List.Sorted.{IsStrictlySortedBy}
use Rattle.std.specs.Ordering.{nat_cmp}
use Rattle.std.specs.FinSet as set
use Rattle.cx_base.specs.Literals.{Literal, code_of}
use Rattle.cx_base.specs.Parity.{NormalForm, normal_form}

-- the members of the set, rising
pub record RisesOver (members : set.FinSet nat_cmp) (xs : List ℕ) : Type 0 where
  pub same : set.from_list xs ≡ members
  pub rising : IsStrictlySortedBy nat_cmp xs

-- ys: the numbers that occur in xs an odd number of times, rising
pub record KeepsOdd (xs ys : List ℕ) : Type 0 where
  pub odd : (q : ℕ) → list_any (λ y. nat_eq y q) ys ≡ (count_by (λ x. nat_eq x q) xs % 2 == 1)
  pub rising : IsStrictlySortedBy nat_cmp ys

-- the codes of a clause's literals, rising, each once
abbrev pub IsClauseContent : List Literal → List ℕ → Type 0
IsClauseContent lits content = RisesOver (set.from_list (map code_of lits)) content

-- the right side, and then the variables, rising
abbrev pub IsFormContent : NormalForm → List ℕ → Type 0
IsFormContent form content = (variables : List ℕ) × (content ≡ cond form.right_side 1 0 ∷ variables) × RisesOver form.variables variables

-- of the normal form
abbrev pub IsParityContent : List Literal → List ℕ → Type 0
IsParityContent lits content = IsFormContent (normal_form lits) content
