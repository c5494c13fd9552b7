-- Values of the variables of a parity, and what a clause says of them.
use Rattle.std.specs.Prelude.{◌≡◌, ◌≤◌, ℕ, Bool, true, false, not, nat_eq, List, [], ◌∷◌, Option, Some, None, option_map, if◌then◌else◌, ⊤}
use Rattle.std.specs.List.{list_any, AllByRecursion}
use Rattle.std.specs.Ordering.{nat_cmp}
use Rattle.std.specs.FinSet as set
use Rattle.cx_base.specs.Literals.{Literal, negate, positive_of, negative_of}
use Rattle.cx_semantics.specs.Chain.{has_literal}
use Rattle.cx_semantics.specs.Implied.{Implies, HasCounterexample}

-- no number is there twice
abbrev pub AreDistinct : List ℕ → Type 0
AreDistinct [] = ⊤
AreDistinct (x ∷ xs) = (list_any (λ y. nat_eq y x) xs ≡ false) × AreDistinct xs

-- each member of the set is in the list once, and no variable is 0
pub record Lists (variables : set.FinSet nat_cmp) (xs : List ℕ) : Type 0 where
  pub same : set.from_list xs ≡ variables
  pub once : AreDistinct xs
  pub positive : AllByRecursion (λ x. 1 ≤ x) xs

-- a literal of the list has its negation there
abbrev pub has_opposites : List Literal → List Literal → Bool
has_opposites others lits = list_any (λ l. has_literal others (negate l)) lits

-- The sum modulo two of the variables where all literals of the clause are false; none where a variable may have either value.
abbrev pub forced_sum : List Literal → List ℕ → Option Bool
forced_sum clause [] = Some false
forced_sum clause (x ∷ xs) =
    if has_literal clause (negative_of x) then option_map not (forced_sum clause xs) else if has_literal clause (positive_of x) then forced_sum clause xs else None

-- what a test of an implication answers
abbrev pub Decided : (List Bool → Bool) → (List Bool → Bool) → Bool → Type 0
Decided premise conclusion true = Implies premise conclusion
Decided premise conclusion false = HasCounterexample premise conclusion
