-- The table of the assignments that clauses exclude.
-- Where the first variable is true the place is one step further, and the step of the next variable is twice as long.
use Rattle.std.specs.Prelude.{◌≡◌, ℕ, ◌+◌, ◌*◌, ◌<◌, ◌≤◌, Bool, true, false, not, ◌&&◌, ◌||◌, nat_eq, List, [], ◌∷◌, length, get_or, slice_set, if◌then◌else◌}
use Rattle.std.specs.List.{list_any}
use Rattle.std.specs.FinSet as set
use Rattle.std.specs.Ordering.{nat_cmp}
use Rattle.cx_base.specs.Literals.{Literal, positive_of, negative_of}
use Rattle.cx_semantics.specs.Chain.{has_literal}

-- a table of n places has the places of all assignments
abbrev pub HasPlaces : List ℕ → ℕ → ℕ → Type 0
HasPlaces [] step n = step ≤ n
HasPlaces (x ∷ xs) step n = (2 * step ≤ n) × HasPlaces xs (2 * step) n

-- the places of the assignments under which the clause is not met are marked
abbrev pub excluded : List Literal → List ℕ → ℕ → ℕ → List Bool → List Bool
excluded clause [] place step table = slice_set table place true
excluded clause (x ∷ xs) place step table =
    let low = if has_literal clause (negative_of x) then table else excluded clause xs place (2 * step) table in
    if has_literal clause (positive_of x) then low else excluded clause xs (place + step) (2 * step) low

-- whether the place is one of an assignment under which the clause is not met
abbrev pub is_hit : List Literal → List ℕ → ℕ → ℕ → ℕ → Bool
is_hit clause [] place step j = nat_eq j place
is_hit clause (x ∷ xs) place step j =
    (not (has_literal clause (negative_of x)) && is_hit clause xs place (2 * step) j) || (not (has_literal clause (positive_of x)) && is_hit clause xs (place + step) (2 * step) j)

-- each assignment is marked under which the sum is wrong, which it is so far or not
abbrev pub all_excluded : List ℕ → ℕ → ℕ → Bool → List Bool → Bool
all_excluded [] place step wrong table = get_or table place false || not wrong
all_excluded (x ∷ xs) place step wrong table = all_excluded xs place (2 * step) wrong table && all_excluded xs (place + step) (2 * step) (not wrong) table

-- the table marks just what some clause excludes
pub record Excludes (variables : List ℕ) (clauses : List (List Literal)) (table : List Bool) : Type 0 where
  pub reach : HasPlaces variables 1 (length table)
  pub marked : (j : ℕ) → j < length table → get_or table j false ≡ list_any (λ clause. is_hit clause variables 0 1 j) clauses

-- a literal's variable is not in the set
abbrev pub is_outside : set.FinSet nat_cmp → List Literal → Bool
is_outside variables clause = list_any (λ l. not (set.contains variables l.variable)) clause
