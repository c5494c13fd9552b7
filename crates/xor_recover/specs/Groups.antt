-- Rows in order, each shape once, and the groups of those that make a parity.
use Rattle.std.specs.Prelude.{◌≡◌, ℕ, ◌-◌, ◌^◌, ◌≤◌, Bool, ◌&&◌, List, [], ◌∷◌, ◌++◌, map, length, take, slice_index_or, Option, Some, None, if◌then◌else◌, nat_eq, nat_le}
use Rattle.std.specs.List.{AllZip, Contains}
use Rattle.std.specs.List.Sorted.{IsPermutation, IsNonDecreasing, IsStrictlySortedBy}
use Rattle.std.specs.Cmp.Lexicographic.{pointwise}
use mathlib.Core.Bool.{beq}
use Rattle.std.specs.declared.cmp.Ordering.TheVariants.{Equal}
use Rattle.parity_engine.specs.Written.{literals_with}
use Rattle.xor_recover.specs.declared.found.FoundParity.{FoundParity}
use Rattle.cx_base.specs.Literals.{Literal}
use Rattle.xor_recover.specs.declared.starts.Start.{Start}
use Rattle.xor_recover.specs.Rows.{Row, shape_cmp}
use Rattle.xor_recover.specs.Starts.{rows_at}

-- the new rows rise by shape, come from the old ones, and each old one has one of its shape with a number not above its own
pub record AreFirsts (old new : List Row) : Type 0 where
  pub sorted : IsStrictlySortedBy shape_cmp new
  pub from : (x : Row) → Contains new x → Contains old x
  pub each : (x : Row) → Contains old x → (y : Row) × Contains new y × (shape_cmp y x ≡ Equal) × (y.number ≤ x.number)

-- how many clauses exclude the wrong assignments
abbrev pub needed : Row → ℕ
needed x = 2 ^ (length x.variables - 1)

abbrev pub same_key : Row → Row → Bool
same_key x y = pointwise nat_eq x.variables y.variables && beq x.right y.right

-- a clause of the same literals
abbrev pub same_shape : Row → Row → Bool
same_shape x y = same_key x y && pointwise beq x.signs y.signs

-- the rows of the first one's key, where they are as many as needed
unfoldable pub group_of : List Row → Option (List Row)
group_of [] = None
group_of (x ∷ xs) = if nat_le (needed x) (length (x ∷ xs)) && same_key (slice_index_or (x ∷ xs) (needed x - 1) x) x then Some (take (needed x) (x ∷ xs)) else None

abbrev pub and_more : Option (List Row) → List (List Row) → List (List Row)
and_more None groups = groups
and_more (Some g) groups = g ∷ groups

unfoldable pub groups_of : List Row → List (List Row)
groups_of [] = []
groups_of (x ∷ xs) = and_more (group_of (x ∷ xs)) (groups_of xs)

-- a find says a group's parity and numbers
pub record SaysGroup (group : List Row) (find : FoundParity) : Type 0 where
  pub first : Row
  pub rest : List Row
  pub is : group ≡ first ∷ rest
  pub parity : find.parity ≡ literals_with first.right first.variables
  pub numbers : IsPermutation (map (λ x. x.number) group) find.clauses
  pub rising : IsNonDecreasing find.clauses

-- what is found where a list of rows begins
abbrev pub IsFoundAt : List Row → Option FoundParity → Type 0
IsFoundAt rows None = group_of rows ≡ None
IsFoundAt rows (Some find) = (g : List Row) × (group_of rows ≡ Some g) × SaysGroup g find

-- the finds of the clauses that start so, after those from before
pub record AddsFound (clauses : List (List Literal)) (run : List Start) (old new : List FoundParity) : Type 0 where
  pub kept : List Row
  pub more : List FoundParity
  pub firsts : AreFirsts (rows_at clauses run) kept
  pub says : AllZip SaysGroup (groups_of kept) more
  pub added : new ≡ old ++ more
  pub few : length more ≤ length run
