-- The solutions as a point and vectors.
use Rattle.std.specs.Prelude.{◌≡◌, ◌≢◌, ℕ, ◌<◌, Bool, true, false, cond, List, [], ◌∷◌, length, slice_index, slice_index_or, Option, Some, None}
use Rattle.std.specs.Simd.Lanes.{zip2}
use Rattle.cx_base.specs.Literals.{Literal, differ, value_of}
use Rattle.cx_base.specs.ExactlyOne.{ExactlyOne}
use Rattle.parity_engine.specs.Written.{AreRising}
use Rattle.gf2_space.specs.Solutions.{Solves, IsFree}

-- parities over a number of variables, some of these, a list of values, and lists of values to add to it
pub record AffineSpace : Type 0 where
  pub vars : ℕ
  pub parities : List (List Literal)
  pub free : List ℕ
  pub point : List Bool
  pub vectors : List (List Bool)

-- the sum of two lists, position by position modulo two
abbrev pub plus : List Bool → List Bool → List Bool
plus a b = zip2 differ a b

-- what arises from the point by adding the chosen vectors
abbrev pub arising : List Bool → List (List Bool) → List Bool → List Bool
arising point [] chosen = point
arising point (v ∷ vs) [] = point
arising point (v ∷ vs) (c ∷ cs) = cond c (plus v (arising point vs cs)) (arising point vs cs)

-- the value of variable x in the vector at i, from 0
abbrev pub vector_value : List (List Bool) → ℕ → ℕ → Bool
vector_value vectors i x = value_of (slice_index_or vectors i []) x

-- a set of vectors from which the values arise
abbrev pub IsChoiceFor : AffineSpace → List Bool → List Bool → Type 0
IsChoiceFor s values chosen = (length chosen ≡ length s.vectors) × (arising s.point s.vectors chosen ≡ values)

-- the free variables, rising; the solution that has them false; and for each a vector that has it, no other free
-- one, and none above it: so that just the solutions arise, each from one set of vectors
pub record IsSpaceOf (vars : ℕ) (parities : List (List Literal)) (s : AffineSpace) : Type 0 where
  pub vars_are : s.vars ≡ vars
  pub parities_are : s.parities ≡ parities
  pub rising : AreRising 1 vars s.free
  pub are_free : (i : ℕ) → i < length s.free → IsFree vars parities (slice_index s.free i)
  pub all_free : (x : ℕ) → IsFree vars parities x → (i : ℕ) × (i < length s.free) × (slice_index s.free i ≡ x)
  pub point_solves : Solves vars parities s.point
  pub point_false : (i : ℕ) → i < length s.free → value_of s.point (slice_index s.free i) ≡ false
  pub one_each : length s.vectors ≡ length s.free
  pub own : (i : ℕ) → i < length s.free → vector_value s.vectors i (slice_index s.free i) ≡ true
  pub no_other : (i j : ℕ) → i < length s.free → j < length s.free → j ≢ i → vector_value s.vectors i (slice_index s.free j) ≡ false
  pub none_above : (i x : ℕ) → i < length s.free → slice_index s.free i < x → vector_value s.vectors i x ≡ false
  pub all_solve : (chosen : List Bool) → length chosen ≡ length s.vectors → Solves vars parities (arising s.point s.vectors chosen)
  pub each_once : (values : List Bool) → Solves vars parities values → ExactlyOne (IsChoiceFor s values)

-- the space of the parities, or none where they have no solution
abbrev pub Describes : ℕ → List (List Literal) → Option AffineSpace → Type 0
Describes vars parities None = (values : List Bool) → ¬ Solves vars parities values
Describes vars parities (Some s) = IsSpaceOf vars parities s
