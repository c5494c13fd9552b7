-- What an analysis touches.
use Rattle.std.specs.Prelude.{◌≡◌, ℕ, ◌<◌, ◌≤◌, Bool, ◌||◌, List, [], ◌∷◌, ◌++◌, map, length, nat_lt, if◌then◌else◌, Option, IsTrue, IsFalse, ◌⊎◌}
use Rattle.std.specs.List.{AllByRecursion}
use Rattle.cx_base.specs.Literals.{Literal, negate, same_literal}
use Rattle.cx_semantics.specs.Chain.{has_literal}
use Rattle.cx_trail.specs.declared.entry.Entry.{Entry}
use Rattle.cx_trail.specs.Sequence.{TrailState}
use Rattle.conflict_learn.specs.Learning.{skips, literal_at, level_at, has_place, IsFalling}
use Rattle.conflict_learn.specs.Marks.{is_marked}

-- what was marked stays so, and the variable of each literal but the skipped one is marked
pub record Touched (skip : Option Literal) (old new : List Bool) (literals : List Literal) : Type 0 where
  pub size : length new ≡ length old
  pub keeps : (v : ℕ) → IsTrue (is_marked old v) → IsTrue (is_marked new v)
  pub has : (m : Literal) → IsTrue (has_literal literals m) → IsFalse (skips skip m) → IsTrue (is_marked new m.variable)

-- the touched variables and, after them, that of a literal above level 0
abbrev pub touched_with : Entry → List ℕ → List ℕ
touched_with e touched = if nat_lt 0 e.level then touched ++ e.literal.variable ∷ [] else touched

-- the newest place below one whose variable is marked, not before the lowest
pub record IsLastMarked (trail : TrailState) (marks : List Bool) (from lowest p : ℕ) : Type 0 where
  pub low : lowest ≤ p
  pub below : p < from
  pub marked : IsTrue (is_marked marks (literal_at trail p).variable)
  pub others : (q : ℕ) → p < q → q < from → IsFalse (is_marked marks (literal_at trail q).variable)

-- no variable of a literal between the places is marked
abbrev pub NoneIsMarked : TrailState → List Bool → ℕ → ℕ → Type 0
NoneIsMarked trail marks lowest from = (q : ℕ) → lowest ≤ q → q < from → IsFalse (is_marked marks (literal_at trail q).variable)

-- the literal has a marked variable, or is false at level 0
abbrev pub IsMarkedOrFixed : TrailState → List Bool → Literal → Type 0
IsMarkedOrFixed trail marks m = IsTrue (is_marked marks m.variable) ⊎ ((q : ℕ) × (q < length trail.entries) × (literal_at trail q ≡ negate m) × (level_at trail q ≡ 0))

-- so it is with each other literal of the clause
abbrev pub IsCovered : TrailState → List Bool → Literal → List Literal → Type 0
IsCovered trail marks l clause = (m : Literal) → IsTrue (has_literal clause m) → IsFalse (same_literal l m) → IsMarkedOrFixed trail marks m

-- the learned clause has the negation of the literal at the place, or that literal was resolved
abbrev pub is_met : TrailState → List Literal → List Literal → ℕ → Bool
is_met trail resolved lits q = has_literal lits (negate (literal_at trail q)) || has_literal resolved (literal_at trail q)

-- the variables of the learned clause and of the resolved literals above level 0, each once, from the newest to the oldest
pub record AreTouched (trail : TrailState) (resolved lits : List Literal) (touched : List ℕ) : Type 0 where
  pub places : List ℕ
  pub are : touched ≡ map (λ p. (literal_at trail p).variable) places
  pub falling : IsFalling places
  pub within : AllByRecursion (λ p. p < length trail.entries) places
  pub only : (q : ℕ) → IsTrue (has_place places q) → (0 < level_at trail q) × IsTrue (is_met trail resolved lits q)
  pub all : (q : ℕ) → q < length trail.entries → 0 < level_at trail q → IsTrue (is_met trail resolved lits q) → IsTrue (has_place places q)
