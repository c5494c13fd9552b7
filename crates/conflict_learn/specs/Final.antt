-- What is left of a clause when its literals are traced to decisions.
use Rattle.std.specs.Prelude.{◌≡◌, ℕ, ◌<◌, List, [], ◌∷◌, ◌++◌, Option, Some, None}
use Rattle.std.specs.List.{AllByRecursion}
use Rattle.cx_base.specs.Literals.{Literal}
use Rattle.cx_trail.specs.declared.entry.Reason.TheVariants.{Decision}
use Rattle.cx_trail.specs.Sequence.{TrailState, StandsAt, entry_at}
use Rattle.conflict_learn.specs.declared.learning.Resolved.{Resolved}
use Rattle.conflict_learn.specs.Learning.{negated_at, level_at, IsFalling, Follows}

-- the literal is on the trail below a place
abbrev pub StandsBelow : TrailState → ℕ → Literal → Type 0
StandsBelow trail below l = (p : ℕ) × (p < below) × StandsAt trail.entries l p

-- the literal at the place was decided
abbrev pub IsDecidedAt : TrailState → ℕ → Type 0
IsDecidedAt trail p = (0 < level_at trail p) × ((entry_at trail.entries p).reason ≡ Decision)

-- the literal that is kept, where there is one
abbrev pub kept_in : Option Literal → List Literal
kept_in None = []
kept_in (Some l) = l ∷ []

-- The kept literal, and after it the negations of literals that were decided below the place, from the newest to the oldest. It follows from the clause and those that implied the resolved literals.
pub record IsFinal (trail : TrailState) (below : ℕ) (kept : Option Literal) (clause : List Literal) (holds : List Literal → ℕ → Type 0) (resolved : List Resolved) (lits : List Literal) : Type 0 where
  pub places : List ℕ
  pub are : lits ≡ kept_in kept ++ negated_at trail places
  pub falling : IsFalling places
  pub within : AllByRecursion (λ p. p < below) places
  pub decided : AllByRecursion (IsDecidedAt trail) places
  pub follows : Follows trail clause holds resolved lits
