-- Marks of variables.
use Rattle.std.specs.Prelude.{◌≡◌, ℕ, ◌<◌, ◌≤◌, Bool, false, List, get_or, IsTrue, IsFalse}
use Rattle.cx_trail.specs.Sequence.{TrailState}
use Rattle.conflict_learn.specs.Learning.{literal_at}

abbrev pub is_marked : List Bool → ℕ → Bool
is_marked marks v = get_or marks v false

-- no variable is marked
abbrev pub AreClear : List Bool → Type 0
AreClear marks = (v : ℕ) → IsFalse (is_marked marks v)

-- each marked variable is on the trail, from the first place on and below the second
abbrev pub StandBetween : TrailState → List Bool → ℕ → ℕ → Type 0
StandBetween trail marks from below = (v : ℕ) → IsTrue (is_marked marks v) → (q : ℕ) × (from ≤ q) × (q < below) × ((literal_at trail q).variable ≡ v)
