-- What an engine keeps between two calls, said of its state.
use Rattle.std.specs.Prelude.{◌≡◌, ◌≢◌, ℕ, ◌+◌, ◌-◌, ◌<◌, ◌≤◌, ◌⊎◌, true, false, List, length, slice_index, slice_index_or, Some, None}
use Rattle.std.specs.List.{AllByRecursion}
use Rattle.cx_base.specs.Problem.{AreWithin}
use Rattle.parity_engine.specs.Equations.{sum_of_numbers}
use Rattle.parity_engine.specs.declared.state.Held.{Held}
use Rattle.parity_engine.specs.declared.state.Mood.TheVariants.{Calm, Broken}
use Rattle.parity_engine.specs.State.{State, Named, is_unassigned, IsSilent, IsBroken}
use Rattle.parity_engine.specs.Written.{AreRising}
use Rattle.gauss_jordan.specs.System.{has_at}
use Rattle.parity_engine.specs.Settled.{IsSettledBelow}

-- row number k is kept for the variable of column k, and one more row for contradictions
abbrev pub column_at : List ℕ → ℕ → ℕ
column_at columns k = slice_index columns k - 1

-- the variable at x was assigned at a level at most `level`
abbrev pub IsHeldBy : State → ℕ → ℕ → Type 0
IsHeldBy s level x = (h : Held) × (slice_index_or s.values x None ≡ Some h) × (h.level ≤ level)

-- the row is the sum of its sources
abbrev pub IsSummed : State → Named → Type 0
IsSummed s n = AreRising 1 (length s.parities) n.sources × (n.form ≡ sum_of_numbers s.parities n.sources)

-- the row was named now for the variable at x, which is not assigned yet
abbrev pub IsPending : State → Named → ℕ → Type 0
IsPending s n x =
    (n.level ≡ s.level) × (slice_index_or s.values x None ≡ None)
    × ((y : ℕ) → y ≢ x → has_at n.form y ≡ true → is_unassigned (slice_index_or s.values y None) ≡ false)

-- a row that was named for the variable at x
pub record IsReason (s : State) (n : Named) (x : ℕ) : Type 0 where
  pub in_conflict : n.in_conflict ≡ false
  pub level : n.level ≤ s.level
  pub within_vars : x < s.vars
  pub has : has_at n.form x ≡ true
  pub summed : IsSummed s n
  pub stands : IsHeldBy s n.level x ⊎ IsPending s n x

pub record IsRightState (columns : List ℕ) (s : State) : Type 0 where
  pub within : AllByRecursion (AreWithin s.vars) s.parities
  pub wide : length s.values ≡ s.vars
  pub rows : length s.named ≡ length columns + 1
  pub levels : (x : ℕ) (h : Held) → slice_index_or s.values x None ≡ Some h → h.level ≤ s.level
  pub settled : IsSettledBelow s
  pub reasons : (k : ℕ) (n : Named) → k < length columns → slice_index_or s.named k None ≡ Some n → IsReason s n (column_at columns k)
  pub clash : (n : Named) → slice_index_or s.named (length columns) None ≡ Some n → s.mood ≡ Broken
  pub broken : s.mood ≡ Broken
      → (n : Named) × (slice_index_or s.named (length columns) None ≡ Some n) × (n.in_conflict ≡ true) × (n.level ≡ s.level) × IsSummed s n × IsBroken s n.form
  pub calm : s.mood ≡ Calm → IsSilent s
