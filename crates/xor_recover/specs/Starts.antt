-- Where clauses start, and the rows of those that start at a place.
use Rattle.std.specs.Prelude.{◌≡◌, ℕ, ◌+◌, ◌-◌, ◌*◌, ◌<◌, ◌≤◌, List, [], length, slice_index_or}
use Rattle.std.specs.List.{AllByRecursion, Contains, flat_map}
use Rattle.cx_base.specs.Literals.{Literal}
use Rattle.xor_recover.specs.declared.starts.Start.{Start}
use Rattle.xor_recover.specs.Rows.{Row, rows_if, gathered}

-- the start has the row's two least variables
abbrev pub Begins : Start → Row → Type 0
Begins s x = (slice_index_or x.variables 0 0 ≡ s.first) × (slice_index_or x.variables 1 0 ≡ s.second)

-- both variables as one number, which is greater where the first or, if that is the same, the second is
abbrev pub pair_of : Start → ℕ
pair_of s = s.first * 4294967296 + s.second

-- the row of the clause with a number, where it has one
abbrev pub row_at : List (List Literal) → ℕ → List Row
row_at clauses n = rows_if (gathered [] (slice_index_or clauses (n - 1) [])) n

-- the rows of the clauses that start so
abbrev pub rows_at : List (List Literal) → List Start → List Row
rows_at clauses starts = flat_map (λ s. row_at clauses s.number) starts

-- the start of a clause
pub record IsStart (clauses : List (List Literal)) (s : Start) : Type 0 where
  pub low : 1 ≤ s.number
  pub high : s.number ≤ length clauses
  pub fits : s.second < 4294967296
  pub begins : AllByRecursion (Begins s) (row_at clauses s.number)

-- starts of clauses, among them that of each clause that has a row
pub record AreStarts (clauses : List (List Literal)) (starts : List Start) : Type 0 where
  pub each : AllByRecursion (IsStart clauses) starts
  pub all : (n : ℕ) → 1 ≤ n → n ≤ length clauses → (x : Row) → Contains (row_at clauses n) x → Contains (rows_at clauses starts) x
  pub few : length starts ≤ length clauses
