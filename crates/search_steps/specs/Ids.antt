-- Which ids the clauses of a log have: those below a bound are for good, those from it on are of rows' clauses, which go at the next counted conflict.
use Rattle.std.specs.Prelude.{◌≡◌, ℕ, ◌≤◌, ◌<◌, List, length, None, IsFalse}
use Rattle.std.specs.List.{AllByRecursion}
use Rattle.cx_base.specs.Problem.{Problem, clauses_of}
use Rattle.cx_semantics.specs.Marked.{Moment, is_among}
use Rattle.cx_semantics.specs.Tables.{get}
use Rattle.search_steps.specs.Trail.{Entry, by_clause}

-- each clause that is a reason has an id below the bound
abbrev pub ReasonsBelow : ℕ → List Entry → Type 0
ReasonsBelow bound es = AllByRecursion (λ e. (n : ℕ) → e.why ≡ by_clause n → n < bound) es

-- ids from the bound on, below the next one
abbrev pub AreRowIds : ℕ → ℕ → List ℕ → Type 0
AreRowIds bound row_next ids = AllByRecursion (λ n. (bound ≤ n) × (n < row_next)) ids

-- Originals, learned clauses, units and reasons have ids below the bound, clauses of rows have ids from it on; and the ids from `next` to the bound are free, and those from `row_next` on.
pub record IsRanged (formula : Problem) (bound next row_next : ℕ) (trail : List Entry) (m : Moment) : Type 0 where
  pub originals : length (clauses_of formula.constraints) < next
  pub room : next ≤ bound
  pub reasons : ReasonsBelow bound trail
  pub learned : AllByRecursion (λ n. n < bound) m.learned
  pub new_rows : AreRowIds bound row_next m.new_clauses
  pub old_rows : AreRowIds bound row_next m.old_clauses
  pub free : (n : ℕ) → next ≤ n → n < bound → get m.tables.clauses n ≡ None
  pub rows_free : (n : ℕ) → bound ≤ n → IsFalse (is_among m.new_clauses n) → IsFalse (is_among m.old_clauses n) → get m.tables.clauses n ≡ None

-- the ids of sums above this one are free
abbrev pub HasFreeSums : ℕ → Moment → Type 0
HasFreeSums count m = (n : ℕ) → count < n → get m.tables.parities n ≡ None
