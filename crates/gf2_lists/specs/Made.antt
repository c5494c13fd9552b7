-- Rows made of parities.
use Rattle.std.specs.Prelude.{◌≡◌, ℕ, ◌<◌, Bool, not, List, [], length, slice_index_or}
use Rattle.cx_base.specs.Literals.{Literal}
use Rattle.cx_base.specs.Problem.{AreWithin, parity_met}
use Rattle.parity_engine.specs.Written.{AreRising}
use Rattle.gf2_matrix.specs.Content.{SourcedRow, row_at}
use Rattle.gf2_lists.specs.declared.row.ListedRow.{ListedRow}
use Rattle.gf2_lists.specs.Sums.{excess}
use Rattle.gf2_lists.specs.Listed.{vars_at, right_at}
use Rattle.gf2_lists.specs.Terms.{terms_from}

-- values meet the row where they meet the parity
pub record IsRowOf (lits : List Literal) (vars : List ℕ) (right : Bool) : Type 0 where
  pub rises : (n : ℕ) → AreWithin n lits → AreRising 1 n vars
  pub met : (n : ℕ) → AreWithin n lits → (v : List Bool) → parity_met v lits ≡ not (excess vars right v)

-- the rows of the first n parities
pub record AreRowsOf (parities : List (List Literal)) (rows : List ListedRow) (n : ℕ) : Type 0 where
  pub count : length rows ≡ n
  pub each : (i : ℕ) → i < n → IsRowOf (slice_index_or parities i []) (vars_at rows i) (right_at rows i)

-- the list has the variables of a row over n variables
pub record IsListOf (n : ℕ) (row : SourcedRow) (vars : List ℕ) (right : Bool) : Type 0 where
  pub rises : AreRising 1 n vars
  pub terms : terms_from 1 n vars ≡ row.terms
  pub right_is : right ≡ row.right

-- the lists of the first k rows
pub record AreListsOf (n : ℕ) (given : List SourcedRow) (rows : List ListedRow) (k : ℕ) : Type 0 where
  pub count : length rows ≡ k
  pub each : (i : ℕ) → i < k → IsListOf n (row_at given i) (vars_at rows i) (right_at rows i)
