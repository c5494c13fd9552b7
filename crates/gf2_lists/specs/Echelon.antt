-- Rows in echelon form that say what parities say.
use Rattle.std.specs.Prelude.{◌≡◌, ℕ, ◌<◌, ◌^◌, Bool, List, length, IsTrue}
use Rattle.std.specs.List.{list_all, AllByRecursion}
use Rattle.cx_base.specs.Literals.{Literal}
use Rattle.cx_base.specs.Problem.{AreWithin, parity_met}
use Rattle.gf2_matrix.specs.Content.{Content, row_at, equation, IsInColumns, IsEchelonRow}
use Rattle.gf2_matrix.specs.Totals.{MeetsEquation}
use Rattle.gf2_lists.specs.declared.row.ListedRow.{ListedRow}
use Rattle.gf2_lists.specs.Listed.{AreListed, AllMet, HasOwnFirst}

-- rows over n variables that together say what the parities say, each with its first variable to itself
pub record AreEchelonOf (n : ℕ) (parities : List (List Literal)) (rows : List ListedRow) : Type 0 where
  pub few : length rows < 2 ^ 32
  pub listed : AreListed n rows
  pub sound : (v : List Bool) → length v ≡ n → IsTrue (list_all (parity_met v) parities) → AllMet rows v
  pub complete : (v : List Bool) → length v ≡ n → AllMet rows v → IsTrue (list_all (parity_met v) parities)
  pub own : (r : ℕ) → r < length rows → HasOwnFirst rows r

-- the rows together say what the given parities say, which are over the variables
pub record SayGiven (c : Content) : Type 0 where
  pub within : AllByRecursion (AreWithin c.vars) c.given
  pub in_columns : (i : ℕ) → i < length c.rows → IsInColumns c.columns (row_at c.rows i)
  pub long : (i : ℕ) → i < length c.rows → length (row_at c.rows i).terms ≡ c.vars
  pub sound : (v : List Bool) → length v ≡ c.vars → IsTrue (list_all (parity_met v) c.given) → (i : ℕ) → i < length c.rows → MeetsEquation v (equation (row_at c.rows i))
  pub complete : (v : List Bool) → length v ≡ c.vars → ((i : ℕ) → i < length c.rows → MeetsEquation v (equation (row_at c.rows i))) → IsTrue (list_all (parity_met v) c.given)

-- fewer than 2^32 rows over the parities, each with its least variable to itself
pub record IsEchelonOf (vars : ℕ) (parities : List (List Literal)) (c : Content) : Type 0 where
  pub vars_are : c.vars ≡ vars
  pub given_are : c.given ≡ parities
  pub few : length c.rows < 2 ^ 32
  pub say : SayGiven c
  pub echelon : (r : ℕ) → r < length c.rows → IsEchelonRow c r
