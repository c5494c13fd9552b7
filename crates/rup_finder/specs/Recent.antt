-- An engine over some of the live clauses.
use Rattle.std.specs.Prelude.{◌≡◌, ℕ, List, Option, Some, None}
use Rattle.cx_base.specs.Literals.{Literal}
use Rattle.cx_semantics.specs.Tables.{Table, get}
use Rattle.rup_engine.specs.Finding.{IsAtRest, Holds}
use Rattle.rup_engine.specs.declared.engine.Engine.{Engine}

-- what the part has, the table has too
abbrev pub IsPartOf : Table → Table → Type 0
IsPartOf part table = (id : ℕ) (lits : List Literal) → get part id ≡ Some lits → get table id ≡ Some lits

-- its clauses are some of the table's
pub record HoldsSome (table : Table) (e : Engine) : Type 0 where
  pub part : Table
  pub inside : IsPartOf part table
  pub holds : Holds part e

-- it holds some of the table's clauses, if there is one
abbrev pub IsRecent : Table → Option Engine → Type 0
IsRecent table None = Unit {0}
IsRecent table (Some e) = IsAtRest e × HoldsSome table e
