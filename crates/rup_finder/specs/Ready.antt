-- An engine that is ready for a search.
use Rattle.std.specs.Prelude.{List, Option, Some, None}
use Rattle.cx_base.specs.Literals.{Literal}
use Rattle.cx_semantics.specs.Tables.{Table}
use Rattle.rup_engine.specs.Standing.{IsWithin}
use Rattle.rup_engine.specs.Finding.{IsAtRest, Holds}
use Rattle.rup_engine.specs.declared.engine.Engine.{Engine}

-- it holds the table's clauses, if there is one
abbrev pub IsReady : Table → Option Engine → Type 0
IsReady table None = Unit {0}
IsReady table (Some e) = IsAtRest e × Holds table e

-- and has room for the target's variables
abbrev pub IsReadyFor : Table → List Literal → Option Engine → Type 0
IsReadyFor table target None = Unit {0}
IsReadyFor table target (Some e) = IsAtRest e × Holds table e × IsWithin e.limit target
