-- Reasons whose clauses have new references.
use Rattle.std.specs.Prelude.{ℕ, zero, suc, List, Option, None, Some}
use Rattle.cx_base.specs.declared.moved.Move.{Move}
use Rattle.cx_base.specs.Moved.{moved_to}
use Rattle.cx_trail.specs.declared.entry.Entry.{Entry}
use Rattle.cx_trail.specs.declared.entry.Reason.{Reason}
use Rattle.cx_trail.specs.declared.entry.Reason.TheVariants.{Decision, Clause, Row}

-- the clause under its new reference; at level 0 a clause that has none is no reason any more
abbrev pub clause_under : Option ℕ → ℕ → ℕ → Reason
clause_under (Some s) level r = Clause s
clause_under None zero r = Decision
clause_under None (suc level) r = Clause r

-- the reason of a literal of this level
abbrev pub renamed_reason : List Move → ℕ → Reason → Reason
renamed_reason moves level Decision = Decision
renamed_reason moves level (Clause r) = clause_under (moved_to moves r) level r
renamed_reason moves level (Row row) = Row row

-- the entry with the new reference of its reason's clause
abbrev pub renamed : List Move → Entry → Entry
renamed moves e = record { literal = e.literal; level = e.level; reason = renamed_reason moves e.level e.reason }
