-- Literals of level 0 whose reasons are forgotten.
use Rattle.std.specs.Prelude.{ℕ, zero, suc}
use Rattle.cx_trail.specs.declared.entry.Entry.{Entry}
use Rattle.cx_trail.specs.declared.entry.Reason.{Reason}
use Rattle.cx_trail.specs.declared.entry.Reason.TheVariants.{Decision}

-- the reason that is left of a literal of this level: none at level 0
abbrev pub forgotten_reason : ℕ → Reason → Reason
forgotten_reason zero r = Decision
forgotten_reason (suc level) r = r

abbrev pub forgotten : Entry → Entry
forgotten e = record { literal = e.literal; level = e.level; reason = forgotten_reason e.level e.reason }
