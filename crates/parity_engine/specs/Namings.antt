-- Which rows events named, by level.
use Rattle.std.specs.Prelude.{ℕ, not, cond, ◌&&◌, nat_le, Option, Some, None}
use Rattle.parity_engine.specs.declared.state.Naming.{Naming}

-- a row that was named in an Implied at a level at most `level`
abbrev pub keep_naming : ℕ → Option Naming → Option Naming
keep_naming level None = None
keep_naming level (Some n) = cond (not n.in_conflict && nat_le n.level level) (Some n) None
