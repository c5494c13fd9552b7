-- Lists of literals that are kept in one.
use Rattle.std.specs.Prelude.{◌≡◌, ◌+◌, ◌≤◌, ℕ, List, map, length, slice_range, Some}
use Rattle.std.specs.Ordering.{nat_cmp}
use Rattle.std.specs.FinMap as map_
use Rattle.cx_base.specs.Literals.{Literal}
use Rattle.cx_semantics.specs.Tables.{Table}
use Rattle.proof_rules.specs.declared.kept.Span.{Span}

-- the literals of a span
abbrev pub literals_at : List Literal → Span → List Literal
literals_at lits span = slice_range lits span.start (span.start + span.len)

-- under each id the literals of its span
abbrev pub kept_in : List Literal → map_.FinMap nat_cmp Span → Table
kept_in lits spans = map_.from_entries (map (λ e. (e.0, literals_at lits e.1)) (map_.entries spans))

-- each span ends within the literals
abbrev pub AreWithin : List Literal → map_.FinMap nat_cmp Span → Type 0
AreWithin lits spans = (n : ℕ) (span : Span) → map_.get spans n ≡ Some span → span.start + span.len ≤ length lits
