-- Entries as rows, and places of literals.
use Rattle.std.specs.Prelude.{◌≡◌, ◌≤◌, List, ◌∷◌, ◌++◌, length, take, drop, Some, None}
use Rattle.cx_base.specs.Literals.{Literal}
use Rattle.xor_recover.specs.declared.entry.ClauseEntry.{ClauseEntry}
use Rattle.xor_recover.specs.declared.gathering.Position.{Position}
use Rattle.xor_recover.specs.declared.gathering.Position.TheVariants as position
use Rattle.xor_recover.specs.Rows.{Row, inserted}

abbrev pub row_of : ClauseEntry → Row
row_of e = record { variables = e.key.vars.items; right = e.key.right; signs = e.signs.items; number = e.number }

-- where the literal belongs among literals of rising variables
abbrev pub IsPosition : Position → Literal → List Literal → Type 0
IsPosition (position.New n) l ms = (n ≤ length ms) × (inserted l ms ≡ Some (take n ms ++ l ∷ drop n ms))
IsPosition position.Same l ms = inserted l ms ≡ Some ms
IsPosition position.Negated l ms = inserted l ms ≡ None
