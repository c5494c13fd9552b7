-- Where a clause has a free literal.
use Rattle.std.specs.Prelude.{ℕ, ◌<◌, ◌≢◌, List, length}
use Rattle.cx_base.specs.Literals.{Literal}
use Rattle.cx_trail.specs.declared.entry.Entry.{Entry}
use Rattle.cx_trail.specs.Sequence.{IsFalseIn}
use Rattle.watch_lists.specs.Attaching.{literal_at}

-- the clause has a literal at the place, which is not false and not other
pub record IsFreeAt (entries : List Entry) (lits : List Literal) (other : Literal) (place : ℕ) : Type 0 where
  pub inside : place < length lits
  pub apart : literal_at lits place ≢ other
  pub free : IsFalseIn entries (literal_at lits place) → ⊥
