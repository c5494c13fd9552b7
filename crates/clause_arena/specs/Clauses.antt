-- The arena as its callers see it: a finite map from references to clauses, and the room.
use Rattle.std.specs.Prelude.{ℕ, Bool, false, List, [], get_or, Option, None, Some, IsSome}
use Rattle.cx_base.specs.Literals.{Literal}

pub record Stored : Type 0 where
  pub literals : List Literal
  pub id : ℕ
  pub lbd : ℕ
  pub learned : Bool

-- the clause of reference r is at place r: a reference that was removed is None, and is never handed out again
pub record ArenaState : Type 0 where
  pub clauses : List (Option Stored)
  pub clause_room : ℕ
  pub literal_room : ℕ

abbrev pub clause_at : ArenaState → ℕ → Option Stored
clause_at a r = get_or a.clauses r None

abbrev pub IsLive : ArenaState → ℕ → Type 0
IsLive a r = IsSome (clause_at a r)

abbrev pub literals_in : Option Stored → List Literal
literals_in None = []
literals_in (Some c) = c.literals

-- the literals of the clause of reference r
abbrev pub literals_at : ArenaState → ℕ → List Literal
literals_at a r = literals_in (clause_at a r)

abbrev pub id_in : Option Stored → ℕ
id_in None = 0
id_in (Some c) = c.id

abbrev pub lbd_in : Option Stored → ℕ
lbd_in None = 0
lbd_in (Some c) = c.lbd

abbrev pub learned_in : Option Stored → Bool
learned_in None = false
learned_in (Some c) = c.learned

-- what is known of the clause of reference r
abbrev pub id_at : ArenaState → ℕ → ℕ
id_at a r = id_in (clause_at a r)

abbrev pub lbd_at : ArenaState → ℕ → ℕ
lbd_at a r = lbd_in (clause_at a r)

abbrev pub learned_at : ArenaState → ℕ → Bool
learned_at a r = learned_in (clause_at a r)

-- the clause as one that was not learned
abbrev pub kept : Option Stored → Option Stored
kept None = None
kept (Some c) = Some (record c { learned = false })

-- the clause under another id
abbrev pub renamed : ℕ → Option Stored → Option Stored
renamed id None = None
renamed id (Some c) = Some (record c { id = id })

-- the clause with another lbd
abbrev pub with_lbd : ℕ → Option Stored → Option Stored
with_lbd lbd None = None
with_lbd lbd (Some c) = Some (record c { lbd = lbd })
