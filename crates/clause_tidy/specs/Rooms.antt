-- What a tidying keeps beside the arena: an index of the clauses, and which pairs are still to be looked at.
use Rattle.std.specs.Prelude.{◌≡◌, ◌+◌, ◌-◌, ◌*◌, ◌<◌, ◌≤◌, ◌⊎◌, ℕ, List, length, Contains}
use Rattle.std.specs.List.{HoldsAt}
use Rattle.clause_arena.specs.Clauses.{ArenaState, IsLive}
use Rattle.clause_tidy.specs.declared.room.Queued.{Queued}
use Rattle.clause_tidy.specs.declared.room.TidyRoom.{TidyRoom}
use Rattle.clause_tidy.specs.Indexes.{IsIndexed}
use Rattle.clause_tidy.specs.Marks.{AreClear}
use Rattle.clause_tidy.specs.Pairs.{Bears}
use Rattle.clause_tidy.specs.Shrinking.{Shrinks}

-- the clause is in the queue, from this place on
abbrev pub IsWaiting : List Queued → ℕ → ℕ → Type 0
IsWaiting queue place p = (j : ℕ) × (place ≤ j) × (j < length queue) × HoldsAt (λ x. x.clause ≡ p) queue j

-- the first clause is an old one that is still to be looked at as a part of new ones, and the second one is new
pub record IsAhead (room : TidyRoom) (p q : ℕ) : Type 0 where
  pub yet : room.passed ≤ p
  pub is_old : p < room.from
  pub is_new : room.from ≤ q

-- The first clause is still to be looked at as a part: it waits for a look at all clauses, or is an old one and the second one is new. Or the look at it has found the second one.
pub data IsDue (room : TidyRoom) (p q : ℕ) : Type 0 where
  in_queue : IsWaiting room.queue.items room.place p → IsDue room p q
  ahead : IsAhead room p q → IsDue room p q
  was_found : p ≡ room.look.part → Contains room.found.items q → IsDue room p q

-- each clause that bears on another is due
abbrev pub AreDue : ArenaState → TidyRoom → Type 0
AreDue a room = (p q : ℕ) → IsLive a q → Bears a p q → IsDue room p q

-- the look, the old clauses, the place and what was found stay
pub record KeepsLook (old new : TidyRoom) : Type 0 where
  pub look : new.look ≡ old.look
  pub first : new.index.first ≡ old.index.first
  pub from : new.from ≡ old.from
  pub passed : new.passed ≡ old.passed
  pub place : new.place ≡ old.place
  pub found : new.found ≡ old.found

-- All clauses of the arena are in the index, the new ones also in its lists, and what is not tidy is due.
pub record IsRoomFor (a : ArenaState) (room : TidyRoom) : Type 0 where
  pub indexed : IsIndexed a room.index.first (length a.clauses) room.index.lists room.index.chosen.items room.index.signatures.items
  pub first : room.index.first ≤ room.from
  pub from : room.from ≤ length a.clauses
  pub marks : length room.look.marks.items ≡ 2 * length room.index.lists
  pub clear : AreClear room.look.marks.items
  pub place : room.place ≤ length room.queue.items
  pub due : AreDue a room

-- it is one for an earlier arena, which had so many references
abbrev pub IsRoomBefore : ArenaState → ℕ → TidyRoom → Type 0
IsRoomBefore b before room = (a : ArenaState) × (before ≡ length a.clauses) × Shrinks a b × IsRoomFor a room

-- how many looks are to come: at old clauses, and at ones that wait
abbrev pub looks_to_come : TidyRoom → ℕ
looks_to_come room = (room.from - room.passed) + (length room.queue.items - room.place)

-- a clause is still to be looked at
abbrev pub HasMore : TidyRoom → Type 0
HasMore room = (room.passed < room.from) ⊎ (room.place < length room.queue.items)
