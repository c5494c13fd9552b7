use Rattle.std.proofs.Common.{◌≡◌, ℕ, ◌<◌, ◌≤◌, length}
use Rattle.clause_arena.specs.Clauses.{IsLive}
use Rattle.clause_tidy.specs.Indexes.{IsIndexed}
use Rattle.clause_tidy.specs.Rooms.{IsWaiting, KeepsLook}
use Rattle.clause_tidy.proofs.room.TidyRoom.fill.Given as goal

-- the first ones are in the index, and the new ones of them wait
abbrev pub invariant-loop-place : goal.invariant-loop-place
invariant-loop-place l = record {
  indexed : IsIndexed l.arena l.self.index.first l.place l.self.index.lists l.self.index.chosen.items l.self.index.signatures.items;
  lists : length l.self.index.lists ≡ length l.fn.self.index.lists;
  waits : (p : ℕ) → p < l.place → l.fn.self.from ≤ p → IsLive l.arena p → IsWaiting l.self.queue.items 0 p;
  keeps : KeepsLook l.fn.self l.self;
}
