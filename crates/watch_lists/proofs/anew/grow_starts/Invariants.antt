use Rattle.std.proofs.Common.{ℕ, ◌<◌, ◌≤◌, ◌-◌}
use Rattle.clause_arena.specs.Clauses.{IsLive}
use Rattle.watch_lists.proofs.anew.grow_starts.Given as goal

abbrev pub invariant-loop-at : goal.invariant-loop-at
invariant-loop-at l = record {
  all : (r : ℕ) → r < l.at → IsLive l.arena r → r < l.end;
  last : 0 < l.end → IsLive l.arena (l.end - 1);
  few : l.end ≤ l.at;
}
