use Rattle.std.proofs.Common.{◌≡◌, ◌≤◌, filter, length, take}
use Rattle.clause_arena.specs.Clauses.{learned_in}
use Rattle.cdcl_core.proofs.tidying.count_learned.Given as goal

abbrev pub invariant-loop-at : goal.invariant-loop-at
invariant-loop-at l = record {
  count : l.count ≡ length (filter learned_in (take l.at l.arena.clauses));
  few : l.count ≤ l.at;
}
