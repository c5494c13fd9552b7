use Rattle.std.proofs.Common.{◌≡◌, ◌≤◌, length}
use Rattle.clause_tidy.specs.Indexes.{IsIndexed}
use Rattle.clause_tidy.proofs.index.Index.complete.Given as goal

-- the clauses from here on are in the lists
abbrev pub invariant-loop-self : goal.invariant-loop-self
invariant-loop-self l = record {
  within : l.self.first ≤ length l.arena.clauses;
  indexed : IsIndexed l.arena l.self.first (length l.arena.clauses) l.self.lists l.self.chosen.items l.self.signatures.items;
  lists : length l.self.lists ≡ length l.fn.self.lists;
}

abbrev pub decreases-loop-self : goal.decreases-loop-self
decreases-loop-self l = l.self.first
