use Rattle.std.proofs.Common.{◌≡◌, true, length}
use Rattle.cx_semantics.specs.Chain.{is_inside, negations}
use Rattle.plain_tests.specs.Propagating.{Follow}
use Rattle.plain_tests.proofs.Saturating.{IsSeen}
use Rattle.plain_tests.proofs.fresh.saturate.Given as goal

abbrev pub invariant-loop-ready : goal.invariant-loop-ready
invariant-loop-ready l = record {
  follow : Follow l.live.clauses (negations l.lits) l.known;
  has_given : is_inside (negations l.lits) l.known ≡ true;
  seen : IsSeen l.live.clauses l.known l.waiting.items;
}

abbrev pub decreases-loop-ready : goal.decreases-loop-ready
decreases-loop-ready l = length l.waiting.items
