use Rattle.rup_finder.specs.Recent.{IsRecent}
use Rattle.rup_finder.proofs.recent.put_all_used.Given as goal

abbrev pub invariant-loop-id : goal.invariant-loop-id
invariant-loop-id l = IsRecent l.live.clauses l.engine
