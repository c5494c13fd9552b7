use Rattle.rup_finder.proofs.ReadyLaws.{HoldsUpTo}
use Rattle.rup_finder.proofs.ready.put_all_live.Given as goal

abbrev pub invariant-loop-id : goal.invariant-loop-id
invariant-loop-id l = HoldsUpTo l.live.clauses l.ids l.id-index l.engine
