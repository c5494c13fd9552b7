use Rattle.rup_engine.proofs.EnterLaws.{IsTurnedUpTo}
use Rattle.rup_engine.proofs.enter.put_behind.Given as goal

abbrev pub invariant-loop-lit : goal.invariant-loop-lit
invariant-loop-lit l = IsTurnedUpTo l.first l.second l.lits l.row.items l.lit-index
