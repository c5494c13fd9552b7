use Rattle.watch_lists.specs.Watching.{Fits}
use Rattle.clause_tests.proofs.acts.take_all.Given as goal

abbrev pub invariant-loop-act : goal.invariant-loop-act
invariant-loop-act l = Fits l.watches l.arena l.trail
