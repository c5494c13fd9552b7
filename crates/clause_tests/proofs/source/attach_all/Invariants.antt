use Rattle.watch_lists.specs.Watching.{Fits}
use Rattle.clause_tests.proofs.source.attach_all.Given as goal

abbrev pub invariant-loop-place : goal.invariant-loop-place
invariant-loop-place l = Fits l.watches l.arena l.trail
