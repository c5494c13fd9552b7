use Rattle.std.proofs.Common.{take}
use Rattle.plain_tests.specs.Propagating.{AllWait}
use Rattle.plain_tests.proofs.fresh.first_ready.Given as goal

-- the first ones wait
abbrev pub invariant-loop-place : goal.invariant-loop-place
invariant-loop-place l = AllWait l.live.clauses l.known (take l.place l.ids)
