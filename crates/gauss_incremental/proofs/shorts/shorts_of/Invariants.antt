use Rattle.std.specs.List.{AllByRecursion}
use Rattle.gauss_incremental.specs.ShortFirst.{IsShort}
use Rattle.gauss_incremental.proofs.shorts.shorts_of.Given as goal

abbrev pub invariant-loop-place : goal.invariant-loop-place
invariant-loop-place l = AllByRecursion (IsShort l.vars l.parities) l.shorts.items
