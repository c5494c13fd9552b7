use Rattle.std.proofs.Common.{◌≡◌, ◌++◌, map, take, drop}
use Rattle.cx_trail.specs.Forgetting.{forgotten}
use Rattle.cx_trail.proofs.forgetting.forget_entries.Given as goal

abbrev pub invariant-loop-place : goal.invariant-loop-place
invariant-loop-place l = l.entries.items ≡ map forgotten (take l.place l.fn.entries.items) ++ drop l.place l.fn.entries.items
