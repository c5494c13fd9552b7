use Rattle.std.proofs.Common.{◌≡◌, ◌++◌, map, take, drop}
use Rattle.cx_trail.specs.Renaming.{renamed}
use Rattle.cx_trail.proofs.renaming.rename_entries.Given as goal

abbrev pub invariant-loop-place : goal.invariant-loop-place
invariant-loop-place l = l.entries.items ≡ map (renamed l.moved) (take l.place l.fn.entries.items) ++ drop l.place l.fn.entries.items
