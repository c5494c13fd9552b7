use Rattle.std.proofs.Common.{drop}
use Rattle.rup_engine.proofs.MovingLaws.{AreRenaming}
use Rattle.rup_engine.proofs.moving.rename_all.Given as goal

abbrev pub invariant-loop-place : goal.invariant-loop-place
invariant-loop-place l = AreRenaming l.moves (drop l.place l.moves) l.initial.arena l.arena
