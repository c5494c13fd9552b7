use Rattle.std.proofs.Common.{◌-◌, length}
use Rattle.gf2_lists.proofs.MadeLaws.{Taken}
use Rattle.gf2_lists.proofs.unpacked.literals_of.Given as goal

abbrev pub invariant-loop-column : goal.invariant-loop-column
invariant-loop-column l = Taken l.matrix l.row l.lits.items l.from

abbrev pub decreases-loop-column : goal.decreases-loop-column
decreases-loop-column l = length l.matrix.columns - l.from
