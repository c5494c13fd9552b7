use Rattle.gf2_matrix.specs.Packed.{window}
use Rattle.gf2_matrix.proofs.ByColumns.{AreEntered}
use Rattle.gf2_matrix.proofs.by_column.by_column.Given as goal

abbrev pub invariant-loop-place : goal.invariant-loop-place
invariant-loop-place l = AreEntered (window l.part) l.rows l.sets l.place
