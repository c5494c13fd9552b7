use Rattle.gf2_matrix.specs.Stretches.{AreJoined}
use Rattle.gf2_matrix.proofs.row_tables.join_widths.Given as goal

abbrev pub invariant-loop-k : goal.invariant-loop-k
invariant-loop-k l = AreJoined l.initial.bits l.initial.sources l.bits l.sources l.k
