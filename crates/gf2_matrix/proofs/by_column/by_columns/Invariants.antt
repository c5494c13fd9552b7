use Rattle.std.proofs.Common.{map}
use Rattle.gf2_matrix.specs.Packed.{window}
use Rattle.gf2_matrix.specs.ByColumn.{AreByColumn}
use Rattle.gf2_matrix.proofs.by_column.by_columns.Given as goal

abbrev pub invariant-loop-p : goal.invariant-loop-p
invariant-loop-p l = AreByColumn (map window l.parts) l.rows l.all.items l.p
