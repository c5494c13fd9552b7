use Rattle.gf2_lists.specs.Made.{AreListsOf}
use Rattle.gf2_lists.proofs.unpacked.unpacked.Given as goal

abbrev pub invariant-loop-row : goal.invariant-loop-row
invariant-loop-row l = AreListsOf l.matrix.vars l.matrix.rows l.rows.items l.row
