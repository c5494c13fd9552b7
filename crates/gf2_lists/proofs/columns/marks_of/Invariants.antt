use Rattle.gf2_lists.specs.Occurring.{HasMarks}
use Rattle.gf2_lists.proofs.columns.marks_of.Given as goal

abbrev pub invariant-loop-row : goal.invariant-loop-row
invariant-loop-row l = HasMarks l.fn.vars l.rows l.marks.items l.row-index
