use Rattle.conflict_learn.specs.Marks.{AreClear}
use Rattle.cdcl_core.specs.Grading.{IsGraded}
use Rattle.cdcl_core.proofs.grading.grade_resolved.Given as goal

abbrev pub invariant-loop-step : goal.invariant-loop-step
invariant-loop-step l = record {
  graded : IsGraded l.fn.state l.state;
  clear : AreClear l.marks;
}
