use Rattle.std.proofs.Common.{◌≤◌, take}
use Rattle.cx_semantics.specs.Marked.{EventsFit}
use Rattle.plain_tests.specs.Marking.{moment_of}
use Rattle.plain_tests.proofs.marked.events_fit.Given as goal

abbrev pub invariant-loop-place : goal.invariant-loop-place
invariant-loop-place l = record {
  fit : EventsFit l.formula (moment_of l.fn.told) (take l.place l.events) (moment_of l.told);
  few : l.told.reductions ≤ l.place;
}
