use Rattle.std.proofs.Common.{ℕ, List, ◌≡◌, ◌≤◌, ◌-◌, ◌^◌, false}
use Rattle.xlrup_check.specs.Verdicts.{Kept}
use Rattle.xlrup_check.proofs.checker.take_all.Given as goal

abbrev pub invariant-loop-steps : goal.invariant-loop-steps
invariant-loop-steps g l = record {
  kept : Kept g.S.StepSource.may_read g.S.StepSource.leaves g.R.Recorder.told l.formula l.initial.source l.initial.recorder l.source l.recorder l.checking.live l.steps;
  fresh : g.S.StepSource.is_spent l.source ≡ false;
  faults : g.S.StepSource.faults l.source ≡ g.S.StepSource.faults l.initial.source;
  few : l.steps ≤ g.S.StepSource.place_of l.source;
  far : l.steps ≤ 2 ^ 62;
  limit : (text : List ℕ) → g.S.StepSource.may_read l.source text → g.S.StepSource.passes_limit l.source text ≡ g.S.StepSource.passes_limit l.initial.source text;
  frame : g.S.StepSource.keeps l.initial.source l.source;
}

abbrev pub decreases-loop-steps : goal.decreases-loop-steps
decreases-loop-steps g l = 2 ^ 62 - g.S.StepSource.place_of l.source
