use Rattle.std.proofs.Common.{ℕ, List, ◌≡◌, ◌≤◌, ◌-◌, ◌^◌}
use Rattle.fratx_elab.specs.Ends.{IsReady}
use Rattle.fratx_elab.specs.Outcomes.{Kept}
use Rattle.fratx_elab.specs.Takes.{HasRoom}
use Rattle.fratx_elab.proofs.elaboration.Elaboration.take_all.Given as goal

abbrev pub invariant-loop-steps : goal.invariant-loop-steps
invariant-loop-steps g l = record {
  kept : (text : List ℕ) → g.E.ElabEnds.view.may_read l.ends text → Kept (λ a. g.E.ElabEnds.view.leaves a text) g.E.ElabEnds.view.steps g.E.ElabEnds.view.torn l.self.formula.now l.initial.ends l.ends l.state l.steps;
  narrows : (text : List ℕ) → g.E.ElabEnds.view.may_read l.ends text → g.E.ElabEnds.view.may_read l.initial.ends text;
  room : HasRoom l.state l.steps;
  ready : IsReady g.E.ElabEnds.view l.ends;
  reads : g.E.ElabEnds.view.read_faults l.ends ≡ g.E.ElabEnds.view.read_faults l.initial.ends;
  writes : g.E.ElabEnds.view.write_faults l.ends ≡ g.E.ElabEnds.view.write_faults l.initial.ends;
  failed : g.E.ElabEnds.view.has_failed l.ends ≡ g.E.ElabEnds.view.has_failed l.initial.ends;
  few : l.steps ≤ g.E.ElabEnds.view.place l.ends;
  far : l.steps ≤ 2 ^ 62;
  limit : (text : List ℕ) → g.E.ElabEnds.view.may_read l.ends text → g.E.ElabEnds.view.passes_limit l.ends text ≡ g.E.ElabEnds.view.passes_limit l.initial.ends text;
  frame : g.E.ElabEnds.view.keeps l.initial.ends l.ends;
}

abbrev pub decreases-loop-steps : goal.decreases-loop-steps
decreases-loop-steps g l = 2 ^ 62 - g.E.ElabEnds.view.place l.ends
