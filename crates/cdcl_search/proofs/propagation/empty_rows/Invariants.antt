use Rattle.std.proofs.Common.{◌≢◌, ◌≤◌, ◌-◌, [], List, Option, length}
use Rattle.cx_base.specs.declared.steps.LogEvent.{LogEvent}
use Rattle.parity_engine.specs.declared.state.Mood.TheVariants.{Broken}
use Rattle.cdcl_search.specs.Ties.{SearchStands}
use Rattle.cdcl_search.specs.Finds.{HasSameCounts}
use Rattle.cdcl_search.proofs.propagation.empty_rows.Given as goal

abbrev pub invariant-rows : goal.invariant-rows
invariant-rows g l = record {
  stands : (told : Option (List LogEvent)) → SearchStands l.fn.formula l.fn.state (g.P.ParityEngine.state l.fn.engine) [] told → SearchStands l.fn.formula l.state (g.P.ParityEngine.state l.engine) [] told;
  unbroken : (g.P.ParityEngine.state l.engine).mood ≢ Broken;
  same : HasSameCounts l.fn.state l.state;
  grows : length l.fn.state.trail.entries ≤ length l.state.trail.entries;
}

abbrev pub decreases-rows : goal.decreases-rows
decreases-rows g l = l.fn.formula.variables - length l.state.trail.entries
