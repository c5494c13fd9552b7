use Rattle.std.proofs.Common.{◌≢◌, [], List, Option}
use Rattle.cx_base.specs.declared.steps.LogEvent.{LogEvent}
use Rattle.parity_engine.specs.declared.state.Mood.TheVariants.{Broken}
use Rattle.cdcl_search.specs.Ties.{SearchStands}
use Rattle.cdcl_search.proofs.propagation.feed.Given as goal

abbrev pub invariant-loop-place : goal.invariant-loop-place
invariant-loop-place g l = record {
  stands : (told : Option (List LogEvent)) → SearchStands l.fn.formula l.fn.state (g.P.ParityEngine.state l.fn.engine) [] told → SearchStands l.fn.formula (record l.fn.state { given = l.place }) (g.P.ParityEngine.state l.engine) [] told;
  unbroken : (g.P.ParityEngine.state l.engine).mood ≢ Broken;
}
