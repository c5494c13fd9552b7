use Rattle.std.proofs.Common.{◌≡◌, ◌≤◌, ◌<◌, length, true, None}
use Rattle.cx_base.specs.Literals.{Literal}
use Rattle.cx_semantics.specs.Chain.{has_literal}
use Rattle.conflict_learn.specs.Final.{StandsBelow}
use Rattle.conflict_learn.specs.Learning.{AreHeld, literals_of}
use Rattle.conflict_learn.specs.Marks.{StandBetween}
use Rattle.conflict_learn.proofs.FinalLaws.{Tracing}
use Rattle.conflict_learn.proofs.MarkLaws.{marked_below}
use Rattle.conflict_learn.proofs.final_analysis.analyse_final.Given as goal

abbrev pub invariant-loop-place : goal.invariant-loop-place
invariant-loop-place g l = record {
  trail : g.S.Antecedents.trail l.source ≡ l.trail;
  held : AreHeld (g.S.Antecedents.holds l.fn.source) (g.S.Antecedents.holds l.source);
  goes_on : g.S.Antecedents.goes_on l.fn.source None l.source;
  faults : g.S.Antecedents.faults l.source ≡ g.S.Antecedents.faults l.fn.source;
  ready : g.S.Antecedents.ready l.source;
  reach : l.below ≤ g.S.Antecedents.reach l.source;
  room : l.from ≤ g.S.Antecedents.room l.source;
  bound : l.from ≤ l.below;
  size : l.trail.variables < length l.marks;
  stand : StandBetween l.trail l.marks l.lowest l.from;
  state : Tracing l.trail l.below l.kept l.clause (g.S.Antecedents.holds l.source) l.gathered.resolved.items l.gathered.lits.items (marked_below l.trail l.marks l.from);
  resolved : (m : Literal) → has_literal (literals_of l.gathered.resolved.items) m ≡ true → StandsBelow l.trail l.below m;
}

abbrev pub decreases-loop-place : goal.decreases-loop-place
decreases-loop-place g l = l.from
