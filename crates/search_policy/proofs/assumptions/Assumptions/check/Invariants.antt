use Rattle.std.proofs.Common.{◌≡◌, ◌-◌, length}
use Rattle.search_policy.specs.Assuming.{KeepsAssumptions}
use Rattle.search_policy.proofs.assumptions.Assumptions.check.Given as goal

abbrev pub invariant-loop-self : goal.invariant-loop-self
invariant-loop-self l = record {
  keeps : KeepsAssumptions l.formula.constraints l.self l.trail;
  same : l.self ≡ record l.fn.self { checked = l.self.checked };
}

abbrev pub decreases-loop-self : goal.decreases-loop-self
decreases-loop-self l = length l.trail.entries - l.self.checked
