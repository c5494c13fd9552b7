use Rattle.std.proofs.Common.{◌≡◌, ◌+◌, ◌++◌, take}
use Rattle.cdcl_search.specs.Tells.{as_events, AreStepsOf}
use Rattle.cdcl_core.specs.Shortening.{unit_parity_events}
use Rattle.cdcl_core.proofs.shortening.push_unit_parities.Given as goal

-- the parities of the first units are added
abbrev pub invariant-loop-unit : goal.invariant-loop-unit
invariant-loop-unit l =
    (l.id ≡ l.first + l.unit-index) × AreStepsOf (as_events l.initial.steps.items ++ unit_parity_events l.first (take l.unit-index l.units)) l.steps.items
