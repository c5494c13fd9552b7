use Rattle.std.proofs.Common.{◌≡◌, ◌+◌, ◌++◌, take}
use Rattle.cdcl_search.specs.Tells.{as_events, AreStepsOf}
use Rattle.cdcl_core.specs.Shortening.{late_unit_events, late_units_from}
use Rattle.cdcl_core.proofs.refuted_rows.push_late_units.Given as goal

-- the unit clauses of the first literals are added
abbrev pub invariant-loop-lit : goal.invariant-loop-lit
invariant-loop-lit l =
    (l.id ≡ l.first + l.lit-index) × AreStepsOf (as_events l.initial.steps.items ++ late_unit_events l.hints (late_units_from l.first (take l.lit-index l.lits))) l.steps.items
    × (l.units.items ≡ l.initial.units.items ++ late_units_from l.first (take l.lit-index l.lits))
