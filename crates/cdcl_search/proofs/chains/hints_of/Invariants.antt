use Rattle.std.proofs.Common.{◌≡◌, ℕ, pos, List, map, take}
use Rattle.std.specs.List.{AllByRecursion, Contains}
use Rattle.cx_base.specs.Numbers.{AreStepIntegers}
use Rattle.cdcl_search.specs.Units.{HaveUnitsAgainst}
use Rattle.cdcl_search.proofs.chains.hints_of.Given as goal

-- the hints so far are ids of unit clauses, of all that make one of the first literals false
abbrev pub invariant-loop-lit : goal.invariant-loop-lit
invariant-loop-lit l =
    AreStepIntegers l.hints.items
    × ((units : List ℕ) × AllByRecursion (Contains l.state.units.items) units × HaveUnitsAgainst l.state (take l.lit-index l.lits) units × (l.hints.items ≡ map pos units))
