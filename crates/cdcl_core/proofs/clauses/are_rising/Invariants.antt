use Rattle.std.proofs.Common.{drop}
use Rattle.cdcl_core.specs.Clauses.{RiseFrom}
use Rattle.cdcl_core.proofs.clauses.are_rising.Given as goal

-- the literals rise where the others do from the last one on
abbrev pub invariant-loop-lit : goal.invariant-loop-lit
invariant-loop-lit l = RiseFrom l.last (drop l.lit-index l.lits) → RiseFrom 1 l.lits
