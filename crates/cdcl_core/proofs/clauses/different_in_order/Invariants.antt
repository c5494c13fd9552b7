use Rattle.std.proofs.Common.{take}
use Rattle.cdcl_core.proofs.DifferentLiterals.{AreFound}
use Rattle.cdcl_core.proofs.clauses.different_in_order.Given as goal

abbrev pub invariant-loop-lit : goal.invariant-loop-lit
invariant-loop-lit l = AreFound (take l.lit-index l.lits) l.found.items
