use Rattle.std.proofs.Common.{◌≡◌, drop}
use Rattle.cdcl_core.specs.Narrowing.{are_up_to}
use Rattle.cdcl_core.proofs.narrowing.are_up_to.Given as goal

abbrev pub invariant-loop-lit : goal.invariant-loop-lit
invariant-loop-lit l = are_up_to l.last (drop l.lit-index l.lits) ≡ are_up_to l.last l.lits
