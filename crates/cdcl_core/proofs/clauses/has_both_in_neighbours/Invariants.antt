use Rattle.std.proofs.Common.{◌≡◌, ◌≤◌, ◌+◌, ◌*◌, drop}
use Rattle.cx_base.specs.declared.literal.TheConstants.{MAX_VARIABLE}
use Rattle.cdcl_core.proofs.RisingCodes.{beside}
use Rattle.cdcl_core.proofs.clauses.has_both_in_neighbours.Given as goal

abbrev pub invariant-loop-lit : goal.invariant-loop-lit
invariant-loop-lit l = record {
  same : beside 1 l.lits ≡ beside l.last (drop l.lit-index l.lits);
  few : l.last ≤ 2 * MAX_VARIABLE + 1;
}
