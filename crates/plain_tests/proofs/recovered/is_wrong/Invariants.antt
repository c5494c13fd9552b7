use Rattle.std.proofs.Common.{◌≡◌, drop}
use Rattle.cx_base.specs.Literals.{differ}
use Rattle.cx_semantics.specs.Recovered.{excluded_sum}
use Rattle.plain_tests.proofs.recovered.is_wrong.Given as goal

abbrev pub invariant-loop-lit : goal.invariant-loop-lit
invariant-loop-lit l = differ l.wrong (excluded_sum (drop l.lit-index l.lits)) ≡ differ l.right (excluded_sum l.lits)
