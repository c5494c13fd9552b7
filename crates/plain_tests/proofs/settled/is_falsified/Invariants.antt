use Rattle.std.proofs.Common.{◌≡◌, true, take}
use Rattle.cx_semantics.specs.Fresh.{is_falsified}
use Rattle.plain_tests.proofs.settled.is_falsified.Given as goal

abbrev pub invariant-loop-lit : goal.invariant-loop-lit
invariant-loop-lit l = is_falsified l.known (take l.lit-index l.clause) ≡ true
