use Rattle.std.proofs.Common.{◌≡◌, true, take}
use Rattle.std.specs.List.{list_all}
use Rattle.cx_base.specs.Problem.{parity_met}
use Rattle.plain_tests.proofs.settled.all_met.Given as goal

abbrev pub invariant-loop-parity : goal.invariant-loop-parity
invariant-loop-parity l = list_all (parity_met l.values) (take l.parity-index l.parities) ≡ true
