use Rattle.std.proofs.Common.{◌≡◌, false, nat_eq, take}
use Rattle.std.specs.List.{list_any}
use Rattle.plain_tests.proofs.fitting.occurs.Given as goal

abbrev pub invariant-loop-lit : goal.invariant-loop-lit
invariant-loop-lit l = list_any (λ m. nat_eq m.variable l.var) (take l.lit-index l.lits) ≡ false
