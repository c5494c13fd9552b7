use Rattle.std.proofs.Common.{◌≡◌, true, nat_eq, take}
use Rattle.std.specs.List.{list_any, list_all}
use Rattle.plain_tests.proofs.fitting.all_among.Given as goal

abbrev pub invariant-loop-lit : goal.invariant-loop-lit
invariant-loop-lit l = list_all (λ m. list_any (nat_eq m.variable) l.vars) (take l.lit-index l.lits) ≡ true
