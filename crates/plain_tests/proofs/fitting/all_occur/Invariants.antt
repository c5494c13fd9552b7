use Rattle.std.proofs.Common.{◌≡◌, true, nat_eq, take}
use Rattle.std.specs.List.{list_any, list_all}
use Rattle.plain_tests.proofs.fitting.all_occur.Given as goal

abbrev pub invariant-loop-var : goal.invariant-loop-var
invariant-loop-var l = list_all (λ x. list_any (λ m. nat_eq m.variable x) l.lits) (take l.var-index l.vars) ≡ true
