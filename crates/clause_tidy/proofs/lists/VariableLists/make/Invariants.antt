use Rattle.std.proofs.Common.{◌≡◌, length}
use Rattle.clause_tidy.proofs.lists.VariableLists.make.Given as goal

abbrev pub invariant-loop : goal.invariant-loop
invariant-loop l = length l.lists.items ≡ l.counter
