use Rattle.std.proofs.Common.{◌≡◌, ◌++◌}
use Rattle.proof_rules.proofs.id_map.IdMap.ids.Given as goal

abbrev pub invariant-loop-id : goal.invariant-loop-id
invariant-loop-id g l = l.ids.items ++ l.id-iterator ≡ l.initial.ids.items ++ l.initial.id-iterator
