use Rattle.std.proofs.Common.{◌≡◌, ◌++◌, drop}
use Rattle.std.specs.Map.{keys_of}
use Rattle.proof_rules.specs.Places.{entries_from, entries_of}
use Rattle.proof_rules.proofs.first.FirstLists.push_ids.Given as goal

abbrev pub invariant-loop-id : goal.invariant-loop-id
invariant-loop-id l = l.ids.items ++ keys_of (entries_from l.id (drop l.id l.self)) ≡ l.initial.ids.items ++ keys_of (entries_of l.self)
