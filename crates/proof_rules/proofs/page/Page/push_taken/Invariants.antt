use Rattle.std.proofs.Common.{◌≡◌, ◌+◌, ◌++◌, drop}
use Rattle.std.specs.Map.{keys_of}
use Rattle.proof_rules.specs.Places.{entries_from}
use Rattle.proof_rules.proofs.page.Page.push_taken.Given as goal

abbrev pub invariant-loop-place : goal.invariant-loop-place
invariant-loop-place g l = l.ids.items ++ keys_of (entries_from (l.first + l.place) (drop l.place l.self)) ≡ l.initial.ids.items ++ keys_of (entries_from l.first l.self)
