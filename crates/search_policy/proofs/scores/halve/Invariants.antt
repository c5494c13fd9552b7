use Rattle.std.proofs.Common.{◌≡◌, ◌/◌, ◌++◌, map, take, drop}
use Rattle.search_policy.proofs.scores.halve.Given as goal

abbrev pub invariant-loop-at : goal.invariant-loop-at
invariant-loop-at l = l.scores.items ≡ map (λ s. s / 2) (take l.at l.fn.scores.items) ++ drop l.at l.fn.scores.items
