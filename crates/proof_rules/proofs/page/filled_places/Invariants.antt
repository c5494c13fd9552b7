use Rattle.std.proofs.Common.{◌≡◌, length, vec_capacity}
use Rattle.proof_rules.proofs.page.filled_places.Given as goal

abbrev pub invariant-loop : goal.invariant-loop
invariant-loop g l = (length l.places.items ≡ l.counter) × (vec_capacity l.places ≡ vec_capacity l.initial.places)
