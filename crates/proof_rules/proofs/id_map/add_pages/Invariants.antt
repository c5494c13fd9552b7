use Rattle.std.proofs.Common.{◌≡◌, length}
use Rattle.proof_rules.specs.Places.{entries_of, places_of}
use Rattle.proof_rules.proofs.id_map.add_pages.Given as goal

abbrev pub invariant-loop : goal.invariant-loop
invariant-loop g l =
    (entries_of (places_of l.near.items) ≡ entries_of (places_of l.initial.near.items))
    × (length l.near.items ≡ l.counter)
