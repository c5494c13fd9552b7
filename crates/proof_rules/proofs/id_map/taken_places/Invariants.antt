use Rattle.std.proofs.Common.{◌≡◌, ◌*◌, ◌++◌, drop}
use Rattle.std.specs.Map.{keys_of}
use Rattle.proof_rules.specs.Places.{entries_from, entries_of, places_of}
use Rattle.proof_rules.proofs.id_map.taken_places.Given as goal

abbrev pub invariant-loop-page : goal.invariant-loop-page
invariant-loop-page g l = l.ids.items ++ keys_of (entries_from (64 * l.page) (places_of (drop l.page l.near))) ≡ keys_of (entries_of (places_of l.near))
