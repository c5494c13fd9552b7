use Rattle.std.proofs.Common.{◌∙◌, ◌++◌, ap}
use Rattle.std.specs.FinMap as map
use Rattle.cx_semantics.proofs.MapEntries.{from_entries-remove}
use Rattle.proof_rules.specs.Places.{entries_of, places_of}
use Rattle.proof_rules.proofs.PlaceLaws.{look-removed}
use Rattle.proof_rules.proofs.id_map.IdMap.remove.Goals as goal

pub returns : goal.returns
returns g c =
    let near = (places_of c.self.inside.near.items) in
    let far = c.self.inside.far.entries in
    let gone = c.clear_far.new.far.entries in
    ap (λ places. map.from_entries (entries_of places ++ gone)) (c.make_idle.ensures ∙ c.clear_place.ensures)
    ∙ from_entries-remove (entries_of near ++ far) _ c.args.id (look-removed c.args.id near far gone c.clear_far.ensures)
    ∙ ap (λ t. map.remove t c.args.id) c.self.view_is
