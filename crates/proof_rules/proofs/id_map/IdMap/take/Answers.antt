use Rattle.std.proofs.Common.{◌∙◌, ◌++◌, ap, sym}
use Rattle.std.specs.FinMap as map
use Rattle.std.specs.Option.{option_or}
use Rattle.cx_semantics.proofs.MapEntries.{from_entries-remove}
use Rattle.proof_rules.specs.Places.{entries_of, places_of, value_under}
use Rattle.proof_rules.proofs.PlaceLaws.{get-places, look-removed}
use Rattle.proof_rules.proofs.id_map.IdMap.take.Goals as goal

pub returns-clause-taken : goal.returns-clause-taken
returns-clause-taken g c =
    c.or_take_far.ensures.taken
    ∙ ap (λ o. option_or o (value_under c.args.id c.self.inside.far.entries)) c.take_place-near.ensures.taken
    ∙ sym (get-places c.args.id (places_of c.self.inside.near.items) c.self.inside.far.entries)
    ∙ ap (λ t. map.get t c.args.id) c.self.view_is

pub returns-clause-gone : goal.returns-clause-gone
returns-clause-gone g c =
    let near = places_of c.self.inside.near.items in
    let far = c.self.inside.far.entries in
    let gone = c.or_take_far.new.far.entries in
    ap (λ places. map.from_entries (entries_of places ++ gone)) (c.make_idle.ensures ∙ c.take_place-near.ensures.gone)
    ∙ from_entries-remove (entries_of near ++ far) _ c.args.id (look-removed c.args.id near far gone c.or_take_far.ensures.gone)
    ∙ ap (λ t. map.remove t c.args.id) c.self.view_is
