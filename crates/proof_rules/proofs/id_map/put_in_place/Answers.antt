use Rattle.std.proofs.Common.{◌∙◌, ap, Some, [], ◌/◌, ◌%◌, set, arith}
use Rattle.std.proofs.lemmas.List.{get_or_default}
use Rattle.std.proofs.lemmas.Result.{on_ok_weaker}
use Rattle.proof_rules.specs.Places.{all_places}
use Rattle.proof_rules.proofs.PageLaws.{page_in, place-is, set-places_of}
use Rattle.proof_rules.proofs.id_map.put_in_place.Goals as goal

pub index_mut-requires : goal.index_mut-requires
index_mut-requires g c = let inside = page_in c.args.near.now.items c.args.id c.requires in grind (arith, inside)

pub returns-clause-ok : goal.returns-clause-ok
returns-clause-ok g c =
    let pages = c.args.near.now.items in
    let id = c.args.id in
    let page = c.index_mut.ensures.value ∙ get_or_default pages (id / 64) _ [] (page_in pages id c.requires) in
    on_ok_weaker c.put.result
    (λ done. set-places_of pages id (id / 64) (id % 64) c.put.new.self (Some c.args.value) (place-is id) (omega arith)
    (done ∙ ap (λ places. set (all_places places) (id % 64) (Some c.args.value)) page))
    c.put.ensures.ok
