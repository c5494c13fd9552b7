use Rattle.std.proofs.Common.{◌∙◌, ap, sym, None, [], ◌/◌, ◌%◌, set, arith}
use Rattle.std.proofs.lemmas.List.{get_or_default}
use Rattle.proof_rules.specs.Places.{all_places}
use Rattle.proof_rules.proofs.PageLaws.{place-is, set-places_of, set-places_of_past}
use Rattle.proof_rules.proofs.id_map.clear_place.Goals as goal

pub returns-then-page-len : goal.returns-then-page-len
returns-then-page-len g c =
    let pages = c.args.near.now.items in
    let id = c.args.id in
    let less = c.if-page-len.true in
    let counted = c.len.ensures in
    let page = c.index_mut.ensures.value ∙ get_or_default pages (id / 64) _ [] (grind (arith, less, counted)) in
    set-places_of pages id (id / 64) (id % 64) c.clear.new.self None (place-is id) (omega arith)
    (c.clear.ensures ∙ ap (λ places. set (all_places places) (id % 64) None) page)

pub returns-else-page-len : goal.returns-else-page-len
returns-else-page-len g c =
    let past = c.if-page-len.false in
    let counted = c.len.ensures in
    sym (set-places_of_past c.args.near.now.items c.args.id None (grind (arith, past, counted)))
