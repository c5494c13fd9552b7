use Rattle.std.proofs.Common.{◌∙◌, ap, sym, None, [], ◌/◌, ◌%◌, get_or, set, arith}
use Rattle.std.proofs.lemmas.List.{get_or_default, get_or_past}
use Rattle.proof_rules.specs.Places.{all_places, places_of}
use Rattle.proof_rules.proofs.PageLaws.{place-is, places_past, get_or-places_of, set-places_of, set-places_of_past}
use Rattle.proof_rules.proofs.id_map.take_place.Goals as goal

pub returns-then-page-len-clause-taken : goal.returns-then-page-len-clause-taken
returns-then-page-len-clause-taken g c =
    let pages = c.args.near.now.items in
    let id = c.args.id in
    let less = c.if-page-len.true in
    let counted = c.len.ensures in
    let page = c.index_mut.ensures.value ∙ get_or_default pages (id / 64) _ [] (grind (arith, less, counted)) in
    c.take.ensures.taken ∙ ap (λ places. get_or places (id % 64) None) page ∙ sym (get_or-places_of pages id (id / 64) (id % 64) (place-is id) (omega arith))

pub returns-then-page-len-clause-gone : goal.returns-then-page-len-clause-gone
returns-then-page-len-clause-gone g c =
    let pages = c.args.near.now.items in
    let id = c.args.id in
    let less = c.if-page-len.true in
    let counted = c.len.ensures in
    let page = c.index_mut.ensures.value ∙ get_or_default pages (id / 64) _ [] (grind (arith, less, counted)) in
    set-places_of pages id (id / 64) (id % 64) c.take.new.self None (place-is id) (omega arith)
    (c.take.ensures.gone ∙ ap (λ places. set (all_places places) (id % 64) None) page)

pub returns-else-page-len-clause-taken : goal.returns-else-page-len-clause-taken
returns-else-page-len-clause-taken g c =
    let past = c.if-page-len.false in
    let counted = c.len.ensures in
    let pages = c.args.near.now.items in
    sym (get_or_past (places_of pages) c.args.id None (places_past pages c.args.id (grind (arith, past, counted))))

pub returns-else-page-len-clause-gone : goal.returns-else-page-len-clause-gone
returns-else-page-len-clause-gone g c =
    let past = c.if-page-len.false in
    let counted = c.len.ensures in
    sym (set-places_of_past c.args.near.now.items c.args.id None (grind (arith, past, counted)))
