use Rattle.std.proofs.Common.{◌≡◌, ◌∙◌, ◌/◌, ◌%◌, ap, sym, subst, None, Some, [], MatchOption, get_or, arith}
use Rattle.std.proofs.lemmas.List.{get_or_default, get_or_past}
use Rattle.proof_rules.specs.Places.{places_of}
use Rattle.proof_rules.proofs.PageLaws.{place-is, places_past, get_or-places_of}
use Rattle.proof_rules.proofs.id_map.in_place.Goals as goal

pub returns-then-page-near : goal.returns-then-page-near
returns-then-page-near g c =
    let pages = c.args.near.now in
    let id = c.args.id in
    let page = c.index-near-page.is ∙ get_or_default pages (id / 64) _ [] c.if-page-near.true in
    let same = get_or-places_of pages id (id / 64) (id % 64) (place-is id) (omega arith) in
    subst (λ o. MatchOption c.get.result (o ≡ None) (λ value. o ≡ Some value.now)) (ap (λ places. get_or places (id % 64) None) page ∙ sym same) c.get.ensures

pub returns-else-page-near : goal.returns-else-page-near
returns-else-page-near g c =
    get_or_past (places_of c.args.near.now) c.args.id None (places_past c.args.near.now c.args.id c.if-page-near.false)
