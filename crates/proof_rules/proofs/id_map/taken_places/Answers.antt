use Rattle.std.proofs.Common.{◌≡◌, ◌∙◌, ◌++◌, ◌+◌, ◌*◌, ℕ, List, ap, sym, refl, drop, append-nil, arith}
use Rattle.std.proofs.Math.ListN.{drop_of_length-le}
use Rattle.std.specs.Map.{keys_of}
use Rattle.proof_rules.specs.Places.{entries_from, all_places, places_of}
use Rattle.proof_rules.proofs.PageLaws.{keys_of-page}
use Rattle.proof_rules.proofs.id_map.taken_places.Goals as goal

pub loop-page-preserved : goal.loop-page-preserved
loop-page-preserved g c =
    let n = c.loop-page.page in
    let near = c.args.near.now in
    let later : 64 * (n + 1) ≡ 64 * n + 64 = omega arith in
    let first : n * 64 ≡ 64 * n = omega arith in
    (λ i. c.push_taken.new.ids.items ++ keys_of (entries_from (later i) (places_of (drop (n + 1) near))))
    ∙ ap (λ ids. ids ++ keys_of (entries_from (64 * n + 64) (places_of (drop (n + 1) near)))) (c.in_ok-push_taken.ensures ∙ (λ i. c.loop-page.ids.items ++ keys_of (entries_from (first i) (all_places c.index-near-page.result))))
    ∙ keys_of-page near n (64 * n) c.index-near-page.result c.loop-page.ids.items _ c.loop-page-test.true c.index-near-page.is refl c.loop-page.invariant

pub returns : goal.returns
returns g c =
    let ids : List ℕ = c.loop-page.ids.items in
    let page = c.loop-page.page in
    sym (append-nil ids)
    ∙ ap (λ rest. ids ++ keys_of (entries_from (64 * page) (places_of rest))) (sym (drop_of_length-le c.args.near.now c.loop-page-test.false))
    ∙ c.loop-page.invariant
