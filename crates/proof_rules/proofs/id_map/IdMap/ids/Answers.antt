use Rattle.std.proofs.Common.{◌≡◌, ◌++◌, ◌∙◌, ap, sym, append-nil, is_some, nat_cmp}
use Rattle.std.specs.List.{list_any}
use Rattle.std.specs.Ordering.{eq_by_cmp}
use Rattle.std.specs.Map.Iter.{deref}
use Rattle.std.specs.Map.{keys_of}
use Rattle.std.proofs.lemmas.Map.Iter.{rest_all}
use Rattle.std.specs.FinMap as map
use Rattle.cx_semantics.proofs.MapEntries.{get-from_entries}
use Rattle.proof_rules.specs.Places.{entries_of, places_of}
use Rattle.proof_rules.proofs.PlaceLaws.{keys-answer}
use Rattle.proof_rules.proofs.id_map.IdMap.ids.Goals as goal

pub returns : goal.returns
returns g c n =
    let items = c.loop-id.ids.items in
    let far = c.into_iter-id-iterator.result in
    let near = (places_of c.self.inside.near.items) in
    let done = rest_all deref _ _ _ c.in-None.is c.next.ensures.steps in
    let all : items ≡ c.in_ok-ids.ids.items ++ far = sym (append-nil items) ∙ ap (λ rest. items ++ rest) (sym done) ∙ c.loop-id.invariant in
    let taken : c.in_ok-ids.ids.items ≡ keys_of (entries_of near) = c.in_ok-ids.ensures ∙ ap (λ pages. keys_of (entries_of (places_of pages))) c.deref.ensures.value in
    let behind = ap (list_any (eq_by_cmp nat_cmp n)) c.into_iter-id-iterator.ensures.into_iter_gives ∙ sym (c.keys-id-items.ensures.has n) in
    ap (list_any (eq_by_cmp nat_cmp n)) (all ∙ ap (λ ids. ids ++ far) taken)
    ∙ keys-answer n c.self.inside.far.entries far behind near
    ∙ ap is_some (sym (get-from_entries (entries_of near ++ c.self.inside.far.entries) n))
    ∙ ap (λ t. map.contains_key t n) c.self.view_is
