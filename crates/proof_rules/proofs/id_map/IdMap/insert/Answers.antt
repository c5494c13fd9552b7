use Rattle.std.proofs.Common.{◌∙◌, ◌++◌, ◌≤◌, length, ap, refl, subst}
use Rattle.std.specs.FinMap as map
use Rattle.cx_semantics.proofs.MapEntries.{from_entries-insert}
use Rattle.proof_rules.specs.Places.{entries_of, places_of}
use Rattle.proof_rules.specs.contracts.id_map.IdMap.{the_view}
use Rattle.proof_rules.proofs.PlaceLaws.{look-put, look-put_behind}
use Rattle.proof_rules.proofs.id_map.IdMap.insert.Goals as goal
use Rattle.proof_rules.proofs.id_map.IdMap.insert.Goals.{then-is_near+in_ok-reach+in_ok-put_in_place, else-is_near+in_ok-put_far}

pub returns-clause-ok : goal.returns-clause-ok
returns-clause-ok g c =
    let near = (places_of c.self.inside.near.items) in
    let far = c.self.inside.far.entries in
    let outside = subst (λ pages. length (places_of pages) ≤ c.args.id) c.deref.ensures.value in
    let then_old = ap (λ t. map.insert t c.args.id c.args.value) c.self.view_is in
    elim c.if-is_near.branch [
      | then-is_near+in_ok-reach+in_ok-put_in_place w ↦
          ap (the_view g.row.V) w.self-inside-is
          ∙ ap (λ places. map.from_entries (entries_of places ++ far)) w.in_ok-put_in_place.ensures.ok
          ∙ from_entries-insert (entries_of (places_of w.reach.new.near.items) ++ far) _ c.args.id c.args.value (look-put c.args.id c.args.value (places_of w.reach.new.near.items) far w.in_ok-reach.ensures.reached)
          ∙ ap (λ es. map.insert (map.from_entries (es ++ far)) c.args.id c.args.value) w.reach.ensures.same ∙ then_old
      | else-is_near+in_ok-put_far w ↦
          ap (the_view g.row.V) w.self-inside-is
          ∙ from_entries-insert (entries_of near ++ far) _ c.args.id c.args.value (look-put_behind c.args.id c.args.value near far w.put_far.new.far.entries (outside (w.if-is_near.ensures refl)) w.in_ok-put_far.ensures.ok)
          ∙ then_old
    ]
