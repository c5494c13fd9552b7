use Rattle.std.proofs.Common.{◌≡◌, ◌<◌, ◌≤◌, ◌∙◌, length, get_or, ap, arith, subst, sym}
use Rattle.std.proofs.lemmas.List.{get_or_read}
use Rattle.cx_trail.specs.declared.entry.Entry.{Entry}
use Rattle.cx_trail.specs.Sequence.{TrailState, IsAssignedIn, HasEntry, no_entry}
use Rattle.cx_trail.proofs.FrontLaws.{entry_of, assigned_high, assigned_place}
use Rattle.cx_trail.proofs.trail.Trail.entry_of.Goals as goal

pub index-requires : goal.index-requires
index-requires c =
    let k = c.self.invariant in
    let assigned = subst (λ (t : TrailState). IsAssignedIn t.entries c.args.variable) (sym c.self.view_is) c.requires in
    omega (arith, assigned_high _ _ _ _ _ _ k c.args.variable assigned, k.slots, c.number.ensures.number, c.self.inside.places.ok.0)

pub index-requires-2 : goal.index-requires-2
index-requires-2 c =
    let k = c.self.invariant in
    let v = c.args.variable in
    let places = c.self.inside.places.items in
    let assigned = subst (λ (t : TrailState). IsAssignedIn t.entries v) (sym c.self.view_is) c.requires in
    let high = assigned_high _ _ _ _ _ _ k v assigned in
    let at : c.index.result.now ≡ get_or places v 0 = get_or_read places _ _ (omega (arith, k.slots, c.number.ensures.number)) c.index.ensures 0 ∙ ap (λ x. get_or places x 0) c.number.ensures.number in
    omega (arith, at, assigned_place _ _ _ _ _ _ k v assigned, k.is_whole.short, k.room, c.self.inside.cells.ok.0)

pub returns : goal.returns
returns c =
    let k = c.self.invariant in
    let v = c.args.variable in
    let places = c.self.inside.places.items in
    let cells = c.self.inside.cells.items in
    let assigned = subst (λ (t : TrailState). IsAssignedIn t.entries v) (sym c.self.view_is) c.requires in
    let high = assigned_high _ _ _ _ _ _ k v assigned in
    let low : 1 ≤ v = omega (arith, c.number.ensures.number, c.number.ensures.low) in
    let at : c.index.result.now ≡ get_or places v 0 = get_or_read places _ _ (omega (arith, k.slots, c.number.ensures.number)) c.index.ensures 0 ∙ ap (λ x. get_or places x 0) c.number.ensures.number in
    let inside : c.index.result.now < length cells = omega (arith, at, assigned_place _ _ _ _ _ _ k v assigned, k.is_whole.short, k.room) in
    let is = get_or_read cells _ _ inside c.index-2.ensures no_entry in
    subst (λ (t : TrailState). (e : Entry) → HasEntry t.entries v e → c.index-2.result.now ≡ e) c.self.view_is
    (λ e w. entry_of _ _ _ _ _ _ k v _ _ e at is w)
