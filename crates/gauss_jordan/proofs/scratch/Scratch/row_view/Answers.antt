use Rattle.std.proofs.Common.{◌≡◌, ◌∙◌, Some, sym, ap, subst, get_or}
use Rattle.gf2_matrix.specs.Views.{viewed_form}
use Rattle.gauss_jordan.specs.declared.slot.RowSlot.{RowSlot}
use Rattle.gf2_matrix.specs.Content.{form}
use Rattle.gauss_jordan.specs.Slots.{IsSlotOf, row_of}
use Rattle.parity_engine.specs.State.{State, named_at}
use Rattle.parity_engine.proofs.Named.{named_row}
use Rattle.gauss_jordan.proofs.Copies.{slot_form, slot_view}
use Rattle.gauss_jordan.proofs.ScratchEvents.{slot_seen}
use Rattle.gauss_jordan.proofs.scratch.Scratch.row_view.Goals as goal
use Rattle.gauss_jordan.proofs.scratch.Scratch.row_view.Goals.{After-deref-2}

at : (c : After-deref-2) → get_or c.self.inside.slots.items c.args.row c.index-slot.result.now ≡ c.index-slot.result.now
at c = sym (c.index-slot.ensures ∙ ap (λ i. get_or c.self.inside.slots.items i c.index-slot.result.now) c.place.ensures)

pub new-requires : goal.new-requires
new-requires c =
    let m = c.self.inside in
    let s = (goal.at.new-requires c).After-deref-2 in
    let slot : RowSlot = c.index-slot.result.now in
    let some = named_row c.args.self.now c.args.row c.requires in
    let seen = slot_seen m.matrix m.level m.held.items m.assigned.items m.truths.items m.slots.items m.mood c.self.invariant.is c.args.row slot some.0
    (subst (λ (t : State). named_at t c.args.row ≡ Some some.0) (sym c.self.view_is) some.1) in
    rw (c.vars.ensures.is, c.deref.ensures.value, c.self.invariant.variables_are, c.whole.ensures, c.deref-2.ensures.value)
    (slot_view m.matrix slot (let i = c.self.invariant.is in i.few) (subst (λ (e : RowSlot). IsSlotOf m.matrix e) (at s) seen.0))

pub returns : goal.returns
returns c n named =
    let m = c.self.inside in
    let s = (goal.at.returns c).After-deref-2 in
    let slot : RowSlot = c.index-slot.result.now in
    let seen = slot_seen m.matrix m.level m.held.items m.assigned.items m.truths.items m.slots.items m.mood c.self.invariant.is c.args.row slot n
    (subst (λ (t : State). named_at t c.args.row ≡ Some n) (sym c.self.view_is) named) in
    c.new.ensures
    ∙ (λ i. viewed_form (c.vars.ensures.is i) ((c.deref.ensures.value ∙ c.self.invariant.variables_are) i) 0 ((c.whole.ensures ∙ c.deref-2.ensures.value) i) slot.right)
    ∙ slot_form m.matrix slot ∙ ap (λ (e : RowSlot). form (row_of m.matrix e)) (sym (at s)) ∙ seen.1
