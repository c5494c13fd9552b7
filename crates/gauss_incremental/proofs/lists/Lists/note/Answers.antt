use Rattle.std.proofs.Common.{◌≡◌, ◌∙◌, ◌*◌, ◌+◌, ◌<◌, ◌≤◌, ◌%◌, length, ap, sym, subst, arith}
use Rattle.std.proofs.lemmas.List.{with_items_is}
use Rattle.gauss_incremental.specs.Lists.{IsNoted, Listing, listing, slots}
use Rattle.gauss_incremental.proofs.Listing.{noted, place_in, place_small, same_long}
use Rattle.gauss_incremental.proofs.lists.Lists.note.Goals as goal
use Rattle.gauss_incremental.proofs.lists.Lists.note.Goals.{After-deref_mut}

pub overflow_mul-from : goal.overflow_mul-from
overflow_mul-from c =
    let m = c.self.inside in
    let k_in : c.args.column < m.columns = subst (λ (l : Listing). c.args.column < l.columns) (sym c.self.view_is) c.requires in
    let small = place_small m.words.items m.none.items m.columns c.args.column c.len.result 0 c.self.invariant k_in (c.len.ensures ∙ m.none.ok.0) (omega (arith, c.self.invariant.some)) in
    omega arith

-- the place of the row's bit
place : (c : After-deref_mut) → (64 * (c.args.column * c.len.result) + c.slot_of-slot.result ≤ 4611686018427387904 + 17179869184) × (64 * (c.args.column * c.len.result) + c.slot_of-slot.result < 64 * length c.self.inside.words.items)
place c =
    let m = c.self.inside in
    let k_in : c.args.column < m.columns = subst (λ (l : Listing). c.args.column < l.columns) (sym c.self.view_is) c.requires in
    let wide : c.len.result ≡ length m.none.items = c.len.ensures ∙ m.none.ok.0 in
    let number : c.slots.result ≡ 64 * length m.none.items = c.slots.ensures.is ∙ sym (ap slots c.self.view_is) in
    let some = c.slots.ensures.some in
    let is = c.slot_of-slot.ensures in
    let slot : c.slot_of-slot.result < 64 * length m.none.items = omega arith in (
      place_small m.words.items m.none.items m.columns c.args.column c.len.result (c.slot_of-slot.result) c.self.invariant k_in wide slot,
      place_in m.words.items m.none.items m.columns c.args.column c.len.result (c.slot_of-slot.result) c.self.invariant k_in wide slot,
    )

pub overflow_mul-from-2 : goal.overflow_mul-from-2
overflow_mul-from-2 c = let p = (place c).0 in omega arith

pub overflow_add-from : goal.overflow_add-from
overflow_add-from c = let p = (place c).0 in omega arith

pub put-requires : goal.put-requires
put-requires c = rw c.deref_mut.ensures.value (place c).1

pub invariant_of-self : goal.invariant_of-self
invariant_of-self c =
    let m = c.self.inside in
    let long : length c.put.new.row ≡ length m.words.items = c.put.auto.row ∙ ap length c.deref_mut.ensures.value in
    rw (with_items_is m.words c.put.new.row (long ∙ sym m.words.ok.0)) (same_long m.words.items m.none.items c.put.new.row m.columns long c.self.invariant)

pub returns : goal.returns
returns c =
    let m = c.self.inside in
    let long : length c.put.new.row ≡ length m.words.items = c.put.auto.row ∙ ap length c.deref_mut.ensures.value in
    let wide : c.len.result ≡ length m.none.items = c.len.ensures ∙ m.none.ok.0 in
    let number : c.slots.result ≡ 64 * length m.none.items = c.slots.ensures.is ∙ sym (ap slots c.self.view_is) in
    let at = ap (λ n. 64 * (c.args.column * n) + c.slot_of-slot.result) wide ∙ ap (λ s. 64 * (c.args.column * length m.none.items) + s) (c.slot_of-slot.ensures ∙ ap (λ n. c.args.row % n) number) in
    rw (with_items_is m.words c.put.new.row (long ∙ sym m.words.ok.0))
    (subst (λ (l : Listing). IsNoted l (listing c.put.new.row m.none.items m.columns) c.args.column c.args.row) c.self.view_is
    (noted m.words.items m.none.items c.put.new.row m.columns c.args.column c.args.row (64 * (c.args.column * c.len.result) + c.slot_of-slot.result) at
    (rw c.deref_mut.ensures.value at c.put.ensures)))
