use Rattle.std.proofs.Common.{◌≡◌, ◌<◌, ◌∙◌, ℕ, sym, ap, subst, length, List, true}
use Rattle.std.proofs.lemmas.List.{with_items_is}
use Rattle.gf2_matrix.specs.Content.{IsReducedRow}
use Rattle.gauss_jordan.specs.declared.slot.RowSlot.{RowSlot}
use Rattle.parity_engine.specs.State.{State, Named, Reports, IsBroken, IsNamedNow, IsSameNamed, named_at, names}
use Rattle.gauss_jordan.specs.Slots.{AreMasks, state_of}
use Rattle.gauss_jordan.proofs.ScratchEvents.{refreshed, state_shape, broken_again}
use Rattle.parity_engine.specs.declared.state.Mood.TheVariants.{Broken}
use Rattle.gauss_jordan.proofs.scratch.ScratchParityEngine.next_event.Goals as goal

pub returns-in-Broken : goal.returns-in-Broken
returns-in-Broken c =
    let m = c.self.inside in
    let row = c.new.result in
    let P : State → Type 0 = λ t. (n : Named) × (row < length t.named) × (t ≡ names t row n Broken) × IsSameNamed (named_at t row) n × IsNamedNow t n true × IsBroken t n.form in
    subst P c.self.view_is
    (broken_again m.matrix.columns (state_of m.matrix m.level m.held.items m.slots.items m.mood) row c.self.invariant.is.right c.in-Broken.is (c.new.ensures ∙ c.columns-last.ensures.count))

pub answer-event-requires : goal.answer-event-requires
answer-event-requires c =
    let m = c.self.inside in
    let r = c.self.invariant.is in
    let d = c.reduce_outside.new.self in
    let shape = c.reduce_outside.ensures.shape in
    let on : List ℕ = c.fill.new.assigned in
    let ts : List ℕ = c.fill.new.truths in
    let on_long = c.fill.auto.assigned ∙ ap length c.deref_mut.ensures.value ∙ r.assigned_long in
    let ts_long = c.fill.auto.truths ∙ ap length c.deref_mut-2.ensures.value ∙ r.truths_long in
    let on_is = with_items_is m.assigned on (c.fill.auto.assigned ∙ ap length c.deref_mut.ensures.value ∙ sym m.assigned.ok.0) in
    let ts_is = with_items_is m.truths ts (c.fill.auto.truths ∙ ap length c.deref_mut-2.ensures.value ∙ sym m.truths.ok.0) in
    let reduced : (i : ℕ) → i < length d.rows → IsReducedRow d on i = rw (c.deref-2.ensures.value ∙ on_is) at c.reduce_outside.ensures.reduced in
    let masks : AreMasks m.matrix.columns m.held.items on ts (length m.matrix.columns) = rw c.deref.ensures.value at c.fill.ensures in
    rw (c.deref-3.ensures.value, c.deref-4.ensures.value ∙ on_is, c.deref-5.ensures.value ∙ ts_is, c.deref_mut-3.ensures.value)
    (record {
      scratch = refreshed m.matrix d m.level m.held.items m.assigned.items m.truths.items on ts m.slots.items m.mood r shape c.reduce_outside.ensures.of_given on_long ts_long;
      whole = c.in_default.not-Broken;
      masks = subst (λ cs. AreMasks cs m.held.items on ts (length cs)) (sym shape.columns) masks;
      reduced = reduced;
    })

pub returns : goal.returns
returns c =
    let m = c.self.inside in
    let d = c.reduce_outside.new.self in
    let slots_is = with_items_is m.slots c.answer-event.new.slots (c.answer-event.auto.slots ∙ ap length c.deref_mut-3.ensures.value ∙ sym m.slots.ok.0) in
    let before : state_of d m.level c.deref-3.result.now c.deref_mut-3.result.now m.mood ≡ c.args.self.now =
    ap (λ hs. state_of d m.level hs c.deref_mut-3.result.now m.mood) c.deref-3.ensures.value
    ∙ ap (λ (ss : List RowSlot). state_of d m.level m.held.items ss m.mood) c.deref_mut-3.ensures.value
    ∙ state_shape m.matrix d m.level m.held.items m.slots.items m.mood c.reduce_outside.ensures.shape ∙ c.self.view_is in
    rw slots_is
    (subst (λ (s : State). Reports s c.answer-event.result.0 (state_of d m.level m.held.items c.answer-event.new.slots c.answer-event.result.1)) before
    (subst (λ hs. Reports (state_of d m.level c.deref-3.result.now c.deref_mut-3.result.now m.mood) c.answer-event.result.0 (state_of d m.level hs c.answer-event.new.slots c.answer-event.result.1))
    c.deref-3.ensures.value c.answer-event.ensures.answers))
