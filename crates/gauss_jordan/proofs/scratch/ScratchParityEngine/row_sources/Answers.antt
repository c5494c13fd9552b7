use Rattle.std.proofs.Common.{◌≡◌, ◌∙◌, ℕ, List, ap, subst, length, get_or}
use Rattle.std.proofs.lemmas.Result.{IfOk-weaker}
use Rattle.parity_engine.specs.Equations.{numbers_from, sum_of_numbers}
use Rattle.gauss_jordan.specs.declared.slot.RowSlot.{RowSlot}
use Rattle.gauss_jordan.specs.Slots.{first_bits}
use Rattle.parity_engine.specs.State.{State, Named, OfNamed}
use Rattle.parity_engine.specs.Written.{AreRising}
use Rattle.gauss_jordan.proofs.ScratchEvents.{sources_listed}
use Rattle.gauss_jordan.proofs.scratch.ScratchParityEngine.row_sources.Goals as goal

pub returns : goal.returns
returns c =
    let m = c.self.inside in
    let P : State → List ℕ → Type 0 = λ t s. OfNamed t c.args.row (λ (n : Named). (s ≡ n.sources) × AreRising 1 (length t.parities) s × (n.form ≡ sum_of_numbers t.parities s)) in
    IfOk-weaker c.source_list.result (λ s. s ≡ numbers_from 1 (first_bits c.given.result c.deref.result.now)) (P c.args.self.now)
    (λ s is.
    subst (λ (t : State). P t s) c.self.view_is
    (sources_listed m.matrix m.level m.held.items m.assigned.items m.truths.items m.slots.items m.mood c.self.invariant.is c.args.row c.index-slot.result.now s
    (is ∙ ap (λ k. numbers_from 1 (first_bits k c.deref.result.now)) c.given.ensures.count
    ∙ ap (λ ws. numbers_from 1 (first_bits (length m.matrix.given) ws)) (c.deref.ensures.value ∙ ap (λ (e : RowSlot). e.sources.items) (c.index-slot.ensures ∙ ap (λ i. get_or m.slots.items i c.index-slot.result.now) c.place.ensures)))))
    c.source_list.ensures
