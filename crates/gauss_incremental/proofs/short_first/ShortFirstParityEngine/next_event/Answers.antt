use Rattle.std.proofs.Common.{◌≡◌, ◌+◌, ◌∙◌, length, ap, sym, subst}
use Rattle.parity_engine.specs.declared.event.ParityEvent.TheVariants.{Conflict}
use Rattle.parity_engine.specs.State.{Reports, State}
use Rattle.gauss_incremental.specs.declared.short_first.Told.TheVariants.{ByUnmet}
use Rattle.gauss_incremental.specs.ShortFirst.{AreShortsOf, IsTold, with_shorts}
use Rattle.gauss_incremental.proofs.ShortNames.{again, by_matrix}
use Rattle.gauss_incremental.proofs.short_first.ShortFirstParityEngine.next_event.Goals as goal

pub row_of-requires : goal.row_of-requires
row_of-requires c =
    let m = c.self.inside in
    let told : IsTold m.engine.state m.shorts.items m.named (ByUnmet c.in-ByUnmet.place) = subst (IsTold m.engine.state m.shorts.items m.named) c.in-ByUnmet.is c.self.invariant.by in
    rw c.deref.ensures.value (record { place_in = told.0; few = c.self.invariant.few })

pub returns-in-ByUnmet : goal.returns-in-ByUnmet
returns-in-ByUnmet c =
    let m = c.self.inside in
    let p = c.in-ByUnmet.place in
    let is : AreShortsOf m.engine.state m.shorts.items m.named (ByUnmet p) = subst (AreShortsOf m.engine.state m.shorts.items m.named) c.in-ByUnmet.is c.self.invariant in
    let view : with_shorts m.engine.state m.shorts.items m.named (ByUnmet p) ≡ c.args.self.now = ap (with_shorts m.engine.state m.shorts.items m.named) (sym c.in-ByUnmet.is) ∙ c.self.view_is in
    subst (λ r. Reports c.args.self.now (Conflict r) c.args.self.now) (sym c.row_of.ensures)
    (subst (λ (q : State). Reports q (Conflict (length m.engine.state.named + p)) q) view (again m.engine.state m.shorts.items m.named p is))

pub find-finding-requires : goal.find-finding-requires
find-finding-requires c = rw c.deref-2.ensures.value (record { long = c.self.invariant.long; each = c.self.invariant.each })

pub answer-event-requires : goal.answer-event-requires
answer-event-requires c =
    let m = c.self.inside in
    rw c.deref-3.ensures.value
    (record {
      shorts = by_matrix m.engine.state m.shorts.items m.named m.told c.in_default.not-ByUnmet c.self.invariant;
      found = rw c.deref-2.ensures.value at c.find-finding.ensures;
    })

pub invariant_of-self : goal.invariant_of-self
invariant_of-self c = rw c.deref-3.ensures.value at c.answer-event.ensures.shorts

pub returns : goal.returns
returns c =
    let m = c.self.inside in
    let says = rw c.deref-3.ensures.value at c.answer-event.ensures.reports in
    subst (λ (q : State). Reports q c.answer-event.result.0 (with_shorts c.answer-event.new.engine.state m.shorts.items c.answer-event.new.named c.answer-event.result.1)) c.self.view_is (says m.told)
