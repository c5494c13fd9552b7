use Rattle.std.proofs.Common.{◌≡◌, ◌∙◌, ◌-◌, ◌<◌, ◌≤◌, [], ◌∷◌, Some, arith, length, refl, sym, subst}
use Rattle.std.specs.Prelude.{IsSome}
use Rattle.std.proofs.lemmas.Result.{IfOk-weaker}
use Rattle.parity_engine.specs.Equations.{sum_of_numbers}
use Rattle.parity_engine.specs.State.{Named, OfNamed, State, named_at}
use Rattle.parity_engine.specs.Written.{AreRising}
use Rattle.gauss_incremental.specs.ShortFirst.{short_at}
use Rattle.gauss_incremental.proofs.ShortNames.{row_before, row_numbers, row_within}
use Rattle.gauss_incremental.proofs.short_first.ShortFirstParityEngine.row_sources.Goals as goal

pub row_sources-requires : goal.row_sources-requires
row_sources-requires c =
    let m = c.self.inside in
    let place = c.place-place.ensures in
    let rows = c.rows-rows.ensures.count in
    let lt : c.args.row < length m.engine.state.named = omega arith in
    subst IsSome (row_before m.engine.state m.shorts.items m.named m.told c.self.invariant c.args.row lt)
    (subst (λ (q : State). IsSome (named_at q c.args.row)) (sym c.self.view_is) c.requires)

pub returns-then-place-rows : goal.returns-then-place-rows
returns-then-place-rows c =
    let m = c.self.inside in
    let place = c.place-place.ensures in
    let rows = c.rows-rows.ensures.count in
    let lt : c.args.row < length m.engine.state.named = omega arith in
    IfOk-weaker c.row_sources.result (λ s. OfNamed m.engine.state c.args.row (λ (n : Named). (s ≡ n.sources) × AreRising 1 (length m.engine.state.parities) s × (n.form ≡ sum_of_numbers m.engine.state.parities s))) (λ s. OfNamed c.args.self.now c.args.row (λ (n : Named). (s ≡ n.sources) × AreRising 1 (length c.args.self.now.parities) s × (n.form ≡ sum_of_numbers c.args.self.now.parities s)))
    (λ s of n at.
    let same = of n (sym (row_before m.engine.state m.shorts.items m.named m.told c.self.invariant c.args.row lt) ∙ subst (λ (q : State). named_at q c.args.row ≡ Some n) (sym c.self.view_is) at) in
    subst (λ (q : State). (s ≡ n.sources) × AreRising 1 (length q.parities) s × (n.form ≡ sum_of_numbers q.parities s)) c.self.view_is same)
    c.row_sources.ensures.named

pub number_at-requires : goal.number_at-requires
number_at-requires c =
    let m = c.self.inside in
    let place = c.place-place.ensures in
    let rows = c.rows-rows.ensures.count in
    let le : length m.engine.state.named ≤ c.args.row = omega arith in
    let lt = row_within m.engine.state m.shorts.items m.named m.told c.self.invariant c.args.row (subst (λ (q : State). IsSome (named_at q c.args.row)) (sym c.self.view_is) c.requires) le in
    rw c.deref.ensures.value (omega (arith, lt))

pub returns : goal.returns
returns c =
    let m = c.self.inside in
    let place = c.place-place.ensures in
    let rows = c.rows-rows.ensures.count in
    let le : length m.engine.state.named ≤ c.args.row = omega arith in
    let here : c.place-place.result - c.rows-rows.result ≡ c.args.row - length m.engine.state.named = omega arith in
    IfOk-weaker c.number_at.result (λ s. s ≡ (short_at c.deref.result.now (c.place-place.result - c.rows-rows.result)).number ∷ []) (λ s. OfNamed c.args.self.now c.args.row (λ (n : Named). (s ≡ n.sources) × AreRising 1 (length c.args.self.now.parities) s × (n.form ≡ sum_of_numbers c.args.self.now.parities s)))
    (λ s e n at.
    let same = row_numbers m.engine.state m.shorts.items m.named m.told c.self.invariant c.args.row n s (subst (λ (q : State). named_at q c.args.row ≡ Some n) (sym c.self.view_is) at) le
    (e ∙ rw (c.deref.ensures.value, here) refl) in
    subst (λ (q : State). (s ≡ n.sources) × AreRising 1 (length q.parities) s × (n.form ≡ sum_of_numbers q.parities s)) c.self.view_is same)
    c.number_at.ensures
