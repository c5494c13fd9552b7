use Rattle.std.proofs.Common.{◌≡◌, ◌∙◌, ◌-◌, ◌<◌, ◌≤◌, Some, arith, length, refl, sym, subst}
use Rattle.std.specs.Prelude.{IsSome}
use Rattle.std.proofs.lemmas.Result.{IfOk-weaker}
use Rattle.parity_engine.specs.State.{Named, OfNamed, State, named_at}
use Rattle.parity_engine.specs.Written.{IsWritten}
use Rattle.gauss_incremental.specs.ShortFirst.{short_at}
use Rattle.gauss_incremental.proofs.ShortNames.{row_before, row_within, row_written}
use Rattle.gauss_incremental.proofs.short_first.ShortFirstParityEngine.row_parity.Goals as goal

pub row_parity-requires : goal.row_parity-requires
row_parity-requires c =
    let m = c.self.inside in
    let place = c.place-place.ensures in
    let rows = c.rows-rows.ensures.count in
    let lt : c.args.row < length m.engine.state.named = omega arith in
    subst IsSome (row_before m.engine.state m.shorts.items m.named m.told c.self.invariant c.args.row lt)
    (subst (λ (q : State). IsSome (named_at q c.args.row)) (sym c.self.view_is) c.requires)

pub returns-then-place-rows : goal.returns-then-place-rows
returns-then-place-rows c =
    let m = c.self.inside in
    let place = c.place-place.ensures in
    let rows = c.rows-rows.ensures.count in
    let lt : c.args.row < length m.engine.state.named = omega arith in
    IfOk-weaker c.row_parity.result (λ p. OfNamed m.engine.state c.args.row (λ (n : Named). IsWritten n.form p)) (λ p. OfNamed c.args.self.now c.args.row (λ (n : Named). IsWritten n.form p))
    (λ p of n at.
    of n (sym (row_before m.engine.state m.shorts.items m.named m.told c.self.invariant c.args.row lt) ∙ subst (λ (q : State). named_at q c.args.row ≡ Some n) (sym c.self.view_is) at))
    c.row_parity.ensures.named

pub parity_at-requires : goal.parity_at-requires
parity_at-requires c =
    let m = c.self.inside in
    let place = c.place-place.ensures in
    let rows = c.rows-rows.ensures.count in
    let le : length m.engine.state.named ≤ c.args.row = omega arith in
    let lt = row_within m.engine.state m.shorts.items m.named m.told c.self.invariant c.args.row (subst (λ (q : State). IsSome (named_at q c.args.row)) (sym c.self.view_is) c.requires) le in
    rw c.deref.ensures.value (omega (arith, lt))

pub returns : goal.returns
returns c =
    let m = c.self.inside in
    let place = c.place-place.ensures in
    let rows = c.rows-rows.ensures.count in
    let le : length m.engine.state.named ≤ c.args.row = omega arith in
    let here : c.place-place.result - c.rows-rows.result ≡ c.args.row - length m.engine.state.named = omega arith in
    IfOk-weaker c.parity_at.result (λ p. p ≡ (short_at c.deref.result.now (c.place-place.result - c.rows-rows.result)).lits) (λ p. OfNamed c.args.self.now c.args.row (λ (n : Named). IsWritten n.form p))
    (λ p e n at.
    row_written m.engine.state m.shorts.items m.named m.told c.self.invariant c.args.row n p (subst (λ (q : State). named_at q c.args.row ≡ Some n) (sym c.self.view_is) at) le
    (e ∙ rw (c.deref.ensures.value, here) refl))
    c.parity_at.ensures
