use Rattle.std.proofs.Common.{◌≡◌, ◌≤◌, ◌+◌, refl, sym, ap, ◌∙◌, subst, true, not, List, [], Option, arith}
use Rattle.cx_base.specs.declared.steps.LogEvent.{LogEvent}
use Rattle.parity_engine.specs.declared.state.Mood.TheVariants.{Busy, Broken}
use Rattle.parity_engine.specs.State.{State, assigned, held_at, is_unassigned}
use Rattle.cdcl_search.specs.Ties.{SearchStands}
use Rattle.cdcl_search.proofs.Feeding.{few_given, given_stands, next_within, next_unassigned}
use Rattle.cdcl_search.proofs.propagation.feed.Goals as goal

pub loop-place-init : goal.loop-place-init
loop-place-init g c = record { stands = λ told stands. stands; unbroken = c.requires.unbroken }

pub assign-requires-clause-within : goal.assign-requires-clause-within
assign-requires-clause-within g c =
    let t = c.loop-place-test.true in
    let n = c.len-place-end.ensures.len in
    subst (λ v. v ≤ (g.P.ParityEngine.state c.loop-place.engine).vars) (sym (c.var.ensures ∙ ap (λ x. x.literal.variable) c.entry-literal.ensures.is))
    (next_within c.args.formula.now (record c.args.state.now { given = c.loop-place.place }) (g.P.ParityEngine.state c.loop-place.engine) [] c.requires.stands.0 (omega (arith, t, n)) (c.loop-place.invariant.stands c.requires.stands.0 c.requires.stands.1))

pub assign-requires-clause-unassigned : goal.assign-requires-clause-unassigned
assign-requires-clause-unassigned g c =
    let t = c.loop-place-test.true in
    let n = c.len-place-end.ensures.len in
    subst (λ v. is_unassigned (held_at (g.P.ParityEngine.state c.loop-place.engine).values v) ≡ true) (sym (c.var.ensures ∙ ap (λ x. x.literal.variable) c.entry-literal.ensures.is))
    (next_unassigned c.args.formula.now (record c.args.state.now { given = c.loop-place.place }) (g.P.ParityEngine.state c.loop-place.engine) [] c.requires.stands.0 (omega (arith, t, n)) (c.loop-place.invariant.stands c.requires.stands.0 c.requires.stands.1))

pub assign-requires-clause-no_conflict : goal.assign-requires-clause-no_conflict
assign-requires-clause-no_conflict g c = c.loop-place.invariant.unbroken

busy_is_not_broken : Busy ≡ Broken → ⊥
busy_is_not_broken e = cc

pub loop-place-preserved : goal.loop-place-preserved
loop-place-preserved g c =
    let t = c.loop-place-test.true in
    let n = c.len-place-end.ensures.len in
    let variable = c.var.ensures ∙ ap (λ x. x.literal.variable) c.entry-literal.ensures.is in
    let negative = c.is_negative.ensures ∙ ap (λ x. x.literal.negative) c.entry-literal.ensures.is in
    let e = g.P.ParityEngine.state c.loop-place.engine in
    let is = c.assign.ensures ∙ (λ i. assigned e (variable i) (not (negative i))) in
    record {
      stands = λ told stands. subst (λ u. SearchStands c.args.formula.now (record c.args.state.now { given = c.loop-place.place + 1 }) u [] told) (sym is)
          (given_stands c.args.formula.now (record c.args.state.now { given = c.loop-place.place }) e [] told (omega (arith, t, n)) (c.loop-place.invariant.stands told stands));
      unbroken = λ b. busy_is_not_broken (sym (ap (λ (u : State). u.mood) is) ∙ b);
    }

pub returns-clause-stays : goal.returns-clause-stays
returns-clause-stays g c =
    let stays = λ (told : Option (List LogEvent)) (stands : SearchStands c.args.formula.now c.args.state.now (g.P.ParityEngine.state c.args.engine.now) [] told).
    let few = few_given c.args.formula.now c.args.state.now (g.P.ParityEngine.state c.args.engine.now) [] told stands in
    let n = c.len-place-end.ensures.len in
    let m = c.len-state.ensures.len in
    let up = c.loop-place.auto.place-end in
    let past = c.loop-place-test.false in
    let all : c.loop-place.place ≡ c.len-state.result = let high = up (omega (arith, few, n)) in omega (arith, n, m, high, past) in
    subst (λ k. SearchStands c.args.formula.now (record c.args.state.now { given = k }) (g.P.ParityEngine.state c.loop-place.engine) [] told) all (c.loop-place.invariant.stands told stands) in
    record { stands = stays; unbroken = c.loop-place.invariant.unbroken; tidies = refl }
