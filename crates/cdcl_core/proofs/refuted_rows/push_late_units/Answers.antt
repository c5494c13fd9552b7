use Rattle.std.proofs.Common.{sym, ap, subst, ◌∙◌, ◌++◌, append-nil, arith}
use Rattle.std.proofs.lemmas.List.{take_all}
use Rattle.cdcl_search.specs.Tells.{as_events, AreStepsOf}
use Rattle.cdcl_core.specs.Shortening.{late_unit_events, late_units_from}
use Rattle.cdcl_core.proofs.LateSteps.{late_step, late_unit}
use Rattle.cdcl_core.proofs.refuted_rows.push_late_units.Goals as goal

pub loop-lit-init : goal.loop-lit-init
loop-lit-init c = (omega arith, record { are = sym (append-nil (as_events c.args.steps.now.items)); texts = c.requires.texts }, sym (append-nil c.args.units.now.items))

pub late_unit-requires : goal.late_unit-requires
late_unit-requires c =
    let is = c.loop-lit.invariant.0 in
    let less = c.loop-lit-test.true in
    let low = c.requires.ids.0 in
    let high = c.requires.ids.1 in
    (omega (arith, is, low), omega (arith, is, less, high))

pub loop-lit-preserved : goal.loop-lit-preserved
loop-lit-preserved c =
    let is = c.loop-lit.invariant.0 in (
      omega (arith, is),
      late_step c.args.first c.loop-lit.lit-index c.args.lits.now c.lit-item.result c.loop-lit-test.true c.lit-item.is (record { literal = c.negate-literal.result; id = c.loop-lit.id }) c.negate-literal.ensures is
          c.args.hints.now (as_events c.args.steps.now.items) c.loop-lit.steps.items _ c.in_ok-step.step c.loop-lit.invariant.1 c.in_ok-step.ensures c.in_ok-push.ensures.items,
      late_unit c.args.first c.loop-lit.lit-index c.args.lits.now c.lit-item.result c.loop-lit-test.true c.lit-item.is (record { literal = c.negate-literal.result; id = c.loop-lit.id }) c.negate-literal.ensures is
          c.args.units.now.items c.loop-lit.units.items _ c.loop-lit.invariant.2 c.in_ok-push-2.ensures.items,
    )

pub returns-clause-steps : goal.returns-clause-steps
returns-clause-steps c = subst (λ ls. AreStepsOf (as_events c.args.steps.now.items ++ late_unit_events c.args.hints.now (late_units_from c.args.first ls)) c.loop-lit.steps.items) (take_all c.loop-lit.lit-index c.args.lits.now c.loop-lit-test.false) c.loop-lit.invariant.1

pub returns-clause-units : goal.returns-clause-units
returns-clause-units c = c.loop-lit.invariant.2 ∙ ap (λ ls. c.args.units.now.items ++ late_units_from c.args.first ls) (take_all c.loop-lit.lit-index c.args.lits.now c.loop-lit-test.false)
