use Rattle.std.proofs.Common.{sym, subst, ◌+◌, ◌++◌, append-nil, arith}
use Rattle.std.proofs.lemmas.List.{take_all}
use Rattle.cdcl_search.specs.Tells.{as_events, AreStepsOf}
use Rattle.cdcl_core.specs.Shortening.{unit_parity_events}
use Rattle.cdcl_core.proofs.ShortSteps.{unit_step}
use Rattle.cdcl_core.proofs.shortening.push_unit_parities.Goals as goal

pub loop-unit-init : goal.loop-unit-init
loop-unit-init c = (omega arith, record { are = sym (append-nil (as_events c.args.steps.now.items)); texts = c.requires.texts })

pub unit_parity-requires-clause-id : goal.unit_parity-requires-clause-id
unit_parity-requires-clause-id c =
    let is = c.loop-unit.invariant.0 in
    let less = c.loop-unit-test.true in
    let low = c.requires.ids.0 in
    let high = c.requires.ids.1 in
    (omega (arith, is, low), omega (arith, is, less, high))

pub loop-unit-preserved : goal.loop-unit-preserved
loop-unit-preserved c =
    let is = c.loop-unit.invariant.0 in (
      omega (arith, is),
      unit_step (as_events c.args.steps.now.items) c.args.first c.loop-unit.unit-index c.loop-unit.id c.args.units.now c.unit-item.result c.loop-unit.steps.items _ c.in_ok-step.step c.loop-unit-test.true c.unit-item.is is
          c.loop-unit.invariant.1 c.in_ok-step.ensures c.in_ok-push.ensures.items,
    )

pub returns : goal.returns
returns c = subst (λ us. AreStepsOf (as_events c.args.steps.now.items ++ unit_parity_events c.args.first us) c.loop-unit.steps.items) (take_all c.loop-unit.unit-index c.args.units.now c.loop-unit-test.false) c.loop-unit.invariant.1
