use Rattle.std.proofs.Common.{arith}
use Rattle.cdcl_core.proofs.BesideLaws.{none_of, one_more_goes_on}
use Rattle.cdcl_core.proofs.ending_rows.LevelZero.first_ending.Goals as goal

pub loop-place-preserved : goal.loop-place-preserved
loop-place-preserved g c = one_more_goes_on c.args.self.now.formula.now.constraints c.args.self.now.state.now (g.P.ParityEngine.state c.args.self.now.engine.now) c.loop-place.place c.loop-place.invariant (c.in_ok-row.ensures.none (none_of c.in_ok-row.field-0 c.in_default.not-Some))

pub returns : goal.returns
returns g c = λ i late within.
    let far = c.loop-place-test.false in
    let long = c.len-place-end.ensures.len in
    c.loop-place.invariant i late (omega (arith, far, long, within))
