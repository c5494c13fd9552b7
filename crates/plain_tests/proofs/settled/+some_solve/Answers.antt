use Rattle.std.proofs.Common.{◌∙◌, arith}
use Rattle.plain_tests.proofs.StandingLaws.{ok_maps}
use Rattle.plain_tests.proofs.SettlingLaws.{by_high}
use Rattle.plain_tests.proofs.settled.+some_solve.Goals as goal

pub returns : goal.returns
returns t c =
    let left = c.if-left-eq0.false in
    ok_maps c.some_solve-2.result c.some_solve-2.ensures (λ b e. by_high c.args.parities.now c.args.part.now c.args.values.now c.deref.result.now c.deref-2.result.now c.args.left c.in_ok-some_solve.field-0 b (omega (arith, left))
    (c.deref.ensures.value ∙ c.in_ok-low.ensures) (c.deref-2.ensures.value ∙ c.in_ok-high.ensures) c.in_ok-some_solve.ensures c.if-branch.false e)
