use Rattle.std.proofs.Common.{◌∙◌, ◌≤◌, subst}
use Rattle.rup_finder.proofs.ReadyLaws.{within_next, within_all}
use Rattle.rup_finder.proofs.ready.are_within.Goals as goal

pub loop-lit-preserved : goal.loop-lit-preserved
loop-lit-preserved c =
    let lit = c.lit-item.result in
    let same = c.number.ensures.number ∙ c.var.ensures in
    within_next c.args.limit c.args.lits.now c.loop-lit.lit-index lit lit c.loop-lit-test.true c.lit-item.is c.loop-lit.invariant
    (subst (λ n. 1 ≤ n) same c.number.ensures.low)
    (subst (λ n. n ≤ c.args.limit) same c.if-number-limit.false)

pub returns : goal.returns
returns c _ = within_all c.args.limit c.args.lits.now c.loop-lit.lit-index c.loop-lit-test.false c.loop-lit.invariant
