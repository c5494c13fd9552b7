use Rattle.std.proofs.Common.{sym, subst, ℕ, Option, Contains}
use Rattle.rup_engine.specs.Searching.{IsGiver}
use Rattle.rup_engine.proofs.SearchLaws.{given_refuted}
use Rattle.rup_engine.proofs.refuter.refuter.Goals as goal

pub returns-in-Some : goal.returns-in-Some
returns-in-Some c a w rests broken =
    let l = c.lit-item.result in
    let t = c.args.trail.now in
    let inside : Contains c.args.target.now l = (c.loop-lit.lit-index, c.loop-lit-test.true, sym c.lit-item.is) in
    let gave = subst (λ (x : Option ℕ). IsGiver l t.entries x) c.in-Some.is c.giver.ensures in
    given_refuted c.args.limit c.args.target.now a w t l c.in-Some.reference rests inside gave.0 gave.1 gave.2 gave.3
