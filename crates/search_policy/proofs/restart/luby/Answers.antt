use Rattle.std.proofs.Common.{◌≡◌, ◌<◌, ◌≤◌, ◌+◌, ◌-◌, ◌*◌, ◌^◌, ℕ, subst, arith}
use Rattle.search_policy.specs.Restarts.{IsLuby, ends, repeats}
use Rattle.search_policy.proofs.restart.luby.Goals as goal

-- what comes before the end of a block is what all began with
inside : (i power k v : ℕ) → power ≡ 2 ^ k → power ≤ i → i + 1 < 2 * power → IsLuby (i - power + 1) v → IsLuby i v
inside i power k v e within before h = repeats k (subst (λ p. p ≤ i) e within) (subst (λ p. i + 1 < 2 * p) e before) (subst (λ p. IsLuby (i - p + 1) v) e h)

at_end : (i power k : ℕ) → power ≡ 2 ^ k → i + 1 ≡ 2 * power → IsLuby i power
at_end i power k e h = ends k (subst (λ p. i + 1 ≡ 2 * p) e h) e

pub back-preserved : goal.back-preserved
back-preserved c =
    let i = c.back.invariant in
    let e = c.power_within-power-in-back.ensures in
    record {
      some = omega arith;
      few = omega (arith, i.few, i.within);
      power = e.power;
      within = e.within;
      greatest = e.greatest;
      same = λ v h. i.same v (inside c.back.place c.back.power i.power.0 v i.power.1 i.within c.back-test.true h);
    }

pub returns : goal.returns
returns c =
    let i = c.back.invariant in
    i.same _ (at_end c.back.place c.back.power i.power.0 i.power.1 (omega (arith, i.greatest, c.back-test.false)))
