use Rattle.std.proofs.Common.{◌≡◌, ◌<◌, ◌≤◌, ◌*◌, ◌^◌, ℕ}
use Rattle.search_policy.specs.Restarts.{IsLuby}
use Rattle.search_policy.proofs.restart.luby.Given as goal

abbrev pub invariant-back : goal.invariant-back
invariant-back l = record {
  some : 1 ≤ l.place;
  few : l.place < 2 ^ 63;
  power : (k : ℕ) × (l.power ≡ 2 ^ k);
  within : l.power ≤ l.place;
  greatest : l.place < 2 * l.power;
  same : (v : ℕ) → IsLuby l.place v → IsLuby l.i v;
}

abbrev pub decreases-back : goal.decreases-back
decreases-back l = l.place
