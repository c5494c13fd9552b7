-- Many bumps of a score at once.
use Rattle.std.specs.Prelude.{ℕ, ◌+◌, ◌-◌, ◌/◌, ◌≡◌, ◌<◌, ◌≤◌, List, get_or, set, map}
use Rattle.search_policy.specs.declared.scores.TheConstants.{SCORE_LIMIT}

-- the score at place i has risen, and is still below the limit
pub record IsRaised (old : List ℕ) (i times : ℕ) (new : List ℕ) : Type 0 where
  pub below : get_or old i 0 + times < SCORE_LIMIT
  pub scores : new ≡ set old i (get_or old i 0 + times)

-- it has come to the limit, all were halved, and what was left of times has raised it again
pub record IsHalved (old : List ℕ) (i times : ℕ) (new : List ℕ) : Type 0 where
  pub reached : SCORE_LIMIT ≤ get_or old i 0 + times
  pub scores : new ≡ set (map (λ s. s / 2) old) i (SCORE_LIMIT / 2 + (get_or old i 0 + times - SCORE_LIMIT))
