-- An order as its callers see it: scores, the variables in its heap, and the weight of bumps.
use Rattle.std.specs.Prelude.{ℕ, ◌+◌, ◌-◌, ◌/◌, ◌≡◌, ◌≤◌, Bool, true, false, List, length, get_or, replicate, min, zero, suc, if◌then◌else◌}
use Rattle.cx_trail.specs.Sequence.{TrailState, IsOpenIn}
use Rattle.search_policy.specs.declared.scores.TheConstants.{MAX_BUMPS}
use Rattle.search_policy.specs.Scores.{reaches, raised}

-- for each variable its score, and whether it is in the heap, the first being variable 1, and how many bumps a variable
-- of the next conflict is given
pub record OrderState : Type 0 where
  pub scores : List ℕ
  pub standing : List Bool
  pub weight : ℕ

-- n variables of score 0, all in the heap
abbrev pub new_order : ℕ → OrderState
new_order n = record { scores = replicate n 0; standing = replicate n true; weight = 1024 }

-- one bump of variable v: its score rises by 1, and where it reaches the limit all scores and the weight are halved, rounded down
abbrev pub bumped : OrderState → ℕ → OrderState
bumped o v = record {
  scores = raised o.scores (v - 1);
  standing = o.standing;
  weight = if reaches o.scores (v - 1) then o.weight / 2 else o.weight;
}

-- n bumps, one after the other
unfoldable pub bumped_times : OrderState → ℕ → ℕ → OrderState
bumped_times o v zero = o
bumped_times o v (suc n) = bumped_times (bumped o v) v n

-- the weight after a conflict: a thirty-second more, up to what one call may give
abbrev pub grown : ℕ → ℕ
grown weight = min (weight + weight / 32) MAX_BUMPS

abbrev pub StandsInHeap : OrderState → ℕ → Type 0
StandsInHeap o v = get_or o.standing (v - 1) false ≡ true

-- each unassigned variable of the trail is in the heap
pub record AllStand (o : OrderState) (t : TrailState) : Type 0 where
  pub variables : length o.scores ≡ t.variables
  pub stand : (v : ℕ) → 1 ≤ v → v ≤ t.variables → IsOpenIn t.entries v → StandsInHeap o v
