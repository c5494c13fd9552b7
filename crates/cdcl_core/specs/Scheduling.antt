-- What the schedule of restarts counts.
use Rattle.std.specs.Prelude.{◌≡◌, ℕ, ◌+◌, ◌*◌, List, length}
use Rattle.std.specs.List.{sum}
use Rattle.search_policy.specs.Restarts.{IsDue}
use Rattle.search_steps.specs.Schedule.{AreLuby}
use Rattle.cdcl_core.specs.declared.schedule.Schedule.{Schedule}

-- The conflicts are those up to the last restart, and those since, which are too few for the next one.
pub record IsOnSchedule (schedule : Schedule) (conflicts : ℕ) : Type 0 where
  pub numbers : List ℕ
  pub are : AreLuby numbers
  pub restarts : length numbers ≡ schedule.restarts
  pub counted : conflicts ≡ 100 * sum numbers + schedule.since
  pub not_due : ¬ IsDue schedule.since (schedule.restarts + 1)

-- all conflicts but the last are counted
abbrev pub IsOneAhead : Schedule → ℕ → Type 0
IsOneAhead schedule conflicts = (count : ℕ) × (conflicts ≡ count + 1) × IsOnSchedule schedule count
