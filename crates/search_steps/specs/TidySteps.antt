-- The steps of a tidying, told one after another.
use Rattle.std.specs.Prelude.{◌≡◌, ℕ, ℤ, true, List, map}
use Rattle.std.specs.List.{AllByRecursion}
use Rattle.cx_base.specs.Assumptions.{IsFailed}
use Rattle.cx_base.specs.Literals.{Literal}
use Rattle.cx_base.specs.Problem.{Problem}
use Rattle.cx_base.specs.declared.steps.LogEvent.{LogEvent}
use Rattle.cx_base.specs.declared.steps.LogEvent.TheVariants.{Step}
use Rattle.cx_base.specs.declared.steps.LogStep.{LogStep}
use Rattle.cx_base.specs.declared.steps.LogStep.TheVariants.{Delete}
use Rattle.cx_semantics.specs.Chain.{negations}
use Rattle.cx_semantics.specs.Marked.{Marked}
use Rattle.search_steps.specs.Hints.{AreHinted}
use Rattle.search_steps.specs.LogSteps.{IsEnded, IsNoReason, all_told}
use Rattle.search_steps.specs.Schedule.{IsRestart, IsScheduledIn}
use Rattle.search_steps.specs.Search.{Search, IsTidy}
use Rattle.search_steps.specs.Trail.{Entry, level_of}

-- they delete no reason
abbrev pub SpareReasons : List Entry → List LogStep → Type 0
SpareReasons trail steps = AllByRecursion (λ step. (n : ℕ) (zs : List ℤ) → step ≡ Delete n zs → IsNoReason n trail) steps

-- a search that restarts: it has not decided since, no clause is owed, and nothing temporary is left
pub record IsAtStart (s : Search) : Type 0 where
  pub tidy : IsTidy s
  pub level_0 : level_of s.trail ≡ 0
  pub restart : IsRestart s.conflicts

-- the search after these steps
abbrev pub steps_told : Search → List LogStep → Search
steps_told s steps = all_told s (map Step steps)

-- the log of a search that tidies has ended with this many marks, and the negations of these literals are assumed
pub record IsEndedTidily (formula : Problem) (events : List LogEvent) (marks : ℕ) (lits : List Literal) : Type 0 where
  pub ended : IsEnded formula events
  pub marked : Marked formula events marks
  pub scheduled : IsScheduledIn true events
  pub hinted : AreHinted events
  pub failed : IsFailed formula (negations lits)
