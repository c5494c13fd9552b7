-- What the engine is given: the formula's parities, and after them those that are recovered from its clauses.
use Rattle.std.specs.Prelude.{◌≡◌, ℕ, ◌+◌, ◌<◌, ◌≤◌, Bool, false, List, [], length, None, Option}
use Rattle.std.specs.List.{AllByRecursion}
use Rattle.cx_base.specs.Literals.{Literal}
use Rattle.cx_base.specs.Problem.{Problem, AreWithin, clauses_of}
use Rattle.cx_base.specs.declared.steps.LogEvent.{LogEvent}
use Rattle.cx_semantics.specs.Tables.{get}
use Rattle.search_steps.specs.Holding.{AreTold}
use Rattle.search_steps.specs.Ids.{HasFreeSums}
use Rattle.search_steps.specs.Laws.{HaveTheirs}
use Rattle.search_steps.specs.Search.{Search, IsSearchIn, IsTidy}
use Rattle.search_steps.specs.Size.{additions}
use Rattle.xor_recover.specs.Finds.{IsJudgedRight}
use Rattle.xor_recover.specs.declared.found.FoundParity.{FoundParity}
use Rattle.cdcl_core.specs.Originals.{AreListedFromOne}

-- The formula's clauses and these parities are under their numbers, nothing else is told, and no literal is on the trail.
pub record IsGiven (formula : Problem) (parities : List (List Literal)) (s : Search) : Type 0 where
  pub search : (tidies : Bool) → IsSearchIn tidies formula parities s
  pub clauses : AreListedFromOne s.moment.tables.clauses (clauses_of formula.constraints)
  pub no_more : (n : ℕ) → length (clauses_of formula.constraints) < n → get s.moment.tables.clauses n ≡ None
  pub listed : AreListedFromOne s.moment.tables.parities parities
  pub sums : HasFreeSums (length parities) s.moment
  pub no_trail : s.trail ≡ []
  pub no_level : s.quiet_levels ≡ 0
  pub no_conflict : s.conflicts ≡ 0
  pub no_learned : s.moment.learned ≡ []
  pub no_reduction : s.moment.reductions ≡ 0
  pub not_reducing : s.moment.reduces ≡ false
  pub tidy : IsTidy s
  pub few_additions : additions s.events ≤ length (clauses_of formula.constraints) + length parities

-- the log has the formula's constraints, and after its parities the others of these
abbrev pub HasGiven : Problem → List (List Literal) → Option (List LogEvent) → Type 0
HasGiven formula parities told = (s : Search) × IsGiven formula parities s × AreTold told s.events

-- The parities are over the formula's variables, no more than its constraints, and say what its own and the recovered ones do.
pub record AreEngines (formula : Problem) (parities : List (List Literal)) : Type 0 where
  pub within : AllByRecursion (AreWithin formula.variables) parities
  pub few : length parities ≤ length formula.constraints
  pub theirs : HaveTheirs formula parities

-- the recovered parity is over the formula's variables, and is judged right from its clauses
pub record IsRightFind (formula : Problem) (find : FoundParity) : Type 0 where
  pub within : AreWithin formula.variables find.parity
  pub judged : IsJudgedRight formula find
