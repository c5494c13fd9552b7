-- What a conflict teaches, and what the sink is told of it.
use Rattle.std.specs.List.{All}
use Rattle.std.specs.Prelude.{◌≡◌, ℕ, ◌<◌, ◌≤◌, ◌^◌, ℤ, List, [], ◌∷◌, length, Option, IsTrue, IsFalse}
use Rattle.cx_base.specs.Literals.{Literal}
use Rattle.cx_base.specs.Assumptions.{is_ending}
use Rattle.cx_base.specs.Problem.{Problem}
use Rattle.cx_base.specs.declared.steps.LogEvent.{LogEvent}
use Rattle.cx_base.specs.Integers.{integers_of, literals}
use Rattle.cx_semantics.specs.Chain.{has_literal}
use Rattle.cx_semantics.specs.Ids.{highest_id}
use Rattle.cx_trail.specs.Sequence.{TrailState, IsTrueIn, IsAssignedIn}
use Rattle.conflict_learn.specs.Learning.{negated_at, literals_of, IsFalling}
use Rattle.conflict_learn.specs.Levels.{levels_at, second, Teaches}
use Rattle.conflict_learn.specs.Touching.{AreTouched}
use Rattle.conflict_learn.specs.declared.learning.Learned.{Learned}
use Rattle.conflict_learn.specs.declared.learning.Resolved.{Resolved}
use Rattle.parity_engine.specs.State.{State}
use Rattle.search_policy.specs.Assuming.{AreApart}
use Rattle.search_steps.specs.Hints.{AreHintsFor}
use Rattle.search_steps.specs.Recovering.{SettledWithRecovered}
use Rattle.search_steps.specs.Search.{Search, IsSearchIn, IsLearnedOf}
use Rattle.search_steps.specs.LogSteps.{after_round}
use Rattle.search_steps.specs.Holding.{AreTold}
use Rattle.cdcl_search.specs.declared.state.SearchState.{SearchState}
use Rattle.cdcl_search.specs.Sources.{IsSourcedBy}
use Rattle.cdcl_search.specs.Ties.{SearchStands, Ties, IsWatched}
use Rattle.cdcl_core.specs.Failing.{IsFree}

-- The literals are the negations of those at falling places of the trail. The back level is that of the second one, 0 where there is none.
pub record ArePlaced (trail : TrailState) (lits : List Literal) (back : ℕ) : Type 0 where
  pub first : ℕ
  pub rest : List ℕ
  pub are : lits ≡ negated_at trail (first ∷ rest)
  pub falling : IsFalling (first ∷ rest)
  pub within : first < length trail.entries
  pub back_is : back ≡ second (levels_at trail (first ∷ rest))

-- The search is before the mark. The clause is asserting by its first literal and is no ending clause, and there is an id for it and a number for its mark.
pub record IsTaught (formula : Problem) (c : SearchState) (e : State) (lits : List Literal) (back : ℕ) (s : Search) : Type 0 where
  pub search : IsSearchIn c.tidies formula e.parities s
  pub rows : List (List Literal)
  pub ties : Ties formula c e rows s
  pub watched : IsWatched c.watches c.arena c.trail
  pub first : Literal
  pub more : List Literal
  pub parts : lits ≡ first ∷ more
  pub learned : IsLearnedOf s.trail back lits first
  pub placed : ArePlaced c.trail lits back
  pub integers : literals (integers_of lits) ≡ lits
  pub goes_on : IsFalse (is_ending formula.constraints lits)
  pub room : c.next ≤ highest_id
  pub few : c.conflicts < 10 ^ 18

-- What the sink tells ends with the mark, the learned clause with right hints, and the deletions of the clauses of rows.
pub record Learns (formula : Problem) (c : SearchState) (e : State) (lits : List Literal) (back : ℕ) (told : Option (List LogEvent)) : Type 0 where
  pub search : Search
  pub taught : IsTaught formula c e lits back search
  pub hints : List ℤ
  pub right : AreHintsFor search.moment.tables.clauses lits hints
  pub told_is : AreTold told (after_round search c.next (integers_of lits) hints back taught.first).events

-- the variables of the resolved literals have values, and the touched ones are theirs and the learned clause's
pub record AreUsed (trail : TrailState) (learned : Learned) : Type 0 where
  pub assigned : All (λ (r : Resolved). IsAssignedIn trail.entries r.literal.variable) learned.resolved.items
  pub touched : AreTouched trail (literals_of learned.resolved.items) learned.lits learned.touched.items

-- The clause that a conflict teaches: resolved from that and the clauses that the search holds, on literals of the trail, which are touched with its own.
pub record IsLesson (c : SearchState) (rows : List (List Literal)) (conflict : List Literal) (learned : Learned) : Type 0 where
  pub teaches : Teaches c.trail conflict (IsSourcedBy c rows) learned.resolved.items learned.lits learned.back_level learned.lbd
  pub stand : (l : Literal) → IsTrue (has_literal (literals_of learned.resolved.items) l) → IsTrueIn c.trail.entries l
  pub touched : AreTouched c.trail (literals_of learned.resolved.items) learned.lits learned.touched.items

-- the search is above level 0, no literal on its trail that a row implied contradicts an assumed one, and none of the current level is assumed; the conflict can be counted, and propagation alone does not settle the formula
pub record MayLearn (formula : Problem) (c : SearchState) : Type 0 where
  pub above : 0 < c.trail.level
  pub apart : AreApart formula.constraints c.trail (length c.trail.entries)
  pub free : IsFree formula.constraints c.trail
  pub few : c.conflicts < 10 ^ 18
  pub unsettled : ¬ SettledWithRecovered formula

-- where the sink was told what this clause was learned from, the search fits that
abbrev pub StandsBehind : Problem → SearchState → State → Learned → SearchState → State → Type 0
StandsBehind formula c e learned now e_now = (told : Option (List LogEvent)) → Learns formula c e learned.lits learned.back_level told → SearchStands formula now e_now [] told
