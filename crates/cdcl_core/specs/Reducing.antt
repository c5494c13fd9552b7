-- What holds within a reduction.
use Rattle.std.specs.Prelude.{◌≡◌, ℕ, ◌+◌, ◌*◌, ◌<◌, ◌≤◌, List, [], length, Option, Result, OnOk, IsTrue}
use Rattle.cx_base.specs.Problem.{Problem}
use Rattle.cx_base.specs.declared.steps.LogEvent.{LogEvent}
use Rattle.cx_trail.specs.Sequence.{TrailState}
use Rattle.clause_arena.specs.Clauses.{ArenaState, IsLive, learned_at}
use Rattle.conflict_learn.specs.declared.fault.CoreFault.{CoreFault}
use Rattle.conflict_learn.specs.Faults.{fault_in}
use Rattle.watch_lists.specs.Watching.{WatchState}
use Rattle.watch_lists.specs.Detaching.{IsPartOf}
use Rattle.step_text.specs.declared.sink.Sink as sink
use Rattle.parity_engine.specs.State.{State}
use Rattle.parity_engine.specs.declared.engine.ParityEngine as engine
use Rattle.search_steps.specs.Schedule.{IsInReduction}
use Rattle.search_steps.specs.Search.{Search, IsSearchIn}
use Rattle.search_steps.specs.Holding.{AreTold}
use Rattle.cdcl_search.specs.declared.state.SearchState.{SearchState}
use Rattle.cdcl_search.specs.declared.logs.SearchLog.{SearchLog}
use Rattle.cdcl_search.specs.Logs.{GoesOn, HasNotFailed}
use Rattle.cdcl_search.specs.Ties.{Ties, IsWatched}

-- the watches fitted before some clauses of the arena were removed
pub record WasWatched (w : WatchState) (a : ArenaState) (t : TrailState) : Type 0 where
  pub before : ArenaState
  pub part : IsPartOf a before
  pub watched : IsWatched w before t

-- a search at level 0 fits the code but for the watches: removed clauses are still attached, and this reduction is counted already and due
abbrev pub SearchLoses : Problem → SearchState → State → Option (List LogEvent) → Type 0
SearchLoses formula c e told = (s : Search) × IsSearchIn c.tidies formula e.parities s × AreTold told s.events × Ties formula c e [] s × WasWatched c.watches c.arena c.trail × (s.moment.reductions < c.reductions) × IsInReduction s.events

-- so it fits what the log was told; each literal of the trail has a unit clause, and the sink has not failed
pub record IsReducing {P L : Type 0} (p : engine.Ghosts P) (m : sink.Ghosts L LogEvent) (log : SearchLog L) (c : SearchState) (e : P) : Type 0 where
  pub loses : SearchLoses log.formula.now c (p.state e) (m.items log.sink.now)
  pub units : length c.units.items ≡ length c.trail.entries
  pub going : HasNotFailed m log

-- Up to an answer the reduction goes on, with as many counted conflicts, and it tidies as before; the log goes on.
pub record ReducesOn {P L T : Type 0} (p : engine.Ghosts P) (m : sink.Ghosts L LogEvent) (old : SearchLog L) (c : SearchState) (new : SearchLog L) (now : SearchState) (e : P) (result : Result T CoreFault) : Type 0 where
  pub reducing : OnOk result (IsReducing p m new now e)
  pub conflicts : now.conflicts ≡ c.conflicts
  pub tidies : now.tidies ≡ c.tidies
  pub log : GoesOn m old (fault_in result) new

-- the clause was learned, and so many learned ones are left that it may go
pub record MayGo (c : SearchState) (r : ℕ) : Type 0 where
  pub live : IsLive c.arena r
  pub learned : IsTrue (learned_at c.arena r)
  pub enough : 751 + 250 * c.reductions ≤ c.learned
