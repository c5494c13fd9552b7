-- What propagation finds.
use Rattle.std.specs.Prelude.{◌≡◌, ◌≢◌, ℕ, suc, true, length, Some}
use Rattle.clause_arena.specs.Clauses.{literals_at}
use Rattle.watch_lists.specs.Truths.{IsFalsified}
use Rattle.watch_lists.specs.Watching.{IsAttached}
use Rattle.watch_lists.specs.Events.{Happens}
use Rattle.watch_lists.specs.declared.event.Event.TheVariants as event
use Rattle.search_policy.specs.Assuming.{IsLonger}
use Rattle.parity_engine.specs.declared.state.Mood.TheVariants.{Calm, Broken}
use Rattle.parity_engine.specs.State.{State, Named, named_at, IsSilent, IsBroken}
use Rattle.cdcl_search.specs.declared.state.SearchState.{SearchState}
use Rattle.cdcl_search.specs.declared.propagation.Found.{Found}
use Rattle.cdcl_search.specs.declared.propagation.Found.TheVariants.{Quiet, Clause, Row}
use Rattle.cdcl_search.specs.declared.propagation.RowFinding.{RowFinding}
use Rattle.cdcl_search.specs.declared.propagation.RowFinding.TheVariants as finding

-- literals were added to the trail; the level, the unit clauses, the count of conflicts, the next id and whether the search tidies stay
abbrev pub HasSameCounts : SearchState → SearchState → Type 0
HasSameCounts old new = (new.trail.level ≡ old.trail.level) × (new.units.items ≡ old.units.items) × (new.conflicts ≡ old.conflicts) × (new.next ≡ old.next) × IsLonger old.trail new.trail × (new.tidies ≡ old.tidies)

-- the engine has all literals of the trail
abbrev pub HasAll : SearchState → Type 0
HasAll c = c.given ≡ length c.trail.entries

-- the row was named as a contradiction
abbrev pub IsClash : State → ℕ → Type 0
IsClash e row = (n : Named) × (named_at e row ≡ Some n) × (n.in_conflict ≡ true) × IsBroken e n.form

-- quiet: the clauses and the parities force nothing more; otherwise a clause all of whose literals are false, or a row that is not met
abbrev pub PropagationFinds : SearchState → State → Found → Type 0
PropagationFinds c e Quiet = Happens c.watches.attached c.arena c.trail event.Quiet × HasAll c × IsSilent e × (e.mood ≡ Calm)
PropagationFinds c e (Clause r) = IsAttached c.watches.attached r × IsFalsified c.trail.entries (literals_at c.arena r) × (e.mood ≢ Broken)
PropagationFinds c e (Row row) = HasAll c × IsClash e row

-- what the rows say: nothing more, or a literal that is on the trail now, or a contradiction
abbrev pub RowsSay : SearchState → SearchState → State → RowFinding → Type 0
RowsSay old new e finding.Quiet = (new ≡ old) × IsSilent e × (e.mood ≡ Calm)
RowsSay old new e finding.Implied = (length new.trail.entries ≡ suc (length old.trail.entries)) × (e.mood ≢ Broken)
RowsSay old new e (finding.Conflict row) = (new ≡ old) × IsClash e row
