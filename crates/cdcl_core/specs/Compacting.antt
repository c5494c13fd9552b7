-- A search whose arena has no gaps any more.
use Rattle.std.specs.Prelude.{ℕ, ◌≡◌, ◌<◌, ◌≤◌, List, length, map, Option, Some, None}
use Rattle.cx_base.specs.declared.moved.Move.{Move}
use Rattle.cx_base.specs.Literals.{Literal}
use Rattle.cx_base.specs.Moved.{moved_to}
use Rattle.cx_base.specs.Problem.{Problem}
use Rattle.cx_base.specs.declared.steps.LogEvent.{LogEvent}
use Rattle.cx_trail.specs.declared.entry.Reason.TheVariants.{Clause}
use Rattle.cx_trail.specs.Sequence.{entry_at}
use Rattle.cx_trail.specs.Renaming.{renamed}
use Rattle.clause_arena.specs.Clauses.{ArenaState, IsLive}
use Rattle.clause_arena.specs.Compact.{IsRenamed}
use Rattle.watch_lists.specs.Watching.{IsAttached}
use Rattle.watch_lists.specs.Renaming.{AreRenamed}
use Rattle.parity_engine.specs.State.{State}
use Rattle.cdcl_search.specs.declared.state.SearchState.{SearchState}
use Rattle.cdcl_search.specs.Ties.{SearchStands}

-- the first live clause from this reference on, where there is one
abbrev pub IsFirstLive : ArenaState → ℕ → Option ℕ → Type 0
IsFirstLive a from None = (r : ℕ) → from ≤ r → IsLive a r → ⊥
IsFirstLive a from (Some q) = (from ≤ q) × IsLive a q × ((r : ℕ) → from ≤ r → r < q → IsLive a r → ⊥)

-- what is before the new place was before the old one
pub record MovesBelow (moves : List Move) (new : ArenaState) (old_below new_below : ℕ) : Type 0 where
  pub before : (r s : ℕ) → moved_to moves r ≡ Some s → s < new_below → r < old_below
  pub within : new_below ≤ length new.clauses

-- the arena's clauses have new references, by which the watches and the reasons of the trail name them; the end of the tidy ones is where they end now; nothing else changes
pub record IsCompacted (moves : List Move) (old new : SearchState) : Type 0 where
  pub arena : IsRenamed old.arena new.arena moves
  pub watches : AreRenamed moves old.watches new.watches
  pub tidy_below : MovesBelow moves new.arena old.tidy_below new.tidy_below
  pub others : new ≡ record old { arena = new.arena; watches = new.watches; tidy_below = new.tidy_below; trail = record old.trail { entries = map (renamed moves) old.trail.entries } }

-- whatever search fitted the code fits it still
abbrev pub StandsStill : SearchState → SearchState → Type 0
StandsStill old new = (formula : Problem) (e : State) (rows : List (List Literal)) (told : Option (List LogEvent)) → SearchStands formula old e rows told → SearchStands formula new e rows told

-- each clause that is a reason on the trail, or is watched, is one of the arena
abbrev pub NamesLiveClauses : SearchState → Type 0
NamesLiveClauses c = ((i r : ℕ) → i < length c.trail.entries → (entry_at c.trail.entries i).reason ≡ Clause r → IsLive c.arena r)
    × ((r : ℕ) → IsAttached c.watches.attached r → IsLive c.arena r)

-- where a search fitted the old code, the new names no clause that is gone
abbrev pub LeavesNoOldName : SearchState → SearchState → Type 0
LeavesNoOldName old new = (formula : Problem) (e : State) (rows : List (List Literal)) (told : Option (List LogEvent)) → SearchStands formula old e rows told → NamesLiveClauses new
