-- How many marks a log has.
use Rattle.std.proofs.Common.{◌≡◌, sym, ap, ◌∙◌, subst, ℕ, ◌≤◌, Bool, List, Option, Some, None, filter_map, length, arith}
use Rattle.std.specs.Prelude.{IsFalse}
use Rattle.std.proofs.lemmas.List.FromFn.{length-range_with_len}
use Rattle.cx_base.specs.Literals.{Literal}
use Rattle.cx_base.specs.Problem.{Problem}
use Rattle.cx_base.specs.declared.steps.LogEvent.{LogEvent}
use Rattle.cx_semantics.specs.Marked.{Marked, Moment, mark_of}
use Rattle.parity_engine.specs.State.{State}
use Rattle.search_steps.specs.Schedule.{moment_after}
use Rattle.search_steps.proofs.ScheduleLaws.{moment_is}
use Rattle.cdcl_search.specs.declared.state.SearchState.{SearchState}
use Rattle.cdcl_search.specs.Ties.{SearchStands}
use Rattle.cdcl_core.specs.LogLines.{HasMarksUpTo}
use Rattle.cdcl_core.specs.Results.{IsOpenWith, RefutesIn}
use Rattle.cdcl_core.proofs.Answering.{log_is_open}

pub marks_number : (formula : Problem) (events : List LogEvent) (n : ℕ) → Marked formula events n → length (filter_map mark_of events) ≡ n
marks_number formula events n marked = ap (λ (x : List ℕ). length x) marked.marks ∙ length-range_with_len 1 n

-- ---- between two conflicts
pub marks_are_counted : (formula : Problem) (c : SearchState) (e : State) (rows : List (List Literal)) (events : List LogEvent) → SearchStands formula c e rows (Some events) → length (filter_map mark_of events) ≡ c.conflicts
marks_are_counted formula c e rows events stands = marks_number formula events c.conflicts (log_is_open formula c e rows (Some events) stands).1

pub no_clause_is_owed : (formula : Problem) (c : SearchState) (e : State) (rows : List (List Literal)) (events : List LogEvent) → SearchStands formula c e rows (Some events) → IsFalse (moment_after events).awaits
no_clause_is_owed formula c e rows events (s, ok, a, t, f) = subst (λ (m : Moment). IsFalse m.awaits) (moment_is formula s.moment s.events ok.log.fits ∙ sym (ap moment_after a)) t.log.served.served

-- ---- at an answer
pub open_has_marks : (tidies : Bool) (formula : Problem) (n : ℕ) (told : Option (List LogEvent)) → IsOpenWith tidies formula n told → HasMarksUpTo n told
open_has_marks tidies formula n None o = tt
open_has_marks tidies formula n (Some events) o = let count = marks_number formula events n o.1 in omega arith

pub refuted_has_marks : (tidies : Bool) (formula : Problem) (n : ℕ) (told : Option (List LogEvent)) (failed : List Literal) → RefutesIn tidies formula n told failed → HasMarksUpTo n told
refuted_has_marks tidies formula n None failed r = tt
refuted_has_marks tidies formula n (Some events) failed r = let fewer = r.log.1.1 in let count = marks_number formula events r.log.1.0 r.log.1.2 in omega (arith, fewer, count)

pub more_marks : (n m : ℕ) (told : Option (List LogEvent)) → n ≤ m → HasMarksUpTo n told → HasMarksUpTo m told
more_marks n m None few has = tt
more_marks n m (Some events) few has = omega (arith, has)
