-- The steps of a tidying leave the ranges of ids as they were.
use Rattle.std.proofs.Common.{◌≡◌, refl, sym, ap, ◌∙◌, subst, ℕ, ◌<◌, false, cond, List, [], ◌∷◌, None}
use Rattle.std.specs.List.{AllByRecursion}
use Rattle.cx_base.specs.Problem.{Problem}
use Rattle.cx_base.specs.declared.steps.LogEvent.TheVariants.{Step}
use Rattle.cx_base.specs.declared.steps.LogStep.{LogStep}
use Rattle.cx_base.specs.declared.steps.LogStep.TheVariants.{Original, OriginalParity, Clause, ClauseWithHints, Parity, ClauseOfParity, ParityOfClauses, Delete, DeleteParity, Final, FinalParity, MoveClauses, MoveParities}
use Rattle.cx_semantics.specs.Marked.{Moment, after_event, is_among, without}
use Rattle.cx_semantics.specs.Tables.{Tables, get}
use Rattle.tidy_rules.specs.Runs.{IsTidyStep, KeepsFree, RunsTidily}
use Rattle.search_steps.specs.Ids.{AreRowIds, IsRanged, HasFreeSums}
use Rattle.search_steps.specs.Search.{Search, told}
use Rattle.search_steps.specs.TidySteps.{IsAtStart, steps_told}
use Rattle.search_steps.proofs.IdLaws.{kept_without}

-- ---- one step
-- no clause is owed, none of a row is left, and the learned ones are below the bound
record IsIdle (bound : ℕ) (m : Moment) : Type 0 where
  served : m.awaits ≡ false
  no_new : m.new_clauses ≡ []
  no_old : m.old_clauses ≡ []
  learned : AllByRecursion (λ n. n < bound) m.learned

-- it stays so
idle_then : (bound : ℕ) (m : Moment) (step : LogStep) → IsTidyStep m.tables.clauses step → IsIdle bound m → IsIdle bound (after_event m (Step step))
idle_then bound m (ClauseWithHints n zs hints) tidy i = record {
  served = refl;
  no_new = i.no_new;
  no_old = i.no_old;
  learned = subst (λ b. AllByRecursion (λ k. k < bound) (cond b (n ∷ m.learned) m.learned)) (sym i.served) i.learned;
}
idle_then bound m (Delete n zs) tidy i = record {
  served = i.served;
  no_new = ap (λ ids. without ids n) i.no_new;
  no_old = ap (λ ids. without ids n) i.no_old;
  learned = kept_without (λ k. k < bound) m.learned n i.learned;
}
idle_then bound m (Clause n zs) tidy i = absurd tidy
idle_then bound m (Original n zs) tidy i = absurd tidy
idle_then bound m (OriginalParity n zs) tidy i = absurd tidy
idle_then bound m (Parity n zs sources) tidy i = absurd tidy
idle_then bound m (ClauseOfParity n zs source) tidy i = absurd tidy
idle_then bound m (ParityOfClauses n zs sources) tidy i = absurd tidy
idle_then bound m (DeleteParity n zs) tidy i = absurd tidy
idle_then bound m (Final n zs) tidy i = absurd tidy
idle_then bound m (FinalParity n zs) tidy i = absurd tidy
idle_then bound m (MoveClauses moves) tidy i = absurd tidy
idle_then bound m (MoveParities moves) tidy i = absurd tidy

-- and the parities stay
parities_stay : (m : Moment) (step : LogStep) → IsTidyStep m.tables.clauses step → (after_event m (Step step)).tables.parities ≡ m.tables.parities
parities_stay m (ClauseWithHints n zs hints) tidy = refl
parities_stay m (Delete n zs) tidy = refl
parities_stay m (Clause n zs) tidy = absurd tidy
parities_stay m (Original n zs) tidy = absurd tidy
parities_stay m (OriginalParity n zs) tidy = absurd tidy
parities_stay m (Parity n zs sources) tidy = absurd tidy
parities_stay m (ClauseOfParity n zs source) tidy = absurd tidy
parities_stay m (ParityOfClauses n zs sources) tidy = absurd tidy
parities_stay m (DeleteParity n zs) tidy = absurd tidy
parities_stay m (Final n zs) tidy = absurd tidy
parities_stay m (FinalParity n zs) tidy = absurd tidy
parities_stay m (MoveClauses moves) tidy = absurd tidy
parities_stay m (MoveParities moves) tidy = absurd tidy

-- ---- all steps
module _ (formula : Problem) where
  idle_after : (bound : ℕ) (s : Search) (steps : List LogStep) (last : Tables) → RunsTidily formula s.moment.tables steps last → IsIdle bound s.moment → IsIdle bound (steps_told s steps).moment
  idle_after bound s [] last runs i = i
  idle_after bound s (step ∷ steps) last (is_right, goes, tidy, runs) i = idle_after bound (told s (Step step)) steps last runs (idle_then bound s.moment step tidy i)

  tables_are : (s : Search) (steps : List LogStep) (last : Tables) → RunsTidily formula s.moment.tables steps last → (steps_told s steps).moment.tables ≡ last
  tables_are s [] last runs = sym runs
  tables_are s (step ∷ steps) last (is_right, goes, tidy, runs) = tables_are (told s (Step step)) steps last runs

  pub parities_are : (s : Search) (steps : List LogStep) (last : Tables) → RunsTidily formula s.moment.tables steps last → (steps_told s steps).moment.tables.parities ≡ s.moment.tables.parities
  parities_are s [] last runs = refl
  parities_are s (step ∷ steps) last (is_right, goes, tidy, runs) = parities_are (told s (Step step)) steps last runs ∙ parities_stay s.moment step tidy

  pub tidy_ranged : (bound next row_next : ℕ) (s : Search) → IsRanged formula bound next row_next s.trail s.moment → IsAtStart s → (steps : List LogStep) (last : Tables) → RunsTidily formula s.moment.tables steps last
      → KeepsFree s.moment.tables.clauses last.clauses → IsRanged formula bound next row_next s.trail (steps_told s steps).moment
  tidy_ranged bound next row_next s i at steps last runs kept =
      let left = idle_after bound s steps last runs (record { served = at.tidy.served; no_new = at.tidy.no_new_clauses; no_old = at.tidy.no_old_clauses; learned = i.learned }) in
      let free_still : (n : ℕ) → get s.moment.tables.clauses n ≡ None → get (steps_told s steps).moment.tables.clauses n ≡ None = λ n free. subst (λ (t : Tables). get t.clauses n ≡ None) (sym (tables_are s steps last runs)) (kept n free) in
      record {
        originals = i.originals;
        room = i.room;
        reasons = i.reasons;
        learned = left.learned;
        new_rows = subst (AreRowIds bound row_next) (sym left.no_new) tt;
        old_rows = subst (AreRowIds bound row_next) (sym left.no_old) tt;
        free = λ n h k. free_still n (i.free n h k);
        rows_free = λ n h k l. free_still n (i.rows_free n h (ap (λ ids. is_among ids n) at.tidy.no_new_clauses) (ap (λ ids. is_among ids n) at.tidy.no_old_clauses));
      }

  pub tidy_frees_sums : (count : ℕ) (s : Search) → HasFreeSums count s.moment → (steps : List LogStep) (last : Tables) → RunsTidily formula s.moment.tables steps last → HasFreeSums count (steps_told s steps).moment
  tidy_frees_sums count s free steps last runs n high = ap (λ table. get table n) (parities_are s steps last runs) ∙ free n high
