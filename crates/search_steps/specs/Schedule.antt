-- When a search deletes learned clauses, by the events of its log.
use Rattle.std.specs.Prelude.{◌≡◌, ◌⊎◌, ℕ, ◌+◌, ◌*◌, ◌≤◌, ◌<◌, ℤ, Bool, true, false, List, [], ◌∷◌, ◌++◌, length, map, fold, filter_map, get_or, IsTrue}
use Rattle.std.specs.List.{sum}
use Rattle.cx_base.specs.declared.steps.LogEvent.{LogEvent}
use Rattle.cx_base.specs.declared.steps.LogEvent.TheVariants.{Step}
use Rattle.cx_base.specs.declared.steps.LogStep.TheVariants.{Delete}
use Rattle.cx_semantics.specs.Marked.{Moment, first_moment, after_event, mark_of, clause_at, is_among, is_covered_without}
use Rattle.search_policy.specs.Restarts.{IsLuby}

-- the first of Luby's numbers, in order
pub record AreLuby (numbers : List ℕ) : Type 0 where
  pub each : (i : ℕ) → i < length numbers → IsLuby (i + 1) (get_or numbers i 0)

-- Restart r of a search comes where the conflicts are a hundred times the sum of the first r of Luby's numbers.
abbrev pub IsRestartAt : ℕ → ℕ → Type 0
IsRestartAt r conflicts = (numbers : List ℕ) × AreLuby numbers × (length numbers ≡ r) × (conflicts ≡ 100 * sum numbers)

-- some restart comes there
abbrev pub IsRestart : ℕ → Type 0
IsRestart conflicts = (r : ℕ) × IsRestartAt r conflicts

-- what the next event finds
abbrev pub moment_after : List LogEvent → Moment
moment_after events = fold after_event first_moment events

-- Learned clauses may go: the search restarts, and 2000 of them are live, and 500 more for each earlier stretch between marks with a reduction.
pub record MayReduce (events : List LogEvent) : Type 0 where
  pub restart : IsRestart (length (filter_map mark_of events))
  pub many : 2000 + 500 * (moment_after events).reductions ≤ length (moment_after events).learned

-- the deletions of clauses of these ids
abbrev pub deletions_of : List ℕ → List LogEvent
deletions_of ids = map (λ n. Step (Delete n [])) ids

-- nothing but deletions came since they might
pub record IsInReduction (events : List LogEvent) : Type 0 where
  pub front : List LogEvent
  pub ids : List ℕ
  pub split : events ≡ front ++ deletions_of ids
  pub may : MayReduce front

-- each deletion of a learned clause is one of a reduction
abbrev pub IsScheduled : List LogEvent → Type 0
IsScheduled events = (front : List LogEvent) (n : ℕ) (zs : List ℤ) (later : List LogEvent) → events ≡ front ++ Step (Delete n zs) ∷ later
    → IsTrue (is_among (moment_after front).learned n) → IsInReduction front

-- ---- searches that tidy
-- A tidying deletes a clause at a restart. Another live clause lies inside it.
pub record IsInTidying (events : List LogEvent) (n : ℕ) : Type 0 where
  pub restart : IsRestart (length (filter_map mark_of events))
  pub covered : IsTrue (is_covered_without (moment_after events).tables.clauses n (clause_at (moment_after events).tables.clauses n))

-- a learned clause may go in a reduction, and in a tidying where the search tidies
abbrev pub MayGo : Bool → List LogEvent → ℕ → Type 0
MayGo false events n = IsInReduction events
MayGo true events n = IsInReduction events ⊎ IsInTidying events n

-- each learned clause is deleted where it may go
abbrev pub IsScheduledIn : Bool → List LogEvent → Type 0
IsScheduledIn tidies events = (front : List LogEvent) (n : ℕ) (zs : List ℤ) (later : List LogEvent) → events ≡ front ++ Step (Delete n zs) ∷ later
    → IsTrue (is_among (moment_after front).learned n) → MayGo tidies front n
