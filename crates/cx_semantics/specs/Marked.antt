-- What the events of a log show of the search that wrote it.
use Rattle.std.specs.Prelude.{◌≡◌, ℕ, ◌+◌, ◌*◌, ◌≤◌, Bool, true, false, not, ◌&&◌, ◌||◌, List, [], ◌∷◌, ◌++◌, map, filter, length, nat_eq, Option, Some, None, IsTrue, IsFalse, if◌then◌else◌, MatchBool, ⊤, ◌⊎◌, unwrap_or, filter_map}
use Rattle.std.specs.List.{list_any, range_with_len}
use Rattle.std.specs.FinMap as map_
use Rattle.cx_base.specs.Literals.{Literal}
use Rattle.cx_base.specs.Problem.{Problem, clauses_of}
use Rattle.cx_base.specs.Parity.{normal_form, HasOneOfEach}
use Rattle.cx_base.specs.declared.constraint.Constraint.{Constraint}
use Rattle.cx_base.specs.declared.constraint.Constraint.TheVariants as constraint
use Rattle.cx_base.specs.declared.steps.LogStep.{LogStep}
use Rattle.cx_base.specs.declared.steps.LogStep.TheVariants.{Original, OriginalParity, Clause, ClauseWithHints, Parity, ClauseOfParity, ParityOfClauses, Delete, DeleteParity, Final, FinalParity, MoveClauses, MoveParities}
use Rattle.cx_base.specs.declared.steps.LogEvent.{LogEvent}
use Rattle.cx_base.specs.declared.steps.LogEvent.TheVariants.{Step, Conflict}
use Rattle.cx_semantics.specs.Chain.{is_inside, same_literals}
use Rattle.cx_semantics.specs.Fresh.{Fresh, IsLive, is_tautology}
use Rattle.cx_base.specs.Integers.{integers_of, literals}
use Rattle.cx_semantics.specs.LogRules.{after_log_step, derives_ending_clause}
use Rattle.cx_semantics.specs.Tables.{Table, Tables, get, no_tables}
use Rattle.cx_semantics.specs.Moves.{moved_id}

-- what an event finds: the tables; whether the clause of the last mark is still to come; the ids of learned clauses;
-- the ids of clauses of parities and of sums, put before the last mark and since; how many earlier stretches between marks hold a reduction, and whether this one does
pub record Moment : Type 0 where
  pub tables : Tables
  pub awaits : Bool
  pub learned : List ℕ
  pub old_clauses : List ℕ
  pub new_clauses : List ℕ
  pub old_sums : List ℕ
  pub new_sums : List ℕ
  pub reductions : ℕ
  pub reduces : Bool

abbrev pub first_moment : Moment
first_moment = record { tables = no_tables; awaits = false; learned = []; old_clauses = []; new_clauses = []; old_sums = []; new_sums = []; reductions = 0; reduces = false }

abbrev pub is_among : List ℕ → ℕ → Bool
is_among ids n = list_any (nat_eq n) ids

abbrev pub without : List ℕ → ℕ → List ℕ
without ids n = filter (λ m. not (nat_eq n m)) ids

-- the literals of the clause of an id
abbrev pub clause_at : Table → ℕ → List Literal
clause_at table n = unwrap_or (get table n) []

-- a live clause of another id has no literal outside these
abbrev pub is_covered_without : Table → ℕ → List Literal → Bool
is_covered_without table n lits = list_any (λ k. not (nat_eq k n) && is_inside (clause_at table k) lits) (map_.keys table)

-- the deletion of a learned clause that leaves no live clause inside it
abbrev pub is_reduction : Moment → ℕ → Bool
is_reduction m n = is_among m.learned n && not (is_covered_without m.tables.clauses n (clause_at m.tables.clauses n))

abbrev pub after_clause : Moment → ℕ → Moment
after_clause m n = record m { awaits = false; learned = if m.awaits then n ∷ m.learned else m.learned }

abbrev pub after_delete : Moment → ℕ → Moment
after_delete m n = record m {
  learned = without m.learned n;
  old_clauses = without m.old_clauses n;
  new_clauses = without m.new_clauses n;
  reduces = m.reduces || is_reduction m n;
}

-- The ids that a step puts or takes out, beside the tables. A move does neither: what is noted of a constraint is noted under its new id.
abbrev pub note_step : Moment → LogStep → Moment
note_step m (Clause n lits) = after_clause m n
note_step m (ClauseWithHints n lits hints) = after_clause m n
note_step m (ClauseOfParity n lits source) = record m { new_clauses = n ∷ m.new_clauses }
note_step m (Parity n lits sources) = record m { new_sums = n ∷ m.new_sums }
note_step m (Delete n lits) = after_delete m n
note_step m (DeleteParity n lits) = record m { old_sums = without m.old_sums n; new_sums = without m.new_sums n }
note_step m (Original n lits) = m
note_step m (OriginalParity n lits) = m
note_step m (ParityOfClauses n lits sources) = m
note_step m (Final n lits) = m
note_step m (FinalParity n lits) = m
note_step m (MoveClauses moves) = record m { learned = map (moved_id moves) m.learned; old_clauses = map (moved_id moves) m.old_clauses; new_clauses = map (moved_id moves) m.new_clauses }
note_step m (MoveParities moves) = record m { old_sums = map (moved_id moves) m.old_sums; new_sums = map (moved_id moves) m.new_sums }

abbrev pub after_event : Moment → LogEvent → Moment
after_event m (Step step) = record (note_step m step) { tables = after_log_step m.tables step }
after_event m (Conflict k) = record m {
  awaits = true;
  old_clauses = m.new_clauses ++ m.old_clauses;
  new_clauses = [];
  old_sums = m.new_sums ++ m.old_sums;
  new_sums = [];
  reductions = if m.reduces then m.reductions + 1 else m.reductions;
  reduces = false;
}

-- A learned clause has a literal and is fresh. Another one that does not end the log has one literal and is known already, or is a part of a live clause that is no tautology.
abbrev pub IsLearned : Moment → List Literal → Type 0
IsLearned m lits = (1 ≤ length lits) × Fresh m.tables.clauses lits

abbrev pub IsKnown : Moment → List Literal → Type 0
IsKnown m lits = ((length lits ≡ 1) × ¬ Fresh m.tables.clauses lits)
    ⊎ ((clause : List Literal) × IsLive m.tables.clauses clause × IsTrue (is_inside lits clause) × IsFalse (is_tautology clause))

abbrev pub IsAdded : Problem → Moment → LogStep → List Literal → Type 0
IsAdded formula m step lits = MatchBool m.awaits (IsLearned m lits) (IsFalse (derives_ending_clause formula step) → IsKnown m lits)

-- A deletion of a learned clause leaves many learned clauses, or leaves a live clause inside the deleted one.
abbrev pub IsAllowedDelete : Moment → ℕ → Type 0
IsAllowedDelete m n = IsTrue (is_reduction m n) → 1000 + 250 * m.reductions ≤ length (without m.learned n)

abbrev pub StepFits : Problem → Moment → LogStep → Type 0
StepFits formula m (Clause n lits) = IsAdded formula m (Clause n lits) (literals lits)
StepFits formula m (ClauseWithHints n lits hints) = IsAdded formula m (ClauseWithHints n lits hints) (literals lits)
StepFits formula m (ClauseOfParity n lits source) = (parity : List Literal) × (get m.tables.parities source ≡ Some parity) × HasOneOfEach (normal_form parity).variables (literals lits)
StepFits formula m (Delete n lits) = IsAllowedDelete m n
StepFits formula m (Original n lits) = ⊤
StepFits formula m (OriginalParity n lits) = ⊤
StepFits formula m (Parity n lits sources) = ⊤
StepFits formula m (ParityOfClauses n lits sources) = ⊤
StepFits formula m (DeleteParity n lits) = ⊤
StepFits formula m (Final n lits) = ⊤
StepFits formula m (FinalParity n lits) = ⊤
StepFits formula m (MoveClauses moves) = ⊤
StepFits formula m (MoveParities moves) = ⊤

-- each clause of the formula has all literals of a live clause among its own, or is a tautology
abbrev pub KeepsFormula : Problem → Table → Type 0
KeepsFormula formula table = (clause : List Literal) → IsTrue (list_any (same_literals clause) (clauses_of formula.constraints))
    → ((inner : List Literal) × IsLive table inner × IsTrue (is_inside inner clause)) ⊎ IsTrue (is_tautology clause)

-- At a mark the last one's clause is there, the formula's clauses are kept, and no clause or sum of an earlier stretch is left.
pub record MarkFits (formula : Problem) (m : Moment) : Type 0 where
  pub served : IsFalse m.awaits
  pub kept : KeepsFormula formula m.tables.clauses
  pub no_old_clauses : m.old_clauses ≡ []
  pub no_old_sums : m.old_sums ≡ []

abbrev pub EventFits : Problem → Moment → LogEvent → Type 0
EventFits formula m (Step step) = StepFits formula m step
EventFits formula m (Conflict k) = MarkFits formula m

-- each event fits what it finds, from the first moment to the last
abbrev pub EventsFit : Problem → Moment → List LogEvent → Moment → Type 0
EventsFit formula first [] last = last ≡ first
EventsFit formula first (event ∷ events) last = EventFits formula first event × EventsFit formula (after_event first event) events last

-- the numbers of the marks in order
abbrev pub mark_of : LogEvent → Option ℕ
mark_of (Step step) = None
mark_of (Conflict k) = Some k

-- the steps that tell the clauses and parities among these constraints in order: clauses have ids from n on, parities from k on
abbrev pub original_events : ℕ → ℕ → List Constraint → List LogEvent
original_events n k [] = []
original_events n k (constraint.Clause lits ∷ cs) = Step (Original n (integers_of lits)) ∷ original_events (n + 1) k cs
original_events n k (constraint.Parity lits ∷ cs) = Step (OriginalParity k (integers_of lits)) ∷ original_events n (k + 1) cs
original_events n k (constraint.Assume lits ∷ cs) = original_events n k cs

-- the events begin with a step for each clause and parity in order, under the ids 1, 2, .. of clauses and 1, 2, .. of parities
abbrev pub BeginsWithOriginals : List Constraint → List LogEvent → Type 0
BeginsWithOriginals cs events = (rest : List LogEvent) × (events ≡ original_events 1 1 cs ++ rest)

-- the marks are 1 to n, each with its learned clause, and all events fit
pub record Marked (formula : Problem) (events : List LogEvent) (n : ℕ) : Type 0 where
  pub marks : filter_map mark_of events ≡ range_with_len 1 n
  pub originals : BeginsWithOriginals formula.constraints events
  pub last : Moment
  pub fit : EventsFit formula first_moment events last
  pub served : IsFalse last.awaits
