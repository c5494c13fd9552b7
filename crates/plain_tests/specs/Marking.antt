-- What the plain program for marks keeps of a log, and asks of its events.
use Rattle.std.specs.Prelude.{◌≡◌, ℕ, ℤ, nat_abs, nat_lt, nat_eq, Bool, true, not, ◌&&◌, List, [], ◌∷◌, ◌++◌, Option, Some, None, IsTrue, IsFalse, MatchBool, ◌⊎◌, length}
use Rattle.std.specs.List.{list_any, list_all}
use Rattle.cx_base.specs.Literals.{Literal}
use Rattle.cx_base.specs.Parity.{normal_form, HasOneOfEach}
use Rattle.cx_base.specs.Problem.{Problem}
use Rattle.cx_base.specs.declared.literal.TheConstants.{MAX_VARIABLE}
use Rattle.cx_base.specs.declared.constraint.Constraint.{Constraint}
use Rattle.cx_base.specs.declared.id_moves.IdMove.{IdMove}
use Rattle.cx_base.specs.declared.steps.LogStep.{LogStep}
use Rattle.cx_base.specs.declared.steps.LogStep.TheVariants.{Original, OriginalParity, Clause, ClauseWithHints, Parity, ClauseOfParity, ParityOfClauses, Delete, DeleteParity, Final, FinalParity, MoveClauses, MoveParities}
use Rattle.cx_base.specs.declared.steps.LogEvent.{LogEvent}
use Rattle.cx_base.specs.declared.steps.LogEvent.TheVariants.{Step, Conflict}
use Rattle.cx_semantics.specs.Chain.{is_inside}
use Rattle.cx_semantics.specs.Fresh.{Fresh, IsLive, is_tautology}
use Rattle.cx_semantics.specs.Marked.{Moment, IsLearned, IsKnown, EventsFit, clause_at, original_events}
use Rattle.cx_semantics.specs.Tables.{Table, Tables, get}
use Rattle.proof_rules.specs.declared.live.Kind.{Kind}
use Rattle.proof_rules.specs.Kinds.{put_constraint}
use Rattle.plain_tests.specs.declared.told.Told.{Told}

-- what an event finds
abbrev pub moment_of : Told → Moment
moment_of t = record {
  tables = t.live;
  awaits = t.awaits;
  learned = t.learned.items;
  old_clauses = t.old_clauses.items;
  new_clauses = t.new_clauses.items;
  old_sums = t.old_sums.items;
  new_sums = t.new_sums.items;
  reductions = t.reductions;
  reduces = t.reduces;
}

-- ---- literals

-- each integer is the literal of a variable that there is
abbrev pub are_literals : List ℤ → Bool
are_literals zs = not (list_any (λ z. nat_lt MAX_VARIABLE (nat_abs z)) zs)

-- the integers of what the step adds are literals
abbrev pub adds_literals : LogStep → Bool
adds_literals (Original n lits) = are_literals lits
adds_literals (OriginalParity n lits) = are_literals lits
adds_literals (Clause n lits) = are_literals lits
adds_literals (ClauseWithHints n lits hints) = are_literals lits
adds_literals (Parity n lits sources) = are_literals lits
adds_literals (ClauseOfParity n lits source) = are_literals lits
adds_literals (ParityOfClauses n lits sources) = are_literals lits
adds_literals (Delete n lits) = true
adds_literals (DeleteParity n lits) = true
adds_literals (Final n lits) = true
adds_literals (FinalParity n lits) = true
adds_literals (MoveClauses moves) = true
adds_literals (MoveParities moves) = true

abbrev pub has_literals : LogEvent → Bool
has_literals (Step step) = adds_literals step
has_literals (Conflict k) = true

-- what the steps add has literals of variables that there are
abbrev pub have_literals : List LogEvent → Bool
have_literals events = list_all has_literals events

-- ---- live clauses

-- a live clause passes the test
abbrev pub SomeLive : Table → (List Literal → Bool) → Type 0
SomeLive table test = (clause : List Literal) × IsLive table clause × IsTrue (test clause)

-- some of the clauses under these ids passes the test
abbrev pub some_under : Table → (List Literal → Bool) → List ℕ → Bool
some_under table test ids = list_any (λ k. test (clause_at table k)) ids

-- the literals lie inside the clause, which is no tautology
abbrev pub is_part_of : List Literal → List Literal → Bool
is_part_of lits clause = is_inside lits clause && not (is_tautology clause)

-- a live clause lies inside the clause, or it is a tautology
abbrev pub IsKept : Table → List Literal → Type 0
IsKept table clause = SomeLive table (λ inner. is_inside inner clause) ⊎ IsTrue (is_tautology clause)

-- the clause has one literal, and propagation knows it
abbrev pub IsKnownUnit : Moment → List Literal → Type 0
IsKnownUnit m lits = (length lits ≡ 1) × ¬ Fresh m.tables.clauses lits

-- what a clause by a chain meets, if it ends the log and if not
abbrev pub IsAddedWhere : Bool → Moment → List Literal → Type 0
IsAddedWhere ends m lits = MatchBool m.awaits (IsLearned m lits) (IsFalse ends → IsKnown m lits)

-- ---- moves

-- the content is put under the id, if there is one
abbrev pub put_content : Kind → Tables → ℕ → Option (List Literal) → Tables
put_content kind tables n (Some lits) = put_constraint kind tables n lits
put_content kind tables n None = tables

-- each content is put under the new id of its move
abbrev pub put_contents : Kind → Tables → List IdMove → List (Option (List Literal)) → Tables
put_contents kind tables [] contents = tables
put_contents kind tables (m ∷ moves) [] = tables
put_contents kind tables (m ∷ moves) (content ∷ contents) = put_contents kind (put_content kind tables m.to content) moves contents

-- ---- parities

-- there is one literal of each of these variables, and no other
abbrev pub are_one_each : List ℕ → List Literal → Bool
are_one_each variables lits =
    nat_eq (length variables) (length lits)
    && (list_all (λ x. list_any (λ l. nat_eq l.variable x) lits) variables && list_all (λ l. list_any (nat_eq l.variable) variables) lits)

-- the clause has one literal of each variable of the live parity under the id
abbrev pub IsOfParity : Table → List Literal → ℕ → Type 0
IsOfParity parities lits source = (parity : List Literal) × (get parities source ≡ Some parity) × HasOneOfEach (normal_form parity).variables lits

-- ---- originals

-- the events begin with a step for each of these clauses and parities in order: clauses have ids from n on, parities from k on
abbrev pub Tells : ℕ → ℕ → List Constraint → List LogEvent → Type 0
Tells n k constraints events = (rest : List LogEvent) × (events ≡ original_events n k constraints ++ rest)

-- ---- the end

-- all events fit from this moment on, and then no clause is awaited
abbrev pub FitToTheEnd : Problem → Moment → List LogEvent → Type 0
FitToTheEnd formula first events = (last : Moment) × EventsFit formula first events last × IsFalse last.awaits
