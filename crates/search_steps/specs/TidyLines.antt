-- Where a log says that its clauses are tidy.
use Rattle.std.specs.Prelude.{◌≡◌, ℕ, ◌+◌, ◌≤◌, List, ◌∷◌, ◌++◌, filter_map, length, Option, Some, None, IsFalse, ⊤}
use Rattle.cx_base.specs.Literals.{Literal, HasTwo}
use Rattle.cx_base.specs.Lines.{Line, item, tidy, items_of}
use Rattle.cx_base.specs.declared.steps.LogEvent.{LogEvent}
use Rattle.cx_base.specs.declared.steps.LogEvent.TheVariants.{Step, Conflict}
use Rattle.cx_semantics.specs.Marked.{mark_of, clause_at}
use Rattle.cx_semantics.specs.Tables.{Table, get}
use Rattle.tidy_rules.specs.Tidied.{TidiedBy}
use Rattle.search_steps.specs.Schedule.{IsRestartAt, moment_after}

-- how many marks there are, and how many tidy lines
abbrev pub marks_in : List (Line LogEvent) → ℕ
marks_in lines = length (filter_map mark_of (items_of lines))

abbrev pub restart_of : Line LogEvent → Option ℕ
restart_of (item event) = None
restart_of (tidy r) = Some r

abbrev pub tidy_lines_in : List (Line LogEvent) → ℕ
tidy_lines_in lines = length (filter_map restart_of lines)

-- the live clauses with two different literals are tidy
abbrev pub AreTidyClauses : Table → Type 0
AreTidyClauses table = TidiedBy (λ n. (clause : List Literal) × (get table n ≡ Some clause) × HasTwo clause) (clause_at table)

-- Tidy line r is the r-th. It comes at the mark where its restart is due, after the clause of that mark, and the clauses are tidy there.
pub record TidyFits (front : List (Line LogEvent)) (r : ℕ) : Type 0 where
  pub next : r ≡ tidy_lines_in front + 1
  pub due : IsRestartAt r (marks_in front)
  pub served : IsFalse (moment_after (items_of front)).awaits
  pub tidied : AreTidyClauses (moment_after (items_of front)).tables.clauses

-- the tidy line of each restart that was due by these marks is there
abbrev pub NoneIsMissing : List (Line LogEvent) → Type 0
NoneIsMissing front = (r m : ℕ) → IsRestartAt r m → m ≤ marks_in front → r ≤ tidy_lines_in front

-- at a mark no earlier tidy line is missing
abbrev pub LineFits : List (Line LogEvent) → Line LogEvent → Type 0
LineFits front (item (Step step)) = ⊤
LineFits front (item (Conflict k)) = NoneIsMissing front
LineFits front (tidy r) = TidyFits front r

-- each line fits those before it
abbrev pub TidiedInTime : List (Line LogEvent) → Type 0
TidiedInTime lines = (front later : List (Line LogEvent)) (l : Line LogEvent) → lines ≡ front ++ l ∷ later → LineFits front l
