-- What the answers of `solve` say.
use Rattle.std.specs.Prelude.{◌≡◌, ◌≢◌, ℤ, Bool, List, [], ◌∷◌, Option, IfSome, codes, decimal}
use Rattle.cx_base.specs.Problem.{Problem, Meets, Unmet, parities_of}
use Rattle.cx_texts.specs.AnswerText as printed
use Rattle.cx_semantics.specs.Forced.{Consistent}
use Rattle.cx_texts.specs.FormulaText.{Reads}
use Rattle.cx_semantics.specs.Settled.{Settled}
use Rattle.search_steps.specs.Recovering.{SettledWithRecovered}
use Rattle.cx_desk.specs.declared.desk.Slot.TheVariants as slot
use Rattle.cx_desk.specs.declared.desk.Port.TheVariants as port
use Rattle.cx_desk.specs.Outside.{Bytes, Files}
use Rattle.cx_words.specs.Words.{Asks}
use Rattle.cx_words.specs.declared.plans.Plan.TheVariants as plan
use Rattle.cx_words.specs.declared.plans.SearchOptions.{SearchOptions}
use Rattle.solve_cli.specs.declared.ending.Status.{Status}
use Rattle.solve_cli.specs.declared.ending.Status.TheVariants as status
use Rattle.solve_cli.specs.Endings.{joined}
use Rattle.solve_cli.specs.Failed.{FailsAs, NegatesLastStep, unsatisfiable_text}
use Rattle.solve_cli.specs.Seen.{Seen, asks, says, text_named}
use Rattle.solve_cli.specs.Commands.{gives_file}
use Rattle.solve_cli.specs.Logs.{IsOpenLog, IsClosedLog, IsSpentLog}

-- the formula's name was asked for, the Proof port was given its file, where there is a name for it, and gained
-- the log, and then the Answer port gained the answer
abbrev pub solved : Bytes → Option Bytes → Bytes → Bytes → Seen → Seen
solved name log_name log answer s = says port.Answer answer (says port.Proof log (gives_file log_name (asks slot.Formula name s)))

-- the words ask for `solve`, this answer of the options was written after a log, and this holds of the formula, the options and the log
pub record HasSolved (words : List Bytes) (old : Seen) (files : Files) (new : Seen) (answer : SearchOptions → Bytes) (Holds : Problem → SearchOptions → Bytes → Type 0) : Type 0 where
  pub name : Bytes
  pub log_name : Option Bytes
  pub options : SearchOptions
  pub asked : Asks words (plan.Solve name log_name options)
  pub formula : Problem
  pub reads : Reads (text_named name files) formula
  pub log : Bytes
  pub done : new ≡ solved name log_name log (answer options) old
  pub holds : Holds formula options log

-- `solve` printed values that meet the formula, after an open log
abbrev pub IsSatisfied : List Bytes → Seen → Seen → Type 0
IsSatisfied words old new = IfSome old.files (λ files. (values : List Bool) × HasSolved words old files new (λ options. printed.answer_text values) (λ f options log. Meets f values × IsOpenLog f options log))

-- No values meet the formula, and `solve` said so, after a log that is right to its end. Where the formula has an assumption constraint, it told assumed literals that fail: the negations of those of the log's
-- last step, or the two of the least variable that is assumed with both signs.
abbrev pub IsRefuted : List Bytes → Seen → Seen → Type 0
IsRefuted words old new = IfSome old.files (λ files. (failed : Option (List ℤ)) × HasSolved words old files new (λ options. unsatisfiable_text failed)
    (λ f options log. Unmet f × FailsAs f failed × IsClosedLog f options log × NegatesLastStep f log failed))

-- `solve` said that the budget is spent, after an open log that is marked this many times
abbrev pub IsSpent : List Bytes → Seen → Seen → Type 0
IsSpent words old new = IfSome old.files (λ files. HasSolved words old files new
    (λ options. joined (codes "c conflicts " ∷ decimal options.conflicts ∷ codes "\ns UNKNOWN\n" ∷ [])) (λ f options log. IsSpentLog f options log))

-- the words ask for `solve` with any log and options, and this holds of the formula
abbrev pub OfSolve : List Bytes → Seen → (Problem → Type 0) → Type 0
OfSolve words old Holds = (name : Bytes) (log_name : Option Bytes) (options : SearchOptions) (f : Problem) → Asks words (plan.Solve name log_name options)
    → IfSome old.files (λ files. Reads (text_named name files) f → Holds f)

-- a formula that propagation settles is not left unknown
abbrev pub IsSettled : List Bytes → Seen → Status → Type 0
IsSettled words old s = OfSolve words old (λ f. Settled f → s ≢ status.Done)

-- nor is one that it settles with the recovered parities taken as parities
abbrev pub IsSettledWithRecovered : List Bytes → Seen → Status → Type 0
IsSettledWithRecovered words old s = OfSolve words old (λ f. SettledWithRecovered f → s ≢ status.Done)

-- a formula whose parities have no solution is not left unknown, and no values are printed
abbrev pub IsUnsolvable : List Bytes → Seen → Status → Type 0
IsUnsolvable words old s = OfSolve words old (λ f. ¬ Consistent (parities_of f.constraints) [] → (s ≢ status.Done) × (s ≢ status.Satisfiable))
