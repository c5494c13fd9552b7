-- The steps of `solve`: the formula is read, the Proof port is given the log's file, and the search is made.
use Rattle.std.specs.Prelude.{◌≡◌, ℕ, ℤ, false, List, Option, IfSome, Result, Ok, Err, MatchResult}
use Rattle.cx_base.specs.Problem.{Problem, Meets, Unmet}
use Rattle.search_steps.specs.Recovering.{SettledWithRecovered}
use Rattle.conflict_learn.specs.declared.fault.CoreFault.{CoreFault}
use Rattle.conflict_learn.specs.declared.fault.CoreFault.TheVariants as fault
use Rattle.cdcl_core.specs.declared.solving.SearchOutcome.{SearchOutcome as Answer}
use Rattle.cdcl_core.specs.declared.solving.SearchOutcome.TheVariants as answer
use Rattle.cx_desk.specs.declared.desk.Port.TheVariants as port
use Rattle.cx_desk.specs.Outside.{Bytes}
use Rattle.cx_words.specs.declared.plans.Plan.{Plan}
use Rattle.cx_words.specs.declared.plans.Plan.TheVariants as plan
use Rattle.cx_words.specs.declared.plans.SearchOptions.{SearchOptions}
use Rattle.solve_cli.specs.declared.ending.Ending.{Ending}
use Rattle.solve_cli.specs.declared.ending.Ending.TheVariants as ending
use Rattle.solve_cli.specs.declared.ending.Outcome.{Outcome}
use Rattle.solve_cli.specs.declared.ending.Outcome.TheVariants as outcome
use Rattle.solve_cli.specs.Seen.{Seen, says, WriteFault}
use Rattle.solve_cli.specs.Commands.{proof_created, asked_to}
use Rattle.solve_cli.specs.Happens.{IsFormula, Works}
use Rattle.solve_cli.specs.Failed.{AreInOrder, FailsAs, NegatesLastStep}
use Rattle.solve_cli.specs.Logs.{IsOpenLog, IsClosedLog, IsSpentLog, IsLogSoFar}
use Rattle.solve_cli.specs.SlotTexts.{IsLateOf}

-- the formula was read, and the Proof port was given its file, where there is a name for it
abbrev pub BeginsSearch : Plan → ℕ → Seen → Result Problem Outcome → Seen → Type 0
BeginsSearch p limit old result new = MatchResult result
    (λ f. (new ≡ asked_to proof_created p old) × IfSome old.files (λ files. IsFormula p limit files f))
    (λ o. Works p limit old o new)

-- a search up to so many conflicts that does not tidy
abbrev pub plain_options : ℕ → SearchOptions
plain_options conflicts = record { conflicts = conflicts; inprocess = false }

-- what a search came to, and its log
abbrev pub ComesTo : Problem → SearchOptions → Bytes → Ending → Type 0
ComesTo f options log (ending.Satisfiable v) = Meets f v × IsOpenLog f options log
ComesTo f options log (ending.Unsatisfiable failed) = Unmet f × FailsAs f failed × IsClosedLog f options log × NegatesLastStep f log failed
ComesTo f options log (ending.Unknown k) = (k ≡ options.conflicts) × (¬ SettledWithRecovered f) × IsSpentLog f options log
ComesTo f options log e = ⊥

-- What an answer of the search ends in. The literals that fail are put in order, for which memory may be wanted.
abbrev pub AnswersAs : Problem → Result Answer CoreFault → Result Ending Outcome → Type 0
AnswersAs f (Ok (answer.Sat values)) result = result ≡ Ok (ending.Satisfiable values)
AnswersAs f (Ok (answer.Unsat failed)) result = MatchResult result (λ e. (told : Option (List ℤ)) × (e ≡ ending.Unsatisfiable told) × AreInOrder f failed told) (λ o. o ≡ outcome.Memory)
AnswersAs f (Ok (answer.Unknown conflicts)) result = result ≡ Ok (ending.Unknown conflicts)
AnswersAs f (Err fault.Memory) result = result ≡ Err outcome.Memory
AnswersAs f (Err fault.Write) result = result ≡ Err outcome.WriteFault

-- What a search printed on the Proof port, line by line: the log of what it came to; or, where it gave up, a prefix of a right log.
abbrev pub SearchesOn : Problem → SearchOptions → Seen → Result Ending Outcome → Seen → Type 0
SearchesOn f options old (Ok e) new =
    ((n : Bytes) (l : Option Bytes) → IsLateOf (plan.Solve n l options) e)
    × ((log : Bytes) × (new ≡ says port.Proof log old) × IfSome old.files (λ _. ComesTo f options log e))
SearchesOn f options old (Err outcome.Memory) new = (log : Bytes) × (new ≡ says port.Proof log old) × IfSome old.files (λ _. IsLogSoFar f log)
SearchesOn f options old (Err outcome.WriteFault) new = (log : Bytes) × WriteFault (says port.Proof log old) new × IfSome old.files (λ _. IsLogSoFar f log)
SearchesOn f options old (Err o) new = ⊥
