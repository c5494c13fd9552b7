-- A formula over the variables that it uses, and what a search promises.
use Rattle.std.specs.Prelude.{◌≢◌, ◌≡◌, ◌-◌, ◌/◌, ℕ, Bool, true, false, ◌&&◌, List, ◌++◌, length, take, replicate, nat_le, Result, IfOk, IfErr, OnOk}
use Rattle.std.specs.List.{list_all}
use Rattle.cx_base.specs.Counts.{Rose}
use Rattle.cx_base.specs.Literals.{Literal}
use Rattle.cx_base.specs.Problem.{Problem, literals_of, greatest_variable}
use Rattle.cx_base.specs.declared.constraint.Constraint.{Constraint}
use Rattle.cx_base.specs.declared.steps.LogEvent.{LogEvent}
use Rattle.cx_semantics.specs.Settled.{Settled}
use Rattle.conflict_learn.specs.declared.fault.CoreFault.{CoreFault}
use Rattle.conflict_learn.specs.declared.fault.CoreFault.TheVariants.{Write}
use Rattle.conflict_learn.specs.Faults.{CountsAs, fault_in}
use Rattle.search_steps.specs.Recovering.{SettledWithRecovered}
use Rattle.step_text.specs.declared.sink.Sink as sink
use Rattle.cdcl_search.specs.Tells.{HasFailedBy, HaveLowIds, HasNoMark}
use Rattle.cdcl_core.specs.LogLines.{AreInTime, GivesUpIn, KeepsIn}
use Rattle.cdcl_core.specs.Results.{IsRightOutcomeIn}
use Rattle.cdcl_core.specs.declared.narrowing.TheConstants.{MANY_VARIABLES}
use Rattle.cdcl_core.specs.declared.solving.SearchOutcome.{SearchOutcome}
use Rattle.cdcl_core.specs.declared.solving.SearchOutcome.TheVariants.{Sat, Unsat, Unknown}

-- no literal is of a variable above the last
abbrev pub are_up_to : ℕ → List Literal → Bool
are_up_to last lits = list_all (λ l. nat_le l.variable last) lits

-- no constraint uses a variable above the last
abbrev pub uses_up_to : ℕ → List Constraint → Bool
uses_up_to last constraints = list_all (λ c. are_up_to last (literals_of c)) constraints

-- the header has twice the variables up to the greatest used, and a million more
abbrev pub uses_few : Problem → Bool
uses_few formula = nat_le MANY_VARIABLES formula.variables && uses_up_to ((formula.variables - MANY_VARIABLES) / 2) formula.constraints

-- the constraints over this many variables
abbrev pub over : ℕ → Problem → Problem
over n formula = record { variables = n; constraints = formula.constraints }

-- the formula over the variables up to the greatest that it uses
abbrev pub narrowed : Problem → Problem
narrowed formula = over (greatest_variable 0 formula.constraints) formula

-- the first n values, and false for each variable up to n that has none
abbrev pub padded : ℕ → List Bool → List Bool
padded n values = take n values ++ replicate (n - length values) false

-- an answer with padded values
abbrev pub padded_answer : ℕ → SearchOutcome → SearchOutcome
padded_answer n (Sat values) = Sat (padded n values)
padded_answer n (Unsat failed) = Unsat failed
padded_answer n (Unknown conflicts) = Unknown conflicts

-- What a search of the formula comes to, and what it leaves of a sink that was told nothing.
pub record SearchedIn {L : Type 0} (tidies : Bool) (m : sink.Ghosts L LogEvent) (formula : Problem) (budget : ℕ) (old new : L) (result : Result SearchOutcome CoreFault) : Type 0 where
  pub answers : IfOk result (λ a. IsRightOutcomeIn tidies formula budget (m.items new) a)
  pub tidied : tidies ≡ true → OnOk result (AreInTime (m.lines new))
  pub settled : Settled formula → IfOk result (λ a. (conflicts : ℕ) → a ≢ Unknown conflicts)
  pub settled_with_recovered : SettledWithRecovered formula → IfOk result (λ a. (conflicts : ℕ) → a ≢ Unknown conflicts)
  pub unmarked : SettledWithRecovered formula → HasNoMark (m.items new)
  pub ids : HaveLowIds (m.items new)
  pub gave_up : IfErr result (λ e. GivesUpIn tidies m formula new e)
  pub write : IfErr result (λ e. e ≡ Write → Rose (m.faults old) (m.faults new))
  pub faults : CountsAs (fault_in result) (m.faults old) (m.faults new)
  pub failed : HasFailedBy (fault_in result) (m.has_failed old) (m.has_failed new)
  pub frame : KeepsIn tidies m old new
