-- A run with its references, call after call.
use Rattle.std.proofs.Common.{◌≡◌, ◌∙◌, ◌+◌, subst, ℕ, Bool, List, Option, None, Some, Result, Ok, Err, IfOk}
use Rattle.std.specs.Prelude.{IfNone, MatchOption}
use Rattle.cx_base.specs.declared.steps.LogEvent.{LogEvent}
use Rattle.conflict_learn.specs.declared.fault.CoreFault.{CoreFault}
use Rattle.search_policy.specs.declared.assumptions.Assumptions.{Assumptions}
use Rattle.step_text.specs.declared.sink.Sink as sink
use Rattle.parity_engine.specs.declared.engine.ParityEngine as engine
use Rattle.cdcl_search.specs.declared.logs.SearchLog.{SearchLog}
use Rattle.cdcl_core.specs.Concluding.{SearchGoesOn}
use Rattle.cdcl_core.specs.LogLines.{GoesOnIn}
use Rattle.cdcl_core.specs.Results.{IsSettledBy}
use Rattle.cdcl_core.specs.Rounds.{IsSameRun, LeavesRestart}
use Rattle.cdcl_core.specs.declared.rounds.Run.{Run}
use Rattle.cdcl_core.specs.declared.solving.SearchOutcome.{SearchOutcome}

pub run_then : {P L : Type 0} (a b c : Run P L) → IsSameRun a b → IsSameRun b c → IsSameRun a c
run_then a b c h k = record {
  log = k.log ∙ h.log;
  state = k.state ∙ h.state;
  engine = k.engine ∙ h.engine;
  budget = k.budget ∙ h.budget;
}

pub goes_on_as : {L : Type 0} (m : sink.Ghosts L LogEvent) (s t : Bool) (a b : SearchLog L) (why : Option CoreFault) → s ≡ t → GoesOnIn s m a why b → GoesOnIn t m a why b
goes_on_as m s t a b why same h = subst (λ (x : Bool). GoesOnIn x m a why b) same h

-- what a call leaves of a run, it leaves of one with as many conflicts before
module _ {P L : Type 0} (p : engine.Ghosts P) (m : sink.Ghosts L LogEvent) (a b : Run P L) (r : Result (Option SearchOutcome) CoreFault) (new : Run P L) (assumptions : Assumptions) (marks : List Bool) where
  -- how it goes on, or answers, where it has this budget and counted so many conflicts before
  abbrev Goes : Bool → ℕ → ℕ → Type 0
  Goes t budget n = IfOk r (λ o. MatchOption o (SearchGoesOn new.log.now.formula.now budget (m.items new.log.now.sink.now) new.state.now (p.state new.engine.now)) (λ x. IsSettledBy t new.log.now.formula.now (n + 1) (m.items new.log.now.sink.now) x))

  pub leaves_since : IsSameRun a b → b.state.now.tidies ≡ a.state.now.tidies → b.state.now.conflicts ≡ a.state.now.conflicts → LeavesRestart p m b r new assumptions marks → LeavesRestart p m a r new assumptions marks
  leaves_since same tidies conflicts h = record {
    goes_on = subst (λ (n : ℕ). Goes a.state.now.tidies n a.state.now.conflicts) same.budget (subst (λ (t : Bool). Goes t b.budget a.state.now.conflicts) tidies (subst (λ (n : ℕ). Goes b.state.now.tidies b.budget n) conflicts h.goes_on));
    conflicts = subst (λ (n : ℕ). IfOk r (λ o. MatchOption o (new.state.now.conflicts ≡ n) (λ _. Unit {0}))) conflicts h.conflicts;
    tidies = subst (λ (t : Bool). IfOk r (λ o. MatchOption o (new.state.now.tidies ≡ t) (λ _. Unit {0}))) tidies h.tidies;
    keeps = h.keeps;
    clear = h.clear;
    same = run_then a b new same h.same;
  }

-- where there is always an answer, the search never goes on
pub never_goes_on : (Goes : Type 0) (Answers : SearchOutcome → Type 0) (r : Result (Option SearchOutcome) CoreFault) → IfOk r (λ o. MatchOption o ⊥ Answers) → IfOk r (λ o. MatchOption o Goes Answers)
never_goes_on Goes Answers (Ok None) h = absurd h
never_goes_on Goes Answers (Ok (Some x)) h = h
never_goes_on Goes Answers (Err e) h = tt

pub none_goes_on : (Goes : Type 0) (Answers : SearchOutcome → Type 0) (r : Result (Option SearchOutcome) CoreFault) → IfOk r (λ o. MatchOption o ⊥ Answers) → IfOk r (λ o. MatchOption o Goes (λ _. Unit {0}))
none_goes_on Goes Answers (Ok None) h = absurd h
none_goes_on Goes Answers (Ok (Some x)) h = tt
none_goes_on Goes Answers (Err e) h = tt

pub none_is_left : (Left : Type 0) (Answers : SearchOutcome → Type 0) (r : Result (Option SearchOutcome) CoreFault) → IfOk r (λ o. MatchOption o ⊥ Answers) → IfOk r (λ o. IfNone o Left)
none_is_left Left Answers (Ok None) h = absurd h
none_is_left Left Answers (Ok (Some x)) h = tt
none_is_left Left Answers (Err e) h = tt
