-- What an answer says, fact by fact.
use Rattle.std.proofs.Common.{ℕ, List, Result, Ok, Err}
use Rattle.std.specs.Prelude.{OnErr}
use Rattle.cx_base.specs.Literals.{Literal}
use Rattle.cx_base.specs.Problem.{Problem}
use Rattle.cx_base.specs.declared.steps.LogEvent.{LogEvent}
use Rattle.cx_base.specs.declared.steps.LogStep.{LogStep}
use Rattle.clause_arena.specs.Clauses.{ArenaState}
use Rattle.step_text.specs.declared.sink.Sink as sink
use Rattle.step_text.specs.declared.sink.SinkFault.{SinkFault}
use Rattle.step_text.specs.declared.sink.SinkFault.TheVariants.{Memory, Failed}
use Rattle.step_text.specs.Sinks.{OnFailed}
use Rattle.clause_tidy.specs.declared.outcome.TidyOf.{TidyOf}
use Rattle.clause_tidy.specs.declared.outcome.TidyOf.TheVariants.{Done, Ended}
use Rattle.clause_tidy.specs.Answers.{IsRightFrom, IsEnded, IsTold, IsTornAfter, TidiesOn}
use Rattle.clause_tidy.specs.Done.{IsTidied, TidiesTo, IfDone, IfEnded}

module _ {L : Type 0} (m : sink.Ghosts L LogEvent) (formula : Problem) (spare : ℕ) (a b : ArenaState) (old new : L) where
  abbrev Told : Result TidyOf SinkFault → Type 0
  Told result = TidiesOn m formula spare a old result (TidiesTo formula spare a b) new

  -- what the record says where the clauses were tidied
  pub when_done : (P : List Literal → List ℕ → Type 0) → ((units : List Literal) (ids : List ℕ) (steps : List LogStep) → IsTidied formula spare a b units ids steps → P units ids) → (result : Result TidyOf SinkFault) → Told result → IfDone result P
  when_done P f (Ok (Done units ids)) t = f units ids t.steps t.done
  when_done P f (Ok (Ended lits)) t = tt
  when_done P f (Err fault) t = tt

  -- and where the log has ended
  pub when_ended : (P : List Literal → Type 0) → ((lits : List Literal) (steps : List LogStep) → IsEnded formula spare a lits steps → P lits) → (result : Result TidyOf SinkFault) → Told result → IfEnded result P
  when_ended P f (Ok (Done units ids)) t = tt
  when_ended P f (Ok (Ended lits)) t = f lits t.steps t.done
  when_ended P f (Err fault) t = tt

  -- the same of what the sink was told
  pub told_when_done : (P : List Literal → List ℕ → List LogStep → Type 0) → ((units : List Literal) (ids : List ℕ) (steps : List LogStep) → IsTidied formula spare a b units ids steps → P units ids steps)
      → (result : Result TidyOf SinkFault) → Told result → IfDone result (λ units ids. IsTold m spare a old (P units ids) new)
  told_when_done P f (Ok (Done units ids)) t = (t.steps, t.told, t.own, f units ids t.steps t.done)
  told_when_done P f (Ok (Ended lits)) t = tt
  told_when_done P f (Err fault) t = tt

  pub told_when_ended : (P : List Literal → List LogStep → Type 0) → ((lits : List Literal) (steps : List LogStep) → IsEnded formula spare a lits steps → P lits steps) → (result : Result TidyOf SinkFault) → Told result
      → IfEnded result (λ lits. IsTold m spare a old (P lits) new)
  told_when_ended P f (Ok (Done units ids)) t = tt
  told_when_ended P f (Ok (Ended lits)) t = (t.steps, t.told, t.own, f lits t.steps t.done)
  told_when_ended P f (Err fault) t = tt

  pub told_on_err : (result : Result TidyOf SinkFault) → Told result → OnErr result (IsTold m spare a old (IsRightFrom formula spare a) new)
  told_on_err (Ok outcome) t = tt
  told_on_err (Err fault) t = (t.steps, t.told, t.own, t.left)

  pub torn_on_failed : (result : Result TidyOf SinkFault) → Told result → OnFailed result (IsTold m spare a old (IsTornAfter m formula spare a new) new)
  torn_on_failed (Ok outcome) t = tt
  torn_on_failed (Err Memory) t = tt
  torn_on_failed (Err Failed) t = (t.steps, t.told, t.own, t.torn)
