-- A source of the steps of a log and a sink of the steps of a proof, in one object: what is told of it, and what a call leaves.
use Rattle.std.specs.Prelude.{◌≡◌, ℕ, Bool, false, List, Option, Result, OnOk, OnErr}
use Rattle.cx_base.specs.Endings.{Ending}
use Rattle.cx_base.specs.declared.steps.LogStep.{LogStep}
use Rattle.cx_base.specs.declared.steps.ProofStep.{ProofStep}
use Rattle.step_text.specs.declared.source.TextRefusal.{TextRefusal}
use Rattle.step_text.specs.declared.sink.SinkFault.{SinkFault}
use Rattle.step_text.specs.Sources.{Gives, IsTooLongOnly, StandsAfter, Advances}
use Rattle.step_text.specs.Sinks.{with_next, SinkFaultsAs, HasFailedAs, OnFailed}

-- what is told of each state of the object
pub record EndsView (X : Type 0) : Type 1 where
  -- its log may be this text, by what it read so far
  pub may_read : X → List ℕ → Type 0
  -- of this text it has these steps left and then this ending
  pub leaves : X → List ℕ → List LogStep → Ending → Type 0
  -- whether this text passes its limit, where it tells that
  pub passes_limit : X → List ℕ → Option Bool
  -- its source has answered `Memory` or `Failed`
  pub is_spent : X → Bool
  -- the refusal that its source goes on giving
  pub stuck : X → Option TextRefusal
  pub read_faults : X → ℕ
  pub place : X → ℕ
  -- no place is greater
  pub farthest : X → ℕ
  -- the steps of the proof, where it tells them
  pub steps : X → Option (List ProofStep)
  pub write_faults : X → ℕ
  -- its sink has answered `Failed`
  pub has_failed : X → Bool
  -- a part of this step was written after the steps, after a fault
  pub torn : X → ProofStep → Type 0
  -- what a call leaves as it was
  pub keeps : X → X → Type 0

module _ {X : Type 0} (view : EndsView X) where
  -- its source can be asked, and its sink too
  pub record IsReady (ends : X) : Type 0 where
    pub fresh : view.is_spent ends ≡ false
    pub going : view.has_failed ends ≡ false

  -- what an answer of the source says of a text that it may be reading after that
  pub record AnswersOf (text : List ℕ) (old : X) (result : Result (Option LogStep) TextRefusal) (new : X) : Type 0 where
    pub step : Gives (λ a. view.leaves a text) old result new
    pub narrows : view.may_read old text
    pub long : IsTooLongOnly (view.passes_limit old text) result
    pub limit : view.passes_limit new text ≡ view.passes_limit old text

  -- whether the source may be asked again, what it goes on giving, and its faults
  abbrev pub SourceAnswers : X → Result (Option LogStep) TextRefusal → X → Type 0
  SourceAnswers old result new = StandsAfter view.is_spent view.stuck view.read_faults old result new

  -- the place rises at a step, up to a bound below 2^62 that never changes
  abbrev pub SourceAdvances : X → Result (Option LogStep) TextRefusal → X → Type 0
  SourceAdvances old result new = Advances view.place view.farthest old result new

  -- the sink is as it was
  pub record SinkStays (old new : X) : Type 0 where
    pub steps : view.steps new ≡ view.steps old
    pub faults : view.write_faults new ≡ view.write_faults old
    pub failed : view.has_failed new ≡ view.has_failed old

  -- the sink took the step, or tells what it told; after a fault a part of the step may be written
  pub record TakesNext (step : ProofStep) {T : Type 0} (old : X) (result : Result T SinkFault) (new : X) : Type 0 where
    pub told : OnOk result (view.steps new ≡ with_next step (view.steps old))
    pub same : OnErr result (view.steps new ≡ view.steps old)
    pub torn : OnFailed result (view.torn new step)

  -- the sink's faults, and whether it may be asked again
  pub record SinkAnswers {T : Type 0} (old : X) (result : Result T SinkFault) (new : X) : Type 0 where
    pub faults : SinkFaultsAs result (view.write_faults old) (view.write_faults new)
    pub failed : HasFailedAs result (view.has_failed old) (view.has_failed new)

  -- the source is as it was, and reads the same text
  pub record SourceStays (old new : X) : Type 0 where
    pub text : (text : List ℕ) → view.may_read new text → view.may_read old text
    pub rest : (text : List ℕ) (left : List LogStep) (ending : Ending) → (view.leaves new text left ending → view.leaves old text left ending) × (view.leaves old text left ending → view.leaves new text left ending)
    pub limit : (text : List ℕ) → view.may_read new text → view.passes_limit new text ≡ view.passes_limit old text
    pub spent : view.is_spent new ≡ view.is_spent old
    pub stuck : view.stuck new ≡ view.stuck old
    pub faults : view.read_faults new ≡ view.read_faults old
    pub place : view.place new ≡ view.place old
    pub bound : view.farthest new ≡ view.farthest old
