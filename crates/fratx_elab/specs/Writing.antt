-- What the sink tells after a step of the proof was handed to it.
use Rattle.std.specs.Prelude.{◌≡◌, List, Option, Some, None, Result, Ok, Err}
use Rattle.cx_base.specs.declared.steps.ProofStep.{ProofStep}
use Rattle.step_text.specs.Sinks.{with_next}
use Rattle.step_text.specs.declared.sink.SinkFault.{SinkFault}
use Rattle.step_text.specs.declared.sink.SinkFault.TheVariants.{Memory, Failed}

abbrev pub WritesDown : {T : Type 0} → Option (List ProofStep) → Option (List ProofStep) → (ProofStep → Type 0) → Option ProofStep → Result T SinkFault → Type 0
WritesDown before now torn (Some step) (Ok done) = now ≡ with_next step before
WritesDown before now torn (Some step) (Err Memory) = now ≡ before
WritesDown before now torn (Some step) (Err Failed) = torn step × (now ≡ before)
WritesDown before now torn None (Ok done) = now ≡ before
WritesDown before now torn None (Err fault) = ⊥
