use Rattle.std.proofs.Common.{◌≡◌, List, length, drop}
use Rattle.cx_base.specs.declared.steps.ProofStep.{ProofStep}
use Rattle.proof_trim.specs.Kept.{chosen}
use Rattle.proof_trim.proofs.kept.next_place.Given as goal

abbrev pub invariant-loop-place : goal.invariant-loop-place
invariant-loop-place l = (steps : List ProofStep) → length steps ≡ length l.stays → chosen (drop l.from l.stays) (drop l.from steps) ≡ chosen (drop l.place l.stays) (drop l.place steps)
