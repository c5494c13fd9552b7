-- Steps of which some stay.
use Rattle.std.specs.Prelude.{Bool, true, false, List, [], ◌∷◌}
use Rattle.cx_base.specs.declared.steps.ProofStep.{ProofStep}

-- the steps that are chosen, in order
abbrev pub chosen : List Bool → List ProofStep → List ProofStep
chosen [] steps = []
chosen (b ∷ bs) [] = []
chosen (true ∷ bs) (s ∷ steps) = s ∷ chosen bs steps
chosen (false ∷ bs) (s ∷ steps) = chosen bs steps

-- the steps that stay and were not taken yet, and the one that was taken last
pub record Kept : Type 0 where
  pub steps : List ProofStep
  pub here : ProofStep
