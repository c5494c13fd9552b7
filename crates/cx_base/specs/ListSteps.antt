use Rattle.std.specs.Prelude.{ℕ, ℤ, List}
use Rattle.cx_base.specs.declared.steps.ListStep.{ListStep}
use Rattle.cx_base.specs.declared.steps.ListStep.TheVariants as listed
use Rattle.cx_base.specs.declared.steps.LogStep.{LogStep}
use Rattle.cx_base.specs.declared.steps.LogStep.TheVariants as step

-- the step of this kind with this id and list
abbrev pub list_step : ListStep → ℕ → List ℤ → LogStep
list_step listed.Original id lits = step.Original id lits
list_step listed.OriginalParity id lits = step.OriginalParity id lits
list_step listed.Clause id lits = step.Clause id lits
list_step listed.Delete id lits = step.Delete id lits
list_step listed.DeleteParity id lits = step.DeleteParity id lits
list_step listed.Final id lits = step.Final id lits
list_step listed.FinalParity id lits = step.FinalParity id lits
