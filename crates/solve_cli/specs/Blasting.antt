-- A formula in clauses: what `blast` makes of a formula, its text, and why there is none.
use Rattle.std.specs.Prelude.{◌≡◌, ℕ, ⊤}
use Rattle.cx_base.specs.Problem.{Problem}
use Rattle.cx_desk.specs.Outside.{Bytes}
use Rattle.cx_texts.specs.FormulaText.{Reads}
use Rattle.cnfx_reader.specs.PrintedFormula.{printed_formula}
use Rattle.xor_blast.specs.Blasted.{blasted, PassesLimit}
use Rattle.xor_blast.specs.Extending.{ExtendInOneWay}
use Rattle.solve_cli.specs.declared.ending.Ending.TheVariants as ending
use Rattle.solve_cli.specs.declared.ending.Outcome.{Outcome}
use Rattle.solve_cli.specs.declared.ending.Outcome.TheVariants as outcome

-- The formula in clauses. Of values that meet the given one exactly one list that begins with them meets it, and of others none.
pub record IsInClauses (f made : Problem) : Type 0 where
  pub made_is : made ≡ blasted f
  pub extends : ExtendInOneWay f made
  pub within : (number : ℕ) → ¬ PassesLimit f number

-- too many variables, the constraint of this number being the first that passes the limit; or out of memory
abbrev pub BlastFails : Problem → Outcome → Type 0
BlastFails f (outcome.Ended (ending.TooManyVariables number)) = PassesLimit f number
BlastFails f outcome.Memory = ⊤
BlastFails f o = ⊥

-- the printed formula in clauses, which reads to it
pub record IsBlastedText (f : Problem) (text : Bytes) : Type 0 where
  pub printed : text ≡ printed_formula (blasted f)
  pub reads : Reads text (blasted f)
  pub extends : ExtendInOneWay f (blasted f)
