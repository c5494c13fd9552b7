-- Which outcomes end with a status.
use Rattle.std.proofs.Common.{◌≡◌, ℕ, ℤ, Bool, Option, List, refl, sym, subst}
use Rattle.cx_texts.specs.declared.offence.Offence.{Offence}
use Rattle.cx_texts.specs.declared.offence.Offence.TheVariants as offence
use Rattle.cx_semantics.specs.declared.cause.Cause.{Cause}
use Rattle.cx_desk.specs.declared.desk.Slot.{Slot}
use Rattle.solve_cli.specs.declared.ending.Ending.{Ending}
use Rattle.solve_cli.specs.declared.ending.Ending.TheVariants as ending
use Rattle.gf2_space.specs.Spaces.{AffineSpace}
use Rattle.solve_cli.specs.declared.ending.Core.{Core}
use Rattle.solve_cli.specs.declared.ending.Instance.{Instance}
use Rattle.solve_cli.specs.declared.ending.Shown.{Shown}
use Rattle.solve_cli.specs.declared.ending.WrongAnswer.{WrongAnswer}
use Rattle.solve_cli.specs.declared.ending.Outcome.{Outcome}
use Rattle.solve_cli.specs.declared.ending.Outcome.TheVariants as outcome
use Rattle.solve_cli.specs.declared.ending.Status.{Status}
use Rattle.solve_cli.specs.declared.ending.Status.TheVariants as status
use Rattle.solve_cli.specs.Endings.{status_of_offence, status_of_ending, status_of}

-- the endings of status 0
pub data Done : Ending → Type 0 where
  verified : (k : ℕ) → Done (ending.Verified k)
  right : Done ending.ModelRight
  elaborated : (k : ℕ) → Done (ending.Elaborated k)
  unknown : (k : ℕ) → Done (ending.Unknown k)
  demonstrated : (i : Instance) (x : Shown) → Done (ending.Demonstrated i x)
  trimmed : (core : Core) → Done (ending.Trimmed core)
  blasted : (variables clauses : ℕ) → Done (ending.Blasted variables clauses)
  affine : (space : Option AffineSpace) → Done (ending.Affine space)

-- the endings of status 9
pub data OverLimit : Ending → Type 0 where
  far : (place : ℕ) → OverLimit (ending.FormulaRefused (offence.VarLimit place))
  long : (which : Slot) → OverLimit (ending.TooLong which)
  many : (k : ℕ) → OverLimit (ending.TooManyVariables k)

-- the endings of status 7
pub data ProofRefused : Ending → Type 0 where
  not_verified : (k : ℕ) (c : Cause) → ProofRefused (ending.NotVerified k c)
  not_trimmed : (k : ℕ) (c : Cause) → ProofRefused (ending.NotTrimmed k c)

-- an outcome of this status
abbrev pub HasStatus : Status → Outcome → Type 0
HasStatus status.Usage o = o ≡ outcome.Usage
HasStatus status.ReadFault o = o ≡ outcome.ReadFault
HasStatus status.WriteFault o = o ≡ outcome.WriteFault
HasStatus status.OutOfMemory o = o ≡ outcome.Memory
HasStatus status.Done o = (e : Ending) × (o ≡ outcome.Ended e) × Done e
HasStatus status.Satisfiable o = (v : List Bool) × (o ≡ outcome.Ended (ending.Satisfiable v))
HasStatus status.Unsatisfiable o = (failed : Option (List ℤ)) × (o ≡ outcome.Ended (ending.Unsatisfiable failed))
HasStatus status.FormulaRefused o = (b : Offence) × (o ≡ outcome.Ended (ending.FormulaRefused b)) × (status_of_offence b ≡ status.FormulaRefused)
HasStatus status.Limit o = (e : Ending) × (o ≡ outcome.Ended e) × OverLimit e
HasStatus status.ProofRefused o = (e : Ending) × (o ≡ outcome.Ended e) × ProofRefused e
HasStatus status.LogRefused o = (k : ℕ) × (c : Cause) × (o ≡ outcome.Ended (ending.NotElaborated k c))
HasStatus status.AnswerRefused o = (w : WrongAnswer) × (o ≡ outcome.Ended (ending.ModelWrong w))

of_offence : (b : Offence) → HasStatus (status_of_offence b) (outcome.Ended (ending.FormulaRefused b))
of_offence (offence.NoHeader b) = (offence.NoHeader b, refl, refl)
of_offence (offence.BadHeader b) = (offence.BadHeader b, refl, refl)
of_offence (offence.BadToken b) = (offence.BadToken b, refl, refl)
of_offence (offence.Unterminated b) = (offence.Unterminated b, refl, refl)
of_offence (offence.VarLimit b) = (ending.FormulaRefused (offence.VarLimit b), refl, far b)

of_ending : (e : Ending) → HasStatus (status_of_ending e) (outcome.Ended e)
of_ending (ending.FormulaRefused b) = of_offence b
of_ending (ending.TooLong which) = (ending.TooLong which, refl, long which)
of_ending (ending.Verified k) = (ending.Verified k, refl, verified k)
of_ending (ending.NotVerified k c) = (ending.NotVerified k c, refl, not_verified k c)
of_ending ending.ModelRight = (ending.ModelRight, refl, right)
of_ending (ending.ModelWrong w) = (w, refl)
of_ending (ending.Elaborated k) = (ending.Elaborated k, refl, elaborated k)
of_ending (ending.NotElaborated k c) = (k, c, refl)
of_ending (ending.Satisfiable v) = (v, refl)
of_ending (ending.Unsatisfiable failed) = (failed, refl)
of_ending (ending.Unknown k) = (ending.Unknown k, refl, unknown k)
of_ending (ending.Demonstrated i x) = (ending.Demonstrated i x, refl, demonstrated i x)
of_ending (ending.Trimmed core) = (ending.Trimmed core, refl, trimmed core)
of_ending (ending.NotTrimmed k c) = (ending.NotTrimmed k c, refl, not_trimmed k c)
of_ending (ending.Blasted variables clauses) = (ending.Blasted variables clauses, refl, blasted variables clauses)
of_ending (ending.TooManyVariables k) = (ending.TooManyVariables k, refl, many k)
of_ending (ending.Affine space) = (ending.Affine space, refl, affine space)

of_outcome : (o : Outcome) → HasStatus (status_of o) o
of_outcome (outcome.Ended e) = of_ending e
of_outcome outcome.Usage = refl
of_outcome outcome.ReadFault = refl
of_outcome outcome.WriteFault = refl
of_outcome outcome.Memory = refl

pub outcome_of : (s : Status) (o : Outcome) → s ≡ status_of o → HasStatus s o
outcome_of s o is = subst (λ (t : Status). HasStatus t o) (sym is) (of_outcome o)
