-- What `trim`, `blast` and `affine` wrote and told.
use Rattle.std.specs.Prelude.{◌≡◌, ℕ, [], List, length, Option, IfSome}
use Rattle.cx_base.specs.Problem.{Problem, Unmet, clauses_of, parities_of}
use Rattle.cx_texts.specs.FormulaText.{Reads}
use Rattle.xor_blast.specs.Blasted.{blasted}
use Rattle.xor_blast.specs.Extending.{ExtendInOneWay}
use Rattle.gf2_space.specs.Spaces.{AffineSpace, Describes}
use Rattle.cx_desk.specs.declared.desk.Port.TheVariants as port
use Rattle.cx_desk.specs.Outside.{Bytes, Files}
use Rattle.cx_words.specs.Words.{Asks}
use Rattle.cx_words.specs.declared.plans.Plan.TheVariants as plan
use Rattle.solve_cli.specs.declared.ending.Core.{Core}
use Rattle.solve_cli.specs.Endings.{blasted_text, space_text}
use Rattle.solve_cli.specs.Seen.{Seen, says, text_named}
use Rattle.solve_cli.specs.Commands.{proof_created, asked_to}
use Rattle.solve_cli.specs.Happens.{FormulaRead}
use Rattle.solve_cli.specs.Trimming.{IsTrimmedProof, core_text}

-- The Proof port was given its file and gained the trimmed proof, then the Answer port the core. No values meet the formula.
pub record HasTrimmed (name proof out : Bytes) (limit : ℕ) (files : Files) (old new : Seen) : Type 0 where
  pub formula : Problem
  pub read : FormulaRead limit (text_named name files) formula
  pub unmet : Unmet formula
  pub core : Core
  pub bytes : Bytes
  pub trimmed : IsTrimmedProof formula (text_named proof files) core bytes
  pub done : new ≡ says port.Answer (core_text core) (says port.Proof bytes (asked_to proof_created (plan.Trim name proof out) old))

abbrev pub IsTrimmed : List Bytes → ℕ → Seen → Seen → Type 0
IsTrimmed words limit old new = (name proof out : Bytes) → Asks words (plan.Trim name proof out) → IfSome old.files (λ files. HasTrimmed name proof out limit files old new)

-- The Proof port was given its file and gained a text of the formula in clauses, then the Answer port its size. Of values that meet
-- the formula exactly one list that begins with them meets it, and of others none.
pub record HasBlasted (name out : Bytes) (limit : ℕ) (files : Files) (old new : Seen) : Type 0 where
  pub formula : Problem
  pub read : FormulaRead limit (text_named name files) formula
  pub made : Problem
  pub made_is : made ≡ blasted formula
  pub no_parity : parities_of made.constraints ≡ []
  pub extends : ExtendInOneWay formula made
  pub text : Bytes
  pub reads : Reads text made
  pub done : new ≡ says port.Answer (blasted_text made.variables (length (clauses_of made.constraints))) (says port.Proof text (asked_to proof_created (plan.Blast name out) old))

abbrev pub IsBlasted : List Bytes → ℕ → Seen → Seen → Type 0
IsBlasted words limit old new = (name out : Bytes) → Asks words (plan.Blast name out) → IfSome old.files (λ files. HasBlasted name out limit files old new)

-- The Answer port gained the solutions of the formula's parities, or that there is none.
pub record HasTold (name : Bytes) (limit : ℕ) (files : Files) (old new : Seen) : Type 0 where
  pub formula : Problem
  pub read : FormulaRead limit (text_named name files) formula
  pub space : Option AffineSpace
  pub describes : Describes formula.variables (parities_of formula.constraints) space
  pub done : new ≡ says port.Answer (space_text space) (asked_to proof_created (plan.Affine name) old)

abbrev pub IsAffine : List Bytes → ℕ → Seen → Seen → Type 0
IsAffine words limit old new = (name : Bytes) → Asks words (plan.Affine name) → IfSome old.files (λ files. HasTold name limit files old new)
