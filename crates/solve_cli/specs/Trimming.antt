-- What `trim` leaves of a proof: some of its steps, and the constraints of the formula that these name.
use Rattle.std.specs.Prelude.{◌≡◌, ℕ, List, [], ◌∷◌, ◌++◌, length, codes}
use Rattle.cx_base.specs.Problem.{Problem, Unmet}
use Rattle.cx_base.specs.declared.steps.ProofStep.{ProofStep}
use Rattle.cx_base.specs.declared.steps.ProofStep.TheVariants.{DeleteParities}
use Rattle.cx_texts.specs.Grammar.{spelled, ids}
use Rattle.cx_texts.specs.ProofText.{ProofReads}
use Rattle.cx_texts.specs.Printed.{printed_proof}
use Rattle.cx_judgements.specs.ProofTexts.{Accepted}
use Rattle.step_text.specs.Spaced.{spaced}
use Rattle.proof_trim.specs.Outcomes.{IsTrimOf}
use Rattle.proof_trim.specs.Trimmed.{core_of}
use Rattle.cx_desk.specs.Outside.{Bytes}
use Rattle.solve_cli.specs.declared.ending.Core.{Core}

-- The text's proof is accepted. Of it these steps stay: those that its last one needs, and the deletions of what is live among them. The
-- core is what needed steps name of the formula.
abbrev pub TrimsTo : Problem → Bytes → List ProofStep → Core → Type 0
TrimsTo f text steps core = IsTrimOf ProofReads f text (record { steps = record { steps = steps; here = DeleteParities [] }; clauses = core.clauses; parities = core.parities })

-- The bytes are the printed steps that stay of the proof, and they are accepted at their last one. No values meet the core.
pub record IsTrimmedProof (f : Problem) (text : Bytes) (core : Core) (bytes : Bytes) : Type 0 where
  pub steps : List ProofStep
  pub trims : TrimsTo f text steps core
  pub printed : bytes ≡ printed_proof steps
  pub accepted : Accepted f bytes (length steps)
  pub core_unmet : Unmet (core_of f core.clauses core.parities)

-- a line of ids after its words
abbrev pub ids_line : Bytes → List ℕ → Bytes
ids_line words numbers = words ++ (spaced (spelled (ids numbers)) ++ 10 ∷ [])

-- the lines of a core
abbrev pub core_text : Core → Bytes
core_text core = ids_line (codes "c core clauses") core.clauses ++ (ids_line (codes "c core parities") core.parities ++ codes "s TRIMMED\n")
