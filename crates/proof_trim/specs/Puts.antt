-- What a step puts, and of which kind its hints are.
use Rattle.std.specs.Prelude.{ℕ, Bool, true, false, List, [], get_or, Option, Some, None}
use Rattle.cx_base.specs.declared.steps.ProofStep.{ProofStep}
use Rattle.cx_base.specs.declared.steps.ProofStep.TheVariants as step
use Rattle.proof_rules.specs.declared.live.Kind.{Kind}
use Rattle.proof_rules.specs.declared.live.Kind.TheVariants.{Clauses, Parities}
use Rattle.proof_trim.specs.declared.head.StepKind.{StepKind}
use Rattle.proof_trim.specs.declared.head.StepKind.TheVariants as kind
use Rattle.proof_trim.specs.declared.put.Put.{Put}

-- what the step puts, if it is no deletion
abbrev pub put_of : ProofStep → Option Put
put_of (step.Clause n lits hints) = Some (record { kind = Clauses; id = n })
put_of (step.DeleteClauses n ids) = None
put_of (step.Parity n lits hints) = Some (record { kind = Parities; id = n })
put_of (step.DeleteParities ids) = None
put_of (step.ClauseOfParity n lits hint) = Some (record { kind = Clauses; id = n })
put_of (step.ParityOfClauses n lits hints) = Some (record { kind = Parities; id = n })

-- what a step of this kind and id puts
abbrev pub put_by : StepKind → ℕ → Option Put
put_by kind.Clause n = Some (record { kind = Clauses; id = n })
put_by kind.DeleteClauses n = None
put_by kind.Parity n = Some (record { kind = Parities; id = n })
put_by kind.DeleteParities n = None
put_by kind.ClauseOfParity n = Some (record { kind = Clauses; id = n })
put_by kind.ParityOfClauses n = Some (record { kind = Parities; id = n })

-- the kind of what the hints of such a step name, if it is no deletion
abbrev pub hint_kind : StepKind → Option Kind
hint_kind kind.Clause = Some Clauses
hint_kind kind.DeleteClauses = None
hint_kind kind.Parity = Some Parities
hint_kind kind.DeleteParities = None
hint_kind kind.ClauseOfParity = Some Parities
hint_kind kind.ParityOfClauses = Some Clauses

-- the step at a place, from 0
abbrev pub step_at : List ProofStep → ℕ → ProofStep
step_at steps place = get_or steps place (step.DeleteParities [])

-- the step only takes out
abbrev pub is_deletion : ProofStep → Bool
is_deletion (step.Clause n lits hints) = false
is_deletion (step.DeleteClauses n ids) = true
is_deletion (step.Parity n lits hints) = false
is_deletion (step.DeleteParities ids) = true
is_deletion (step.ClauseOfParity n lits hint) = false
is_deletion (step.ParityOfClauses n lits hints) = false
