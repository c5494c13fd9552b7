-- Which names are wanted, going back through a proof, and which steps are needed: those that put what is wanted.
use Rattle.std.specs.Prelude.{ℕ, zero, suc, Bool, true, false, not, ◌&&◌, ◌||◌, List, [], ◌∷◌, get_or}
use Rattle.cx_base.specs.declared.steps.ProofStep.{ProofStep}
use Rattle.cx_base.specs.declared.steps.ProofStep.TheVariants.{Clause, DeleteClauses, Parity, DeleteParities, ClauseOfParity, ParityOfClauses}
use Rattle.proof_trim.specs.Names.{Name, clause, parity, puts, has_hint}

-- the step puts something under a name that is wanted after it
abbrev pub puts_wanted : (Name → Bool) → ProofStep → Bool
puts_wanted wanted (Clause n lits hints) = wanted (clause n)
puts_wanted wanted (Parity n lits hints) = wanted (parity n)
puts_wanted wanted (ClauseOfParity n lits hint) = wanted (clause n)
puts_wanted wanted (ParityOfClauses n lits hints) = wanted (parity n)
puts_wanted wanted (DeleteClauses n ids) = false
puts_wanted wanted (DeleteParities ids) = false

-- what is wanted before a step: its hints where it is needed, and what is wanted after it and not put by it
abbrev pub wanted_before : Bool → ProofStep → (Name → Bool) → Name → Bool
wanted_before needed step wanted name = (needed && has_hint step name) || (not (puts step name) && wanted name)

abbrev pub is_nil : List ProofStep → Bool
is_nil [] = true
is_nil (s ∷ steps) = false

-- what the steps want of those before them: the hints of the needed ones that no step between puts; the last step is needed
abbrev pub wants : List ProofStep → Name → Bool
wants [] name = false
wants (s ∷ steps) name = wanted_before (is_nil steps || puts_wanted (wants steps) s) s (wants steps) name

-- a step before these is needed: it is the last one, or it puts what they want
abbrev pub is_needed : ProofStep → List ProofStep → Bool
is_needed s steps = is_nil steps || puts_wanted (wants steps) s

-- whether each step is needed
abbrev pub marks_of : List ProofStep → List Bool
marks_of [] = []
marks_of (s ∷ steps) = is_needed s steps ∷ marks_of steps

-- the numbers, from 1, of the steps that are marked
abbrev pub marked : List Bool → ℕ → Bool
marked marks zero = false
marked marks (suc n) = get_or marks n false
