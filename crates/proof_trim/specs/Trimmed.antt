-- The trimmed proof, and the formula of the constraints that it names.
use Rattle.std.specs.Prelude.{ℕ, suc, Bool, nat_eq, List, [], ◌∷◌, if◌then◌else◌}
use Rattle.std.specs.List.{list_any}
use Rattle.cx_base.specs.Problem.{Problem}
use Rattle.cx_base.specs.declared.constraint.Constraint.{Constraint}
use Rattle.cx_base.specs.declared.constraint.Constraint.TheVariants as constraint
use Rattle.cx_base.specs.declared.steps.ProofStep.{ProofStep}
use Rattle.cx_base.specs.declared.steps.ProofStep.TheVariants.{Clause, DeleteClauses, Parity, DeleteParities, ClauseOfParity, ParityOfClauses}
use Rattle.cx_semantics.specs.Tables.{Tables, is_live, first_tables}
use Rattle.cx_semantics.specs.ProofRules.{after_step}

-- The step with this number stays: one that adds where it is needed, a deletion where some id of it is live.
abbrev pub stays : (ℕ → Bool) → ℕ → Tables → ProofStep → Bool
stays needed n tables (Clause id lits hints) = needed n
stays needed n tables (Parity id lits hints) = needed n
stays needed n tables (ClauseOfParity id lits hint) = needed n
stays needed n tables (ParityOfClauses id lits hints) = needed n
stays needed n tables (DeleteClauses id ids) = list_any (is_live tables.clauses) ids
stays needed n tables (DeleteParities ids) = list_any (is_live tables.parities) ids

-- The steps that stay, in order. They are counted from n on, and live is what the steps that stayed leave.
abbrev pub staying : (ℕ → Bool) → ℕ → Tables → List ProofStep → List ProofStep
staying needed n tables [] = []
staying needed n tables (s ∷ steps) = if stays needed n tables s then s ∷ staying needed (suc n) (after_step tables s) steps else staying needed (suc n) tables steps

-- the needed steps of a proof, and the deletions of what is live among them
abbrev pub trimmed : Problem → (ℕ → Bool) → List ProofStep → List ProofStep
trimmed formula needed proof = staying needed 1 (first_tables formula) proof

-- The clauses and parities whose numbers are in these lists, and all assumption constraints. Clauses are counted from i on, parities from j on.
abbrev pub picked : List ℕ → List ℕ → ℕ → ℕ → List Constraint → List Constraint
picked clauses parities i j [] = []
picked clauses parities i j (constraint.Clause lits ∷ items) =
    let rest = picked clauses parities (suc i) j items in if list_any (nat_eq i) clauses then constraint.Clause lits ∷ rest else rest
picked clauses parities i j (constraint.Parity lits ∷ items) =
    let rest = picked clauses parities i (suc j) items in if list_any (nat_eq j) parities then constraint.Parity lits ∷ rest else rest
picked clauses parities i j (constraint.Assume lits ∷ items) = constraint.Assume lits ∷ picked clauses parities i j items

-- the formula of these clauses and parities alone, with the same number of variables and the same assumption constraints
abbrev pub core_of : Problem → List ℕ → List ℕ → Problem
core_of formula clauses parities = record { variables = formula.variables; constraints = picked clauses parities 1 1 formula.constraints }
