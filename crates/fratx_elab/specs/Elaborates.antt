-- The proof that a log gives, step by step.
use Rattle.std.specs.Prelude.{◌≡◌, ℕ, ◌+◌, ℤ, pos, List, [], ◌∷◌, ◌++◌, length, take, fold, Option, Some, None, IsTrue, nat_lt, if◌then◌else◌}
use Rattle.std.specs.List.{AllByRecursion}
use Rattle.cx_base.specs.Literals.{Literal}
use Rattle.cx_base.specs.Problem.{Problem, clauses_of, parities_of}
use Rattle.cx_base.specs.Parity.{normal_form}
use Rattle.cx_base.specs.declared.steps.LogStep.{LogStep}
use Rattle.cx_base.specs.declared.steps.LogStep.TheVariants.{Original, OriginalParity, Clause, ClauseWithHints, Parity, ClauseOfParity, ParityOfClauses, Delete, DeleteParity, Final, FinalParity, MoveClauses, MoveParities}
use Rattle.cx_base.specs.declared.steps.ProofStep.{ProofStep}
use Rattle.cx_base.specs.declared.steps.ProofStep.TheVariants as proof
use Rattle.cx_semantics.specs.Chain.{same_literals}
use Rattle.cx_semantics.specs.LogRules.{after_log_step}
use Rattle.cx_semantics.specs.Tables.{Table, Tables, no_tables}
use Rattle.cx_base.specs.Integers.{literals, sizes}
use Rattle.rup_finder.specs.Front.{IsFrontChain, IsChainLength}
use Rattle.fratx_elab.specs.declared.originals.Counts.{Counts}
use Rattle.fratx_elab.specs.Names.{Naming, Names, stands_for, hints_for, first_names, name_original, name_next, drop_name, move_names}

-- k is the least number, from 1, of a list with the property
pub record IsLeast (P : List Literal → Type 0) (lists : List (List Literal)) (k : ℕ) : Type 0 where
  pub before : List (List Literal)
  pub it : List Literal
  pub later : List (List Literal)
  pub split : lists ≡ before ++ it ∷ later
  pub has_it : P it
  pub none_before : AllByRecursion (λ lits. ¬ P lits) before
  pub number : k ≡ length before + 1

-- of the formula's clauses, one with the same set of literals
abbrev pub IsClauseNumber : Problem → List Literal → ℕ → Type 0
IsClauseNumber formula lits k = IsLeast (λ clause. IsTrue (same_literals lits clause)) (clauses_of formula.constraints) k

-- of the formula's parities, one with the same normal form
abbrev pub IsParityNumber : Problem → List Literal → ℕ → Type 0
IsParityNumber formula lits k = IsLeast (λ parity. normal_form parity ≡ normal_form lits) (parities_of formula.constraints) k

-- an id above the formula's number of constraints of this kind is that of an added one
abbrev pub is_added : ℕ → ℕ → Option ℕ
is_added count p = if nat_lt count p then Some p else None

-- the id to delete in the proof where the log deletes n: none for an original, and none for an id that is not live
abbrev pub deleted_id : ℕ → Option ℕ → Option ℕ
deleted_id count (Some p) = is_added count p
deleted_id count None = None

abbrev pub clause_deletion : ℕ → Option ℕ → List ProofStep
clause_deletion front (Some p) = proof.DeleteClauses front (p ∷ []) ∷ []
clause_deletion front None = []

abbrev pub parity_deletion : Option ℕ → List ProofStep
parity_deletion (Some p) = proof.DeleteParities (p ∷ []) ∷ []
parity_deletion None = []

abbrev pub number_of_clauses : Problem → ℕ
number_of_clauses formula = length (clauses_of formula.constraints)

abbrev pub number_of_parities : Problem → ℕ
number_of_parities formula = length (parities_of formula.constraints)

-- a formula has so many clauses and so many parities
pub record AreCounts (counts : Counts) (formula : Problem) : Type 0 where
  pub clauses : counts.clauses ≡ number_of_clauses formula
  pub parities : counts.parities ≡ number_of_parities formula

-- where the first of the given hints, so many of them, are a right chain, the hints are the fewest that are one, by their names in the proof
abbrev pub KeepsHints : Naming → Table → List Literal → List ℤ → List ℤ → Type 0
KeepsHints naming table target given hints =
    (k : ℕ) → IsFrontChain table target given k → (count : ℕ) × IsChainLength table target given (Some count) × (hints ≡ hints_for naming (sizes (take count given)))

-- a step that adds a clause gives it the next clause id; its hints are those that the log gives where they are right, and else some list
abbrev pub WritesClause : Names → Table → ℕ → List ℤ → List ℤ → List ProofStep → Names → Type 0
WritesClause old table n lits given written new =
    ((hints : List ℤ) × (written ≡ proof.Clause (old.clauses.last + 1) lits hints ∷ []) × KeepsHints old.clauses table (literals lits) given hints)
    × (new ≡ record { clauses = name_next old.clauses n; parities = old.parities })

-- what is written for a step of the log, where these constraints are live in the log, and the names after it
abbrev pub Writes : Problem → Names → Tables → LogStep → List ProofStep → Names → Type 0
-- an original writes nothing: the least number of a clause with the same literals stands for its id
Writes formula old live (Original n lits) written new =
    (written ≡ []) × ((k : ℕ) × IsClauseNumber formula (literals lits) k × (new ≡ record { clauses = name_original old.clauses n k; parities = old.parities }))
Writes formula old live (OriginalParity n lits) written new =
    (written ≡ []) × ((k : ℕ) × IsParityNumber formula (literals lits) k × (new ≡ record { clauses = old.clauses; parities = name_original old.parities n k }))
-- a clause by a chain is one by a chain
Writes formula old live (Clause n lits) written new = WritesClause old live.clauses n lits [] written new
Writes formula old live (ClauseWithHints n lits hints) written new = WritesClause old live.clauses n lits hints written new
-- a sum names the parities that stand for those of the log, in order and with repeats
Writes formula old live (Parity n lits sources) written new =
    (written ≡ proof.Parity (old.parities.last + 1) lits (hints_for old.parities sources) ∷ []) × (new ≡ record { clauses = old.clauses; parities = name_next old.parities n })
-- a clause of a parity and a parity of clauses name those that stand for their sources
Writes formula old live (ClauseOfParity n lits source) written new =
    ((p : ℕ) × (stands_for old.parities source ≡ Some p) × (written ≡ proof.ClauseOfParity (old.clauses.last + 1) lits (pos p) ∷ []))
    × (new ≡ record { clauses = name_next old.clauses n; parities = old.parities })
Writes formula old live (ParityOfClauses n lits sources) written new =
    (written ≡ proof.ParityOfClauses (old.parities.last + 1) lits (hints_for old.clauses sources) ∷ []) × (new ≡ record { clauses = old.clauses; parities = name_next old.parities n })
-- what was added is deleted, after the last clause id that was given
Writes formula old live (Delete n lits) written new =
    (written ≡ clause_deletion old.clauses.last (deleted_id (number_of_clauses formula) (stands_for old.clauses n)))
    × (new ≡ record { clauses = drop_name old.clauses n; parities = old.parities })
Writes formula old live (DeleteParity n lits) written new =
    (written ≡ parity_deletion (deleted_id (number_of_parities formula) (stands_for old.parities n)))
    × (new ≡ record { clauses = old.clauses; parities = drop_name old.parities n })
-- a final step writes nothing
Writes formula old live (Final n lits) written new = (written ≡ []) × (new ≡ old)
Writes formula old live (FinalParity n lits) written new = (written ≡ []) × (new ≡ old)
-- a move writes nothing: what stands for the old ids stands for the new ones
Writes formula old live (MoveClauses moves) written new = (written ≡ []) × (new ≡ record { clauses = move_names old.clauses moves; parities = old.parities })
Writes formula old live (MoveParities moves) written new = (written ≡ []) × (new ≡ record { clauses = old.clauses; parities = move_names old.parities moves })

-- the steps write these, one after another
abbrev pub Elaborates : Problem → Names → Tables → List LogStep → List ProofStep → Names → Type 0
Elaborates formula old live [] written new = (written ≡ []) × (new ≡ old)
Elaborates formula old live (step ∷ steps) written new =
    (now : List ProofStep) × (rest : List ProofStep) × (between : Names) × (written ≡ now ++ rest) × Writes formula old live step now between × Elaborates formula between (after_log_step live step) steps rest new

-- the proof that the steps of a log give, from the formula's constraints on
abbrev pub IsProofOf : Problem → List LogStep → List ProofStep → Type 0
IsProofOf formula steps written = (last : Names) × Elaborates formula (first_names formula) no_tables steps written last

-- after what these steps write comes the clause with the fewest of its hints that are a right chain, by their names in the proof
pub record IsWrittenAsGiven (formula : Problem) (before : List LogStep) (lits given : List ℤ) (written : List ProofStep) : Type 0 where
  pub names : Names
  pub first : List ProofStep
  pub rest : List ProofStep
  pub count : ℕ
  pub so_far : Elaborates formula (first_names formula) no_tables before first names
  pub chain : IsChainLength (fold after_log_step no_tables before).clauses (literals lits) given (Some count)
  pub whole : written ≡ first ++ proof.Clause (names.clauses.last + 1) lits (hints_for names.clauses (sizes (take count given))) ∷ rest

-- each clause whose hints in the log begin with a right chain is written so
abbrev pub HasOwnHints : Problem → List LogStep → List ProofStep → Type 0
HasOwnHints formula steps written = (before : List LogStep) (n : ℕ) (lits given : List ℤ) (later : List LogStep) → steps ≡ before ++ ClauseWithHints n lits given ∷ later
    → (k : ℕ) → IsFrontChain (fold after_log_step no_tables before).clauses (literals lits) given k → IsWrittenAsGiven formula before lits given written
