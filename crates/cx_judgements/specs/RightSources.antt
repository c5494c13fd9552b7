-- What the sources of a step show: the sums, the clauses of parities and the parities of clauses in a log.
use Rattle.std.specs.Prelude.{◌≡◌, ◌⊎◌, ℕ, List, [], ◌∷◌, ◌++◌, fold, length, ⊤}
use Rattle.cx_base.specs.Literals.{Literal}
use Rattle.cx_base.specs.Problem.{Problem, clause_met, parity_met}
use Rattle.cx_base.specs.Integers.{literals}
use Rattle.cx_base.specs.declared.steps.LogStep.{LogStep}
use Rattle.cx_base.specs.declared.steps.LogStep.TheVariants.{Original, OriginalParity, Clause, ClauseWithHints, Parity, ClauseOfParity, ParityOfClauses, Delete, DeleteParity, Final, FinalParity, MoveClauses, MoveParities}
use Rattle.cx_semantics.specs.Implied.{Implies}
use Rattle.cx_semantics.specs.Judging.{IsOpen, EndsAt}
use Rattle.cx_semantics.specs.LogRules.{AreLive, after_log_step, log_calculus}
use Rattle.cx_semantics.specs.ProofRules.{IsSum, all_met}
use Rattle.cx_semantics.specs.Tables.{Table, Tables, named, no_tables}

-- the sources are live, and the list is the sum of their parities
abbrev pub IsSumOfLive : Table → List Literal → List ℕ → Type 0
IsSumOfLive parities lits sources = AreLive parities sources × IsSum lits (named parities sources)

-- the source is live, and its parity implies the clause
abbrev pub IsImpliedByLive : Table → List Literal → ℕ → Type 0
IsImpliedByLive parities clause source = AreLive parities (source ∷ []) × Implies (all_met parity_met (named parities (source ∷ []))) (λ values. clause_met values clause)

-- the sources are live, and their clauses imply the parity
abbrev pub IsParityOfLive : Table → List Literal → List ℕ → Type 0
IsParityOfLive clauses parity sources = AreLive clauses sources × Implies (all_met clause_met (named clauses sources)) (λ values. parity_met values parity)

-- what the sources of a step show, by what is live before it
abbrev pub HasRightSources : Tables → LogStep → Type 0
HasRightSources tables (Parity n lits sources) = IsSumOfLive tables.parities (literals lits) sources
HasRightSources tables (ClauseOfParity n lits source) = IsImpliedByLive tables.parities (literals lits) source
HasRightSources tables (ParityOfClauses n lits sources) = IsParityOfLive tables.clauses (literals lits) sources
HasRightSources tables (Original n lits) = ⊤
HasRightSources tables (OriginalParity n lits) = ⊤
HasRightSources tables (Clause n lits) = ⊤
HasRightSources tables (ClauseWithHints n lits hints) = ⊤
HasRightSources tables (Delete n lits) = ⊤
HasRightSources tables (DeleteParity n lits) = ⊤
HasRightSources tables (Final n lits) = ⊤
HasRightSources tables (FinalParity n lits) = ⊤
HasRightSources tables (MoveClauses moves) = ⊤
HasRightSources tables (MoveParities moves) = ⊤

-- so it is at each place
abbrev pub HaveRightSources : List LogStep → Type 0
HaveRightSources steps = (front : List LogStep) (step : LogStep) (later : List LogStep) → steps ≡ front ++ step ∷ later
    → HasRightSources (fold after_log_step no_tables front) step

-- the steps are right, and none ends the log or just the last one
abbrev pub AreRightSteps : Problem → List LogStep → Type 0
AreRightSteps formula steps = IsOpen (log_calculus formula) steps ⊎ EndsAt (log_calculus formula) steps (length steps)
