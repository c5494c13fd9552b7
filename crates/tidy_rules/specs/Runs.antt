-- What the steps of a tidying do to the log's live clauses.
use Rattle.std.specs.Prelude.{◌≡◌, ◌≢◌, ◌⊎◌, ℕ, ℤ, List, [], ◌∷◌, ◌++◌, Some, None, IsTrue, IsFalse}
use Rattle.std.specs.List.{AllByRecursion}
use Rattle.cx_base.specs.Literals.{Literal}
use Rattle.cx_base.specs.Problem.{Problem}
use Rattle.cx_base.specs.Integers.{literals}
use Rattle.cx_base.specs.declared.steps.LogStep.{LogStep}
use Rattle.cx_base.specs.declared.steps.LogStep.TheVariants.{Original, OriginalParity, Clause, ClauseWithHints, Parity, ClauseOfParity, ParityOfClauses, Delete, DeleteParity, Final, FinalParity, MoveClauses, MoveParities}
use Rattle.cx_semantics.specs.Chain.{is_inside}
use Rattle.cx_semantics.specs.Fresh.{is_tautology, IsLive}
use Rattle.cx_semantics.specs.Judging.{IsRight}
use Rattle.cx_semantics.specs.LogRules.{log_calculus, after_log_step, derived_clause, derives_ending_clause}
use Rattle.cx_semantics.specs.Marked.{clause_at}
use Rattle.cx_semantics.specs.Tables.{Table, Tables, get}
use Rattle.tidy_rules.specs.Hints.{AreHintsFor}

-- another live clause lies inside the one of this id
abbrev pub HasOneInside : Table → ℕ → Type 0
HasOneInside table n = (k : ℕ) × (k ≢ n) × (inner : List Literal) × (get table k ≡ Some inner) × IsTrue (is_inside inner (clause_at table n))

-- An added clause comes with right hints, and lies inside a live one that is no tautology. A deleted one is a tautology, or another live one lies inside it.
abbrev pub IsTidyStep : Table → LogStep → Type 0
IsTidyStep table (ClauseWithHints n lits hints) =
    AreHintsFor table (literals lits) hints × (clause : List Literal) × IsLive table clause × IsTrue (is_inside (literals lits) clause) × IsFalse (is_tautology clause)
IsTidyStep table (Delete n lits) = IsTrue (is_tautology (clause_at table n)) ⊎ HasOneInside table n
IsTidyStep table (Clause n lits) = ⊥
IsTidyStep table (Original n lits) = ⊥
IsTidyStep table (OriginalParity n lits) = ⊥
IsTidyStep table (Parity n lits sources) = ⊥
IsTidyStep table (ClauseOfParity n lits source) = ⊥
IsTidyStep table (ParityOfClauses n lits sources) = ⊥
IsTidyStep table (DeleteParity n lits) = ⊥
IsTidyStep table (Final n lits) = ⊥
IsTidyStep table (FinalParity n lits) = ⊥
IsTidyStep table (MoveClauses moves) = ⊥
IsTidyStep table (MoveParities moves) = ⊥

-- each id that was free is free
abbrev pub KeepsFree : Table → Table → Type 0
KeepsFree old new = (n : ℕ) → get old n ≡ None → get new n ≡ None

-- no step deletes the clause of this id
abbrev pub NoneDeletes : ℕ → List LogStep → Type 0
NoneDeletes n steps = AllByRecursion (λ step. (zs : List ℤ) → step ≢ Delete n zs) steps

-- each step is right and such a step, and none ends the log
abbrev pub RunsTidily : Problem → Tables → List LogStep → Tables → Type 0
RunsTidily formula tables [] last = last ≡ tables
RunsTidily formula tables (s ∷ steps) last =
    IsRight (log_calculus formula) tables s × IsFalse (derives_ending_clause formula s) × IsTidyStep tables.clauses s × RunsTidily formula (after_log_step tables s) steps last

-- such steps, and a right one after them that ends the log: it adds a clause of just these literals, by a chain with right hints
pub record EndsTidily (formula : Problem) (tables : Tables) (lits : List Literal) (steps : List LogStep) : Type 0 where
  pub before : List LogStep
  pub step : LogStep
  pub split : steps ≡ before ++ step ∷ []
  pub last : Tables
  pub runs : RunsTidily formula tables before last
  pub right : IsRight (log_calculus formula) last step
  pub ends : IsTrue (derives_ending_clause formula step)
  pub adds : derived_clause step ≡ lits
  pub by_chain : (n : ℕ) × (zs : List ℤ) × (hints : List ℤ) × (step ≡ ClauseWithHints n zs hints) × AreHintsFor last.clauses (literals zs) hints
