-- What a tidying gives.
use Rattle.std.specs.Prelude.{◌≡◌, ◌+◌, ◌*◌, ◌≤◌, ◌⊎◌, ⊤, ℕ, Bool, List, [], ◌∷◌, length, None, IsTrue, Contains, Result, Ok, Err}
use Rattle.cx_base.specs.Literals.{Literal}
use Rattle.cx_base.specs.Problem.{Problem}
use Rattle.cx_base.specs.declared.steps.LogStep.{LogStep}
use Rattle.cx_semantics.specs.Chain.{has_literal}
use Rattle.cx_semantics.specs.Tables.{Table, Tables, get}
use Rattle.clause_arena.specs.Clauses.{ArenaState, clause_at, IsLive, literals_at, id_at, learned_at}
use Rattle.step_text.specs.declared.sink.SinkFault.{SinkFault}
use Rattle.tidy_rules.specs.declared.part.TidyPart.{TidyPart}
use Rattle.tidy_rules.specs.Parts.{IsPart, Tidied, lits_in}
use Rattle.clause_tidy.specs.declared.outcome.TidyOf.{TidyOf}
use Rattle.clause_tidy.specs.declared.outcome.TidyOf.TheVariants.{Done, Ended}
use Rattle.clause_tidy.specs.Agreeing.{IsNamedBy, Agrees}
use Rattle.clause_tidy.specs.Answers.{IsEnded}
use Rattle.clause_tidy.specs.Derived.{IsDerived}
use Rattle.tidy_rules.specs.Runs.{KeepsFree, RunsTidily}
use Rattle.clause_tidy.specs.Taking.{Lists, Takes, IsWide}
use Rattle.clause_tidy.specs.Tidying.{IsClauseOf, IsCovered, IsPartOf, SparesLearned, WasOrCame}
use Rattle.clause_tidy.specs.Weights.{weight}

-- covered by a clause of the arena, or by a unit
abbrev pub IsCoveredBy : ArenaState → List Literal → List Literal → Bool → Type 0
IsCoveredBy a units clause learned = IsCovered a clause learned ⊎ ((l : Literal) × Contains units l × IsTrue (has_literal clause l))

-- each unit is the log's live clause of its id
abbrev pub AreNamed : Table → List Literal → List ℕ → Type 0
AreNamed table units ids = (l : Literal) (n : ℕ) → Lists units ids l n → IsNamedBy table (l ∷ []) n

-- each clause lies inside one that was there and has its id, and so does each unit
pub record ArePartsOf (a b : ArenaState) (units : List Literal) (ids : List ℕ) : Type 0 where
  pub each_clause : (q : ℕ) → IsLive b q → IsPartOf a (literals_at b q) (id_at b q)
  pub each_unit : (l : Literal) (n : ℕ) → Lists units ids l n → IsPartOf a (l ∷ []) n

-- the id of each clause that was there is free in the table, or that of a clause that is there, or of a unit
abbrev pub LeavesIdsOr : ArenaState → ArenaState → List Literal → List ℕ → Table → Type 0
LeavesIdsOr a b units ids table = (r : ℕ) → IsLive a r → (get table (id_at a r) ≡ None) ⊎ ((q : ℕ) × IsLive b q × (id_at b q ≡ id_at a r)) ⊎ ((l : Literal) × Lists units ids l (id_at a r))

-- There are at most four steps for each clause or literal less. Where a log agrees with the first arena, they are right, and none ends it. Then it agrees with the second one, each unit is its live clause of that id, ids that were free are free, no learned clause that is there was deleted, and the ids of the first are free or of clauses of the second or of units.
abbrev pub AgreesAgain : Problem → ℕ → ArenaState → ArenaState → List Literal → List ℕ → List LogStep → Type 0
AgreesAgain formula spare a b units ids steps = (length steps + 4 * weight b ≤ 4 * weight a) × ((tables : Tables) → Agrees spare tables.clauses a → (last : Tables) × RunsTidily formula tables steps last × Agrees spare last.clauses b × AreNamed last.clauses units ids × KeepsFree tables.clauses last.clauses × SparesLearned b steps × LeavesIdsOr a b units ids last.clauses)

-- The clauses together with the units are tidy. What was there is covered, by what was not learned where it was not learned. Each clause and unit was derived from what was there. Each lies inside one of those and has its id. What is learned was there as it is. No clause that came has just one literal, or one twice. Where a log agreed with the arena, it does again.
pub record IsTidied (formula : Problem) (spare : ℕ) (a b : ArenaState) (units : List Literal) (ids : List ℕ) (steps : List LogStep) : Type 0 where
  pub tidied : Tidied b units
  pub each : length ids ≡ length units
  pub covers : (r : ℕ) → IsLive a r → IsCoveredBy b units (literals_at a r) (learned_at a r)
  pub derived : (p : TidyPart) → IsPart b units p → IsDerived (IsClauseOf a) (lits_in b p)
  pub parts : ArePartsOf a b units ids
  pub learned : (q : ℕ) → IsLive b q → IsTrue (learned_at b q) → clause_at b q ≡ clause_at a q
  pub wide : (q : ℕ) → length a.clauses ≤ q → IsWide b q
  pub was : (q : ℕ) → IsLive b q → WasOrCame formula a b q
  pub runs : AgreesAgain formula spare a b units ids steps

-- the clauses were tidied, or the log has ended by a clause of these literals
abbrev pub TidiesTo : Problem → ℕ → ArenaState → ArenaState → TidyOf → List LogStep → Type 0
TidiesTo formula spare a b (Done units ids) steps = IsTidied formula spare a b units ids steps
TidiesTo formula spare a b (Ended lits) steps = IsEnded formula spare a lits steps

-- ---- what an answer says
-- this holds of the units and their ids, where the clauses were tidied
abbrev pub IfDone : Result TidyOf SinkFault → (List Literal → List ℕ → Type 0) → Type 0
IfDone (Ok (Done units ids)) P = P units ids
IfDone (Ok (Ended lits)) P = ⊤
IfDone (Err fault) P = ⊤

-- this holds of the literals of the clause that ended the log, where one did
abbrev pub IfEnded : Result TidyOf SinkFault → (List Literal → Type 0) → Type 0
IfEnded (Ok (Done units ids)) P = ⊤
IfEnded (Ok (Ended lits)) P = P lits
IfEnded (Err fault) P = ⊤

-- units of references from this one on went
abbrev pub TakesUnits : ArenaState → ArenaState → ℕ → TidyOf → Type 0
TakesUnits a b first (Done units ids) = Takes a b units ids × ((q : ℕ) → first ≤ q → IsWide b q)
TakesUnits a b first (Ended lits) = ⊥
