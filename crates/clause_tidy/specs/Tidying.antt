-- What tidying makes of an arena and tells the log.
use Rattle.std.specs.Prelude.{◌≡◌, ◌⊎◌, ◌+◌, ◌*◌, ◌≤◌, ℕ, Bool, false, List, length, None, IsTrue, IsFalse}
use Rattle.cx_base.specs.Assumptions.{is_ending}
use Rattle.cx_base.specs.Literals.{Literal}
use Rattle.cx_base.specs.Problem.{Problem}
use Rattle.cx_base.specs.declared.steps.LogStep.{LogStep}
use Rattle.cx_semantics.specs.Chain.{is_inside}
use Rattle.cx_semantics.specs.Fresh.{is_tautology}
use Rattle.cx_semantics.specs.Tables.{Table, Tables, get}
use Rattle.clause_arena.specs.Clauses.{ArenaState, clause_at, IsLive, literals_at, id_at, learned_at}
use Rattle.clause_tidy.specs.Derived.{IsDerived}
use Rattle.clause_tidy.specs.Agreeing.{Agrees}
use Rattle.clause_tidy.specs.Shortened.{AreDifferent}
use Rattle.clause_tidy.specs.Weights.{weight}
use Rattle.tidy_rules.specs.Runs.{KeepsFree, NoneDeletes, RunsTidily}

-- a clause of the arena
abbrev pub IsClauseOf : ArenaState → List Literal → Type 0
IsClauseOf a clause = (r : ℕ) × IsLive a r × (literals_at a r ≡ clause)

-- A clause with a literal and its negation, or one that has all literals of a clause of the arena. Where it was not learned, neither was that one.
abbrev pub IsCovered : ArenaState → List Literal → Bool → Type 0
IsCovered a clause learned = IsTrue (is_tautology clause) ⊎ ((q : ℕ) × IsLive a q × IsTrue (is_inside (literals_at a q) clause) × (learned ≡ false → learned_at a q ≡ false))

-- it lies inside one of the arena's clauses and has its id
pub record IsPartOf (a : ArenaState) (clause : List Literal) (id : ℕ) : Type 0 where
  pub r : ℕ
  pub live : IsLive a r
  pub inside : IsTrue (is_inside clause (literals_at a r))
  pub same : id ≡ id_at a r

-- The clause was there under this reference. Or it came: then it has no literal twice, and does not end the log.
abbrev pub WasOrCame : Problem → ArenaState → ArenaState → ℕ → Type 0
WasOrCame formula old new q = (IsLive old q × (literals_at new q ≡ literals_at old q)) ⊎ ((length old.clauses ≤ q) × AreDifferent (literals_at new q) × IsFalse (is_ending formula.constraints (literals_at new q)))

-- the id of each clause that was there is free in the table, or that of one that is there
abbrev pub LeavesIds : ArenaState → ArenaState → Table → Type 0
LeavesIds old new table = (r : ℕ) → IsLive old r → (get table (id_at old r) ≡ None) ⊎ ((q : ℕ) × IsLive new q × (id_at new q ≡ id_at old r))

-- no step deletes one of the arena's learned clauses
abbrev pub SparesLearned : ArenaState → List LogStep → Type 0
SparesLearned a steps = (q : ℕ) → IsLive a q → IsTrue (learned_at a q) → NoneDeletes (id_at a q) steps

-- From one arena to another, by at most four steps for each clause or literal less: what was there is covered, what is there was derived from it and is part of it, and what is learned was there. Where a log agrees with the first, these steps are right and make it agree with the second, ids that were free are free, no learned clause that is there was deleted, and the ids of the first are free or of clauses of the second.
pub record Tidies (formula : Problem) (spare : ℕ) (old new : ArenaState) (steps : List LogStep) : Type 0 where
  pub covers : (r : ℕ) → IsLive old r → IsCovered new (literals_at old r) (learned_at old r)
  pub derived : (q : ℕ) → IsLive new q → IsDerived (IsClauseOf old) (literals_at new q)
  pub parts : (q : ℕ) → IsLive new q → IsPartOf old (literals_at new q) (id_at new q)
  pub learned : (q : ℕ) → IsLive new q → IsTrue (learned_at new q) → clause_at new q ≡ clause_at old q
  pub grown : length old.clauses ≤ length new.clauses
  pub was : (q : ℕ) → IsLive new q → WasOrCame formula old new q
  pub few : length steps + 4 * weight new ≤ 4 * weight old
  pub runs : (tables : Tables) → Agrees spare tables.clauses old → (last : Tables) × RunsTidily formula tables steps last × Agrees spare last.clauses new × KeepsFree tables.clauses last.clauses × SparesLearned new steps × LeavesIds old new last.clauses
