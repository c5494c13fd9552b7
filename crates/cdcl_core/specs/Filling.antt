-- What a search holds before its first unit: its clauses of several literals.
use Rattle.std.specs.Prelude.{◌≡◌, ◌≢◌, ◌⊎◌, ℕ, ◌+◌, ◌-◌, ◌≤◌, false, List, [], ◌∷◌, ◌++◌, length, get_or, Option, Some, IsSome, IfSome, IsTrue, IsFalse, Contains}
use Rattle.std.specs.List.{AllByRecursion}
use Rattle.cx_base.specs.Literals.{Literal, HasTwo}
use Rattle.cx_base.specs.Problem.{Problem, clauses_of, AreWithin}
use Rattle.cx_semantics.specs.Chain.{same_literals}
use Rattle.cx_semantics.specs.Fresh.{is_tautology}
use Rattle.clause_arena.specs.Clauses.{ArenaState, IsLive, literals_at, id_at, learned_at}
use Rattle.watch_lists.specs.Watching.{Fits, IsAttached}
use Rattle.search_policy.specs.Standing.{AllStand}
use Rattle.cdcl_search.specs.declared.state.SearchState.{SearchState}
use Rattle.cdcl_search.specs.Ties.{IsWatched}
use Rattle.cdcl_core.specs.declared.filling.Single.{Single}
use Rattle.cdcl_core.specs.declared.filling.Filled.{Filled}
use Rattle.cdcl_core.specs.Clauses.{AreDifferent}

-- no literal and no clause; each variable may be decided
pub record IsEmpty (variables : ℕ) (c : SearchState) : Type 0 where
  pub trail : c.trail ≡ record { variables = variables; level = 0; entries = [] }
  pub clauses : c.arena.clauses ≡ []
  pub attached : c.watches.attached ≡ []
  pub fits : Fits c.watches c.arena c.trail
  pub stand : AllStand c.order c.trail
  pub phases : length c.phases.items ≡ variables
  pub units : c.units.items ≡ []
  pub next : c.next ≡ 1
  pub given : c.given ≡ 0
  pub conflicts : c.conflicts ≡ 0
  pub none_learned : c.learned ≡ 0
  pub not_reduced : c.reductions ≡ 0
  pub never_tidies : c.tidies ≡ false
  pub none_tidy : c.tidy_below ≡ 0

-- the k-th clause of the formula, from 1
abbrev pub clause_number : Problem → ℕ → List Literal
clause_number formula k = get_or (clauses_of formula.constraints) (k - 1) []

-- a clause of the formula of one literal only: its number, and the literal
pub record IsUnitClause (formula : Problem) (k : ℕ) (l : Literal) : Type 0 where
  pub low : 1 ≤ k
  pub high : k ≤ length (clauses_of formula.constraints)
  pub same : IsTrue (same_literals (l ∷ []) (clause_number formula k))

-- The k-th clause is in the arena, or has a literal with its negation, or is one of these units; or some clause has no literal.
abbrev pub IsClauseTaken : Problem → SearchState → List Single → Option ℕ → ℕ → Type 0
IsClauseTaken formula c units empty k =
    ((r : ℕ) × IsLive c.arena r × (id_at c.arena r ≡ k))
    ⊎ IsTrue (is_tautology (clause_number formula k))
    ⊎ ((u : Single) × Contains units u × (u.number ≡ k))
    ⊎ IsSome empty

-- a clause of the arena has two different literals, those of the formula's clause of its number, which is up to n; it was not learned
pub record IsTakenAt (formula : Problem) (n : ℕ) (arena : ArenaState) (r : ℕ) : Type 0 where
  pub wide : HasTwo (literals_at arena r)
  pub low : 1 ≤ id_at arena r
  pub high : id_at arena r ≤ n
  pub same : IsTrue (same_literals (literals_at arena r) (clause_number formula (id_at arena r)))
  pub original : learned_at arena r ≡ false

-- The first n clauses of the formula are taken: no literal is on the trail, and the arena has them and no others.
pub record IsFilledUpTo (formula : Problem) (n : ℕ) (c : SearchState) (units : List Single) (empty : Option ℕ) : Type 0 where
  pub trail : c.trail ≡ record { variables = formula.variables; level = 0; entries = [] }
  pub watched : IsWatched c.watches c.arena c.trail
  pub stand : AllStand c.order c.trail
  pub phases : length c.phases.items ≡ formula.variables
  pub no_units : c.units.items ≡ []
  pub next : c.next ≡ n + 1
  pub given : c.given ≡ 0
  pub conflicts : c.conflicts ≡ 0
  pub none_learned : c.learned ≡ 0
  pub not_reduced : c.reductions ≡ 0
  pub never_tidies : c.tidies ≡ false
  pub none_tidy : c.tidy_below ≡ 0
  pub stored : (r : ℕ) → IsLive c.arena r → IsTakenAt formula n c.arena r
  pub plain : (r : ℕ) → IsLive c.arena r → IsFalse (is_tautology (literals_at c.arena r))
  pub apart : (r q : ℕ) → IsLive c.arena r → IsLive c.arena q → id_at c.arena r ≡ id_at c.arena q → r ≡ q
  pub units_are : AllByRecursion (λ u. IsUnitClause formula u.number u.literal × (1 ≤ u.literal.variable) × (u.literal.variable ≤ formula.variables)) units
  pub covered : (k : ℕ) → 1 ≤ k → k ≤ n → IsClauseTaken formula c units empty k
  pub empty_is : IfSome empty (λ k. (1 ≤ k) × (k ≤ n) × (clause_number formula k ≡ []))

-- so it is with all clauses of the formula
abbrev pub IsFilled : Problem → SearchState → List Single → Option ℕ → Type 0
IsFilled formula c units empty = IsFilledUpTo formula (length (clauses_of formula.constraints)) c units empty

-- these are the different literals of the formula's next clause
pub record IsNext (formula : Problem) (f : Filled) (lits : List Literal) : Type 0 where
  pub filled : IsFilledUpTo formula (f.state.next - 1) f.state f.units.items f.empty
  pub high : f.state.next ≤ length (clauses_of formula.constraints)
  pub same : IsTrue (same_literals lits (clause_number formula f.state.next))
  pub different : AreDifferent lits
  pub within : AreWithin formula.variables lits

-- where they are, one clause more of the formula is taken
abbrev pub TakesNext : Filled → List Literal → Filled → Type 0
TakesNext f lits now = (formula : Problem) → IsNext formula f lits → IsFilledUpTo formula f.state.next now.state now.units.items now.empty

-- the clause is in the arena under its number, and is attached; nothing else changes
pub record Attaches (old new : SearchState) (lits : List Literal) (number : ℕ) : Type 0 where
  pub added : new.arena.clauses ≡ old.arena.clauses ++ Some (record { literals = lits; id = number; lbd = 0; learned = false }) ∷ []
  pub attached : IsAttached new.watches.attached (length old.arena.clauses)
  pub others : (r : ℕ) → r ≢ length old.arena.clauses → get_or new.watches.attached r false ≡ get_or old.watches.attached r false
  pub fits : Fits new.watches new.arena old.trail
  pub trail : new.trail ≡ old.trail
  pub order : new.order ≡ old.order
  pub phases : new.phases.items ≡ old.phases.items
  pub units : new.units.items ≡ old.units.items
  pub next : new.next ≡ old.next
  pub given : new.given ≡ old.given
  pub conflicts : new.conflicts ≡ old.conflicts
  pub learned : new.learned ≡ old.learned
  pub reductions : new.reductions ≡ old.reductions
  pub tidies : new.tidies ≡ old.tidies
  pub tidy_below : new.tidy_below ≡ old.tidy_below
