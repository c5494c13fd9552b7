-- How a learned clause is put among the others, and its first literal on the trail.
use Rattle.std.specs.Prelude.{◌≡◌, ◌≢◌, ◌≤◌, ◌⊎◌, ℕ, true, false, List, [], ◌∷◌, ◌++◌, length, get_or, Some}
use Rattle.cx_base.specs.Literals.{Literal}
use Rattle.cx_trail.specs.declared.entry.Reason.{Reason}
use Rattle.cx_trail.specs.declared.entry.Reason.TheVariants.{Decision, Clause}
use Rattle.cx_trail.specs.Sequence.{TrailState, pushed, IsTrail, IsOpenIn}
use Rattle.watch_lists.specs.Attaching.{CanBeWatched, literal_at}
use Rattle.watch_lists.specs.Watching.{Fits, IsAttached}
use Rattle.cdcl_search.specs.declared.state.SearchState.{SearchState}

-- the literal's variable is one of the trail's, and has no value
pub record CanBePut (t : TrailState) (l : Literal) : Type 0 where
  pub high : l.variable ≤ t.variables
  pub free : IsOpenIn t.entries l.variable

-- a clause that may be put among the others, and its first literal on the trail; one of one literal at level 0
pub record MayEnter (c : SearchState) (lits : List Literal) : Type 0 where
  pub some : 1 ≤ length lits
  pub unit : length lits ≡ 1 → c.trail.level ≡ 0
  pub fits : Fits c.watches c.arena c.trail
  pub watched : 2 ≤ length lits → CanBeWatched c.watches.variables c.trail lits
  pub put : CanBePut c.trail (literal_at lits 0)

-- the literal is on the trail, at the current level
pub record IsPut (old new : SearchState) (l : Literal) (reason : Reason) : Type 0 where
  pub trail : new.trail ≡ pushed old.trail old.trail.level l reason
  pub sound : IsTrail new.trail
  pub order : new.order ≡ old.order
  pub phases : new.phases.items ≡ old.phases.items
  pub given : new.given ≡ old.given
  pub next : new.next ≡ old.next
  pub conflicts : new.conflicts ≡ old.conflicts
  pub learned : new.learned ≡ old.learned
  pub reductions : new.reductions ≡ old.reductions
  pub tidies : new.tidies ≡ old.tidies
  pub tidy_below : new.tidy_below ≡ old.tidy_below

-- the id is that of the literal's unit clause
pub record EntersUnit (old new : SearchState) (l : Literal) (id : ℕ) : Type 0 where
  pub put : IsPut old new l Decision
  pub arena : new.arena ≡ old.arena
  pub watches : new.watches ≡ old.watches
  pub units : new.units.items ≡ old.units.items ++ id ∷ []

-- the clause is in the arena, is attached, and is the literal's reason
pub record EntersClause (old new : SearchState) (lits : List Literal) (l : Literal) (id lbd : ℕ) : Type 0 where
  pub put : IsPut old new l (Clause (length old.arena.clauses))
  pub added : new.arena.clauses ≡ old.arena.clauses ++ Some (record { literals = lits; id = id; lbd = lbd; learned = true }) ∷ []
  pub attached : IsAttached new.watches.attached (length old.arena.clauses)
  pub others : (r : ℕ) → r ≢ length old.arena.clauses → get_or new.watches.attached r false ≡ get_or old.watches.attached r false
  pub fits : Fits new.watches new.arena new.trail
  pub units : new.units.items ≡ old.units.items

-- as the clause has one literal or several
abbrev pub Enters : SearchState → SearchState → List Literal → ℕ → ℕ → Type 0
Enters old new lits id lbd = ((length lits ≡ 1) × EntersUnit old new (literal_at lits 0) id) ⊎ ((2 ≤ length lits) × EntersClause old new lits (literal_at lits 0) id lbd)

-- the counts and the next id are the same, and it tidies as before
pub record HasCounts (now was : SearchState) : Type 0 where
  pub next : now.next ≡ was.next
  pub conflicts : now.conflicts ≡ was.conflicts
  pub learned : now.learned ≡ was.learned
  pub reductions : now.reductions ≡ was.reductions
  pub tidies : now.tidies ≡ was.tidies
  pub tidy_below : now.tidy_below ≡ was.tidy_below
