-- When nothing more follows from the live clauses and the parities.
use Rattle.std.specs.Prelude.{◌≡◌, ℕ, ◌≤◌, ◌<◌, List, IsTrue, IsFalse, ◌⊎◌}
use Rattle.std.specs.List.{list_all}
use Rattle.cx_base.specs.Literals.{Literal, negate, same_literal}
use Rattle.cx_base.specs.Problem.{clause_met, parity_met, AreWithin}
use Rattle.cx_semantics.specs.Chain.{has_literal, left, one, count_left}
use Rattle.cx_semantics.specs.Fresh.{is_falsified, IsLive}
use Rattle.cx_semantics.specs.Forced.{Consistent, Forced}
use Rattle.cx_semantics.specs.Implied.{Implies}
use Rattle.cx_semantics.specs.Tables.{Table}
use Rattle.search_steps.specs.Trail.{Entry, held, all_held}

-- no literal is held together with its negation
abbrev pub HasNoClash : List Literal → Type 0
HasNoClash known = (l : Literal) → IsTrue (has_literal known l) → IsFalse (has_literal known (negate l))

-- The clause is not falsified, and where one literal of it is left, that one is held.
pub record RestsOn (known clause : List Literal) : Type 0 where
  pub not_falsified : IsFalse (is_falsified known clause)
  pub unit_held : (l : Literal) → count_left (left known clause) ≡ one l → IsTrue (has_literal known l)

-- a literal of the clause is held
pub record HasTrue (known clause : List Literal) : Type 0 where
  pub l : Literal
  pub has_it : IsTrue (has_literal clause l)
  pub is_held : IsTrue (has_literal known l)

-- two different literals of the clause are not false
pub record HasTwoOpen (known clause : List Literal) : Type 0 where
  pub l : Literal
  pub m : Literal
  pub has_l : IsTrue (has_literal clause l)
  pub has_m : IsTrue (has_literal clause m)
  pub apart : IsFalse (same_literal l m)
  pub open_l : IsFalse (has_literal known (negate l))
  pub open_m : IsFalse (has_literal known (negate m))

-- a literal of the clause is held, two different ones are not false, or the clause has one with its negation
abbrev pub IsWatchedWell : List Literal → List Literal → Type 0
IsWatchedWell known clause = HasTrue known clause ⊎ (HasTwoOpen known clause ⊎ ((l : Literal) × IsTrue (has_literal clause l) × IsTrue (has_literal clause (negate l))))

-- the parities imply the clause, which has variables up to n
pub record IsOfParities (n : ℕ) (parities : List (List Literal)) (clause : List Literal) : Type 0 where
  pub within : AreWithin n clause
  pub implied : Implies (λ values. list_all (parity_met values) parities) (λ values. clause_met values clause)

-- The parities have a solution that agrees with the literals, and each literal of the variables up to n that they force is held.
pub record ParitiesQuiet (n : ℕ) (parities : List (List Literal)) (known : List Literal) : Type 0 where
  pub consistent : Consistent parities known
  pub forced : (l : Literal) → 1 ≤ l.variable → l.variable ≤ n → Forced parities known l → IsTrue (has_literal known l)

abbrev pub ClausesQuiet : Table → List Literal → Type 0
ClausesQuiet table known = (clause : List Literal) → IsLive table clause → RestsOn known clause

-- both engines are quiet
pub record Quiet (n : ℕ) (parities : List (List Literal)) (table : Table) (known : List Literal) : Type 0 where
  pub clauses : ClausesQuiet table known
  pub rows : ParitiesQuiet n parities known

-- Each level below this one was quiet when the next was opened, and is so still.
abbrev pub QuietBelow : ℕ → List (List Literal) → Table → List Entry → ℕ → Type 0
QuietBelow n parities table trail level = (k : ℕ) → k < level → Quiet n parities table (held k trail)

-- All literals of the clause but l are false at the levels up to `back`, and l is false, but not yet at that level.
pub record IsAsserting (trail : List Entry) (back : ℕ) (clause : List Literal) (l : Literal) : Type 0 where
  pub has_it : IsTrue (has_literal clause l)
  pub others_false : (m : Literal) → IsTrue (has_literal clause m) → IsFalse (same_literal l m) → IsTrue (has_literal (held back trail) (negate m))
  pub false_now : IsTrue (has_literal (all_held trail) (negate l))
  pub open_before : IsFalse (has_literal (held back trail) (negate l))
