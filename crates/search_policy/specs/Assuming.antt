-- Assumed literals as a search decides them: before all others, and in order of writing.
use Rattle.std.specs.Prelude.{◌≡◌, ℕ, ◌<◌, ◌≤◌, ◌⊎◌, List, ◌++◌, length, get_or, IsTrue, IsFalse}
use Rattle.cx_base.specs.Problem.{AreWithin}
use Rattle.cx_base.specs.Literals.{Literal, negate}
use Rattle.cx_base.specs.Assumptions.{assumes, assumptions_of}
use Rattle.cx_base.specs.declared.constraint.Constraint.{Constraint}
use Rattle.cx_trail.specs.declared.entry.Entry.{Entry}
use Rattle.cx_trail.specs.declared.entry.Reason.TheVariants.{Decision}
use Rattle.cx_trail.specs.Sequence.{TrailState, entry_at, no_entry, IsTrueBy, IsTrueIn, IsFalseIn, IsOpenIn}
use Rattle.search_policy.specs.declared.assumptions.Assumptions.{Assumptions}

abbrev pub literal_of : List Literal → ℕ → Literal
literal_of lits i = get_or lits i no_entry.literal

-- each of the literals from one place on and before another is true or false
abbrev pub HaveValues : TrailState → List Literal → ℕ → ℕ → Type 0
HaveValues t lits from below = (i : ℕ) → from ≤ i → i < below → IsTrueIn t.entries (literal_of lits i) ⊎ IsFalseIn t.entries (literal_of lits i)

-- each of the literals is true
abbrev pub AreTrue : List Literal → TrailState → Type 0
AreTrue lits t = (i : ℕ) → i < length lits → IsTrueIn t.entries (literal_of lits i)

-- the first of the literals that has no value: all before it are true
pub record IsFirstOpen (lits : List Literal) (t : TrailState) (l : Literal) : Type 0 where
  pub place : ℕ
  pub within : place < length lits
  pub is : l ≡ literal_of lits place
  pub no_value : IsOpenIn t.entries l.variable
  pub before : (i : ℕ) → i < place → IsTrueIn t.entries (literal_of lits i)

-- the literal at the place was decided
abbrev pub IsDecision : TrailState → ℕ → Type 0
IsDecision t p = (0 < (entry_at t.entries p).level) × ((entry_at t.entries p).reason ≡ Decision)

-- the literal at the place is the negation of an assumed one
abbrev pub Contradicts : List Constraint → TrailState → ℕ → Type 0
Contradicts constraints t p = IsTrue (assumes constraints (negate (entry_at t.entries p).literal))

-- no literal of the trail before the place is the negation of an assumed one
abbrev pub AreApart : List Constraint → TrailState → ℕ → Type 0
AreApart constraints t n = (p : ℕ) → p < n → IsFalse (assumes constraints (negate (entry_at t.entries p).literal))

-- literals were added to the trail, at its level
pub record IsLonger (old new : TrailState) : Type 0 where
  pub more : List Entry
  pub parts : new.entries ≡ old.entries ++ more
  pub level : new.level ≡ old.level
  pub variables : new.variables ≡ old.variables

-- The assumed literals before the next one are true at the levels up to the reached one, each decision of these levels is of an assumed literal, and as long as there is a next one
-- these are all levels. No literal of the trail before the checked place contradicts an assumed one.
pub record KeepsAssumptions (constraints : List Constraint) (a : Assumptions) (t : TrailState) : Type 0 where
  pub all : a.lits.items ≡ assumptions_of constraints
  pub within : AreWithin t.variables a.lits.items
  pub passed : (i : ℕ) → i < a.next → IsTrueBy a.level t.entries (literal_of a.lits.items i)
  pub few : a.next ≤ length a.lits.items
  pub decided : (p : ℕ) → p < length t.entries → (entry_at t.entries p).level ≤ a.level → IsDecision t p → IsTrue (assumes constraints (entry_at t.entries p).literal)
  pub reached : a.level ≤ t.level
  pub rest : a.next < length a.lits.items → a.level ≡ t.level
  pub apart : AreApart constraints t a.checked
  pub checked : a.checked ≤ length t.entries
