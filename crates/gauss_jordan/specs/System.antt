-- Rows that say together what the parities say.
use Rattle.std.specs.Prelude.{◌≡◌, ℕ, ◌+◌, ◌<◌, Bool, true, false, not, List, [], map, length, slice_index_or, Option, Some, None, unwrap_or, IsTrue}
use Rattle.std.specs.List.{list_all, AllByRecursion}
use Rattle.std.specs.FinSet as set
use Rattle.cx_base.specs.Literals.{differ}
use Rattle.cx_base.specs.Problem.{AreWithin, parity_met}
use Rattle.cx_base.specs.Parity.{NormalForm}
use Rattle.parity_engine.specs.Equations.{Equation, has_term, form_of}
use Rattle.gf2_matrix.specs.Totals.{total, MeetsEquation}
use Rattle.parity_engine.specs.declared.state.Held.{Held}
use Rattle.gauss_jordan.specs.Rows.{IsQuiet}
use Rattle.parity_engine.specs.State.{State, is_unassigned, IsSilent, IsImplied, IsBroken}

abbrev pub just_value : Option Held → Option Bool
just_value None = None
just_value (Some h) = Some h.value

-- the values without their levels
abbrev pub part : State → List (Option Bool)
part s = map just_value s.values

-- the form has the variable at x, from 0
abbrev pub has_at : NormalForm → ℕ → Bool
has_at form x = set.contains form.variables (x + 1)

abbrev pub equation_at : List Equation → ℕ → Equation
equation_at rows i = slice_index_or rows i (record { terms = []; right = false })

abbrev pub has_term_at : List Equation → ℕ → ℕ → Bool
has_term_at rows i x = has_term (equation_at rows i) x

abbrev pub total_at : List Equation → ℕ → List Bool → Bool
total_at rows i v = total (equation_at rows i) v

abbrev pub right_at : List Equation → ℕ → Bool
right_at rows i = (equation_at rows i).right

-- values meet all rows exactly where they meet the parities
pub record IsSystemOf (s : State) (rows : List Equation) : Type 0 where
  pub long : (i : ℕ) → i < length rows → length (equation_at rows i).terms ≡ s.vars
  pub sound : (v : List Bool) → length v ≡ s.vars → IsTrue (list_all (parity_met v) s.parities) → (i : ℕ) → i < length rows → MeetsEquation v (equation_at rows i)
  pub complete : (v : List Bool) → length v ≡ s.vars → ((i : ℕ) → i < length rows → MeetsEquation v (equation_at rows i)) → IsTrue (list_all (parity_met v) s.parities)

-- the assigned values, and false for the others
abbrev pub filled : State → List Bool
filled s = map (λ o. unwrap_or o false) (part s)

-- each variable of the row is assigned
abbrev pub IsWhole : State → (ℕ → Bool) → Type 0
IsWhole s has = (x : ℕ) → has x ≡ true → is_unassigned (slice_index_or s.values x None) ≡ false

-- x is the one variable of the row that is not assigned
pub record IsOneOpen (s : State) (has : ℕ → Bool) (x : ℕ) : Type 0 where
  pub within : x < s.vars
  pub has_it : has x ≡ true
  pub unassigned : is_unassigned (slice_index_or s.values x None) ≡ true
  pub others : (y : ℕ) → (y ≡ x → ⊥) → has y ≡ true → is_unassigned (slice_index_or s.values y None) ≡ false

-- ---- laws
-- where each row is whole and met or has two unassigned columns, nothing follows
abbrev pub SilentFromQuiet : Type 0
SilentFromQuiet =
    (s : State) (rows : List Equation) (basic other : ℕ → ℕ) → length s.values ≡ s.vars → IsSystemOf s rows
    → IsQuiet (length rows) s.vars (has_term_at rows) (total_at rows) (right_at rows) (part s) basic other → IsSilent s

-- a row with one unassigned variable implies its literal
abbrev pub ImpliedFromUnit : Type 0
ImpliedFromUnit =
    (s : State) (rows : List Equation) (i x : ℕ) → AllByRecursion (AreWithin s.vars) s.parities → length s.values ≡ s.vars → IsSystemOf s rows → i < length rows → IsOneOpen s (has_term (equation_at rows i)) x
    → IsImplied s (record { variable = x + 1; negative = not (differ (total_at rows i (filled s)) (right_at rows i)) }) (form_of (equation_at rows i))

-- a whole row that is not met is a contradiction
abbrev pub BrokenFromWhole : Type 0
BrokenFromWhole =
    (s : State) (rows : List Equation) (i : ℕ) → AllByRecursion (AreWithin s.vars) s.parities → length s.values ≡ s.vars → IsSystemOf s rows → i < length rows → IsWhole s (has_term (equation_at rows i))
    → (total_at rows i (filled s) ≡ right_at rows i → ⊥) → IsBroken s (form_of (equation_at rows i))
