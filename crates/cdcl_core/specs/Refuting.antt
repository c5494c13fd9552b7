-- Rows at level 0 whose clauses would end the log.
use Rattle.std.specs.Prelude.{◌≡◌, ◌⊎◌, ℕ, ◌<◌, ◌≤◌, Bool, not, nat_eq, List, length, Option, Some, None, IsTrue, IsFalse, IfSome}
use Rattle.cx_base.specs.Assumptions.{is_ending}
use Rattle.cx_base.specs.Literals.{Literal}
use Rattle.cx_base.specs.declared.constraint.Constraint.{Constraint}
use Rattle.cx_semantics.specs.Fresh.{is_tautology}
use Rattle.cx_trail.specs.declared.entry.Reason.TheVariants.{Row}
use Rattle.cx_trail.specs.Sequence.{entry_at}
use Rattle.conflict_learn.specs.declared.learning.Resolved.{Resolved}
use Rattle.conflict_learn.specs.Learning.{IsAntecedent, literal_at}
use Rattle.parity_engine.specs.State.{State, Named, named_at}
use Rattle.xor_reason.specs.Reasons.{IsReasonBy, IsReason}
use Rattle.xor_reason.specs.Sums.{has_variable}
use Rattle.xor_reason.specs.declared.reason.ReasonOf.{ReasonOf}
use Rattle.cdcl_search.specs.declared.state.SearchState.{SearchState}
use Rattle.cdcl_search.specs.Sources.{IsSourcedBy}
use Rattle.cdcl_core.specs.declared.ending_rows.EndingRow.{EndingRow}

-- where a row implied the literal at the place, no clause that the row gives for it would end the log
abbrev pub RowGoesOn : List Constraint → SearchState → State → ℕ → Type 0
RowGoesOn constraints c e i = (row : ℕ) → (entry_at c.trail.entries i).reason ≡ Row row → (n : Named) → named_at e row ≡ Some n → (r : ReasonOf) → IsReasonBy e.parities c.trail (Some (literal_at c.trail i)) n.form r
    → IsFalse (is_ending constraints r.clause)

-- so it is at each place below one, after the literals that have unit clauses
abbrev pub NoneEnds : List Constraint → SearchState → State → ℕ → Type 0
NoneEnds constraints c e below = (i : ℕ) → length c.units.items ≤ i → i < below → RowGoesOn constraints c e i

-- the row gives the literal at the place, and the clause would end the log
pub record IsEndingRow (constraints : List Constraint) (c : SearchState) (e : State) (place : ℕ) (q : EndingRow) : Type 0 where
  pub is : literal_at c.trail place ≡ q.literal
  pub reason : IsReason e.parities c.trail (Some q.literal) q.reason
  pub implied : IsAntecedent c.trail q.literal q.reason.clause
  pub ending : IsTrue (is_ending constraints q.reason.clause)

-- it is the first such row
pub record IsFirstEnding (constraints : List Constraint) (c : SearchState) (e : State) (q : EndingRow) : Type 0 where
  pub place : ℕ
  pub late : length c.units.items ≤ place
  pub within : place < length c.trail.entries
  pub row : IsEndingRow constraints c e place q
  pub before : NoneEnds constraints c e place

-- it is the first row whose clause would end the log, or there is none
abbrev pub IsFirst : List Constraint → SearchState → State → Option EndingRow → Type 0
IsFirst constraints c e None = NoneEnds constraints c e (length c.trail.entries)
IsFirst constraints c e (Some q) = IsFirstEnding constraints c e q

-- a reason whose clause would end the log, beside a first row that has not the variable of the literal that it implied
abbrev pub HasRowBeside : Option Literal → Option EndingRow → Type 0
HasRowBeside implied None = ⊥
HasRowBeside implied (Some q) = IfSome implied (λ l. IsFalse (has_variable q.reason.clause l.variable))

-- the row's clause has the variable
abbrev pub HasVariableOf : Option EndingRow → ℕ → Type 0
HasVariableOf None v = ⊥
HasVariableOf (Some q) v = IsTrue (has_variable q.reason.clause v)

-- the variables of the clause are those of the reason's clause or, where that would end the log, of the row's
abbrev pub HasVariablesOf : List Constraint → List Literal → Option EndingRow → List Literal → Type 0
HasVariablesOf constraints reason first clause = (v : ℕ) → IsTrue (has_variable clause v) → IsTrue (has_variable reason v) ⊎ (IsTrue (is_ending constraints reason) × HasVariableOf first v)

-- the row implied the literal
abbrev pub IsLiteralOf : Option EndingRow → Literal → Type 0
IsLiteralOf None l = ⊥
IsLiteralOf (Some q) l = q.literal ≡ l

-- the clause of that row, which is not told
abbrev pub IsUntold : Option EndingRow → List Literal → Type 0
IsUntold None clause = ⊥
IsUntold (Some q) clause = clause ≡ q.reason.clause

-- a clause that the search holds under this id and that is no tautology, or the one that is not told
abbrev pub IsHeldBeside : SearchState → List (List Literal) → Option EndingRow → List Literal → ℕ → Type 0
IsHeldBeside c rows first clause n = (IsSourcedBy c rows clause n × IsFalse (is_tautology clause)) ⊎ (IsUntold first clause × (n ≡ 0))

-- the clause of the resolved literal was told
abbrev pub is_told : Resolved → Bool
is_told r = not (nat_eq r.id 0)

-- the row implied the literal at the place, after those that have unit clauses
pub record IsImpliedAt (c : SearchState) (place : ℕ) (l : Literal) (row : ℕ) : Type 0 where
  pub late : length c.units.items ≤ place
  pub within : place < length c.trail.entries
  pub is : literal_at c.trail place ≡ l
  pub reason : (entry_at c.trail.entries place).reason ≡ Row row

abbrev pub IsImpliedByRow : SearchState → Literal → ℕ → Type 0
IsImpliedByRow c l row = (place : ℕ) × IsImpliedAt c place l row
