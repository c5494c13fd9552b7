-- What a row says under the values of a trail, and the clause that follows from it.
use Rattle.std.specs.Prelude.{ℕ, ◌≤◌, Bool, List, Option, Some, None, IsTrue, IsFalse}
use Rattle.std.specs.FinSet as set
use Rattle.cx_base.specs.Literals.{Literal, same_literal, literal_true}
use Rattle.cx_base.specs.Problem.{clause_met, parity_met}
use Rattle.cx_base.specs.Parity.{NormalForm, HasOneOfEach}
use Rattle.cx_semantics.specs.Chain.{has_literal}
use Rattle.cx_trail.specs.Sequence.{TrailState, IsAssignedIn, IsTrueIn, IsFalseIn}
use Rattle.parity_engine.specs.State.{MeetsForm, MissesForm}

-- each variable of the form is assigned
abbrev pub AreAssigned : TrailState → NormalForm → Type 0
AreAssigned trail form = (v : ℕ) → 1 ≤ v → IsTrue (set.contains form.variables v) → IsAssignedIn trail.entries v

-- the values make each literal of the trail true
abbrev pub AgreesWithTrail : TrailState → List Bool → Type 0
AgreesWithTrail trail values = (l : Literal) → IsTrueIn trail.entries l → IsTrue (literal_true values l)

-- all values that agree with the trail meet the form, or miss it
abbrev pub TrailMeets : TrailState → NormalForm → Type 0
TrailMeets trail form = (values : List Bool) → AgreesWithTrail trail values → MeetsForm values form

abbrev pub TrailMisses : TrailState → NormalForm → Type 0
TrailMisses trail form = (values : List Bool) → AgreesWithTrail trail values → MissesForm values form

-- the literal is true on the trail, the form has its variable, and the trail meets the form
pub record GivesLiteral (trail : TrailState) (l : Literal) (form : NormalForm) : Type 0 where
  pub is_true : IsTrueIn trail.entries l
  pub has : IsTrue (set.contains form.variables l.variable)
  pub met : TrailMeets trail form

-- the form gives the implied literal; for a conflict, with none, the trail misses the form
abbrev pub IsReasonFor : TrailState → Option Literal → NormalForm → Type 0
IsReasonFor trail None form = TrailMisses trail form
IsReasonFor trail (Some l) form = GivesLiteral trail l form

-- each literal of the clause is false on the trail, but the implied one, which is in the clause
abbrev pub AreFalseBut : TrailState → Option Literal → List Literal → Type 0
AreFalseBut trail None clause = (m : Literal) → IsTrue (has_literal clause m) → IsFalseIn trail.entries m
AreFalseBut trail (Some l) clause = IsTrue (has_literal clause l) × ((m : Literal) → IsTrue (has_literal clause m) → IsFalse (same_literal l m) → IsFalseIn trail.entries m)

-- one literal for each variable of the form, each false but the implied one, and the parity implies the clause
pub record IsReasonClause (trail : TrailState) (implied : Option Literal) (form : NormalForm) (parity clause : List Literal) : Type 0 where
  pub one_of_each : HasOneOfEach form.variables clause
  pub are_false : AreFalseBut trail implied clause
  pub follows : (values : List Bool) → IsTrue (parity_met values parity) → IsTrue (clause_met values clause)
