-- Rows as the log tells them.
use Rattle.std.specs.Prelude.{◌≡◌, ℕ, Bool, List, length, IsTrue}
use Rattle.cx_base.specs.Literals.{Literal}
use Rattle.cx_base.specs.Parity.{NormalForm, HasOneOfEach}
use Rattle.cx_base.specs.Problem.{clause_met, parity_met}
use Rattle.cx_trail.specs.declared.entry.Entry.{Entry}
use Rattle.cx_trail.specs.Sequence.{TrailState, StandsAt}
use Rattle.parity_engine.specs.State.{State}
use Rattle.parity_engine.specs.Equations.{sum_of_numbers}
use Rattle.parity_engine.specs.Written.{IsWritten, AreRising}
use Rattle.xor_reason.specs.ReasonClause.{AreAssigned}
use Rattle.xor_reason.specs.declared.reason.ReasonOf.{ReasonOf}
use Rattle.cdcl_search.specs.Ties.{IsRowReasonAt}

-- the parity is the sum of the numbered ones, the clause has one literal of each of its variables and follows from it, and all of them are assigned
pub record Explains (parities : List (List Literal)) (t : TrailState) (r : ReasonOf) : Type 0 where
  pub form : NormalForm
  pub written : IsWritten form r.parity
  pub numbers : AreRising 1 (length parities) r.sources
  pub sums : form ≡ sum_of_numbers parities r.sources
  pub one_of_each : HasOneOfEach form.variables r.clause
  pub follows : (values : List Bool) → IsTrue (parity_met values r.parity) → IsTrue (clause_met values r.clause)
  pub assigned : AreAssigned t form

-- the literal is on the trail, and the row was named for it there
abbrev pub IsReasonOf : State → List Entry → Literal → ℕ → Type 0
IsReasonOf e entries l row = (i : ℕ) × StandsAt entries l i × IsRowReasonAt e entries i row
