-- The reason that a sum of given parities gives.
use Rattle.std.specs.Prelude.{◌≡◌, List, length, Option}
use Rattle.cx_base.specs.Literals.{Literal}
use Rattle.cx_base.specs.Parity.{NormalForm}
use Rattle.cx_trail.specs.Sequence.{TrailState}
use Rattle.parity_engine.specs.Equations.{sum_of_numbers}
use Rattle.parity_engine.specs.Written.{IsWritten, AreRising}
use Rattle.xor_reason.specs.ReasonClause.{AreAssigned, IsReasonClause, IsReasonFor}
use Rattle.xor_reason.specs.declared.reason.ReasonOf.{ReasonOf}

-- The parity is written for this form, which is the sum of the numbered ones; under the trail it gives the implied literal, or is missed where there is none, and the clause says so.
pub record IsReasonBy (parities : List (List Literal)) (trail : TrailState) (implied : Option Literal) (form : NormalForm) (r : ReasonOf) : Type 0 where
  pub written : IsWritten form r.parity
  pub numbers : AreRising 1 (length parities) r.sources
  pub sums : form ≡ sum_of_numbers parities r.sources
  pub assigned : AreAssigned trail form
  pub kind : IsReasonFor trail implied form
  pub clause : IsReasonClause trail implied form r.parity r.clause

-- some form is that of the reason
abbrev pub IsReason : List (List Literal) → TrailState → Option Literal → ReasonOf → Type 0
IsReason parities trail implied r = (form : NormalForm) × IsReasonBy parities trail implied form r
