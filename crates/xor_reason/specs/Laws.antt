-- From an engine's events to reasons on a trail.
use Rattle.std.specs.Prelude.{Some, None, IsTrue}
use Rattle.cx_base.specs.Literals.{Literal}
use Rattle.cx_base.specs.Parity.{NormalForm}
use Rattle.cx_semantics.specs.Chain.{has_literal}
use Rattle.cx_trail.specs.Sequence.{TrailState, IsTrueIn}
use Rattle.parity_engine.specs.State.{State, known, IsImplied, IsBroken}
use Rattle.xor_reason.specs.ReasonClause.{AreAssigned, IsReasonFor}

-- each literal that the engine holds is true on the trail
abbrev pub StandsOn : State → TrailState → Type 0
StandsOn s trail = (l : Literal) → IsTrue (has_literal (known s) l) → IsTrueIn trail.entries l

-- once an implied literal is true on the trail, its row is a reason for it
abbrev pub ImpliedIsMet : Type 0
ImpliedIsMet = (s : State) (trail : TrailState) (l : Literal) (form : NormalForm) → StandsOn s trail → IsTrueIn trail.entries l → IsImplied s l form
    → AreAssigned trail form × IsReasonFor trail (Some l) form

-- the row of a contradiction is a reason for a conflict
abbrev pub BrokenIsMissed : Type 0
BrokenIsMissed = (s : State) (trail : TrailState) (form : NormalForm) → StandsOn s trail → IsBroken s form → AreAssigned trail form × IsReasonFor trail None form
