-- What the elaborator leaves of a source and a sink.
use Rattle.std.specs.Prelude.{◌≡◌, ◌<◌, ◌^◌, ℕ, false, List, Result, IfOk, IfErr}
use Rattle.fratx_elab.specs.Ends.{EndsView}
use Rattle.fratx_elab.specs.Takes.{HasRoom}
use Rattle.fratx_elab.specs.Outcomes.{HasCause, IsTooLongBy, ReadsStand, WritesStand}
use Rattle.fratx_elab.specs.declared.outcome.ElabFault.{ElabFault}
use Rattle.fratx_elab.specs.declared.state.State.{State}

module _ {X : Type 0} (view : EndsView X) where
  -- what holds of the two ends whatever is answered
  pub record LeavesEnds {T : Type 0} (old : X) (result : Result T ElabFault) (new : X) : Type 0 where
    -- its log may have been each text that it may be now
    pub narrows : (text : List ℕ) → view.may_read new text → view.may_read old text
    pub cause : (text : List ℕ) → view.may_read new text → IfErr result (HasCause (view.passes_limit old text) (view.read_faults old) (view.read_faults new) (view.write_faults old) (view.write_faults new))
    pub long : IfErr result (IsTooLongBy (view.stuck new))
    pub reads : ReadsStand result (view.read_faults old) (view.read_faults new)
    pub writes : WritesStand result (view.write_faults old) (view.write_faults new)
    pub failed : IfOk result (λ _. view.has_failed new ≡ view.has_failed old)
    pub frame : view.keeps old new

  -- each text passes its limit or does not, as before, and no place is too far
  pub record KeepsLimits (old new : X) : Type 0 where
    pub far : view.place new < 2 ^ 62
    pub texts : (text : List ℕ) → view.may_read new text → view.passes_limit new text ≡ view.passes_limit old text

  -- the next step can be taken, after this many
  pub record GoesOn (old new : X) (state : State) (steps : ℕ) : Type 0 where
    pub room : HasRoom state steps
    pub fresh : view.is_spent new ≡ false
    pub rises : view.place old < view.place new
