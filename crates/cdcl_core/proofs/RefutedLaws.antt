-- What an analyser leaves where it refutes the formula.
use Rattle.std.proofs.Common.{◌≡◌, sym, subst, List}
use Rattle.std.specs.Prelude.{Bool, Result, Ok, Err, OnOk}
use Rattle.cx_base.specs.Literals.{Literal}
use Rattle.cx_base.specs.declared.steps.LogEvent.{LogEvent}
use Rattle.conflict_learn.specs.declared.fault.CoreFault.{CoreFault}
use Rattle.conflict_learn.specs.Marks.{AreClear}
use Rattle.step_text.specs.declared.sink.Sink as sink
use Rattle.cdcl_search.specs.declared.logs.SearchLog.{SearchLog}
use Rattle.cdcl_search.specs.declared.state.SearchState.{SearchState}
use Rattle.cdcl_core.specs.Concluding.{TellsEnd}

-- a fact holds up to an answer too
pub on_answer : {T E P : Type 0} (r : Result T E) → P → OnOk r P
on_answer (Ok x) h = h
on_answer (Err e) h = tt

-- ---- by the values at which what it was lent ends
pub ends_at : {L : Type 0} (m : sink.Ghosts L LogEvent) (old : SearchLog L) (c : SearchState) (r : Result (List Literal) CoreFault) (log end : SearchLog L) → end ≡ log → TellsEnd m old c log r → TellsEnd m old c end r
ends_at m old c r log end same h = subst (λ l. TellsEnd m old c l r) (sym same) h

pub clear_at : {T : Type 0} (r : Result T CoreFault) (marks end : List Bool) → end ≡ marks → OnOk r (AreClear marks) → OnOk r (AreClear end)
clear_at r marks end same h = subst (λ ms. OnOk r (AreClear ms)) (sym same) h
