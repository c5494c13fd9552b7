-- What a source of level 0 was lent, and what it answers.
use Rattle.std.specs.Prelude.{◌≡◌, refl, ◌+◌, ◌≤◌, length, Result, OnOk}
use Rattle.std.proofs.Common.{◌∙◌}
use Rattle.cx_base.specs.Literals.{Literal}
use Rattle.cx_base.specs.declared.steps.LogEvent.{LogEvent}
use Rattle.conflict_learn.specs.Faults.{fault_in}
use Rattle.conflict_learn.specs.Learning.{AreHeld, IsAntecedent}
use Rattle.conflict_learn.specs.declared.fault.CoreFault.{CoreFault}
use Rattle.step_text.specs.declared.sink.Sink as sink
use Rattle.parity_engine.specs.declared.engine.ParityEngine as engine
use Rattle.cdcl_search.specs.Logs.{GoesOn, HasNotFailed, Stands}
use Rattle.cdcl_search.specs.declared.source.Hinted.{Hinted}
use Rattle.cdcl_core.specs.Refuting.{IsFirst, IsHeldBeside}
use Rattle.cdcl_core.specs.declared.level_zero.ZeroSource.{ZeroSource}

-- both have these values under these references
pub record AreLentAlike {P L : Type 0} (a b : ZeroSource P L) : Type 0 where
  pub state : b.state.now ≡ a.state.now
  pub engine : b.engine.now ≡ a.engine.now
  pub log : b.log.ghost_name ≡ a.log.ghost_name
  pub rows : b.rows.ghost_name ≡ a.rows.ghost_name
  pub first : b.first.now ≡ a.first.now

pub alike_rest : {P L : Type 0} (a : ZeroSource P L) → AreLentAlike a a
alike_rest a = record { state = refl; engine = refl; log = refl; rows = refl; first = refl }

pub alike_then : {P L : Type 0} (a b c : ZeroSource P L) → AreLentAlike a b → AreLentAlike b c → AreLentAlike a c
alike_then a b c h k = record { state = k.state ∙ h.state; engine = k.engine ∙ h.engine; log = k.log ∙ h.log; rows = k.rows ∙ h.rows; first = k.first ∙ h.first }

-- the search fits its log, with the clauses of rows that were told; the given row is the first whose clause would end the log, and the log goes on
pub record CanBeAsked {P L : Type 0} (p : engine.Ghosts P) (m : sink.Ghosts L LogEvent) (a : ZeroSource P L) : Type 0 where
  pub stands : Stands p m a.log.now a.state.now a.engine.now a.rows.now
  pub first : IsFirst a.log.now.formula.now.constraints a.state.now (p.state a.engine.now) a.first.now
  pub going : HasNotFailed m a.log.now

-- a row's clause can be told
abbrev pub HasRoom : {P L : Type 0} → ZeroSource P L → Type 0
HasRoom a = length a.rows.now ≤ a.log.now.formula.now.variables

-- the clause implied the literal, and is held
pub record IsClauseFor {P L : Type 0} (old new : ZeroSource P L) (l : Literal) (h : Hinted) : Type 0 where
  pub held : IsHeldBeside new.state.now new.rows.now new.first.now h.lits h.id
  pub implied : IsAntecedent old.state.now.trail l h.lits

-- what was held is held, and one more clause of a row at most
pub record HoldsOneMore {P L T : Type 0} (old : ZeroSource P L) (result : Result T CoreFault) (new : ZeroSource P L) : Type 0 where
  pub grows : AreHeld (IsHeldBeside old.state.now old.rows.now old.first.now) (IsHeldBeside new.state.now new.rows.now new.first.now)
  pub one : OnOk result (length new.rows.now ≤ length old.rows.now + 1)

-- up to an answer it can be asked again; the log goes on
pub record AnswersOn {P L T : Type 0} (p : engine.Ghosts P) (m : sink.Ghosts L LogEvent) (old : ZeroSource P L) (result : Result T CoreFault) (new : ZeroSource P L) : Type 0 where
  pub ready : OnOk result (CanBeAsked p m new)
  pub log : GoesOn m old.log.now (fault_in result) new.log.now
  pub lent : AreLentAlike old new
