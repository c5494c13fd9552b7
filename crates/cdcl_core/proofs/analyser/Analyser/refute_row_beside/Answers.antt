use Rattle.std.proofs.Common.{refl, sym, subst, None, ◌∙◌}
use Rattle.cx_base.specs.Problem.{Problem}
use Rattle.std.proofs.lemmas.Result.{err_from_is_err_and}
use Rattle.cdcl_search.specs.GoingOn.{log_stops, log_then}
use Rattle.cdcl_core.specs.Refuting.{IsFirst}
use Rattle.cdcl_core.proofs.BesideLaws.{reason_explains, row_is_beside, told_conflict}
use Rattle.cdcl_core.proofs.analyser.Analyser.refute_row_beside.Goals as goal

pub going_on-requires-clause-beside : goal.going_on-requires-clause-beside
going_on-requires-clause-beside g c = λ ends. row_is_beside c.args.first.now c.requires.some

pub told_row-requires-clause-explains : goal.told_row-requires-clause-explains
told_row-requires-clause-explains g c = reason_explains (g.P.ParityEngine.state c.args.self.now.engine.now).parities c.args.self.now.state.now.trail None c.in_ok-told.told c.in_ok-told.ensures.reason

pub refute_by-requires-clause-conflict : goal.refute_by-requires-clause-conflict
refute_by-requires-clause-conflict g c =
    let k = c.in_ok-conflict.conflict in
    let told = c.in_ok-conflict.ensures.told in
    told_conflict c.args.self.now.state.now k.rows k.lits k.id (g.P.ParityEngine.state c.args.self.now.engine.now).parities c.in_ok-told.told c.in_ok-told.ensures.reason told.lits told.rows told.id

pub refute_by-requires-clause-told : goal.refute_by-requires-clause-told
refute_by-requires-clause-told g c = c.in_ok-conflict.ensures.told.told

pub refute_by-requires-clause-first : goal.refute_by-requires-clause-first
refute_by-requires-clause-first g c = subst (λ (f : Problem). IsFirst f.constraints c.args.self.now.state.now (g.P.ParityEngine.state c.args.self.now.engine.now) c.args.first.now) (sym c.in_ok-conflict.ensures.log.formula) c.requires.first

pub returns : goal.returns
returns g c = record {
  ends = record { refutes = c.refute_by.ensures.ends.refutes; log = log_then g.L.Sink g.met.L.Sink.keeps_on _ c.told_row.new.log _ _ c.in_ok-conflict.ensures.log c.refute_by.ensures.ends.log };
  none = c.refute_by.ensures.none;
  clear = c.refute_by.ensures.clear;
  lent = record { state = c.refute_by.ensures.lent.state; engine = c.refute_by.ensures.lent.engine; log = c.refute_by.ensures.lent.log; marks = c.refute_by.ensures.lent.marks };
}

pub returns-in_err-told : goal.returns-in_err-told
returns-in_err-told g c =
    let fault = err_from_is_err_and c.from_residual.result c.from_residual.ensures.1 in
    rw (fault.1, fault.2) (record {
      ends = record { refutes = tt; log = log_stops g.L.Sink g.met.L.Sink.keeps_itself c.args.self.now.log.now };
      none = tt;
      clear = tt;
      lent = record { state = refl; engine = refl; log = refl; marks = refl };
    })

pub going_on-requires-clause-sound : goal.going_on-requires-clause-sound
going_on-requires-clause-sound g c = c.requires.at.stands.3.trail.follows.sound

pub going_on-requires-clause-apart : goal.going_on-requires-clause-apart
going_on-requires-clause-apart g c = c.requires.at.stands.1.log.apart

pub going_on-requires-clause-reason : goal.going_on-requires-clause-reason
going_on-requires-clause-reason g c = c.requires.reason

pub going_on-requires-clause-first : goal.going_on-requires-clause-first
going_on-requires-clause-first g c = c.requires.first

pub told_row-requires-clause-stands : goal.told_row-requires-clause-stands
told_row-requires-clause-stands g c = c.requires.at.stands

pub told_row-requires-clause-goes_on : goal.told_row-requires-clause-goes_on
told_row-requires-clause-goes_on g c = c.in_ok-told.ensures.goes_on

pub told_row-requires-clause-going : goal.told_row-requires-clause-going
told_row-requires-clause-going g c = c.requires.at.going

pub refute_by-requires-clause-at : goal.refute_by-requires-clause-at
refute_by-requires-clause-at g c = record { stands = c.in_ok-conflict.ensures.stands; level = c.requires.at.level; clear = c.requires.at.clear; going = c.in_ok-conflict.ensures.log.failed ∙ c.requires.at.going }

pub returns-in_err-conflict : goal.returns-in_err-conflict
returns-in_err-conflict g c =
    let fault = err_from_is_err_and c.from_residual-in_err-conflict.result c.from_residual-in_err-conflict.ensures.1 in
    rw (fault.1, fault.2) (record { ends = record { refutes = tt; log = c.in_err-conflict.ensures.log }; none = tt; clear = tt; lent = record { state = refl; engine = refl; log = refl; marks = refl } })
