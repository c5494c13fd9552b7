use Rattle.std.proofs.Common.{◌∙◌, ap, sym, subst, None, refl}
use Rattle.cx_base.specs.Assumptions.{is_ending}
use Rattle.cx_base.specs.Problem.{Problem}
use Rattle.cdcl_search.specs.GoingOn.{log_then}
use Rattle.cdcl_core.specs.Refuting.{IsFirst}
use Rattle.cdcl_core.proofs.BesideLaws.{reason_explains, told_conflict}
use Rattle.std.proofs.lemmas.Result.{err_from_is_err_and}
use Rattle.cdcl_search.specs.Ties.{SearchStands}
use Rattle.cdcl_core.proofs.analyser.Analyser.refute_row_alone.Goals as goal

pub refute_ending-requires-clause-ending : goal.refute_ending-requires-clause-ending
refute_ending-requires-clause-ending g c = ap (is_ending c.args.self.now.log.now.formula.now.constraints) (sym c.as_slice.ensures) ∙ sym c.is_ending.ensures ∙ c.if-is_ending.true

pub told_row-requires-clause-explains : goal.told_row-requires-clause-explains
told_row-requires-clause-explains g c = reason_explains (g.P.ParityEngine.state c.args.self.now.engine.now).parities c.args.self.now.state.now.trail None c.args.reason c.requires.reason

pub told_row-requires-clause-goes_on : goal.told_row-requires-clause-goes_on
told_row-requires-clause-goes_on g c = ap (is_ending c.args.self.now.log.now.formula.now.constraints) (sym c.as_slice.ensures) ∙ sym c.is_ending.ensures ∙ c.if-is_ending.false

pub refute_told-requires-clause-conflict : goal.refute_told-requires-clause-conflict
refute_told-requires-clause-conflict g c =
    let k = c.in_ok-conflict.conflict in
    let told = c.in_ok-conflict.ensures.told in
    told_conflict c.args.self.now.state.now k.rows k.lits k.id (g.P.ParityEngine.state c.args.self.now.engine.now).parities c.args.reason c.requires.reason told.lits told.rows told.id

pub refute_told-requires-clause-told : goal.refute_told-requires-clause-told
refute_told-requires-clause-told g c = c.in_ok-conflict.ensures.told.told

pub refute_told-requires-clause-first : goal.refute_told-requires-clause-first
refute_told-requires-clause-first g c = subst (λ (f : Problem). IsFirst f.constraints c.args.self.now.state.now (g.P.ParityEngine.state c.args.self.now.engine.now) c.args.first.now) (sym c.in_ok-conflict.ensures.log.formula) c.requires.first

pub returns : goal.returns
returns g c = record {
  ends = record { refutes = c.refute_told.ensures.ends.refutes; log = log_then g.L.Sink g.met.L.Sink.keeps_on _ c.told_row.new.log _ _ c.in_ok-conflict.ensures.log c.refute_told.ensures.ends.log };
  none = c.refute_told.ensures.none;
  clear = c.refute_told.ensures.clear;
  lent = record { state = c.refute_told.ensures.lent.state; engine = c.refute_told.ensures.lent.engine; log = c.refute_told.ensures.lent.log; marks = c.refute_told.ensures.lent.marks };
}

pub refute_ending-requires-clause-at : goal.refute_ending-requires-clause-at
refute_ending-requires-clause-at g c = record {
  stands = subst (λ rows. SearchStands c.args.self.now.log.now.formula.now c.args.self.now.state.now (g.P.ParityEngine.state c.args.self.now.engine.now) rows (g.L.Sink.items c.args.self.now.log.now.sink.now)) (sym c.new-rows.ensures) c.requires.at.stands;
  level = c.requires.at.level;
  clear = c.requires.at.clear;
  going = c.requires.at.going;
}

pub refute_ending-requires-clause-rows : goal.refute_ending-requires-clause-rows
refute_ending-requires-clause-rows g c = c.new-rows.ensures

pub refute_ending-requires-clause-first : goal.refute_ending-requires-clause-first
refute_ending-requires-clause-first g c = c.requires.first

pub refute_ending-requires-clause-none : goal.refute_ending-requires-clause-none
refute_ending-requires-clause-none g c = c.requires.none

pub refute_ending-requires-clause-reason : goal.refute_ending-requires-clause-reason
refute_ending-requires-clause-reason g c = c.requires.reason

pub told_row-requires-clause-stands : goal.told_row-requires-clause-stands
told_row-requires-clause-stands g c = c.requires.at.stands

pub told_row-requires-clause-going : goal.told_row-requires-clause-going
told_row-requires-clause-going g c = c.requires.at.going

pub refute_told-requires-clause-at : goal.refute_told-requires-clause-at
refute_told-requires-clause-at g c = record { stands = c.in_ok-conflict.ensures.stands; level = c.requires.at.level; clear = c.requires.at.clear; going = c.in_ok-conflict.ensures.log.failed ∙ c.requires.at.going }

pub refute_told-requires-clause-none : goal.refute_told-requires-clause-none
refute_told-requires-clause-none g c = c.requires.none

pub returns-in_err-conflict : goal.returns-in_err-conflict
returns-in_err-conflict g c =
    let fault = err_from_is_err_and c.from_residual.result c.from_residual.ensures.1 in
    rw (fault.1, fault.2) (record { ends = record { refutes = tt; log = c.in_err-conflict.ensures.log }; none = tt; clear = tt; lent = record { state = refl; engine = refl; log = refl; marks = refl } })
