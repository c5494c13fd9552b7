use Rattle.std.proofs.Common.{refl}
use Rattle.proof_trim.proofs.Recorded.{stored_refutation, has_refutation, kept_is_accepted, core_has_no_values}
use Rattle.proof_trim.proofs.trimming.trim.Goals as goal

pub returns-in-Ok-clause-trimmed : goal.returns-in-Ok-clause-trimmed
returns-in-Ok-clause-trimmed g c = λ text may.
    let r = stored_refutation c.args.formula.now (g.S.StepSource.may_read c.check_and_record.new.source) g.S.StepSource.leaves c.args.source.now _ c.check_and_record.new.recorder _ _ refl c.in-Verified.is
    (c.in_ok-number.ensures.recorded c.new-store.ensures) in
    (c.check_and_record.new.recorder, has_refutation c.args.formula.now _ g.S.StepSource.leaves c.args.source.now _ r text may, c.in-Ok.ensures)

pub returns-in-Ok-clause-accepted : goal.returns-in-Ok-clause-accepted
returns-in-Ok-clause-accepted g c =
    let r = stored_refutation c.args.formula.now (g.S.StepSource.may_read c.check_and_record.new.source) g.S.StepSource.leaves c.args.source.now _ c.check_and_record.new.recorder _ _ refl c.in-Verified.is
    (c.in_ok-number.ensures.recorded c.new-store.ensures) in
    kept_is_accepted c.args.formula.now c.check_and_record.new.recorder r.accepted c.in-Ok.trimmed c.in-Ok.ensures

pub returns-in-Ok-clause-core : goal.returns-in-Ok-clause-core
returns-in-Ok-clause-core g c =
    let r = stored_refutation c.args.formula.now (g.S.StepSource.may_read c.check_and_record.new.source) g.S.StepSource.leaves c.args.source.now _ c.check_and_record.new.recorder _ _ refl c.in-Verified.is
    (c.in_ok-number.ensures.recorded c.new-store.ensures) in
    core_has_no_values c.args.formula.now c.check_and_record.new.recorder r.accepted c.in-Ok.trimmed c.in-Ok.ensures
