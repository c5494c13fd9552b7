use Rattle.std.proofs.Common.{◌∙◌, refl, sym}
use Rattle.xlrup_check.proofs.Turns.{clash_is_accepted, clash_is_sound, clash_is_recorded}
use Rattle.xlrup_check.proofs.checker.check_and_record.Goals as goal

pub take_all-done-requires-clause-open : goal.take_all-done-requires-clause-open
take_all-done-requires-clause-open g c = sym c.clash.ensures.some ∙ sym c.is_some.ensures ∙ c.if-is_some.false

pub returns-then-is_some-clause-judged : goal.returns-then-is_some-clause-judged
returns-then-is_some-clause-judged g c = λ text may.
    clash_is_accepted g.S.StepSource.leaves c.args.formula.now c.args.source.now (sym c.clash.ensures.some ∙ sym c.is_some.ensures ∙ c.if-is_some.true) text
    (g.met.S.StepSource.leaves_some c.args.source.now text may)

pub returns-then-is_some-clause-sound : goal.returns-then-is_some-clause-sound
returns-then-is_some-clause-sound g c = clash_is_sound g.S.StepSource.leaves c.args.formula.now c.args.source.now (sym c.clash.ensures.some ∙ sym c.is_some.ensures ∙ c.if-is_some.true)

pub returns-then-is_some-clause-recorded : goal.returns-then-is_some-clause-recorded
returns-then-is_some-clause-recorded g c = λ none.
    clash_is_recorded g.S.StepSource.leaves c.args.formula.now c.args.source.now (sym c.clash.ensures.some ∙ sym c.is_some.ensures ∙ c.if-is_some.true) (g.S.StepSource.may_read c.args.source.now)
    (g.R.Recorder.told c.args.recorder.now) none (λ text may. g.met.S.StepSource.leaves_some c.args.source.now text may)

pub returns-then-is_some-clause-source : goal.returns-then-is_some-clause-source
returns-then-is_some-clause-source g c = record { narrows = λ text may. may; cause = λ text may. tt; long = tt; reads = refl; frame = g.met.S.StepSource.keeps_itself c.args.source.now }
