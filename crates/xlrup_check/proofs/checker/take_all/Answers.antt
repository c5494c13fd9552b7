use Rattle.std.proofs.Common.{◌∙◌, refl, subst, [], Option, Result, Err, arith}
use Rattle.xlrup_check.specs.Verdicts.{Goes, HasCause, ReadsStand}
use Rattle.xlrup_check.specs.declared.verdict.Verdict.{Verdict}
use Rattle.xlrup_check.specs.declared.verdict.Fault.{Fault}
use Rattle.xlrup_check.proofs.checker.take_all.Goals as goal

pub returns-in-Ok-Some-clause-judged : goal.returns-in-Ok-Some-clause-judged
returns-in-Ok-Some-clause-judged g c = λ text may.
    let h = subst (λ (o : Option Verdict). Goes g.S.StepSource.may_read g.S.StepSource.leaves g.R.Recorder.told c.args.formula.now c.args.source.now c.args.recorder.now c.take_next.new.source c.take_next.new.recorder c.take_next.new.checking.live c.loop-steps.steps o) c.in-Ok-Some.field-0-is
    (c.in-Ok-Some.ensures.goes c.args.source.now c.args.recorder.now c.loop-steps.invariant.kept) in
    h.judged text may

pub returns-in-Ok-Some-clause-sound : goal.returns-in-Ok-Some-clause-sound
returns-in-Ok-Some-clause-sound g c =
    let h = subst (λ (o : Option Verdict). Goes g.S.StepSource.may_read g.S.StepSource.leaves g.R.Recorder.told c.args.formula.now c.args.source.now c.args.recorder.now c.take_next.new.source c.take_next.new.recorder c.take_next.new.checking.live c.loop-steps.steps o) c.in-Ok-Some.field-0-is
    (c.in-Ok-Some.ensures.goes c.args.source.now c.args.recorder.now c.loop-steps.invariant.kept) in
    h.sound

pub returns-in-Ok-Some-clause-recorded : goal.returns-in-Ok-Some-clause-recorded
returns-in-Ok-Some-clause-recorded g c = λ none.
    let h = subst (λ (o : Option Verdict). Goes g.S.StepSource.may_read g.S.StepSource.leaves g.R.Recorder.told c.args.formula.now c.args.source.now c.args.recorder.now c.take_next.new.source c.take_next.new.recorder c.take_next.new.checking.live c.loop-steps.steps o) c.in-Ok-Some.field-0-is
    (c.in-Ok-Some.ensures.goes c.args.source.now c.args.recorder.now c.loop-steps.invariant.kept) in
    h.recorded none

pub returns-in-Ok-Some-clause-source : goal.returns-in-Ok-Some-clause-source
returns-in-Ok-Some-clause-source g c =
    let before = c.loop-steps.invariant in
    let taken = c.in-Ok-Some.ensures.source in
    record {
      narrows = λ text may. before.kept.narrows text (taken.narrows text may);
      cause = λ text may. tt;
      long = tt;
      reads = taken.reads ∙ before.faults;
      frame = g.met.S.StepSource.keeps_on c.args.source.now c.loop-steps.source c.take_next.new.source before.frame taken.frame;
    }

pub returns-in-Err-clause-source : goal.returns-in-Err-clause-source
returns-in-Err-clause-source g c =
    let before = c.loop-steps.invariant in
    let taken = c.in-Err.ensures.source in
    let now = g.S.StepSource.faults c.take_next.new.source in
    let fault = c.in-Err.fault in
    record {
      narrows = λ text may. before.kept.narrows text (taken.narrows text may);
      cause = λ text may. subst (λ n. HasCause (g.S.StepSource.passes_limit c.args.source.now text) n now fault) before.faults
          (subst (λ p. HasCause p (g.S.StepSource.faults c.loop-steps.source) now fault) (before.limit text (taken.narrows text may)) (taken.cause text may));
      long = taken.long;
      reads = subst (λ n. ReadsStand (failed fault) n now) before.faults taken.reads;
      frame = g.met.S.StepSource.keeps_on c.args.source.now c.loop-steps.source c.take_next.new.source before.frame taken.frame;
    }
  where
    failed : Fault → Result Verdict Fault
    failed fault = Err fault

pub take_next-requires-clause-fresh : goal.take_next-requires-clause-fresh
take_next-requires-clause-fresh g c = c.loop-steps.invariant.fresh

pub take_next-requires-clause-count : goal.take_next-requires-clause-count
take_next-requires-clause-count g c = omega (arith, c.loop-steps.invariant.far)

pub take_next-requires-clause-few : goal.take_next-requires-clause-few
take_next-requires-clause-few g c = c.loop-steps.invariant.few

pub loop-steps-preserved : goal.loop-steps-preserved
loop-steps-preserved g c =
    let before = c.loop-steps.invariant in
    let taken = c.in-Ok-None.ensures in
    let none = c.in-Ok-None.field-0-is in
    record {
      kept = subst (λ (o : Option Verdict). Goes g.S.StepSource.may_read g.S.StepSource.leaves g.R.Recorder.told c.args.formula.now c.args.source.now c.args.recorder.now c.take_next.new.source c.take_next.new.recorder c.take_next.new.checking.live c.loop-steps.steps o) none
          (taken.goes c.args.source.now c.args.recorder.now before.kept);
      fresh = (taken.next none).fresh;
      faults = taken.source.reads ∙ before.faults;
      few = omega (arith, before.few, (taken.next none).rises);
      far = omega (arith, before.few, (taken.next none).rises, taken.limits.far);
      limit = λ text may. taken.limits.limit text may ∙ before.limit text (taken.source.narrows text may);
      frame = g.met.S.StepSource.keeps_on c.args.source.now c.loop-steps.source c.take_next.new.source before.frame taken.source.frame;
    }

pub loop-steps-smaller : goal.loop-steps-smaller
loop-steps-smaller g c = omega (arith, (c.in-Ok-None.ensures.next c.in-Ok-None.field-0-is).rises, c.in-Ok-None.ensures.limits.far)

pub loop-steps-init : goal.loop-steps-init
loop-steps-init g c = record {
  kept = record {
    before = [];
    no_clash = c.requires.open;
    runs = c.requires.first;
    number = refl;
    were_told = λ none. none;
    narrows = λ text may. may;
    left = λ text may steps ending left. left;
  };
  fresh = c.requires.fresh;
  faults = refl;
  few = omega arith;
  far = omega arith;
  limit = λ text may. refl;
  frame = g.met.S.StepSource.keeps_itself c.args.source.now;
}
