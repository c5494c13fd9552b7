use Rattle.std.proofs.Common.{◌∙◌, refl, subst, Option, arith}
use Rattle.fratx_elab.specs.Outcomes.{Goes}
use Rattle.fratx_elab.specs.declared.outcome.Elab.{Elab}
use Rattle.fratx_elab.proofs.Leaving.{fault_leaves}
use Rattle.fratx_elab.proofs.elaboration.Elaboration.take_all.Goals as goal

pub loop-steps-init : goal.loop-steps-init
loop-steps-init g c =
    record {
      kept = c.requires.kept;
      narrows = λ text may. may;
      room = c.requires.room;
      ready = c.requires.ready;
      reads = refl;
      writes = refl;
      failed = refl;
      few = omega arith;
      far = omega arith;
      limit = λ text may. refl;
      frame = g.met.E.ElabEnds.keeps_itself c.args.ends.now;
    }

pub returns-in-Ok-Some-clause-judged : goal.returns-in-Ok-Some-clause-judged
returns-in-Ok-Some-clause-judged g c = λ text may.
    let P : Option Elab → Type 0 = Goes (λ a. g.E.ElabEnds.view.leaves a text) g.E.ElabEnds.view.steps g.E.ElabEnds.view.torn c.args.self.now.formula.now c.args.ends.now c.take_next.new.ends c.take_next.new.state c.loop-steps.steps in
    subst P c.in-Ok-Some.field-0-is (c.in-Ok-Some.ensures.turns text c.args.ends.now may (c.loop-steps.invariant.kept text (c.in-Ok-Some.ensures.ends.narrows text may)))

pub returns-in-Ok-Some-clause-ends : goal.returns-in-Ok-Some-clause-ends
returns-in-Ok-Some-clause-ends g c =
    let before = c.loop-steps.invariant in
    let taken = c.in-Ok-Some.ensures.ends in
    record {
      narrows = λ text may. before.narrows text (taken.narrows text may);
      cause = λ text may. tt;
      long = tt;
      reads = taken.reads ∙ before.reads;
      writes = taken.writes ∙ before.writes;
      failed = taken.failed ∙ before.failed;
      frame = g.met.E.ElabEnds.keeps_on c.args.ends.now c.loop-steps.ends c.take_next.new.ends before.frame taken.frame;
    }

pub returns-in-Err-clause-ends : goal.returns-in-Err-clause-ends
returns-in-Err-clause-ends g c =
    let before = c.loop-steps.invariant in
    let taken = c.in-Err.ensures.ends in
    fault_leaves g.E.ElabEnds.view c.args.ends.now c.loop-steps.ends c.take_next.new.ends c.in-Err.fault before.narrows before.limit before.reads before.writes
    (g.met.E.ElabEnds.keeps_on c.args.ends.now c.loop-steps.ends c.take_next.new.ends before.frame taken.frame) taken

pub returns-in-Err-clause-cut_off : goal.returns-in-Err-clause-cut_off
returns-in-Err-clause-cut_off g c =
    let some = g.met.E.ElabEnds.has_text c.take_next.new.ends in
    c.in-Err.ensures.turns some.0 c.args.ends.now some.1 (c.loop-steps.invariant.kept some.0 (c.in-Err.ensures.ends.narrows some.0 some.1))

pub take_next-requires-clause-state : goal.take_next-requires-clause-state
take_next-requires-clause-state g c =
    let some = g.met.E.ElabEnds.has_text c.loop-steps.ends in
    let kept = c.loop-steps.invariant.kept some.0 some.1 in
    record { tied = (kept.tables, kept.tied); room = c.loop-steps.invariant.room; few = c.loop-steps.invariant.far }

pub loop-steps-preserved : goal.loop-steps-preserved
loop-steps-preserved g c =
    let before = c.loop-steps.invariant in
    let none = c.in-Ok-None.field-0-is in
    let next = c.in-Ok-None.ensures.next none in
    let limits = c.in-Ok-None.ensures.limits in
    let taken = c.in-Ok-None.ensures.ends in
    record {
      kept = λ text may.
          let P : Option Elab → Type 0 = Goes (λ a. g.E.ElabEnds.view.leaves a text) g.E.ElabEnds.view.steps g.E.ElabEnds.view.torn c.args.self.now.formula.now c.args.ends.now c.take_next.new.ends c.take_next.new.state c.loop-steps.steps in
          subst P none (c.in-Ok-None.ensures.turns text c.args.ends.now may (before.kept text (taken.narrows text may)));
      narrows = λ text may. before.narrows text (taken.narrows text may);
      room = next.room;
      ready = record { fresh = next.fresh; going = taken.failed ∙ before.ready.going };
      reads = taken.reads ∙ before.reads;
      writes = taken.writes ∙ before.writes;
      failed = taken.failed ∙ before.failed;
      few = omega (arith, before.few, next.rises);
      far = omega (arith, before.few, next.rises, limits.far);
      limit = λ text may. limits.texts text may ∙ before.limit text (taken.narrows text may);
      frame = g.met.E.ElabEnds.keeps_on c.args.ends.now c.loop-steps.ends c.take_next.new.ends before.frame taken.frame;
    }
