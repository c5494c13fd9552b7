use Rattle.std.proofs.Common.{refl, ◌∙◌, subst, Option, Ok, arith}
use Rattle.cx_base.specs.Endings.{finished}
use Rattle.cx_base.specs.declared.steps.LogStep.{LogStep}
use Rattle.step_text.specs.Sources.{Gives}
use Rattle.fratx_elab.specs.Writing.{WritesDown}
use Rattle.fratx_elab.specs.declared.state.State.{State}
use Rattle.fratx_elab.proofs.Leaving.{no_step_leaves, refusal_leaves, write_leaves}
use Rattle.fratx_elab.proofs.Turns.{end_is_refused, text_is_refused, refusal_turns, write_turns}
use Rattle.fratx_elab.proofs.elaboration.Elaboration.take_next.Goals as goal

pub returns-in-Ok-None-clause-turns : goal.returns-in-Ok-None-clause-turns
returns-in-Ok-None-clause-turns g c = λ text first may kept.
    let h = subst (λ (o : Option LogStep). Gives (λ a. g.E.ElabEnds.view.leaves a text) c.args.ends.now (Ok o) c.next_step.new.self) c.in-Ok-None.field-0-is (c.in-Ok-None.ensures.texts text may).step in
    end_is_refused _ _ _ c.args.self.now.formula.now first c.args.ends.now c.next_step.new.self c.args.state.now _ kept finished _ refl h.0 c.in-Ok-None.ensures.sink.steps

pub returns-in-Err-clause-turns : goal.returns-in-Err-clause-turns
returns-in-Err-clause-turns g c = λ text first may kept.
    let old = c.args.state.now in
    let read : State = record { live = old.live; clauses = old.clauses; parities = old.parities; marks = old.marks; spare = c.next_step.new.spare } in
    rw c.refused_text.ensures (text_is_refused _ _ _ c.args.self.now.formula.now first c.args.ends.now c.next_step.new.self old _ kept read c.in-Err.why (c.in-Err.ensures.texts text may).step c.in-Err.ensures.sink.steps)

pub returns-in-Err-take_step-clause-turns : goal.returns-in-Err-take_step-clause-turns
returns-in-Err-take_step-clause-turns g c = λ text first may kept.
    let h = subst (λ (o : Option LogStep). Gives (λ a. g.E.ElabEnds.view.leaves a text) c.args.ends.now (Ok o) c.next_step.new.self) c.in-Ok-Some.field-0-is (c.in-Ok-Some.ensures.texts text may).step in
    rw c.refused_step.ensures
    (refusal_turns _ _ _ c.args.self.now.formula.now first c.args.ends.now c.next_step.new.self c.args.state.now _ kept c.in-Ok-Some.step h (g.met.E.ElabEnds.leaves_some c.next_step.new.self text may)
    c.take_step.new.state c.in-Err-take_step.why c.in-Err-take_step.ensures.taken c.in-Ok-Some.ensures.sink.steps)

pub returns-clause-turns : goal.returns-clause-turns
returns-clause-turns g c = λ text first may kept.
    let old = c.args.ends.now in
    let new = c.write-wrote.new.ends in
    let h = subst (λ (o : Option LogStep). Gives (λ a. g.E.ElabEnds.view.leaves a text) old (Ok o) c.next_step.new.self) c.in-Ok-Some.field-0-is (c.in-Ok-Some.ensures.texts text (c.write-wrote.ensures.source.text text may)).step in
    let told = subst (λ t. WritesDown t (g.E.ElabEnds.view.steps new) (g.E.ElabEnds.view.torn new) c.in-Ok.written c.write-wrote.result) c.in-Ok-Some.ensures.sink.steps c.write-wrote.ensures.told in
    let taken = c.take_step.new.state in
    let kept_memory : State = record { live = taken.live; clauses = taken.clauses; parities = taken.parities; marks = taken.marks; spare = c.keep_memory.new.spare } in
    rw c.what_follows.ensures
    (write_turns _ _ _ c.args.self.now.formula.now first old new c.args.state.now _ kept c.in-Ok-Some.step (λ steps ending k. h steps ending ((c.write-wrote.ensures.source.rest text steps ending).0 k)) (g.met.E.ElabEnds.leaves_some new text may)
    kept_memory c.in-Ok.written c.in-Ok.ensures.taken c.write-wrote.result told c.ends_log-is_last.result c.ends_log-is_last.ensures)

pub returns-in-Ok-None-clause-ends : goal.returns-in-Ok-None-clause-ends
returns-in-Ok-None-clause-ends g c =
    let given = c.in-Ok-None.ensures in
    record {
      narrows = λ text may. (given.texts text may).narrows;
      cause = λ text may. tt;
      long = tt;
      reads = given.source.faults;
      writes = given.sink.faults;
      failed = given.sink.failed;
      frame = given.frame;
    }

pub returns-in-Err-clause-ends : goal.returns-in-Err-clause-ends
returns-in-Err-clause-ends g c =
    let given = c.in-Err.ensures in
    rw c.refused_text.ensures (no_step_leaves g.E.ElabEnds.view c.args.ends.now c.next_step.new.self c.in-Err.why _ given.texts given.source given.sink given.frame)

pub returns-in-Err-take_step-clause-ends : goal.returns-in-Err-take_step-clause-ends
returns-in-Err-take_step-clause-ends g c =
    let given = c.in-Ok-Some.ensures in
    rw c.refused_step.ensures (refusal_leaves g.E.ElabEnds.view c.args.ends.now c.next_step.new.self _ given.texts given.source given.sink given.frame c.in-Err-take_step.why _)

pub returns-clause-ends : goal.returns-clause-ends
returns-clause-ends g c =
    let given = c.in-Ok-Some.ensures in
    let wrote = c.write-wrote.ensures in
    let frame = g.met.E.ElabEnds.keeps_on c.args.ends.now c.next_step.new.self c.write-wrote.new.ends given.frame wrote.frame in
    rw c.what_follows.ensures
    (write_leaves g.E.ElabEnds.view c.args.ends.now c.next_step.new.self _ given.texts given.source given.sink given.frame c.write-wrote.new.ends c.write-wrote.result c.ends_log-is_last.result _ wrote.sink wrote.source frame)

pub returns-in-Ok-None-clause-limits : goal.returns-in-Ok-None-clause-limits
returns-in-Ok-None-clause-limits g c = let given = c.in-Ok-None.ensures in record { far = omega (arith, given.place.within, given.place.far); texts = λ text may. (given.texts text may).limit }

pub returns-in-Err-clause-limits : goal.returns-in-Err-clause-limits
returns-in-Err-clause-limits g c = let given = c.in-Err.ensures in record { far = omega (arith, given.place.within, given.place.far); texts = λ text may. (given.texts text may).limit }

pub returns-in-Err-take_step-clause-limits : goal.returns-in-Err-take_step-clause-limits
returns-in-Err-take_step-clause-limits g c = let given = c.in-Ok-Some.ensures in record { far = omega (arith, given.place.within, given.place.far); texts = λ text may. (given.texts text may).limit }

pub returns-clause-limits : goal.returns-clause-limits
returns-clause-limits g c =
    let given = c.in-Ok-Some.ensures in
    let still = c.write-wrote.ensures.source in
    record { far = omega (arith, still.place, given.place.within, given.place.far); texts = λ text may. still.limit text may ∙ (given.texts text (still.text text may)).limit }
