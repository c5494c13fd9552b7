use Rattle.std.proofs.Common.{◌<◌, ◌+◌, ◌^◌, refl, subst, arith, Option, Result, Ok}
use Rattle.cx_base.specs.Endings.{finished}
use Rattle.cx_base.specs.declared.steps.ProofStep.{ProofStep}
use Rattle.step_text.specs.Sources.{Gives, PlaceRises}
use Rattle.step_text.specs.declared.source.TextRefusal.{TextRefusal}
use Rattle.xlrup_check.proofs.Turns.{end_is_refused, text_is_refused, step_goes, text_stands, text_stuck, text_has_cause, stands_without_memory, has_cause_without_memory, long_without_memory, on_any}
use Rattle.xlrup_check.proofs.checker.take_next.Goals as goal

abbrev some_step : Option ProofStep → Result (Option ProofStep) TextRefusal
some_step o = Ok o

pub returns-in-Ok-None-clause-goes : goal.returns-in-Ok-None-clause-goes
returns-in-Ok-None-clause-goes g c = λ first start kept.
    end_is_refused _ _ _ _ first start c.args.source.now c.next_step.new.self c.args.recorder.now c.args.recorder.now _ _ kept c.in-Ok-None.ensures.narrows finished _ refl
    (λ text may. (subst (λ (o : Option ProofStep). Gives (λ a. g.S.StepSource.leaves a text) c.args.source.now (some_step o) c.next_step.new.self) c.in-Ok-None.field-0-is (c.in-Ok-None.ensures.step text may)).0)

pub returns-in-Err-clause-goes : goal.returns-in-Err-clause-goes
returns-in-Err-clause-goes g c = λ first start kept.
    rw c.refused_text.ensures
    (text_is_refused _ _ _ _ first start c.args.source.now c.next_step.new.self c.args.recorder.now c.args.recorder.now _ _ kept c.in-Err.ensures.narrows c.in-Err.why c.in-Err.ensures.step c.args.checking.now.live)

pub returns-clause-goes : goal.returns-clause-goes
returns-clause-goes g c = λ first start kept.
    let given = c.in-Ok-Some.ensures in
    let rises = subst (λ (o : Option ProofStep). PlaceRises (some_step o) (g.S.StepSource.place_of c.args.source.now) (g.S.StepSource.place_of c.next_step.new.self)) c.in-Ok-Some.field-0-is given.place.rises in
    let few : c.args.steps + 1 < 2 ^ 62 = omega (arith, c.requires.few, rises, given.place.within, given.place.far) in
    step_goes _ _ _ c.args.formula.now first start c.args.source.now c.next_step.new.self c.args.recorder.now c.what_follows-next.new.recorder _ _ kept given.narrows c.in-Ok-Some.step
    (λ text may. subst (λ (o : Option ProofStep). Gives (λ a. g.S.StepSource.leaves a text) c.args.source.now (some_step o) c.next_step.new.self) c.in-Ok-Some.field-0-is (given.step text may))
    (λ text may. g.met.S.StepSource.leaves_some c.next_step.new.self text may) few c.take_step-judged.new.live c.take_step-judged.result c.take_step-judged.ensures
    c.what_follows-next.result c.what_follows-next.ensures.follows c.what_follows-next.ensures.told

pub returns-in-Ok-None-clause-limits : goal.returns-in-Ok-None-clause-limits
returns-in-Ok-None-clause-limits g c =
    let given = c.in-Ok-None.ensures in
    record { far = omega (arith, given.place.within, given.place.far); limit = given.limit }

pub returns-in-Ok-None-clause-source : goal.returns-in-Ok-None-clause-source
returns-in-Ok-None-clause-source g c =
    let given = c.in-Ok-None.ensures in
    record { narrows = given.narrows; cause = λ text may. tt; long = tt; reads = given.stands.faults; frame = given.frame }

pub returns-in-Err-clause-limits : goal.returns-in-Err-clause-limits
returns-in-Err-clause-limits g c =
    let given = c.in-Err.ensures in
    record { far = omega (arith, given.place.within, given.place.far); limit = given.limit }

pub returns-in-Err-clause-source : goal.returns-in-Err-clause-source
returns-in-Err-clause-source g c =
    let given = c.in-Err.ensures in
    rw c.refused_text.ensures (record {
      narrows = given.narrows;
      cause = λ text may. text_has_cause ProofStep _ _ _ c.in-Err.why _ (given.long text may) given.stands.faults;
      long = text_stuck _ _ _ c.in-Err.why _ given.stands.stuck;
      reads = text_stands _ _ c.in-Err.why _ given.stands.faults;
      frame = given.frame;
    })

pub returns-clause-limits : goal.returns-clause-limits
returns-clause-limits g c =
    let given = c.in-Ok-Some.ensures in
    record { far = omega (arith, given.place.within, given.place.far); limit = given.limit }

pub returns-clause-source : goal.returns-clause-source
returns-clause-source g c =
    let given = c.in-Ok-Some.ensures in
    let memory = c.what_follows-next.ensures.memory in
    record {
      narrows = given.narrows;
      cause = λ text may. has_cause_without_memory c.what_follows-next.result _ _ _ memory;
      long = long_without_memory c.what_follows-next.result _ memory;
      reads = stands_without_memory c.what_follows-next.result _ _ memory given.stands.faults;
      frame = given.frame;
    }

pub returns-clause-next : goal.returns-clause-next
returns-clause-next g c =
    let given = c.in-Ok-Some.ensures in
    let rises = subst (λ (o : Option ProofStep). PlaceRises (some_step o) (g.S.StepSource.place_of c.args.source.now) (g.S.StepSource.place_of c.next_step.new.self)) c.in-Ok-Some.field-0-is given.place.rises in
    on_any c.what_follows-next.result _ (λ verdict none. record { fresh = given.stands.spent; rises = rises })
