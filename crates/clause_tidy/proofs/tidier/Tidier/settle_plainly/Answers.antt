use Rattle.std.proofs.Common.{◌∙◌, subst, List, Option, None, Ok, Err}
use Rattle.cx_base.specs.Literals.{Literal}
use Rattle.clause_tidy.specs.Answers.{TidiesOn, MendsTo}
use Rattle.clause_tidy.specs.Tidying.{Tidies}
use Rattle.clause_tidy.proofs.Stages.{first_stage, stage_on, mend_on, free_on, proper_on}
use Rattle.clause_tidy.proofs.Tellings.{other_answer}
use Rattle.clause_tidy.proofs.tidier.Tidier.settle_plainly.Goals as goal

pub loop-pair-init : goal.loop-pair-init
loop-pair-init g c = record {
  stage = first_stage g.L.Sink c.args.self.now.formula.now c.args.self.now.spare c.args.arena.now c.args.log.now (g.met.L.Sink.keeps_itself c.args.log.now);
  free = c.requires.none;
  proper = c.requires.may.proper;
}

pub mend-requires-clause-may : goal.mend-requires-clause-may
mend-requires-clause-may g c = record { proper = c.loop-pair.invariant.proper; spare_id = c.requires.may.spare_id; going = c.loop-pair.invariant.stage.failed ∙ c.requires.may.going }

pub returns-in-Err-clause-tidies : goal.returns-in-Err-clause-tidies
returns-in-Err-clause-tidies g c =
    let f = c.args.self.now.formula.now in
    let s = c.args.self.now.spare in
    let a = c.args.arena.now in
    let b = c.loop-pair.arena in
    let d = c.mend.new.arena in
    stage_on g.L.Sink f s a b c.args.log.now c.loop-pair.log c.mend.new.log (Err c.in-Err.fault) (MendsTo f s b d) (MendsTo f s a d) c.loop-pair.invariant.stage
    (λ k l. g.met.L.Sink.keeps_on c.args.log.now c.loop-pair.log c.mend.new.log k l) (λ t ss ts h k. mend_on f s a b d ss ts t h k) c.in-Err.ensures.tidies

pub returns-in-Ok-Some-clause-tidies : goal.returns-in-Ok-Some-clause-tidies
returns-in-Ok-Some-clause-tidies g c =
    let f = c.args.self.now.formula.now in
    let s = c.args.self.now.spare in
    let a = c.args.arena.now in
    let b = c.loop-pair.arena in
    let d = c.mend.new.arena in
    subst (λ e. TidiesOn {T = Option (List Literal)} g.L.Sink f s a c.args.log.now (Ok e) (MendsTo f s a d) c.mend.new.log) c.in-Ok-Some.field-0-is
    (stage_on g.L.Sink f s a b c.args.log.now c.loop-pair.log c.mend.new.log (Ok c.in-Ok-Some.field-0) (MendsTo f s b d) (MendsTo f s a d) c.loop-pair.invariant.stage
    (λ k l. g.met.L.Sink.keeps_on c.args.log.now c.loop-pair.log c.mend.new.log k l) (λ t ss ts h k. mend_on f s a b d ss ts t h k) c.in-Ok-Some.ensures.tidies)

pub loop-pair-preserved : goal.loop-pair-preserved
loop-pair-preserved g c =
    let f = c.args.self.now.formula.now in
    let s = c.args.self.now.spare in
    let a = c.args.arena.now in
    let b = c.loop-pair.arena in
    let d = c.mend.new.arena in
    let mended = subst (λ e. TidiesOn {T = Option (List Literal)} g.L.Sink f s b c.loop-pair.log (Ok e) (MendsTo f s b d) c.mend.new.log) c.in-Ok-None.field-0-is c.in-Ok-None.ensures.tidies in
    record {
      stage = other_answer g.L.Sink f s a (MendsTo f s a d) (λ _. Tidies f s a d) c.args.log.now c.mend.new.log None tt (λ ss t. t)
          (stage_on g.L.Sink f s a b c.args.log.now c.loop-pair.log c.mend.new.log (Ok None) (MendsTo f s b d) (MendsTo f s a d) c.loop-pair.invariant.stage
          (λ k l. g.met.L.Sink.keeps_on c.args.log.now c.loop-pair.log c.mend.new.log k l) (λ t ss ts h k. mend_on f s a b d ss ts t h k) mended);
      free = free_on f s b d mended.steps mended.done c.loop-pair.invariant.free;
      proper = proper_on f s b d mended.steps mended.done c.loop-pair.invariant.proper;
    }
