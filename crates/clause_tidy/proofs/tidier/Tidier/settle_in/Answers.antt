use Rattle.std.proofs.Common.{◌∙◌, refl, sym, subst, List, Option, None, Ok, Err}
use Rattle.std.specs.Prelude.{IsNone}
use Rattle.cx_base.specs.Literals.{Literal}
use Rattle.clause_tidy.specs.Answers.{TidiesOn, MendsTo}
use Rattle.clause_tidy.specs.Tidying.{Tidies}
use Rattle.clause_tidy.proofs.RoomLaws.{no_pair, is_pair}
use Rattle.clause_tidy.proofs.Stages.{first_stage, stage_on, mend_on, free_on, proper_on}
use Rattle.clause_tidy.proofs.Tellings.{other_answer, out_of_memory}
use Rattle.clause_tidy.proofs.tidier.Tidier.settle_in.Goals as goal

pub loop-pair-init : goal.loop-pair-init
loop-pair-init g c = record {
  stage = first_stage g.L.Sink c.args.self.now.formula.now c.args.self.now.spare c.args.arena.now c.args.log.now (g.met.L.Sink.keeps_itself c.args.log.now);
  free = c.requires.none;
  proper = c.requires.may.proper;
  room = c.requires.room;
}

pub mend_in-requires-clause-pair : goal.mend_in-requires-clause-pair
mend_in-requires-clause-pair g c = is_pair c.loop-pair.arena c.in-Ok-Some.field-0 c.in-Ok-Some.ensures.pair c.in-Ok-Some.pair c.in-Ok-Some.field-0-is

pub mend_in-requires-clause-may : goal.mend_in-requires-clause-may
mend_in-requires-clause-may g c = record { proper = c.loop-pair.invariant.proper; spare_id = c.requires.may.spare_id; going = c.loop-pair.invariant.stage.failed ∙ c.requires.may.going }

pub loop-pair-preserved : goal.loop-pair-preserved
loop-pair-preserved g c =
    let f = c.args.self.now.formula.now in
    let s = c.args.self.now.spare in
    let a = c.args.arena.now in
    let b = c.loop-pair.arena in
    let d = c.mend_in.new.arena in
    let none = c.in-Ok-None-mend_in.field-0-is in
    let mended = subst (λ e. TidiesOn {T = Option (List Literal)} g.L.Sink f s b c.loop-pair.log (Ok e) (MendsTo f s b d) c.mend_in.new.log) none c.in-Ok-None-mend_in.ensures.tidies in
    record {
      stage = other_answer g.L.Sink f s a (MendsTo f s a d) (λ _. Tidies f s a d) c.args.log.now c.mend_in.new.log None tt (λ ss t. t)
          (stage_on g.L.Sink f s a b c.args.log.now c.loop-pair.log c.mend_in.new.log (Ok None) (MendsTo f s b d) (MendsTo f s a d) c.loop-pair.invariant.stage
          (λ k l. g.met.L.Sink.keeps_on c.args.log.now c.loop-pair.log c.mend_in.new.log k l) (λ t ss ts h k. mend_on f s a b d ss ts t h k) mended);
      free = free_on f s b d mended.steps mended.done c.loop-pair.invariant.free;
      proper = proper_on f s b d mended.steps mended.done c.loop-pair.invariant.proper;
      room = c.in-Ok-None-mend_in.ensures.room (subst IsNone (sym none) refl);
    }

pub returns-in-Err-mend_in-clause-tidies : goal.returns-in-Err-mend_in-clause-tidies
returns-in-Err-mend_in-clause-tidies g c =
    let f = c.args.self.now.formula.now in
    let s = c.args.self.now.spare in
    let a = c.args.arena.now in
    let b = c.loop-pair.arena in
    let d = c.mend_in.new.arena in
    stage_on g.L.Sink f s a b c.args.log.now c.loop-pair.log c.mend_in.new.log (Err c.in-Err-mend_in.fault) (MendsTo f s b d) (MendsTo f s a d) c.loop-pair.invariant.stage
    (λ k l. g.met.L.Sink.keeps_on c.args.log.now c.loop-pair.log c.mend_in.new.log k l) (λ t ss ts h k. mend_on f s a b d ss ts t h k) c.in-Err-mend_in.ensures.tidies

pub returns-in-Ok-Some-mend_in-clause-tidies : goal.returns-in-Ok-Some-mend_in-clause-tidies
returns-in-Ok-Some-mend_in-clause-tidies g c =
    let f = c.args.self.now.formula.now in
    let s = c.args.self.now.spare in
    let a = c.args.arena.now in
    let b = c.loop-pair.arena in
    let d = c.mend_in.new.arena in
    subst (λ e. TidiesOn {T = Option (List Literal)} g.L.Sink f s a c.args.log.now (Ok e) (MendsTo f s a d) c.mend_in.new.log) c.in-Ok-Some-mend_in.field-0-is
    (stage_on g.L.Sink f s a b c.args.log.now c.loop-pair.log c.mend_in.new.log (Ok c.in-Ok-Some-mend_in.field-0) (MendsTo f s b d) (MendsTo f s a d) c.loop-pair.invariant.stage
    (λ k l. g.met.L.Sink.keeps_on c.args.log.now c.loop-pair.log c.mend_in.new.log k l) (λ t ss ts h k. mend_on f s a b d ss ts t h k) c.in-Ok-Some-mend_in.ensures.tidies)

pub returns-in-Ok-None-clause-bears : goal.returns-in-Ok-None-clause-bears
returns-in-Ok-None-clause-bears g c = λ _. no_pair c.loop-pair.arena c.in-Ok-None.field-0 c.in-Ok-None.ensures.pair c.in-Ok-None.field-0-is

pub returns-in-Ok-None-clause-tidies : goal.returns-in-Ok-None-clause-tidies
returns-in-Ok-None-clause-tidies g c =
    let f = c.args.self.now.formula.now in
    let s = c.args.self.now.spare in
    let a = c.args.arena.now in
    let b = c.loop-pair.arena in
    other_answer g.L.Sink f s a (λ _. Tidies f s a b) (MendsTo f s a b) c.args.log.now c.loop-pair.log tt None (λ ss t. t) c.loop-pair.invariant.stage

pub returns-in-Err-clause-tidies : goal.returns-in-Err-clause-tidies
returns-in-Err-clause-tidies g c =
    let f = c.args.self.now.formula.now in
    let s = c.args.self.now.spare in
    let a = c.args.arena.now in
    let b = c.loop-pair.arena in
    out_of_memory g.L.Sink f s a (λ _. Tidies f s a b) (MendsTo f s a b) c.args.log.now c.loop-pair.log tt (λ ss t tables h. let w = t.runs tables h in (w.0, w.1)) c.loop-pair.invariant.stage
