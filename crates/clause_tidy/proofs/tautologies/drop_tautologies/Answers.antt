use Rattle.std.proofs.Common.{◌∙◌, [], Ok, Err}
use Rattle.clause_tidy.specs.Tidying.{Tidies}
use Rattle.clause_tidy.proofs.Composing.{tidied_on}
use Rattle.clause_tidy.proofs.LeftLaws.{all_left, left_on, free_more}
use Rattle.clause_tidy.proofs.Stages.{first_stage, stage_on}
use Rattle.clause_tidy.proofs.tautologies.drop_tautologies.Goals as goal

pub loop-place-init : goal.loop-place-init
loop-place-init g c = record {
  stage = λ formula spare. first_stage g.L.Sink formula spare c.args.arena.now c.args.log.now (g.met.L.Sink.keeps_itself c.args.log.now);
  left = all_left c.args.arena.now;
  free = c.requires.free;
}

pub drop_tautology-requires-clause-going : goal.drop_tautology-requires-clause-going
drop_tautology-requires-clause-going g c = (c.loop-place.invariant.stage (record { variables = 0; constraints = [] }) 0).failed ∙ c.requires.going

pub returns-in-Err-clause-tidies : goal.returns-in-Err-clause-tidies
returns-in-Err-clause-tidies g c = λ f s.
    let a = c.args.arena.now in
    let b = c.loop-place.arena in
    let d = c.drop_tautology.new.arena in
    stage_on g.L.Sink f s a b c.args.log.now c.loop-place.log c.drop_tautology.new.log (Err c.in-Err.fault) (λ _. Tidies f s b d) (λ _. Tidies f s a d) (c.loop-place.invariant.stage f s)
    (λ k l. g.met.L.Sink.keeps_on c.args.log.now c.loop-place.log c.drop_tautology.new.log k l) (λ t ss ts h k. tidied_on f s a b d ss ts h k) (c.in-Err.ensures.tidies f s)

pub loop-place-preserved : goal.loop-place-preserved
loop-place-preserved g c =
    let a = c.args.arena.now in
    let b = c.loop-place.arena in
    let d = c.drop_tautology.new.arena in
    record {
      stage = λ f s. stage_on g.L.Sink f s a b c.args.log.now c.loop-place.log c.drop_tautology.new.log (Ok c.in-Ok.field-0) (λ _. Tidies f s b d) (λ _. Tidies f s a d) (c.loop-place.invariant.stage f s)
          (λ k l. g.met.L.Sink.keeps_on c.args.log.now c.loop-place.log c.drop_tautology.new.log k l) (λ t ss ts h k. tidied_on f s a b d ss ts h k) (c.in-Ok.ensures.tidies f s);
      left = left_on a b d c.loop-place.invariant.left c.in-Ok.ensures.left;
      free = free_more b d c.loop-place.place c.new.result c.new.ensures c.in-Ok.ensures.left c.loop-place.invariant.free c.in-Ok.ensures.free;
    }
