use Rattle.std.proofs.Common.{sym, ◌∙◌}
use Rattle.inst_gen.specs.Words.{stream}
use Rattle.inst_gen.proofs.Steps.{no_values, values_step}
use Rattle.inst_gen.proofs.WordLaws.{none_drawn, drawn_one}
use Rattle.inst_gen.proofs.drawing.draw_values.Goals as goal

pub loop-variable-init : goal.loop-variable-init
loop-variable-init c = record { drawn = c.in_ok-values.ensures.items ∙ no_values (stream c.args.generator.now); left = sym (none_drawn _) }

pub loop-variable-preserved : goal.loop-variable-preserved
loop-variable-preserved c = record {
  drawn = c.in_ok-push.ensures.items ∙ values_step _ _ _ _ _ _ c.loop-variable.invariant.drawn c.loop-variable.invariant.left c.word.ensures;
  left = (drawn_one _ _ _ _ _ c.loop-variable.invariant.left c.word.ensures).1;
}
