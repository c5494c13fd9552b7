use Rattle.std.proofs.Common.{◌≡◌}
use Rattle.inst_gen.specs.Words.{stream, words, after_words}
use Rattle.inst_gen.specs.Planting.{values_of}
use Rattle.inst_gen.proofs.drawing.draw_values.Given as goal

abbrev pub invariant-loop-variable : goal.invariant-loop-variable
invariant-loop-variable l = record {
  drawn : l.values.items ≡ values_of (words l._variable (stream l.fn.generator));
  left : stream l.generator ≡ after_words l._variable (stream l.fn.generator);
}
