use Rattle.std.proofs.Common.{sym, ◌∙◌, ap, map, arith, ◌<◌, ◌/◌, length}
use Rattle.inst_gen.specs.Words.{stream}
use Rattle.inst_gen.specs.Triples.{literals_in}
use Rattle.inst_gen.proofs.Steps.{no_parities, parities_step}
use Rattle.inst_gen.proofs.WordLaws.{none_drawn}
use Rattle.inst_gen.proofs.drawing.draw_parities.Goals as goal

pub loop-k-init : goal.loop-k-init
loop-k-init c = record { drawn = ap (map literals_in) c.in_ok-parities.ensures.items ∙ no_parities _ _; left = sym (none_drawn _) }

pub loop-k-preserved : goal.loop-k-preserved
loop-k-preserved c =
    let lt : c.loop-k.k < length c.args.values.now / 4 = omega arith in
    let both = parities_step c.args.values.now c.loop-k.parities.items _ (length c.args.values.now / 4) c.loop-k.k _ _ (stream c.args.generator.now) _ _ _ lt
    c.loop-k.invariant.drawn c.loop-k.invariant.left c.word-first.ensures c.word-second.ensures c.parity.ensures in
    record {
      drawn = ap (map literals_in) c.in_ok-push.ensures.items ∙ both.0;
      left = both.1;
    }
