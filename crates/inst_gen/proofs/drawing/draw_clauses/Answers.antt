use Rattle.std.proofs.Common.{sym, ◌∙◌, ap, map, arith, ◌<◌, ◌≤◌, length, subst}
use Rattle.cx_base.specs.Problem.{AreWithin}
use Rattle.inst_gen.specs.Words.{stream}
use Rattle.inst_gen.specs.Triples.{literals_in}
use Rattle.inst_gen.specs.declared.triple.Triple.{Triple}
use Rattle.inst_gen.proofs.Steps.{no_clauses, clauses_step, within_drawn}
use Rattle.inst_gen.proofs.WordLaws.{none_drawn}
use Rattle.inst_gen.proofs.drawing.draw_clauses.Goals as goal

pub loop-number-init : goal.loop-number-init
loop-number-init c = record { drawn = ap (map literals_in) c.in_ok-clauses.ensures.items ∙ no_clauses _ _ _; left = sym (none_drawn _) }

pub clause-requires : goal.clause-requires
clause-requires c =
    let n = length c.args.values.now in
    let low : 1 ≤ n = c.requires.low in
    subst (λ (t : Triple). AreWithin n (literals_in t)) (sym c.draw_triple-drawn.ensures.drawn) (within_drawn n _ low, (within_drawn n _ low, (within_drawn n _ low, tt)))

pub loop-number-preserved : goal.loop-number-preserved
loop-number-preserved c =
    let n = length c.args.values.now in
    let lt : c.loop-number._number < n = omega arith in
    let both = clauses_step c.args.values.now c.loop-number.clauses.items _ _ n n c.loop-number._number (stream c.args.generator.now) _ _ lt
    c.loop-number.invariant.drawn c.loop-number.invariant.left c.draw_triple-drawn.ensures.drawn c.draw_triple-drawn.ensures.left c.clause.ensures in
    record {
      drawn = ap (map literals_in) c.in_ok-push.ensures.items ∙ both.0;
      left = both.1;
    }
