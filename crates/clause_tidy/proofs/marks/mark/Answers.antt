use Rattle.std.proofs.Common.{◌+◌, sym, subst, ◌∙◌, take, arith}
use Rattle.clause_tidy.specs.Marks.{is_marked, HasSoMany}
use Rattle.clause_tidy.proofs.MarkLaws.{marks_more, many_more, at_most_one}
use Rattle.clause_tidy.proofs.marks.mark.Goals as goal

pub loop-lit-preserved : goal.loop-lit-preserved
loop-lit-preserved c =
    let lits = c.args.lits.now in
    let i = c.loop-lit.lit-index in
    let x = c.lit-item.result in
    let marks = c.loop-lit.marks in
    let before = c.loop-lit.invariant in
    let one = at_most_one (is_marked marks x) in
    let is = c.mark_one-count.ensures.counted in
    let few = before.few in
    record {
      marks = marks_more lits i x c.loop-lit-test.true c.lit-item.is marks before.marks c.mark_one-count.new.marks c.mark_one-count.ensures.marked;
      many = subst (λ n. HasSoMany (take (i + 1) lits) (c.loop-lit.count + n)) (sym is) (many_more lits i x c.loop-lit-test.true c.lit-item.is marks before.marks c.loop-lit.count before.many);
      few = omega (arith, one, is, few);
      room = c.mark_one-count.ensures.room ∙ before.room;
    }
