use Rattle.std.proofs.Common.{sym, ap, ◌∙◌, ◌++◌, ◌∷◌, [], map, take}
use Rattle.cx_base.specs.Literals.{Literal}
use Rattle.xor_recover.proofs.Reading.{right_more, take_map_more}
use Rattle.xor_recover.proofs.entry.Key.of.Goals as goal

pub loop-lit-preserved : goal.loop-lit-preserved
loop-lit-preserved c =
    let lits = c.args.lits.now in
    let k = c.loop-lit.lit-index in
    let negatives = take_map_more (λ (x : Literal). x.negative) lits k c.lit-item.result c.loop-lit-test.true c.lit-item.is in
    record {
      vars = c.push.ensures.items ∙ (λ i. c.loop-lit.invariant.vars i ++ (c.number.ensures.number ∙ c.var.ensures) i ∷ []) ∙ sym (take_map_more (λ (x : Literal). x.variable) lits k c.lit-item.result c.loop-lit-test.true c.lit-item.is);
      right = right_more c.loop-lit.right c.is_negative-right.result (map (λ (x : Literal). x.negative) (take k lits)) _ c.loop-lit.invariant.right
          (negatives ∙ ap (λ b. map (λ (x : Literal). x.negative) (take k lits) ++ b ∷ []) (sym c.is_negative-right.ensures));
    }
