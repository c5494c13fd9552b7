use Rattle.std.proofs.Common.{sym, ap, ◌∙◌, ◌++◌, ◌∷◌, [], List, map, take, not}
use Rattle.std.proofs.lemmas.List.{take_all}
use Rattle.cx_base.specs.Literals.{Literal}
use Rattle.cx_base.specs.Parity.{odd_sum}
use Rattle.xor_recover.proofs.Reading.{right_more, take_map_more}
use Rattle.xor_recover.proofs.entry.ClauseEntry.new.Goals as goal

pub loop-lit-preserved : goal.loop-lit-preserved
loop-lit-preserved c =
    let lits = c.args.lits.now in
    let k = c.loop-lit.lit-index in
    let negatives = take_map_more (λ (x : Literal). x.negative) lits k c.lit-item.result c.loop-lit-test.true c.lit-item.is in
    record {
      vars = c.push.ensures.items ∙ (λ i. c.loop-lit.invariant.vars i ++ (c.number.ensures.number ∙ c.var.ensures) i ∷ []) ∙ sym (take_map_more (λ (x : Literal). x.variable) lits k c.lit-item.result c.loop-lit-test.true c.lit-item.is);
      signs = c.push-in-loop-lit.ensures.items ∙ (λ i. c.loop-lit.invariant.signs i ++ c.is_negative.ensures i ∷ []) ∙ sym negatives;
      right = right_more c.loop-lit.right c.is_negative-right.result (map (λ (x : Literal). x.negative) (take k lits)) _ c.loop-lit.invariant.right
          (negatives ∙ ap (λ b. map (λ (x : Literal). x.negative) (take k lits) ++ b ∷ []) (sym c.is_negative-right.ensures));
    }

pub returns : goal.returns
returns c =
    let i = c.loop-lit.invariant in
    let all = take_all c.loop-lit.lit-index c.args.lits.now c.loop-lit-test.false in
    let vars = i.vars ∙ ap (map (λ (x : Literal). x.variable)) all in
    let signs = i.signs ∙ ap (map (λ (x : Literal). x.negative)) all in
    let right = i.right ∙ ap (λ (ls : List Literal). not (odd_sum (map (λ (x : Literal). x.negative) ls))) all in
    λ j. record { variables = vars j; right = right j; signs = signs j; number = c.args.number }
