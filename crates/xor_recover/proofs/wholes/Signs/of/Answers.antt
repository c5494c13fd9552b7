use Rattle.std.proofs.Common.{arith}
use Rattle.xor_recover.proofs.Signs.{code_of_front, code_more, odd_more, bit_low}
use Rattle.xor_recover.proofs.wholes.Signs.of.Goals as goal

pub overflow_mul-place : goal.overflow_mul-place
overflow_mul-place c = let small = code_of_front c.loop-lit.lit-index c.loop-lit.place c.args.lits.now c.requires c.loop-lit.invariant.place in omega (arith, small)

pub overflow_add-place : goal.overflow_add-place
overflow_add-place c =
    let small = code_of_front c.loop-lit.lit-index c.loop-lit.place c.args.lits.now c.requires c.loop-lit.invariant.place in
    let bit = bit_low c.is_negative.result c.from.result c.from.ensures in
    omega (arith, small, bit)

pub returns-clause-few : goal.returns-clause-few
returns-clause-few c = code_of_front c.loop-lit.lit-index c.loop-lit.place c.args.lits.now c.requires c.loop-lit.invariant.place

pub loop-lit-preserved : goal.loop-lit-preserved
loop-lit-preserved c =
    let lits = c.args.lits.now in
    let k = c.loop-lit.lit-index in
    let i = c.loop-lit.invariant in
    record {
      place = code_more lits k c.lit-item.result c.loop-lit.place c.is_negative.result c.from.result c.loop-lit-test.true c.lit-item.is i.place c.is_negative.ensures c.from.ensures;
      odd = odd_more lits k c.lit-item.result c.loop-lit.odd c.is_negative-odd.result c.loop-lit-test.true c.lit-item.is i.odd c.is_negative-odd.ensures;
    }
