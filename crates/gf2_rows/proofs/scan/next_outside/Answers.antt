use Rattle.std.proofs.Common.{◌/◌, ◌%◌, ◌^◌, None, length, refl, arith}
use Rattle.std.proofs.Math.Nat.{div-le_self}
use Rattle.gf2_rows.specs.Bits.{is_outside}
use Rattle.gf2_rows.proofs.Shifts.{none_here, one_here}
use Rattle.gf2_rows.proofs.Words.{open_of_word}
use Rattle.gf2_rows.proofs.scan.next_outside.Goals as goal

pub returns-then-rest-ne0 : goal.returns-then-rest-ne0
returns-then-rest-ne0 c =
    let k = c.loop-k.k in
    let word = c.open_bits.result in
    let less = div-le_self word (2 ^ (k % 64)) in
    let fits = c.open_bits.type_inv in
    one_here (is_outside c.args.row.now c.args.mask.now None) word k (word / 2 ^ (k % 64)) (open_of_word c.args.row.now c.args.mask.now None (k / 64) word c.open_bits.ensures) refl c.args.from (length c.args.row.now) c.from.result
    (omega arith) (omega arith) (let t = c.if-rest-ne0.true in omega arith) c.from.ensures c.loop-k.invariant.0 (let t = c.loop-k-test.true in omega arith) c.loop-k.invariant.2

pub loop-k-preserved : goal.loop-k-preserved
loop-k-preserved c =
    let k = c.loop-k.k in
    let word = c.open_bits.result in
    let t = c.loop-k-test.true in
    let low = c.loop-k.invariant.0 in (
      omega arith,
      omega arith,
      none_here (is_outside c.args.row.now c.args.mask.now None) word k (word / 2 ^ (k % 64)) (open_of_word c.args.row.now c.args.mask.now None (k / 64) word c.open_bits.ensures) refl c.args.from (let z = c.if-rest-ne0.false in omega arith) c.loop-k.invariant.2,
    )
