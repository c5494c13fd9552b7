use Rattle.std.proofs.Common.{◌/◌, ◌%◌, ◌^◌, get_or, length, refl, arith}
use Rattle.std.proofs.Math.Nat.{div-le_self}
use Rattle.gf2_rows.specs.Bits.{bit_of}
use Rattle.gf2_rows.proofs.Shifts.{none_here, one_here}
use Rattle.gf2_rows.proofs.Words.{bit_of_word}
use Rattle.gf2_rows.proofs.scan.next_one.Goals as goal

pub returns-then-rest-ne0 : goal.returns-then-rest-ne0
returns-then-rest-ne0 c =
    let k = c.loop-k.k in
    let word = get_or c.args.row.now (k / 64) 0 in
    let fits = c.type_inv.row (k / 64) in
    let less = div-le_self word (2 ^ (k % 64)) in
    one_here (bit_of c.args.row.now) word k (word / 2 ^ (k % 64)) (bit_of_word c.args.row.now (k / 64)) refl c.args.from (length c.args.row.now) c.from.result fits.fits (let f = fits.fits in omega arith) (let t = c.if-rest-ne0.true in omega arith)
    c.from.ensures c.loop-k.invariant.0 (let t = c.loop-k-test.true in omega arith) c.loop-k.invariant.2

pub loop-k-preserved : goal.loop-k-preserved
loop-k-preserved c =
    let k = c.loop-k.k in
    let word = get_or c.args.row.now (k / 64) 0 in
    let t = c.loop-k-test.true in
    let low = c.loop-k.invariant.0 in (
      omega arith,
      omega arith,
      none_here (bit_of c.args.row.now) word k (word / 2 ^ (k % 64)) (bit_of_word c.args.row.now (k / 64)) refl c.args.from (let z = c.if-rest-ne0.false in omega arith) c.loop-k.invariant.2,
    )
