use Rattle.std.proofs.Common.{◌≡◌, ◌∙◌, ◌+◌, ◌-◌, ap, arith}
use Rattle.gf2_rows.specs.Bits.{bit_of}
use Rattle.gf2_matrix.proofs.picked.next_picked.Goals as goal

pub returns-in-Some : goal.returns-in-Some
returns-in-Some c =
    let first = c.in-Some.ensures.1 in
    let low = first.low in
    let back : c.args.start + (c.in-Some.bit - c.args.start) ≡ c.in-Some.bit = omega arith in (
      omega arith,
      record {
        low = omega arith;
        high = omega arith;
        before = λ k ge lt. first.before (c.args.start + k) (omega arith) (omega arith);
        hit = λ lt. ap (bit_of c.args.words.now) back ∙ first.hit c.in-Some.ensures.0;
      },
    )
