use Rattle.std.proofs.Common.{◌≡◌, ◌*◌, ◌+◌, ◌∙◌, ap, sym, arith, rules, length, ℕ, List, map}
use Rattle.std.specs.Prelude.{bit_and}
use Rattle.std.specs.Int.RustNames.{bit_xor}
use Rattle.std.specs.Simd.Lanes.{zip2, chunk, fold_l}
use Rattle.std.proofs.lemmas.Simd.{length-zip2, length-chunk}
use Rattle.cx_base.specs.Literals.{differ}
use Rattle.cx_base.specs.Parity.{odd_sum}
use Rattle.gf2_rows.proofs.Words.{parity_of, parity_of-zero, products_of_rows, parity_of-ones, products_upto}
use Rattle.gf2_rows.proofs.Blocks.{parity-lanes, parity-reduced, products_block, reduced_lt}
use Rattle.gf2_rows.proofs.lanes.parity_of_blocks.Goals as goal

pub loop-block-preserved : goal.loop-block-preserved
loop-block-preserved c =
    let at : ℕ = 8 * c.loop-block.block in
    let e : 8 * (c.loop-block.block + 1) ≡ at + 8 = omega arith in
    let ws : List ℕ = zip2 bit_and (chunk at 8 c.args.a.now) (chunk at 8 c.args.b.now) in
    let longa : length (chunk at 8 c.args.a.now) ≡ 8 = length-chunk at 8 c.args.a.now (omega arith) in
    let longb : length (chunk at 8 c.args.b.now) ≡ 8 = length-chunk at 8 c.args.b.now (omega arith) in
    let long : length ws ≡ 8 = length-zip2 bit_and (chunk at 8 c.args.a.now) (chunk at 8 c.args.b.now) (longa ∙ sym longb) ∙ longa in (
      length-zip2 bit_xor c.loop-block.sums ws (c.loop-block.invariant.0 ∙ sym long) ∙ c.loop-block.invariant.0,
      parity-lanes c.loop-block.sums ws (c.loop-block.invariant.0 ∙ sym long)
          ∙ ap (λ x. differ x (odd_sum (map parity_of ws))) c.loop-block.invariant.1
          ∙ sym (products_block c.args.a.now c.args.b.now at 8 (omega arith) c.requires.same)
          ∙ ap (λ n. products_upto c.args.a.now c.args.b.now (64 * n)) (sym e),
    )

pub returns : goal.returns
returns c =
    let sums = c.loop-block.sums in
    let all : 8 * c.loop-block.block ≡ length c.args.a.now = omega arith in
    sym (parity_of-ones (fold_l bit_xor 0 sums) (let h = reduced_lt 0 sums (search rules) c.loop-block.auto.sums.1 in h.fits)) ∙ parity-reduced 0 sums ∙ ap (λ x. differ x (odd_sum (map parity_of sums))) parity_of-zero ∙ c.loop-block.invariant.1
    ∙ products_of_rows c.args.a.now c.args.b.now (8 * c.loop-block.block) all c.requires.same
