use Rattle.std.proofs.Common.{◌∙◌, ◌-◌, ◌*◌, ◌<◌, sym, length, arith}
use Rattle.gf2_rows.specs.Bits.{bit_of}
use Rattle.gf2_rows.specs.Tables.{words_at}
use Rattle.gf2_rows.proofs.Words.{bit_of_sum}
use Rattle.gf2_matrix.proofs.ByColumns.{turned_past, turned_all, turned_next}
use Rattle.gf2_matrix.proofs.by_column.turn_sets.Goals as goal

pub returns-then-column-rows : goal.returns-then-column-rows
returns-then-column-rows c =
    turned_past (bit_of c.args.chosen.now) c.args.bits.now c.args.start c.args.sets.now c.loop-bit.sets c.loop-bit.from c.loop-bit.invariant.2 c.loop-bit.invariant.0
    (64 * length c.args.bits.now) c.in-Some.bit c.in-Some.ensures.1 (let t = c.if-column-rows.true in let e = c.rows.ensures in omega arith)

pub loop-bit-preserved : goal.loop-bit-preserved
loop-bit-preserved c =
    let n = c.in-Some.bit - c.args.start in
    let turned = c.loop-bit.invariant.2 in
    let in' : n < length c.loop-bit.sets = let f = c.if-column-rows.false in let e = c.rows.ensures in omega arith in
    let at = c.in-Some.ensures.1.low in
    let low = c.loop-bit.invariant.0 in
    let within = c.in-Some.ensures.0 in
    let change = c.add_span.ensures.changed in (
      omega arith,
      omega arith,
      turned_next (bit_of c.args.chosen.now) c.args.bits.now c.args.start c.args.sets.now c.loop-bit.sets c.loop-bit.from turned low (64 * length c.args.bits.now) c.in-Some.bit c.add_span.new.self
          c.in-Some.ensures.1 within in' change
          (bit_of_sum (words_at c.add_span.new.self n) (words_at c.loop-bit.sets n) c.args.chosen.now change.words (turned.same n ∙ c.requires.sized n (let l = turned.long in omega arith)) c.add_span.ensures.sum),
    )

pub add_span-requires-clause-same : goal.add_span-requires-clause-same
add_span-requires-clause-same c =
    let n = c.in-Some.bit - c.args.start in
    let turned = c.loop-bit.invariant.2 in
    let f = c.if-column-rows.false in
    let e = c.rows.ensures in
    let l = turned.long in
    sym (turned.same n ∙ c.requires.sized n (omega arith))

pub returns : goal.returns
returns c =
    turned_all (bit_of c.args.chosen.now) c.args.bits.now c.args.start c.args.sets.now c.loop-bit.sets c.loop-bit.from c.loop-bit.invariant.2 c.loop-bit.invariant.0 c.in_default.ensures
