use Rattle.std.proofs.Common.{◌-◌, ◌*◌, ◌<◌, eqb, sym, subst, length, arith}
use Rattle.gf2_rows.specs.Tables.{words_at}
use Rattle.gf2_matrix.proofs.ByColumns.{turned_past, turned_all, turned_next}
use Rattle.gf2_matrix.proofs.RowTables.{turned_bit}
use Rattle.gf2_matrix.proofs.by_column.turn_row.Goals as goal

pub returns-then-column-rows : goal.returns-then-column-rows
returns-then-column-rows c =
    turned_past (λ m. eqb m c.args.place) c.args.bits.now c.args.start c.args.sets.now c.loop-bit.sets c.loop-bit.from c.loop-bit.invariant.2 c.loop-bit.invariant.0
    (64 * length c.args.bits.now) c.in-Some.bit c.in-Some.ensures.1 (let t = c.if-column-rows.true in let e = c.rows.ensures in omega arith)

pub flip-requires-clause-bit_in : goal.flip-requires-clause-bit_in
flip-requires-clause-bit_in c =
    let n = c.in-Some.bit - c.args.start in
    let turned = c.loop-bit.invariant.2 in
    let f = c.if-column-rows.false in
    let e = c.rows.ensures in
    let l = turned.long in
    subst (λ k. c.args.place < 64 * k) (sym (turned.same n)) (c.requires.room n (omega arith))

pub loop-bit-preserved : goal.loop-bit-preserved
loop-bit-preserved c =
    let n = c.in-Some.bit - c.args.start in
    let turned = c.loop-bit.invariant.2 in
    let in' : n < length c.loop-bit.sets = let f = c.if-column-rows.false in let e = c.rows.ensures in omega arith in
    let at = c.in-Some.ensures.1.low in
    let low = c.loop-bit.invariant.0 in
    let within = c.in-Some.ensures.0 in
    let change = c.flip.ensures.changed in
    let room = subst (λ k. c.args.place < 64 * k) (sym (turned.same n)) (c.requires.room n (let l = turned.long in omega arith)) in (
      omega arith,
      omega arith,
      turned_next (λ m. eqb m c.args.place) c.args.bits.now c.args.start c.args.sets.now c.loop-bit.sets c.loop-bit.from turned low (64 * length c.args.bits.now) c.in-Some.bit c.flip.new.self
          c.in-Some.ensures.1 within in' change
          (turned_bit (words_at c.loop-bit.sets n) (words_at c.flip.new.self n) c.args.place change.words room c.flip.ensures.bits),
    )

pub returns : goal.returns
returns c =
    turned_all (λ m. eqb m c.args.place) c.args.bits.now c.args.start c.args.sets.now c.loop-bit.sets c.loop-bit.from c.loop-bit.invariant.2 c.loop-bit.invariant.0 c.in_default.ensures
