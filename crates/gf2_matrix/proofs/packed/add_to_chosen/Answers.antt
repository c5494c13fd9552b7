use Rattle.std.proofs.Common.{◌≡◌, ◌+◌, ◌-◌, ◌*◌, sym, subst, length, get_or, arith}
use Rattle.gf2_matrix.specs.declared.packed.PackedRow.{PackedRow}
use Rattle.gf2_matrix.specs.Packed.{AreLengths, IsSumRow}
use Rattle.gf2_matrix.proofs.ByColumns.{chosen_past, chosen_all, chosen_next, chosen_untouched}
use Rattle.gf2_matrix.proofs.packed.add_to_chosen.Goals as goal

pub returns-then-place-numbers : goal.returns-then-place-numbers
returns-then-place-numbers c =
    chosen_past c.args.pivot.now.row c.args.pivot.now.bit c.args.pivot.now.copy.now c.args.numbers.now c.args.chosen.now c.args.rows.now c.loop-place.rows c.loop-place.from c.requires.places c.requires.chosen c.loop-place.invariant.1
    (64 * length c.args.chosen.now) c.in-Some.place c.in-Some.ensures.1 (let t = c.if-place-numbers.true in omega arith)

pub add-requires-clause-row_in : goal.add-requires-clause-row_in
add-requires-clause-row_in c =
    let f = c.if-place-numbers.false in
    let high = c.requires.places.high c.in-Some.place (omega arith) in
    let low = c.requires.places.low c.in-Some.place (omega arith) in
    let long = c.loop-place.invariant.1.long in
    omega arith

pub add-requires-clause-sized : goal.add-requires-clause-sized
add-requires-clause-sized c = λ d.
    let f = c.if-place-numbers.false in
    let low = c.requires.places.low c.in-Some.place (omega arith) in
    let copy = c.args.pivot.now.copy.now in
    subst (λ (p : PackedRow). AreLengths (length p.bits) (length p.sources) (get_or c.loop-place.rows (get_or c.args.numbers.now c.in-Some.place 0 - 1) d)) (sym c.summand-summand.ensures)
    (subst (λ (r : PackedRow). AreLengths (length copy.bits) (length copy.sources) r)
    (sym (chosen_untouched c.args.pivot.now.row c.args.pivot.now.bit copy c.args.numbers.now c.args.chosen.now c.args.rows.now c.loop-place.rows c.loop-place.from c.requires.places c.requires.chosen c.loop-place.invariant.1
    c.in-Some.place (get_or c.args.numbers.now c.in-Some.place 0 - 1) c.in-Some.ensures.1.low (omega arith) (omega arith) d))
    (c.requires.sized c.in-Some.place d (omega arith)))

pub loop-place-preserved : goal.loop-place-preserved
loop-place-preserved c =
    let f = c.if-place-numbers.false in
    let within = c.in-Some.ensures.0 in
    let low = c.requires.places.low c.in-Some.place (omega arith) in
    let j = get_or c.args.numbers.now c.in-Some.place 0 - 1 in
    let at : get_or c.args.numbers.now c.in-Some.place 0 ≡ j + 1 = omega arith in (
      omega arith,
      chosen_next c.args.pivot.now.row c.args.pivot.now.bit c.args.pivot.now.copy.now c.args.numbers.now c.args.chosen.now c.args.rows.now c.loop-place.rows c.loop-place.from c.requires.places c.requires.chosen c.loop-place.invariant.1
          (64 * length c.args.chosen.now) c.in-Some.place j c.add.new.self c.in-Some.ensures.1 within (omega arith) at c.add.ensures.others
          (λ d. subst (λ (p : PackedRow). IsSumRow (get_or c.add.new.self j d) (get_or c.loop-place.rows j d) p) c.summand-summand.ensures (c.add.ensures.row d)),
    )

pub returns : goal.returns
returns c =
    chosen_all c.args.pivot.now.row c.args.pivot.now.bit c.args.pivot.now.copy.now c.args.numbers.now c.args.chosen.now c.args.rows.now c.loop-place.rows c.loop-place.from c.requires.places c.requires.chosen c.loop-place.invariant.1
    c.in_default.ensures
