use Rattle.std.proofs.Common.{◌∙◌, ◌-◌, ◌*◌, ◌%◌, ◌<◌, ◌≤◌, arith, sym, ap, subst, length, get_or}
use Rattle.gf2_matrix.specs.Packed.{window, start}
use Rattle.gf2_matrix.specs.Views.{words_for}
use Rattle.gf2_matrix.proofs.Updates.{same_read}
use Rattle.gf2_matrix.proofs.ByColumns.{all_entered, entered_all, entered_more, entered_none, entry_high, entry_low, entry_words, few_for, place_in, start_in}
use Rattle.gf2_matrix.proofs.by_column.by_column.Goals as goal
use Rattle.gf2_matrix.proofs.by_column.by_column.Goals.{In-loop-place}

there : (c : In-loop-place) → c.loop-place.place < length c.args.part.now.numbers.items
there c = subst (λ n. c.loop-place.place < n) (c.len-place-end.ensures ∙ c.args.part.now.numbers.ok.0) c.loop-place-test.true

pub index-requires : goal.index-requires
index-requires c = subst (λ n. c.loop-place.place < n) c.len-place-end.ensures c.loop-place-test.true

pub overflow_sub-index : goal.overflow_sub-index
overflow_sub-index c =
    entry_low (window c.args.part.now) c.args.rows.now c.loop-place.place c.index.result.now c.requires.rows (there (goal.at.overflow_sub-index c).In-loop-place) c.index.ensures

pub row-row-requires : goal.row-row-requires
row-row-requires c =
    entry_high (window c.args.part.now) c.args.rows.now c.loop-place.place c.index.result.now c.requires.rows (there (goal.at.row-row-requires c).In-loop-place) c.index.ensures

pub turn_row-requires-clause-few : goal.turn_row-requires-clause-few
turn_row-requires-clause-few c =
    let w = window c.args.part.now in
    subst (λ n. n < 4294967296) (sym (entry_words w c.args.rows.now c.loop-place.place c.index.result.now c.row-row.result c.requires.rows
    (there (goal.at.turn_row-requires-clause-few c).In-loop-place) c.index.ensures (c.row-row.ensures c.row-row.result))) (few_for w c.requires.few_columns)

pub turn_row-requires-clause-within : goal.turn_row-requires-clause-within
turn_row-requires-clause-within c =
    let w = window c.args.part.now in
    subst (λ k. k ≤ 64 * length c.row-row.result.bits) (sym c.start.ensures)
    (subst (λ n. w.base % 64 ≤ 64 * n) (sym (entry_words w c.args.rows.now c.loop-place.place c.index.result.now c.row-row.result c.requires.rows
    (there (goal.at.turn_row-requires-clause-within c).In-loop-place) c.index.ensures (c.row-row.ensures c.row-row.result))) (start_in w))

pub turn_row-requires-clause-room : goal.turn_row-requires-clause-room
turn_row-requires-clause-room c = λ i lt.
    subst (λ n. c.loop-place.place < 64 * n) (sym (c.loop-place.invariant.sized i lt)) (place_in (there (goal.at.turn_row-requires-clause-room c).In-loop-place))

pub loop-place-init : goal.loop-place-init
loop-place-init c =
    entered_none (window c.args.part.now) c.args.rows.now c.in_ok-sets.sets c.in_ok-sets.ensures.count c.in_ok-sets.ensures.sized c.in_ok-sets.ensures.clear

pub loop-place-preserved : goal.loop-place-preserved
loop-place-preserved c =
    let w = window c.args.part.now in
    let n = c.loop-place.place in
    let row = c.row-row.result in
    let in' : n < length c.args.part.now.numbers.items = let e = c.len-place-end.ensures in let o = c.args.part.now.numbers.ok.0 in let t = c.loop-place-test.true in omega arith in
    entered_more w c.args.rows.now c.loop-place.sets c.turn_row.new.sets n row row c.loop-place.invariant in' (c.requires.rows.low n in') (c.requires.rows.high n in')
    (c.row-row.ensures row ∙ ap (λ k. get_or c.args.rows.now (k - 1) row) (c.index.ensures ∙ same_read c.args.part.now.numbers.items n c.index.result.now 0 in'))
    (rw c.start.ensures at c.turn_row.ensures)

pub returns : goal.returns
returns c =
    let w = window c.args.part.now in
    entered_all w c.args.rows.now _
    (all_entered w c.args.rows.now c.loop-place.sets c.loop-place.place c.len-place-end.result c.loop-place.invariant (c.len-place-end.ensures ∙ c.args.part.now.numbers.ok.0)
    c.loop-place.auto.place-end c.loop-place-test.false)
    (c.in_ok-chosen.ensures.long ∙ ap words_for (c.len.ensures ∙ c.args.part.now.numbers.ok.0))
