use Rattle.std.proofs.Common.{◌+◌, ◌<◌, ◌∙◌, length, sym, subst, arith}
use Rattle.gf2_matrix.proofs.ColumnSets.{first_place}
use Rattle.gf2_matrix.proofs.Steps.{up_to}
use Rattle.gauss_incremental.proofs.Queueing.{awake_all, awake_kept, awake_next, awake_none}
use Rattle.gauss_incremental.proofs.basics.wake_rows_with.Goals as goal
use Rattle.gauss_incremental.proofs.basics.wake_rows_with.Goals.{In-Some}

pub loop-other-init : goal.loop-other-init
loop-other-init c =
    (omega arith, (0, omega arith, first_place c.column_set-words.result.0.now c.column_set-words.ensures.set.rise, awake_none c.args.matrix.now c.args.row c.args.column c.args.watched.now c.args.line.now))

pub next_in_set-requires-clause-rise : goal.next_in_set-requires-clause-rise
next_in_set-requires-clause-rise c = c.column_set-words.ensures.set.rise

pub next_in_set-requires-clause-few : goal.next_in_set-requires-clause-few
next_in_set-requires-clause-few c = c.column_set-words.ensures.set.few

pub next_in_set-requires-clause-room : goal.next_in_set-requires-clause-room
next_in_set-requires-clause-room c = c.column_set-words.ensures.set.room

pub next_in_set-requires-clause-within : goal.next_in_set-requires-clause-within
next_in_set-requires-clause-within c = c.loop-other.invariant.0

-- the row that comes next
next_row : (c : In-Some) → c.in-Some.other < length c.args.watched.now
next_row c =
    let so = c.loop-other.invariant.1 in
    let next = (c.in-Some.ensures.some c.args.matrix.now.rows _ so.0 c.column_set-words.ensures.set so.2).0 in
    subst (λ n. c.in-Some.other < n) (sym c.requires.watched) next.1

pub bounds-watched-other : goal.bounds-watched-other
bounds-watched-other c = next_row (goal.at.bounds-watched-other c).In-Some

pub offset_bounds-watched-other : goal.offset_bounds-watched-other
offset_bounds-watched-other c = let h = next_row (goal.at.offset_bounds-watched-other c).In-Some in omega (arith, c.well_formed)

pub push-requires : goal.push-requires
push-requires c =
    let h = next_row (goal.at.push-requires c).In-Some in
    let long = c.loop-other.invariant.1.3.long in
    omega (arith, c.requires.same, c.requires.watched)

pub loop-other-preserved-then-not-keeps_watched : goal.loop-other-preserved-then-not-keeps_watched
loop-other-preserved-then-not-keeps_watched c =
    let so = c.loop-other.invariant.1 in
    let next = c.in-Some.ensures.some c.args.matrix.now.rows _ so.0 c.column_set-words.ensures.set so.2 in (
      c.in-Some.ensures.near.1,
      (
        c.in-Some.other + 1,
        up_to next.0.1,
        next.1,
        awake_next c.args.matrix.now c.args.row c.args.column c.args.watched.now c.args.line.now c.loop-other.line c.push.new.self so.0 c.in-Some.other so.3 next.0 c.push.ensures (sym (c.keeps_watched.ensures c.args.row c.row_bits-bits.ensures) ∙ c.if-not-keeps_watched.true),
      ),
    )

pub loop-other-preserved : goal.loop-other-preserved
loop-other-preserved c =
    let so = c.loop-other.invariant.1 in
    let next = c.in-Some.ensures.some c.args.matrix.now.rows _ so.0 c.column_set-words.ensures.set so.2 in (
      c.in-Some.ensures.near.1,
      (
        c.in-Some.other + 1,
        up_to next.0.1,
        next.1,
        awake_kept c.args.matrix.now c.args.row c.args.column c.args.watched.now c.args.line.now c.loop-other.line so.0 c.in-Some.other so.3 next.0 (sym (c.keeps_watched.ensures c.args.row c.row_bits-bits.ensures) ∙ c.if-not-keeps_watched.false),
      ),
    )

pub loop-other-smaller-then-not-keeps_watched : goal.loop-other-smaller-then-not-keeps_watched
loop-other-smaller-then-not-keeps_watched c = let low = c.in-Some.ensures.near.0 in let high = c.in-Some.ensures.near.1 in omega arith

pub loop-other-smaller : goal.loop-other-smaller
loop-other-smaller c = let low = c.in-Some.ensures.near.0 in let high = c.in-Some.ensures.near.1 in omega arith

pub returns : goal.returns
returns c =
    let so = c.loop-other.invariant.1 in
    awake_all c.args.matrix.now c.args.row c.args.column c.args.watched.now c.args.line.now c.loop-other.line so.0 so.3 so.1 (c.in_default.ensures.none c.args.matrix.now.rows _ so.0 c.column_set-words.ensures.set so.2) c.requires.same
