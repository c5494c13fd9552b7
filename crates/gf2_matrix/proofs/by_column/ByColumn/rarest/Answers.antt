use Rattle.std.proofs.Common.{◌≡◌, ℕ, ◌∙◌, ◌<◌, ◌≤◌, ◌+◌, ◌-◌, length, Option, Some, sym, ap, subst, arith}
use Rattle.gf2_rows.specs.Bits.{bit_of}
use Rattle.gf2_rows.specs.Tables.{words_at}
use Rattle.gf2_matrix.specs.ByColumn.{set_size}
use Rattle.gf2_matrix.proofs.Steps.{later, later_still, nearer, up_to, bit_step_fits}
use Rattle.gf2_matrix.proofs.ByColumns.{IsRarestBefore, alone_rarest, set_small, rarest_none, rarest_taken, rarest_stays, column_past, rarest_past, column_all, rarest_all}
use Rattle.gf2_matrix.proofs.by_column.ByColumn.rarest.Goals as goal
use Rattle.gf2_matrix.proofs.by_column.ByColumn.rarest.Goals.{in-Some-fewer_ones+else-rows-le1, in_default-fewer_ones}

pub next_one-requires-clause-few : goal.next_one-requires-clause-few
next_one-requires-clause-few c = c.requires.few

pub next_one-requires-clause-within : goal.next_one-requires-clause-within
next_one-requires-clause-within c = c.loop-bit.invariant.1

pub overflow_sub-column : goal.overflow_sub-column
overflow_sub-column c = later c.loop-bit.invariant.0 c.in-Some.ensures.1.low

pub row-requires : goal.row-requires
row-requires c = subst (λ n. c.in-Some.bit - c.args.start < n) c.rows.ensures c.if-column-rows.false

pub fewer_ones-requires : goal.fewer_ones-requires
fewer_ones-requires c =
    let in' = subst (λ n. c.in-Some.bit - c.args.start < n) c.rows.ensures c.if-column-rows.false in
    subst (λ n. n < 4294967296) (sym (ap length c.row.ensures ∙ c.requires.sized (c.in-Some.bit - c.args.start) in')) c.requires.room

pub overflow_add-from : goal.overflow_add-from
overflow_add-from c = bit_step_fits c.in-Some.ensures.0 c.requires.few

pub loop-bit-init : goal.loop-bit-init
loop-bit-init c = (omega arith, c.requires.within, rarest_none c.args.bits.now c.args.start c.args.self.now.sets)

pub loop-bit-preserved : goal.loop-bit-preserved
loop-bit-preserved c =
    let bits = c.args.bits.now in
    let first = c.args.start in
    let sets = c.args.self.now.sets in
    let bit = c.in-Some.bit in
    let so = c.loop-bit.invariant.2 in
    let within = c.in-Some.ensures.0 in
    let is = c.in-Some.ensures.1 in
    let low = later c.loop-bit.invariant.0 is.low in
    let in' = subst (λ n. bit - first < n) c.rows.ensures c.if-column-rows.false in
    let size : set_size c.row.result ≡ set_size (words_at sets (bit - first)) = ap set_size c.row.ensures in (
      later_still c.loop-bit.invariant.0 is.low,
      up_to within,
      elim c.match-fewer_ones.branch [
        | in-Some-fewer_ones+else-rows-le1 w ↦
            let found = w.in-Some-fewer_ones.ensures in
            subst (λ (r : Option ℕ). IsRarestBefore bits first sets (bit + 1) r c.match-fewer_ones.fewest) (sym w.rarest-is)
            (subst (λ n. IsRarestBefore bits first sets (bit + 1) (Some (bit - first)) n) (sym w.fewest-is)
            (rarest_taken bits first sets c.loop-bit.from _ bit c.loop-bit.rarest c.loop-bit.fewest w.in-Some-fewer_ones.rows so is within low in' (found.0 ∙ size) found.1))
        | in_default-fewer_ones w ↦
            let few = subst (λ n. n < 4294967296) (sym (ap length c.row.ensures ∙ c.requires.sized (bit - first) in')) c.requires.room in
            subst (λ (r : Option ℕ). IsRarestBefore bits first sets (bit + 1) r c.match-fewer_ones.fewest) (sym w.rarest-is)
            (subst (λ n. IsRarestBefore bits first sets (bit + 1) c.loop-bit.rarest n) (sym w.fewest-is)
            (rarest_stays bits first sets c.loop-bit.from _ bit c.loop-bit.rarest c.loop-bit.fewest (set_size c.row.result) so is low in' size (set_small c.row.result few) w.in_default-fewer_ones.ensures))
      ],
    )

pub loop-bit-smaller : goal.loop-bit-smaller
loop-bit-smaller c = nearer c.in-Some.ensures.1.low c.in-Some.ensures.0

pub returns-then-column-rows-clause-column : goal.returns-then-column-rows-clause-column
returns-then-column-rows-clause-column c =
    let sets = c.args.self.now.sets in
    column_past c.args.bits.now c.args.start (length sets) c.loop-bit.from _ c.in-Some.bit c.loop-bit.rarest c.loop-bit.invariant.2.column c.in-Some.ensures.1
    (subst (λ n. n ≤ c.in-Some.bit - c.args.start) c.rows.ensures c.if-column-rows.true)

pub returns-then-column-rows-clause-rarest : goal.returns-then-column-rows-clause-rarest
returns-then-column-rows-clause-rarest c =
    let sets = c.args.self.now.sets in
    rarest_past c.args.bits.now c.args.start sets c.loop-bit.from _ c.in-Some.bit c.loop-bit.rarest c.loop-bit.fewest c.loop-bit.invariant.2 c.in-Some.ensures.1
    (subst (λ n. n ≤ c.in-Some.bit - c.args.start) c.rows.ensures c.if-column-rows.true)

pub returns-then-rows-le1-clause-column : goal.returns-then-rows-le1-clause-column
returns-then-rows-le1-clause-column c =
    let first = c.args.start in
    let bit = c.in-Some.bit in
    let is = c.in-Some.ensures.1 in
    let low = later c.loop-bit.invariant.0 is.low in
    let in' = subst (λ n. bit - first < n) c.rows.ensures c.if-column-rows.false in
    let back : first + (bit - first) ≡ bit = omega arith in
    (in', ap (bit_of c.args.bits.now) back ∙ is.hit c.in-Some.ensures.0)

pub returns-then-rows-le1-clause-rarest : goal.returns-then-rows-le1-clause-rarest
returns-then-rows-le1-clause-rarest c =
    let sets = c.args.self.now.sets in
    let column = c.in-Some.bit - c.args.start in
    λ i j found j_in on.
    alone_rarest sets column i j c.in-Some-fewer_ones.rows (c.in-Some-fewer_ones.ensures.0 ∙ ap set_size c.row.ensures) c.if-rows-le1.true found (c.requires.some j j_in on)

pub returns-clause-column : goal.returns-clause-column
returns-clause-column c =
    column_all c.args.bits.now c.args.start (length c.args.self.now.sets) c.loop-bit.from c.loop-bit.rarest c.loop-bit.invariant.2.column c.in_default.ensures

pub returns-clause-rarest : goal.returns-clause-rarest
returns-clause-rarest c =
    rarest_all c.args.bits.now c.args.start c.args.self.now.sets c.loop-bit.from c.loop-bit.rarest c.loop-bit.fewest c.loop-bit.invariant.2 c.in_default.ensures
