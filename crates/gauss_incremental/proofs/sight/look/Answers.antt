use Rattle.std.proofs.Common.{◌≤◌, ◌∙◌, subst, sym}
use Rattle.gf2_matrix.specs.Bits.{reach}
use Rattle.gauss_incremental.specs.Idle.{IsSeen}
use Rattle.gauss_incremental.proofs.Sights.{closed_ready, shut_by, unit_seen, watch_seen, whole_seen}
use Rattle.gauss_incremental.proofs.sight.look.Goals as goal

pub returns-then-not-is_free : goal.returns-then-not-is_free
returns-then-not-is_free c =
    let m = c.args.matrix.now in
    let v = c.args.values.now in
    subst (IsSeen m v.mask.now v.truths.now c.args.row c.args.basic) (sym c.whole.ensures)
    (whole_seen m v.mask.now v.truths.now c.args.row c.args.basic c.is_unmet.result (closed_ready m v.mask.now c.args.row c.args.basic c.requires.ready (sym c.is_free.ensures ∙ c.if-not-is_free.true))
    (c.is_unmet.ensures m c.args.row c.row_bits-bits.ensures c.requires.wide))

pub returns-in-None : goal.returns-in-None
returns-in-None c =
    let m = c.args.matrix.now in
    let v = c.args.values.now in
    subst (IsSeen m v.mask.now v.truths.now c.args.row c.args.basic) (sym c.unit.ensures)
    (unit_seen m v.mask.now v.truths.now c.args.row c.args.basic c.is_unmet-in-None.result c.requires.own (shut_by m v.mask.now c.args.row c.args.basic (λ k lt free kept. sym (c.row_bits-bits.ensures.bits k lt) ∙ c.in-None.ensures k free kept)) (sym c.is_free.ensures ∙ c.if-not-is_free.false)
    (c.is_unmet-in-None.ensures m c.args.row c.row_bits-bits.ensures c.requires.wide))

pub returns-in-Some : goal.returns-in-Some
returns-in-Some c =
    let v = c.args.values.now in
    watch_seen c.row_bits-bits.ensures v.mask.now v.truths.now c.args.basic c.in-Some.column c.in-Some.ensures

pub returns-in-Some-outside_near : goal.returns-in-Some-outside_near
returns-in-Some-outside_near c =
    let v = c.args.values.now in
    watch_seen c.row_bits-bits.ensures v.mask.now v.truths.now c.args.basic c.in-Some-outside_near.column c.in-Some-outside_near.ensures

pub outside_near-requires : goal.outside_near-requires
outside_near-requires c = subst (λ n. reach c.row_bits-bits.result ≤ n) (sym c.requires.long) c.row_bits-bits.ensures.room

pub is_unmet-requires : goal.is_unmet-requires
is_unmet-requires c = subst (λ n. reach c.row_bits-bits.result ≤ n) (sym c.requires.wide) c.row_bits-bits.ensures.room

pub is_unmet-requires-in-None : goal.is_unmet-requires-in-None
is_unmet-requires-in-None c = subst (λ n. reach c.row_bits-bits.result ≤ n) (sym c.requires.wide) c.row_bits-bits.ensures.room
