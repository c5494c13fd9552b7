use Rattle.std.proofs.Common.{◌≡◌, ◌<◌, ◌∙◌, sym, ap, subst, arith, length, get_or, set}
use Rattle.gf2_rows.specs.Heads.{AreRows, blank, begin_of, extent_in, extent_at, is_whole}
use Rattle.gf2_rows.proofs.Laying.{element, laid_out_rows}
use Rattle.gf2_rows.proofs.pool.start_up_to.Goals as goal

pub lay_whole-requires-clause-within : goal.lay_whole-requires-clause-within
lay_whole-requires-clause-within c =
    let heads = c.args.heads.now in
    let row = c.args.row in
    let head = c.index_mut-head.result.now in
    let count = heads.ok.0 in
    let row_in = c.requires.row_in in
    let lt : row < length heads.items = omega arith in
    let at : get_or heads.items row blank ≡ head = element heads.items row blank head lt ∙ sym c.index_mut-head.ensures.value in
    let within = c.requires.rows.within row c.in-Short.start (ap (λ h. begin_of (h.layout)) at ∙ ap begin_of c.in-Short.is) in
    let extent : extent_at heads.items row ≡ c.in-Short.count = ap (λ h. extent_in (h.few) (h.layout)) at ∙ ap (extent_in (head.few)) c.in-Short.is in
    let pool = c.args.pool.now.ok.0 in
    omega arith

pub returns-in-Few-clause-rows : goal.returns-in-Few-clause-rows
returns-in-Few-clause-rows c =
    let heads = c.args.heads.now in
    let pool = c.args.pool.now in
    let count = heads.ok.0 in
    let row_in = c.requires.row_in in
    let lt : c.args.row < length heads.items = omega arith in
    let laid = c.lay_out.ensures in
    subst (λ k. AreRows k c.lay_out.new.pool.items (set heads.items c.args.row c.lay_out.new.head)) (sym laid.room)
    (laid_out_rows pool.cap pool.items c.lay_out.new.pool.items heads.items c.args.row c.index_mut-head.result.now c.lay_out.new.head lt c.index_mut-head.ensures.value (ap is_whole c.in-Few.is) laid.laid c.requires.rows).0

pub returns-in-Few-clause-same : goal.returns-in-Few-clause-same
returns-in-Few-clause-same c =
    let heads = c.args.heads.now in
    let pool = c.args.pool.now in
    let count = heads.ok.0 in
    let row_in = c.requires.row_in in
    let lt : c.args.row < length heads.items = omega arith in
    (laid_out_rows pool.cap pool.items c.lay_out.new.pool.items heads.items c.args.row c.index_mut-head.result.now c.lay_out.new.head lt c.index_mut-head.ensures.value (ap is_whole c.in-Few.is) c.lay_out.ensures.laid c.requires.rows).1

pub returns-else-high-count-clause-rows : goal.returns-else-high-count-clause-rows
returns-else-high-count-clause-rows c =
    let heads = c.args.heads.now in
    let pool = c.args.pool.now in
    let count = heads.ok.0 in
    let row_in = c.requires.row_in in
    let lt : c.args.row < length heads.items = omega arith in
    let laid = c.lay_whole.ensures in
    subst (λ k. AreRows k c.lay_whole.new.pool.items (set heads.items c.args.row c.lay_whole.new.head)) (sym laid.room)
    (laid_out_rows pool.cap pool.items c.lay_whole.new.pool.items heads.items c.args.row c.index_mut-head.result.now c.lay_whole.new.head lt c.index_mut-head.ensures.value (ap is_whole c.in-Short.is) laid.laid c.requires.rows).0

pub returns-else-high-count-clause-same : goal.returns-else-high-count-clause-same
returns-else-high-count-clause-same c =
    let heads = c.args.heads.now in
    let pool = c.args.pool.now in
    let count = heads.ok.0 in
    let row_in = c.requires.row_in in
    let lt : c.args.row < length heads.items = omega arith in
    (laid_out_rows pool.cap pool.items c.lay_whole.new.pool.items heads.items c.args.row c.index_mut-head.result.now c.lay_whole.new.head lt c.index_mut-head.ensures.value (ap is_whole c.in-Short.is) c.lay_whole.ensures.laid c.requires.rows).1
