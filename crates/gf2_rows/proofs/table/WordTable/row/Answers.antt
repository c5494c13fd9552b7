use Rattle.std.proofs.Common.{◌≡◌, ◌<◌, ◌∙◌, sym, ap, arith, length, get_or}
use Rattle.gf2_rows.specs.Heads.{blank, begin_of, extent_in, extent_at, width_at}
use Rattle.gf2_rows.proofs.Laying.{length-rows, length-part, element}
use Rattle.gf2_rows.proofs.Changes.{whole_extent}
use Rattle.gf2_rows.proofs.table.WordTable.row.Goals as goal

pub part-requires : goal.part-requires
part-requires c =
    let heads = c.self.inside.heads.items in
    let pool = c.self.inside.pool.items in
    let head = c.index-head.result.now in
    let row = c.args.row in
    let count : length c.args.self.now ≡ length heads = sym (ap length c.self.view_is) ∙ length-rows pool heads in
    let lt : row < length heads = omega arith in
    let at : get_or heads row blank ≡ head = element heads row blank head lt ∙ sym c.index-head.ensures in
    let within = c.self.invariant.rows.within row c.in-Whole.start (ap (λ h. begin_of (h.layout)) at ∙ ap begin_of c.in-Whole.is) in
    let width : width_at heads row ≡ length (head.few) = ap (λ h. length (h.few)) at in
    let extent = whole_extent heads row c.in-Whole.start (ap (λ h. h.layout) at ∙ c.in-Whole.is) in
    let many = c.len.ensures.len in
    let all = ap length c.deref.ensures.value in
    omega arith

pub part-requires-in-Short : goal.part-requires-in-Short
part-requires-in-Short c =
    let heads = c.self.inside.heads.items in
    let pool = c.self.inside.pool.items in
    let head = c.index-head.result.now in
    let row = c.args.row in
    let count : length c.args.self.now ≡ length heads = sym (ap length c.self.view_is) ∙ length-rows pool heads in
    let lt : row < length heads = omega arith in
    let at : get_or heads row blank ≡ head = element heads row blank head lt ∙ sym c.index-head.ensures in
    let within = c.self.invariant.rows.within row c.in-Short.start (ap (λ h. begin_of (h.layout)) at ∙ ap begin_of c.in-Short.is) in
    let extent : extent_at heads row ≡ c.in-Short.count = ap (λ h. extent_in (h.few) (h.layout)) at ∙ ap (extent_in (head.few)) c.in-Short.is in
    let all = ap length c.deref-in-Short.ensures.value in
    omega arith

pub short-requires : goal.short-requires
short-requires c =
    let heads = c.self.inside.heads.items in
    let pool = c.self.inside.pool.items in
    let head = c.index-head.result.now in
    let row = c.args.row in
    let count : length c.args.self.now ≡ length heads = sym (ap length c.self.view_is) ∙ length-rows pool heads in
    let lt : row < length heads = omega arith in
    let at : get_or heads row blank ≡ head = element heads row blank head lt ∙ sym c.index-head.ensures in
    let start = c.in-Short.start in
    let count = c.in-Short.count in
    let within = c.self.invariant.rows.within row start (ap (λ h. begin_of (h.layout)) at ∙ ap begin_of c.in-Short.is) in
    let extent : extent_at heads row ≡ count = ap (λ h. extent_in (h.few) (h.layout)) at ∙ ap (extent_in (head.few)) c.in-Short.is in
    let many = c.self.invariant.rows.short row start count (ap (λ h. h.layout) at ∙ c.in-Short.is) in
    let width : width_at heads row ≡ length (head.few) = ap (λ h. length (h.few)) at in
    let all = ap length c.deref-in-Short.ensures.value in
    let long = ap length c.part-in-Short.ensures ∙ length-part c.deref-in-Short.result.now count start (omega arith) in
    omega (arith, long, many, width, c.len-in-Short.ensures.len)
