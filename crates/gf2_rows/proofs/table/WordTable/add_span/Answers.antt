use Rattle.std.proofs.Common.{◌≡◌, ◌<◌, ◌-◌, ◌∙◌, sym, ap, arith, length}
use Rattle.gf2_rows.specs.declared.head.Layout.TheVariants.{Whole}
use Rattle.gf2_rows.specs.Heads.{blank, layout_at}
use Rattle.gf2_rows.proofs.Laying.{length-rows, length-part, element}
use Rattle.gf2_rows.proofs.Changes.{pool_room, pool_summed}
use Rattle.gf2_rows.proofs.table.WordTable.add_span.Goals as goal
use Rattle.gf2_rows.proofs.table.WordTable.add_span.Goals.{In-Whole}

row_in : (c : In-Whole) → c.args.row < length c.self.inside.heads.items
row_in c =
    let count : length c.args.self.now ≡ length c.self.inside.heads.items = sym (ap length c.self.view_is) ∙ length-rows c.self.inside.pool.items c.self.inside.heads.items in
    let r = c.requires.row_in in
    omega arith

whole : (c : In-Whole) → layout_at c.self.inside.heads.items c.args.row ≡ Whole c.in-Whole.start
whole c = ap (λ h. h.layout) (element c.self.inside.heads.items c.args.row blank c.index.result.now (row_in c) ∙ sym c.index.ensures) ∙ c.in-Whole.is

pub add_part-requires : goal.add_part-requires
add_part-requires c =
    let s = (goal.at.add_part-requires c).In-Whole in
    let pool = c.self.inside.pool in
    let words = c.args.words.now in
    let room = pool_room pool.cap pool.items words c.self.inside.heads.items c.args.self.now c.args.row c.in-Whole.start (row_in s) (whole s) c.self.view_is c.requires.same c.self.invariant.rows in
    let order = c.requires.span.order in
    let within = c.requires.span.within in
    let long = length-part words (c.args.high - c.args.low) c.args.low (omega arith) in
    let ok = pool.ok.0 in
    omega arith

pub returns-in-Whole-clause-changed : goal.returns-in-Whole-clause-changed
returns-in-Whole-clause-changed c =
    let s = (goal.at.returns-in-Whole-clause-changed c).In-Whole in
    let pool = c.self.inside.pool in
    let all =
    pool_summed pool.cap pool.items c.add_part.new.pool.items c.args.words.now c.self.inside.heads.items c.args.self.now c.args.row c.in-Whole.start c.args.low c.args.high (row_in s) (whole s)
    c.self.view_is c.requires.same c.requires.span c.add_part.ensures.part c.self.invariant.rows in
    all.0

pub returns-in-Whole-clause-sum : goal.returns-in-Whole-clause-sum
returns-in-Whole-clause-sum c =
    let s = (goal.at.returns-in-Whole-clause-sum c).In-Whole in
    let pool = c.self.inside.pool in
    let all =
    pool_summed pool.cap pool.items c.add_part.new.pool.items c.args.words.now c.self.inside.heads.items c.args.self.now c.args.row c.in-Whole.start c.args.low c.args.high (row_in s) (whole s)
    c.self.view_is c.requires.same c.requires.span c.add_part.ensures.part c.self.invariant.rows in
    all.1
