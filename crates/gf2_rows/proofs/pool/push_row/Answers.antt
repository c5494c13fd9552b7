use Rattle.std.proofs.Common.{◌≡◌, ◌≤◌, Some, ◌∙◌, ◌++◌, ◌∷◌, [], length, arith, sym, ap, subst}
use Rattle.gf2_rows.specs.Heads.{begin_at, extent_at, AreKept, AreRows, StayLaid}
use Rattle.gf2_rows.proofs.Laying.{few_head, zero_head, pushed_rows, wide_more, wide_pushed}
use Rattle.gf2_rows.proofs.pool.push_row.Goals as goal

pub start_up_to-requires-clause-rows : goal.start_up_to-requires-clause-rows
start_up_to-requires-clause-rows c =
    let heads = c.args.heads.now.items in
    let pool = c.args.pool.now in
    let items : c.push_reserved.new.self.items ≡ heads ++ zero_head c.args.width ∷ [] = c.push_reserved.ensures.items ∙ ap (λ few. heads ++ few_head few ∷ []) c.make.ensures in
    subst (AreRows pool.cap pool.items) (sym items) (pushed_rows pool.cap pool.items heads c.args.width c.requires.rows.rows c.requires.room)

pub returns-else-width-le-FEW-clause-rows : goal.returns-else-width-le-FEW-clause-rows
returns-else-width-le-FEW-clause-rows c =
    let heads = c.args.heads.now.items in
    let pool = c.args.pool.now in
    let items : c.push_reserved.new.self.items ≡ heads ++ zero_head c.args.width ∷ [] = c.push_reserved.ensures.items ∙ ap (λ few. heads ++ few_head few ∷ []) c.make.ensures in
    subst (AreKept pool.cap pool.items) (sym items)
    (record {
      rows = pushed_rows pool.cap pool.items heads c.args.width c.requires.rows.rows c.requires.room;
      wide = wide_more heads c.args.width (let t = c.if-width-le-FEW.false in omega arith) c.requires.rows.wide;
    })

pub returns-then-width-le-FEW-clause-rows : goal.returns-then-width-le-FEW-clause-rows
returns-then-width-le-FEW-clause-rows c =
    let heads = c.args.heads.now in
    let new = c.start_up_to.new.heads in
    let w = c.args.width in
    let items : c.push_reserved.new.self.items ≡ heads.items ++ zero_head w ∷ [] = c.push_reserved.ensures.items ∙ ap (λ few. heads.items ++ few_head few ∷ []) c.make.ensures in
    let laid : StayLaid (heads.items ++ zero_head w ∷ []) new.items = subst (λ hs. StayLaid hs new.items) items c.start_up_to.ensures.heads.2 in
    let row : c.len-row.result ≡ length heads.items = let a = c.len-row.ensures in let b = heads.ok.0 in omega arith in
    let long = c.start_up_to.ensures.heads.0 in
    let pushed = c.push_reserved.ensures.len in
    let count = heads.ok.0 in
    let new_count = new.ok.0 in
    let pool = c.start_up_to.new.pool in
    record {
      rows = c.start_up_to.ensures.rows;
      wide = wide_pushed pool.cap pool.items heads.items new.items w c.start_up_to.result (omega arith) laid c.start_up_to.ensures.rows
          (subst (λ r. begin_at new.items r ≡ Some c.start_up_to.result) row c.start_up_to.ensures.laid.0)
          (subst (λ r. w ≤ extent_at new.items r) row c.start_up_to.ensures.laid.1) c.requires.rows.wide;
    }
