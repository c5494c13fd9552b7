use Rattle.std.proofs.Common.{ℕ, List, ◌≡◌, ◌<◌, ◌∙◌, sym, ap, subst, arith, length, get_or}
use Rattle.std.proofs.lemmas.List.{get_or_default}
use Rattle.parity_engine.specs.Written.{Rises}
use Rattle.parity_engine.proofs.Rising.{columns_rise}
use Rattle.gf2_matrix.specs.Columns.{place}
use Rattle.gf2_lists.proofs.Reading.{row_rises, next_none, next_some}
use Rattle.gf2_lists.proofs.rows.ListedRows.next_column.Goals as goal
use Rattle.gf2_lists.proofs.rows.ListedRows.next_column.Goals.{After-count_below-place}

pub count_below-place-requires : goal.count_below-place-requires
count_below-place-requires c =
    let m = c.self.inside in
    columns_rise 1 m.vars c.deref.result.now
    (row_rises m.vars m.given m.columns.items m.rows.items c.self.invariant.2 c.args.self.now c.self.view_is c.args.row c.index.result.now c.deref.result.now c.requires c.index.ensures c.deref.ensures.value)

from_in : (c : After-count_below-place) → c.args.from < length c.self.inside.columns.items
from_in c = let long = c.self.inside.columns.ok.0 in let count = c.len.ensures in let test = c.if-from-len.false in omega arith

bound_is : (c : After-count_below-place) → c.index-2.result.now ≡ get_or c.self.inside.columns.items c.args.from 0
bound_is c = c.index-2.ensures ∙ get_or_default c.self.inside.columns.items c.args.from c.index-2.result.now 0 (from_in c)

pub returns-then-place-len : goal.returns-then-place-len
returns-then-place-len c =
    let m = c.self.inside in
    let s = (goal.at.returns-then-place-len c).After-count_below-place in
    let d = c.index.result.now in
    let long = d.vars.ok.0 in
    let count = c.len-2.ensures in
    let same = ap length c.deref.ensures.value in
    let test = c.if-place-len.true in
    next_none m.vars m.given m.columns.items m.rows.items c.self.invariant.2 c.args.self.now c.self.view_is c.self.invariant.3 c.args.row c.args.from c.count_below-place.result c.index-2.result.now d
    c.deref.result.now c.requires c.index.ensures c.deref.ensures.value (from_in s) (bound_is s) c.count_below-place.ensures.low (omega arith)

pub place_of-requires : goal.place_of-requires
place_of-requires c = subst (Rises 1) (sym c.deref-2.ensures.value) (columns_rise 1 c.self.inside.vars c.self.inside.columns.items c.self.invariant.3)

pub returns : goal.returns
returns c =
    let m = c.self.inside in
    let s = (goal.at.returns c).After-count_below-place in
    let d = c.index.result.now in
    let long = d.vars.ok.0 in
    let count = c.len-2.ensures in
    let same = ap length c.deref.ensures.value in
    let test = c.if-place-len.false in
    let within = c.count_below-place.ensures.within in
    next_some m.vars m.given m.columns.items m.rows.items c.self.invariant.2 c.args.self.now c.self.view_is c.self.invariant.3 c.args.row c.args.from c.count_below-place.result c.index-2.result.now d
    c.deref.result.now c.requires c.index.ensures c.deref.ensures.value (from_in s) (bound_is s) c.count_below-place.ensures.low c.self.invariant.4 c.count_below-place.ensures.high (omega arith)
    c.index-3.result.now c.place_of.result c.index-3.ensures (c.place_of.ensures ∙ ap (λ (l : List ℕ). place l c.index-3.result.now) c.deref-2.ensures.value)
