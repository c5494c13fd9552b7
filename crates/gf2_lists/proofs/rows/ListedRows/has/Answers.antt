use Rattle.std.proofs.Common.{ℕ, nat_eq, ◌≤◌, ◌∙◌, ap, subst}
use Rattle.std.specs.List.{list_any}
use Rattle.parity_engine.proofs.Rising.{columns_rise}
use Rattle.gf2_lists.proofs.Reading.{row_rises, has_in}
use Rattle.gf2_lists.proofs.rows.ListedRows.has.Goals as goal

pub is_listed-requires : goal.is_listed-requires
is_listed-requires c =
    let m = c.self.inside in
    columns_rise 1 m.vars c.deref.result.now
    (row_rises m.vars m.given m.columns.items m.rows.items c.self.invariant.2 c.args.self.now c.self.view_is c.args.row c.index.result.now c.deref.result.now c.requires.row_in c.index.ensures c.deref.ensures.value)

pub returns : goal.returns
returns c =
    let m = c.self.inside in
    c.is_listed.ensures ∙ ap (λ (v : ℕ). list_any (λ y. nat_eq y v) c.deref.result.now) c.number.ensures.number
    ∙ has_in m.vars m.given m.columns.items m.rows.items c.self.invariant.2 c.args.self.now c.self.view_is c.args.row c.args.var c.index.result.now c.deref.result.now c.requires.row_in c.index.ensures
    c.deref.ensures.value (subst (λ (v : ℕ). 1 ≤ v) c.number.ensures.number c.number.ensures.low) c.requires.within
