use Rattle.std.proofs.Common.{ℕ, ◌-◌, ◌≤◌, ◌∙◌, sym, ap, subst, arith, eqb-true}
use Rattle.std.proofs.lemmas.Bool.{eqb-false}
use Rattle.gf2_matrix.specs.Content.{Content, IsLeastOf}
use Rattle.gf2_lists.proofs.Reading.{least_none, first_in}
use Rattle.gf2_lists.proofs.rows.ListedRows.least.Goals as goal
use Rattle.gf2_lists.proofs.rows.ListedRows.least.Goals.{After-index-2}

pub returns-then-is_empty : goal.returns-then-is_empty
returns-then-is_empty c =
    let m = c.self.inside in
    let d = c.index.result.now in
    least_none m.vars m.given m.columns.items m.rows.items c.self.invariant.2 c.args.self.now c.self.view_is c.args.row d c.requires c.index.ensures
    (sym d.vars.ok.0 ∙ eqb-true d.vars.len 0 (sym c.is_empty.ensures ∙ c.if-is_empty.true))

first : (c : After-index-2) → (1 ≤ c.index-2.result.now) × (c.index-2.result.now ≤ c.args.self.now.vars) × IsLeastOf c.args.self.now c.args.row (c.index-2.result.now - 1)
first c =
    let m = c.self.inside in
    let d = c.index.result.now in
    let long = d.vars.ok.0 in
    let other = eqb-false d.vars.len 0 (sym c.is_empty.ensures ∙ c.if-is_empty.false) in
    first_in m.vars m.given m.columns.items m.rows.items c.self.invariant.2 c.args.self.now c.self.view_is c.args.row c.index-2.result.now d c.requires c.index.ensures (omega arith) c.index-2.ensures

pub new-requires-clause-low : goal.new-requires-clause-low
new-requires-clause-low c = (first (goal.at.new-requires-clause-low c).After-index-2).0

pub new-requires-clause-high : goal.new-requires-clause-high
new-requires-clause-high c =
    let high = (first (goal.at.new-requires-clause-high c).After-index-2).1 in
    let vars = ap (λ (t : Content). t.vars) c.self.view_is in
    let few = c.self.invariant.0 in
    omega arith

pub returns : goal.returns
returns c =
    subst (λ (v : ℕ). (1 ≤ v) × (v ≤ c.args.self.now.vars) × IsLeastOf c.args.self.now c.args.row (v - 1)) (sym c.new.ensures) (first (goal.at.returns c).After-index-2)
