use Rattle.std.proofs.Common.{◌≡◌, ◌∙◌, ℕ, false, subst, ap, map}
use Rattle.gf2_rows.specs.Bits.{bit_of}
use Rattle.gf2_matrix.specs.Content.{Content, IsOfGiven}
use Rattle.gf2_matrix.specs.Packed.{window}
use Rattle.gf2_matrix.proofs.Rows.{row_within}
use Rattle.gf2_matrix.proofs.Least.{RowRises, row_rises, a_row, least_found, least_none}
use Rattle.gf2_matrix.proofs.matrix.Matrix.least_column.Goals as goal
use Rattle.gf2_matrix.proofs.matrix.Matrix.least_column.Goals.{After-next_outside}

mask_clear : (c : After-next_outside) → (k : ℕ) → bit_of c.deref.result.now k ≡ false
mask_clear c k = ap (λ w. bit_of w k) c.deref.ensures.value ∙ c.self.invariant.matrix.none k

of_given : (c : After-next_outside) → IsOfGiven c.args.self.now
of_given c = subst IsOfGiven c.self.view_is c.self.invariant.matrix.of_given

rise : (c : After-next_outside) → RowRises c.args.self.now c.args.row
rise c =
    let m = c.self.inside in
    let row_in = row_within m.vars m.given m.columns.items (map window m.parts.items) m.rows c.args.row c.args.self.now c.self.view_is c.requires in
    subst (λ (s : Content). RowRises s c.args.row) c.self.view_is
    (row_rises m.vars m.given m.columns.items m.places.items (map window m.parts.items) m.rows m.spares.items m.no_columns.items c.self.invariant.matrix c.args.row
    (a_row m.rows c.args.row row_in) row_in)

pub returns-in-Some : goal.returns-in-Some
returns-in-Some c =
    let s = (goal.at.returns-in-Some c).After-next_outside in
    least_found c.args.self.now c.deref.result.now c.args.row (of_given s) c.requires (mask_clear s) (rise s) c.in-Some.column c.in-Some.ensures

pub returns-in-None : goal.returns-in-None
returns-in-None c =
    let s = (goal.at.returns-in-None c).After-next_outside in
    least_none c.args.self.now c.deref.result.now c.args.row (of_given s) c.requires (mask_clear s) (rise s) c.in-None.ensures
