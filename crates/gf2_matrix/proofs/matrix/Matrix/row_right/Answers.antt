use Rattle.std.proofs.Common.{◌∙◌, length, map, refl, sym, ap}
use Rattle.gf2_matrix.specs.declared.packed.PackedRow.{PackedRow}
use Rattle.gf2_matrix.specs.Content.{Content, SourcedRow, row_at}
use Rattle.gf2_matrix.specs.Packed.{window}
use Rattle.gf2_matrix.proofs.Rows.{at_row, row_within}
use Rattle.gf2_matrix.proofs.Room.{row_there}
use Rattle.gf2_matrix.proofs.matrix.Matrix.row_right.Goals as goal

pub row-requires : goal.row-requires
row-requires c =
    let m = c.self.inside in
    row_there m.vars m.given m.columns.items m.places.items m.parts.items m.rows m.spares.items m.no_columns.items c.self.invariant.matrix c.args.self.now c.self.view_is c.args.row c.requires (length m.rows) refl

pub returns : goal.returns
returns c =
    let m = c.self.inside in
    let d = c.row.result in
    let row_in = row_within m.vars m.given m.columns.items (map window m.parts.items) m.rows c.args.row c.args.self.now c.self.view_is c.requires in
    ap (λ (r : PackedRow). r.right) (c.row.ensures d)
    ∙ ap (λ (r : SourcedRow). r.right)
    (sym (at_row m.vars m.given m.columns.items m.places.items (map window m.parts.items) m.rows m.spares.items m.no_columns.items c.self.invariant.matrix c.args.row d row_in))
    ∙ ap (λ (t : Content). (row_at t.rows c.args.row).right) c.self.view_is
