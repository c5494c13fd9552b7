use Rattle.std.proofs.Common.{◌∙◌, refl, length}
use Rattle.gf2_matrix.proofs.Room.{row_there, part_there}
use Rattle.gf2_matrix.proofs.BitLaws.{are_bits, bits_of_row}
use Rattle.gf2_matrix.proofs.matrix.Matrix.row_bits.Goals as goal

pub returns : goal.returns
returns c =
    let m = c.self.inside in
    let e = c.index-part.result.now in
    rw c.new.ensures
    (bits_of_row m.vars m.given m.columns.items m.places.items m.parts.items m.rows m.spares.items m.no_columns.items c.self.invariant.matrix c.args.self.now c.self.view_is c.args.row c.requires
    c.row-words.result e (c.row-words.ensures c.row-words.result) c.index-part.ensures c.len.result (c.len.ensures ∙ e.columns.ok.0))

pub new-requires : goal.new-requires
new-requires c =
    let m = c.self.inside in
    let e = c.index-part.result.now in
    are_bits m.vars m.given m.columns.items m.places.items m.parts.items m.rows m.spares.items m.no_columns.items c.self.invariant.matrix c.args.self.now c.self.view_is c.args.row c.requires
    c.row-words.result e (c.row-words.ensures c.row-words.result) c.index-part.ensures c.len.result (c.len.ensures ∙ e.columns.ok.0)

pub row-words-requires : goal.row-words-requires
row-words-requires c =
    let m = c.self.inside in
    row_there m.vars m.given m.columns.items m.places.items m.parts.items m.rows m.spares.items m.no_columns.items c.self.invariant.matrix c.args.self.now c.self.view_is c.args.row c.requires (length m.rows) refl

pub index-part-requires : goal.index-part-requires
index-part-requires c =
    let m = c.self.inside in
    part_there m.vars m.given m.columns.items m.places.items m.parts.items m.rows m.spares.items m.no_columns.items c.self.invariant.matrix c.args.self.now c.self.view_is c.args.row c.requires
    c.row-words.result (c.row-words.ensures c.row-words.result) m.parts.len m.parts.ok.0
