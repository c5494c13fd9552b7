use Rattle.std.proofs.Common.{◌∙◌, length, sym, ap}
use Rattle.gf2_matrix.proofs.RowTables.{length-rows_of}
use Rattle.gf2_matrix.proofs.row_tables.Rows.len.Goals as goal

pub returns : goal.returns
returns c =
    let m = c.self.inside in
    c.len.ensures ∙ m.heads.ok.0 ∙ sym (length-rows_of m.heads.items m.words m.apart) ∙ ap length c.self.view_is
