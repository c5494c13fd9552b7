use Rattle.std.proofs.Common.{ap, arith}
use Rattle.gf2_matrix.specs.Content.{Content}
use Rattle.gf2_lists.proofs.Reading.{rise_few}
use Rattle.gf2_lists.proofs.rows.ListedRows.columns.Goals as goal

pub returns-clause-few : goal.returns-clause-few
returns-clause-few c =
    let m = c.self.inside in
    let few = rise_few 1 m.vars m.columns.items c.self.invariant.3 in
    let vars = ap (λ (t : Content). t.vars) c.self.view_is in
    let long = m.columns.ok.0 in
    let count = c.len.ensures in
    omega arith
