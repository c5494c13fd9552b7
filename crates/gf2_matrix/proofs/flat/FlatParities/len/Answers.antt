use Rattle.std.proofs.Common.{◌∙◌, ap, sym, length}
use Rattle.gf2_matrix.proofs.Cutting.{length-cut}
use Rattle.gf2_matrix.proofs.flat.FlatParities.len.Goals as goal

pub returns : goal.returns
returns c = let s = c.self.inside in c.len.ensures ∙ s.lengths.ok.0 ∙ sym (length-cut s.lits.items s.lengths.items) ∙ ap length c.self.view_is
