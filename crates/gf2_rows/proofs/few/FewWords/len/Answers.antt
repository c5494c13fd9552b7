use Rattle.std.proofs.Common.{◌∙◌, sym, ap, length}
use Rattle.gf2_rows.proofs.Entries.{length-laid_out}
use Rattle.gf2_rows.proofs.few.FewWords.len.Goals as goal

pub returns-clause-len : goal.returns-clause-len
returns-clause-len c = sym (length-laid_out c.self.inside.len c.self.inside.count c.self.inside.places c.self.inside.words) ∙ ap length c.self.view_is
