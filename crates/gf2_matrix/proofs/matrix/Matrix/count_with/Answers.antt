use Rattle.std.proofs.Common.{◌∙◌}
use Rattle.gf2_matrix.proofs.matrix.Matrix.count_with.Goals as goal

pub ones-requires : goal.ones-requires
ones-requires c = c.column_set-words.ensures.set.few

pub returns : goal.returns
returns c = c.ones.ensures ∙ c.column_set-words.ensures.count
