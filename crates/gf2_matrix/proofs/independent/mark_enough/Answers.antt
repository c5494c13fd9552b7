use Rattle.std.proofs.Common.{◌∙◌}
use Rattle.gf2_matrix.proofs.Marking.{of_contradiction, of_rows}
use Rattle.gf2_matrix.proofs.independent.mark_enough.Goals as goal

pub returns-in-Some : goal.returns-in-Some
returns-in-Some c =
    let found = c.in-Some.ensures in
    of_contradiction c.args.matrix.now c.requires.of_given c.mark_sources.new.marks (c.mark_sources.ensures.long ∙ c.requires.long) c.in-Some.row found.0 found.1 found.2 c.mark_sources.ensures.marked

pub returns-in-None : goal.returns-in-None
returns-in-None c =
    of_rows c.args.matrix.now c.requires.of_given c.mark_rows.new.marks (c.mark_rows.ensures.long ∙ c.requires.long) c.in-None.ensures c.requires.reduced c.mark_rows.ensures.marked
