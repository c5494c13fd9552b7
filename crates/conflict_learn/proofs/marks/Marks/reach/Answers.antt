use Rattle.std.proofs.Common.{ap, ◌∙◌, arith}
use Rattle.conflict_learn.specs.Marks.{is_marked}
use Rattle.conflict_learn.proofs.MarkLaws.{marks_grow}
use Rattle.conflict_learn.proofs.marks.Marks.reach.Goals as goal

pub returns-clause-same : goal.returns-clause-same
returns-clause-same c v =
    marks_grow _ c.self.inside.marks.items _ _ c.max-count.result v (omega (arith, c.len.ensures, c.max-count.ensures, c.self.inside.marks.ok.0)) c.resize.ensures.items
    ∙ ap (λ ms. is_marked ms v) c.self.view_is
