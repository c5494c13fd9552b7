use Rattle.std.proofs.Common.{sym, ap, ◌∙◌, ◌++◌, ◌∷◌, [], ◌+◌}
use Rattle.xor_recover.proofs.WholeRows.{range_more}
use Rattle.xor_recover.proofs.recovering.neighbours.Goals as goal

pub loop-index-preserved : goal.loop-index-preserved
loop-index-preserved c = c.in_ok-push.ensures.items ∙ ap (λ ns. ns ++ (c.args.first + c.loop-index.index) ∷ []) c.loop-index.invariant ∙ sym (range_more c.args.first c.loop-index.index)
