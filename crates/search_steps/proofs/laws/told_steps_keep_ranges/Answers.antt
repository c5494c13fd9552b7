use Rattle.search_steps.proofs.IdLaws.{clause_ranged, deletions_ranged, mark_ranged, recovered_ranged, row_reason_ranged}
use Rattle.search_steps.proofs.laws.told_steps_keep_ranges.Goals as goal

pub returns : goal.returns
returns c = λ formula bound next row_next s i. (clause_ranged formula bound next row_next s i, (λ k rs ids n zs low next_low. row_reason_ranged formula bound next row_next s k rs ids n zs low next_low i), (λ ids. deletions_ranged formula bound next row_next s ids i), recovered_ranged formula bound next row_next s i, mark_ranged formula bound next row_next s i)
