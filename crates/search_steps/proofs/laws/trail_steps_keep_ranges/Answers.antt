use Rattle.search_steps.proofs.IdLaws.{decision_ranged, force_ranged, jump_ranged, rest_ranged, row_ranged}
use Rattle.search_steps.proofs.laws.trail_steps_keep_ranges.Goals as goal

pub returns : goal.returns
returns c = λ formula bound next row_next s i. (decision_ranged formula bound next row_next s i, row_ranged formula bound next row_next s i, force_ranged formula bound next row_next s i, jump_ranged formula bound next row_next s i, rest_ranged formula bound next row_next s i)
