use Rattle.search_steps.proofs.IdLaws.{ranged_round_keeps}
use Rattle.search_steps.proofs.laws.rounds_keep.Goals as goal

pub returns : goal.returns
returns c = λ formula bound next row_next s i n zs hints back low high tidies. ranged_round_keeps formula bound next row_next s i n zs hints back low high {tidies = tidies}
