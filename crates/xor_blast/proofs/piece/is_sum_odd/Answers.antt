use Rattle.xor_blast.proofs.BitLaws.{low_bits_sum}
use Rattle.xor_blast.proofs.piece.is_sum_odd.Goals as goal

pub returns : goal.returns
returns c = λ k few less. low_bits_sum k c.args.number few less
