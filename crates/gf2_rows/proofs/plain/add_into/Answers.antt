use Rattle.std.proofs.Common.{arith}
use Rattle.gf2_rows.proofs.Words.{sum_of_rows}
use Rattle.gf2_rows.proofs.plain.add_into.Goals as goal

pub returns : goal.returns
returns c =
    sum_of_rows c.loop-i.row c.args.row.now c.args.other.now c.loop-i.auto.row c.requires
    (λ k lt. c.loop-i.invariant.0 k (omega arith))
