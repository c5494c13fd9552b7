use Rattle.std.proofs.Common.{◌*◌}
use Rattle.gf2_rows.proofs.Words.{IsAddedBelow}
use Rattle.gf2_rows.proofs.lanes.add_in_pairs.Given as goal

abbrev pub invariant-loop-pair : goal.invariant-loop-pair
invariant-loop-pair l = IsAddedBelow l.fn.row l.other l.row (2 * l.pair)
