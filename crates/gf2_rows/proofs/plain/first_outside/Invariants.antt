use Rattle.std.proofs.Common.{◌*◌}
use Rattle.std.specs.Slice.Scan.{HoldsNowhere}
use Rattle.gf2_rows.specs.Bits.{is_outside}
use Rattle.gf2_rows.proofs.plain.first_outside.Given as goal

abbrev pub invariant-loop-i : goal.invariant-loop-i
invariant-loop-i l = HoldsNowhere (is_outside l.row l.mask l.skip) 0 (64 * l.i)
