use Rattle.std.proofs.Common.{◌≡◌, sum, take}
use Rattle.gf2_rows.proofs.pool.room_of.Given as goal

abbrev pub invariant-loop-width : goal.invariant-loop-width
invariant-loop-width l = l.total ≡ sum (take l.width-index l.widths)
