use Rattle.std.proofs.Common.{◌≤◌, length}
use Rattle.cx_texts.proofs.pieces.whole_front.Given as goal

abbrev pub invariant-loop-len : goal.invariant-loop-len
invariant-loop-len l = l.len ≤ length l.piece

abbrev pub decreases-loop-len : goal.decreases-loop-len
decreases-loop-len l = l.len
