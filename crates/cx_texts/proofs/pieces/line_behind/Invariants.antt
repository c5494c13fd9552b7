use Rattle.std.proofs.Common.{◌≡◌, drop}
use Rattle.cx_texts.specs.Pieces.{line_behind}
use Rattle.cx_texts.proofs.pieces.line_behind.Given as goal

abbrev pub invariant-loop-byte : goal.invariant-loop-byte
invariant-loop-byte l = line_behind l.fn.line l.bytes ≡ line_behind l.line (drop l.byte-index l.bytes)
