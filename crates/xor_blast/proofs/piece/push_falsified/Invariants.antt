use Rattle.std.proofs.Common.{◌≡◌, length, take}
use Rattle.xor_blast.specs.Pieces.{falsified}
use Rattle.xor_blast.specs.Bits.{bits_of}
use Rattle.xor_blast.proofs.piece.push_falsified.Given as goal

abbrev pub invariant-loop-place : goal.invariant-loop-place
invariant-loop-place l = l.builder ≡ record { constraints = l.fn.builder.constraints; unfinished = falsified (take l.place l.variables) (bits_of (length l.variables) l.number) }
