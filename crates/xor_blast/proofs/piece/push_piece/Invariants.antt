use Rattle.std.proofs.Common.{◌≡◌, ◌++◌, []}
use Rattle.xor_blast.proofs.BitLaws.{clauses_below}
use Rattle.xor_blast.proofs.piece.push_piece.Given as goal

abbrev pub invariant-loop-number : goal.invariant-loop-number
invariant-loop-number l = l.builder ≡ record { constraints = l.fn.builder.constraints ++ clauses_below l.variables l.right l.number; unfinished = [] }
