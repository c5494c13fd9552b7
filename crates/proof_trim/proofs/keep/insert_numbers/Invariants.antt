use Rattle.std.proofs.Common.{◌||◌}
use Rattle.proof_trim.specs.NameSets.{Has, has_name, is_number}
use Rattle.proof_trim.proofs.keep.insert_numbers.Given as goal

abbrev pub invariant-loop-place : goal.invariant-loop-place
invariant-loop-place l = Has l.names (λ name. is_number l.kind l.place name || has_name l.fn.names name)
