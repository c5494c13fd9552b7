use Rattle.std.proofs.Common.{◌≡◌, ◌++◌, map, take}
use Rattle.proof_trim.specs.Integers.{signed}
use Rattle.proof_trim.proofs.integers.Integers.extend_ids.Given as goal

abbrev pub invariant-loop-id : goal.invariant-loop-id
invariant-loop-id l = l.self ≡ l.fn.self ++ map signed (take l.id-index l.ids)
