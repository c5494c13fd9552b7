use Rattle.std.proofs.Common.{◌≡◌, ◌++◌, take}
use Rattle.proof_trim.proofs.integers.Integers.extend.Given as goal

abbrev pub invariant-loop-integer : goal.invariant-loop-integer
invariant-loop-integer l = l.self ≡ l.fn.self ++ take l.integer-index l.more
