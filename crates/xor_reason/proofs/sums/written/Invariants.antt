use Rattle.std.proofs.Common.{◌≡◌, ◌&&◌, not, eqb, take}
use Rattle.parity_engine.specs.Written.{literals_with}
use Rattle.xor_reason.proofs.sums.written.Given as goal

-- the first literals are there
abbrev pub invariant-loop-number : goal.invariant-loop-number
invariant-loop-number l = (l.lits.items ≡ literals_with l.right (take l.number-index l.numbers)) × (l.negative ≡ (not l.right && eqb l.number-index 0))
