use Rattle.std.proofs.Common.{◌≡◌, ◌-◌, length, take}
use Rattle.proof_trim.specs.Integers.{part}
use Rattle.proof_trim.proofs.longer.LongerIntegers.copy.Given as goal

abbrev pub invariant-loop-place : goal.invariant-loop-place
invariant-loop-place l = record {
  room : length l.into.items ≡ length l.fn.into.items;
  copied : take (l.place - l.start) l.into.items ≡ part l.self l.start l.place;
}
