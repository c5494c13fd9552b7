use Rattle.std.proofs.Common.{◌≡◌, ◌-◌, length, map, take}
use Rattle.proof_trim.specs.Integers.{part, unsigned}
use Rattle.proof_trim.proofs.integers.Integers.copy_ids.Given as goal

abbrev pub invariant-loop-place : goal.invariant-loop-place
invariant-loop-place l = record {
  room : length l.into.items ≡ length l.fn.into.items;
  copied : take (l.place - l.start) l.into.items ≡ map unsigned (part l.self l.start l.place);
}
