use Rattle.std.proofs.Common.{◌≡◌, length, take}
use Rattle.proof_trim.proofs.longer.copy_narrow.Given as goal

abbrev pub invariant-loop-place : goal.invariant-loop-place
invariant-loop-place l = record {
  room : length l.into ≡ length l.fn.into;
  copied : take l.place l.into ≡ take l.place l.from;
}
