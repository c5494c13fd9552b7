use Rattle.std.proofs.Common.{◌≡◌, take}
use Rattle.cx_base.specs.Parity.{odd_sum}
use Rattle.xor_recover.specs.Wholes.{signs_code, signs_of}
use Rattle.xor_recover.proofs.wholes.Signs.of.Given as goal

abbrev pub invariant-loop-lit : goal.invariant-loop-lit
invariant-loop-lit l = record {
  place : l.place ≡ signs_code (signs_of (take l.lit-index l.lits));
  odd : l.odd ≡ odd_sum (signs_of (take l.lit-index l.lits));
}
