use Rattle.std.proofs.Common.{◌≡◌, ◌≤◌, ◌+◌, ◌-◌, false, take, length, nat_lt, nat_abs}
use Rattle.std.specs.List.{list_any}
use Rattle.std.specs.Prelude.{vec_capacity, vec_len}
use Rattle.cx_base.specs.Integers.{literals}
use Rattle.proof_rules.proofs.added.known_literals.Given as goal

abbrev pub invariant-loop-integer : goal.invariant-loop-integer
invariant-loop-integer l = record {
  known : list_any (λ z. nat_lt l.vars (nat_abs z)) (take l.integer-index l.integers) ≡ false;
  so_far : l.lits.items ≡ literals (take l.integer-index l.integers);
  room : vec_len l.lits + (length l.integers - l.integer-index) ≤ vec_capacity l.lits;
}
