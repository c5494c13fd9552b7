use Rattle.std.proofs.Common.{◌≡◌, ◌≤◌, ◌+◌, ◌-◌, take, length}
use Rattle.std.specs.Prelude.{vec_capacity, vec_len}
use Rattle.proof_rules.specs.LiteralSets.{AreMarks, ArePositive}
use Rattle.proof_rules.proofs.literal_set.LiteralSet.set_to.Given as goal

abbrev pub invariant-loop-lit : goal.invariant-loop-lit
invariant-loop-lit l = record {
  marked : AreMarks l.self-inside.marks.items l.self-inside.lits.items;
  so_far : l.self-inside.lits.items ≡ take l.lit-index l.lits;
  positive : ArePositive (take l.lit-index l.lits);
  room : vec_len l.self-inside.lits + (length l.lits - l.lit-index) ≤ vec_capacity l.self-inside.lits;
}
