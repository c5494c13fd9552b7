use Rattle.std.proofs.Common.{◌≡◌, ℕ, length}
use Rattle.proof_rules.specs.VariableMarks.{mark_at}
use Rattle.proof_rules.proofs.parity_sum.reach.Given as goal

abbrev pub invariant-loop : goal.invariant-loop
invariant-loop l = ((x : ℕ) → mark_at l.marks.items x ≡ mark_at l.initial.marks.items x) × (length l.marks.items ≡ l.counter)
