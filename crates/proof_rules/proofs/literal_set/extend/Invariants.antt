use Rattle.std.proofs.Common.{◌≡◌, ℕ, false, get_or, length}
use Rattle.proof_rules.proofs.literal_set.extend.Given as goal

abbrev pub invariant-loop : goal.invariant-loop
invariant-loop l = ((p : ℕ) → get_or l.marks.items p false ≡ get_or l.initial.marks.items p false) × (length l.marks.items ≡ l.counter)
