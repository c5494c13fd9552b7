use Rattle.std.proofs.Common.{◌≡◌, ℕ, ◌<◌, [], get_or}
use Rattle.cx_base.specs.Parity.{normal_form}
use Rattle.cx_base.specs.Problem.{parities_of}
use Rattle.plain_tests.proofs.log_rules.is_original_parity.Given as goal

-- none of the first ones has the same form
abbrev pub invariant-loop-place : goal.invariant-loop-place
invariant-loop-place l = (i : ℕ) → i < l.place → ¬ (normal_form (get_or (parities_of l.formula.constraints) i []) ≡ normal_form l.lits)
