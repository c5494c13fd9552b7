-- Parities without a solution settle a formula.
use Rattle.std.proofs.Common.{refl, [], inl, inr}
use Rattle.cx_base.specs.Problem.{Problem, parities_of}
use Rattle.cx_semantics.specs.Forced.{Consistent}
use Rattle.cx_semantics.specs.Settled.{Settled}

pub unsolvable_is_settled : (formula : Problem) → ¬ Consistent (parities_of formula.constraints) [] → Settled formula
unsolvable_is_settled formula n known closed = inr (inl (λ (values, s). n (values, record { agrees = refl; meets = s.meets })))
