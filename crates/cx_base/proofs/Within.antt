-- The constraints of a formula have its variables.
use Rattle.std.proofs.Common.{◌≡◌, sym, subst, ℕ, zero, suc, ◌<◌, List, [], ◌∷◌, length, arith}
use Rattle.std.specs.List.{AllByRecursion}
use Rattle.cx_base.specs.Problem.{AreWithin, IsWithinVariables, literals_of}
use Rattle.cx_base.specs.Borrowed.{constraint_at}
use Rattle.cx_base.specs.declared.constraint.Constraint.{Constraint}

within_here : (n : ℕ) (cs : List Constraint) (k : ℕ) → AllByRecursion (λ c. AreWithin n (literals_of c)) cs → k < length cs → AreWithin n (literals_of (constraint_at cs k))
within_here n [] k h lt = absurd (omega arith)
within_here n (c ∷ cs) zero h lt = h.0
within_here n (c ∷ cs) (suc k) h lt = within_here n cs k h.1 (omega arith)

pub within_at : (n : ℕ) (cs : List Constraint) (k : ℕ) (item : Constraint) → item ≡ constraint_at cs k → k < length cs → IsWithinVariables n cs → AreWithin n (literals_of item)
within_at n cs k item e lt h = subst (λ (c : Constraint). AreWithin n (literals_of c)) (sym e) (within_here n cs k h.1 lt)
