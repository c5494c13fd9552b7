-- Members of a list of nodes.
use Rattle.std.proofs.Common.{◌≡◌, ℕ, zero, suc, List, [], ◌∷◌, length, ap, inl, inr, ◌⊎◌, arith}
use Rattle.std.specs.List.{Contains}

pub in_cases : (n x : ℕ) (rest : List ℕ) → Contains (n ∷ rest) x → (n ≡ x) ⊎ Contains rest x
in_cases n x rest (zero, h, e) = inl e
in_cases n x rest (suc k, h, e) = inr (k, omega arith, e)

pub none_in : (xs : List ℕ) (n : ℕ) → xs ≡ [] → Contains xs n → ⊥
none_in xs n e (k, h, q) = omega (arith, ap length e)
