-- The integers of a step, one by one.
use Rattle.std.proofs.Common.{◌≡◌, ◌≢◌, refl, ℕ, zero, suc, ◌<◌, ◌≤◌, ℤ, pos, negsuc, nat_abs, false, nat_lt, List, [], ◌∷◌, length, get_or, arith, ltb-false}
use Rattle.std.specs.List.{list_any}
use Rattle.std.proofs.lemmas.Bool.{or_parts}
use Rattle.cx_base.specs.Numbers.{AreStepIntegers}

not_zero : (z : ℤ) → z ≢ pos 0 → 1 ≤ nat_abs z
not_zero (pos zero) h = absurd (h refl)
not_zero (pos (suc n)) h = omega arith
not_zero (negsuc n) h = omega arith

pub proper_at : (zs : List ℤ) (i : ℕ) (d : ℤ) → AreStepIntegers zs → i < length zs → 1 ≤ nat_abs (get_or zs i d)
proper_at [] i d a h = absurd (omega arith)
proper_at (z ∷ zs) zero d a h = not_zero z a.0.0
proper_at (z ∷ zs) (suc i) d a h = proper_at zs i d a.1 (omega arith)

pub known_at : (n : ℕ) (zs : List ℤ) (i : ℕ) (d : ℤ) → list_any (λ z. nat_lt n (nat_abs z)) zs ≡ false → i < length zs → nat_abs (get_or zs i d) ≤ n
known_at n [] i d e h = absurd (omega arith)
known_at n (z ∷ zs) zero d e h = ltb-false n (nat_abs z) (or_parts _ _ e).0
known_at n (z ∷ zs) (suc i) d e h = known_at n zs i d (or_parts _ _ e).1 (omega arith)
