-- Luby's sequence has one number at each place.
use Rattle.std.proofs.Common.{◌≡◌, ◌<◌, ◌≤◌, ◌+◌, ◌-◌, ◌*◌, ◌^◌, ℕ, suc, sym, subst, arith, ⊎_elim}
use Rattle.std.proofs.lemmas.Bool.{cases_lt}
use Rattle.std.proofs.Math.Nat.{pow-le-pow_right}
use Rattle.search_policy.specs.Restarts.{IsLuby, ends, repeats}

-- of two powers the greater is at least twice the other
doubles : (k j : ℕ) → k < j → 2 * 2 ^ k ≤ 2 ^ j
doubles k j h =
    let up : 2 ^ suc k ≤ 2 ^ j = pow-le-pow_right (omega arith) (omega arith) in
    let twice : 2 ^ suc k ≡ 2 * 2 ^ k = grind arith in
    omega arith

-- a block's end is within no other block
no_end : (i k j : ℕ) → i + 1 ≡ 2 * 2 ^ k → 2 ^ j ≤ i → i + 1 < 2 * 2 ^ j → ⊥
no_end i k j end low high = ⊎_elim
    (λ (h : k < j). let d = doubles k j h in omega arith)
    (λ (h : j ≤ k). let d : 2 ^ j ≤ 2 ^ k = pow-le-pow_right (omega arith) h in omega arith) (cases_lt k j)

one_block : (i k j : ℕ) → 2 ^ k ≤ i → i + 1 < 2 * 2 ^ k → 2 ^ j ≤ i → i + 1 < 2 * 2 ^ j → k ≡ j
one_block i k j low high low' high' = ⊎_elim
    (λ (h : k < j). let d = doubles k j h in absurd (omega arith))
    (λ (h : j ≤ k). ⊎_elim (λ (g : j < k). let d = doubles j k g in absurd (omega arith)) (λ (g : k ≤ j). omega arith) (cases_lt j k)) (cases_lt k j)

pub one_number : {i a b : ℕ} → IsLuby i a → IsLuby i b → a ≡ b
one_number (ends k end is) (ends j end' is') = omega arith
one_number {i} (ends k end is) (repeats j low high h) = absurd (no_end i k j end low high)
one_number {i} (repeats k low high h) (ends j end is) = absurd (no_end i j k end low high)
one_number {i} {a} {b} (repeats k low high h) (repeats j low' high' h') =
    one_number h (subst (λ m. IsLuby (i - 2 ^ m + 1) b) (sym (one_block i k j low high low' high')) h')
