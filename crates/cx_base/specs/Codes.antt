-- A literal and its code.
use Rattle.std.proofs.Common.{◌≡◌, refl, ap, ℕ, zero, suc, ◌+◌, ◌*◌, ◌/◌, ◌%◌, ◌<◌, true, false, cond, eqb, arith, ◌⊎◌, inl, inr}
use Rattle.cx_base.specs.Literals.{Literal, code_of, literal_of_code}

pub below_two : (m : ℕ) → m < 2 → (m ≡ 0) ⊎ (m ≡ 1)
below_two zero h = inl refl
below_two (suc zero) h = inr refl
below_two (suc (suc m)) h = absurd (omega arith)

kept : (c : ℕ) → (c % 2 ≡ 0) ⊎ (c % 2 ≡ 1) → 2 * (c / 2) + cond (eqb (c % 2) 1) 1 0 ≡ c
kept c (inl e) = let k : ◌≡◌ {A = ℕ} (cond {A = ℕ} (eqb (c % 2) 1) 1 0) 0 = ap (λ m. cond {A = ℕ} (eqb m 1) 1 0) e in omega arith
kept c (inr e) = let k : ◌≡◌ {A = ℕ} (cond {A = ℕ} (eqb (c % 2) 1) 1 0) 1 = ap (λ m. cond {A = ℕ} (eqb m 1) 1 0) e in omega arith

pub code_of-literal_of_code : (c : ℕ) → code_of (literal_of_code c) ≡ c
code_of-literal_of_code c = let k : c % 2 < 2 = omega arith in kept c (below_two (c % 2) k)

pub literal_of_code-code_of : (l : Literal) → literal_of_code (code_of l) ≡ l
literal_of_code-code_of l = elim l.negative as (λ b. literal_of_code (2 * l.variable + cond b 1 0) ≡ record { variable = l.variable; negative = b }) [
  | true ↦ let half : (2 * l.variable + 1) / 2 ≡ l.variable = omega arith in
      let odd : (2 * l.variable + 1) % 2 ≡ 1 = omega arith in
      (λ i. record { variable = half i; negative = eqb (odd i) 1 })
  | false ↦ let half : (2 * l.variable + 0) / 2 ≡ l.variable = omega arith in
      let even : (2 * l.variable + 0) % 2 ≡ 0 = omega arith in
      (λ i. record { variable = half i; negative = eqb (even i) 1 })
]
