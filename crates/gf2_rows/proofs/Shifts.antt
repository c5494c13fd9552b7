-- The bits of a word from one on.
use Rattle.std.proofs.Common.{◌≡◌, ℕ, ◌+◌, ◌-◌, ◌*◌, ◌/◌, ◌%◌, ◌^◌, ◌<◌, ◌≤◌, Bool, false, eqb, sym, ap, ◌∙◌, subst, w64, arith, inl, inr}
use Rattle.std.specs.Int.{bit_at, trailing_zeros}
use Rattle.std.specs.Slice.Scan.{HoldsNowhere, IsFirstPlace}
use Rattle.std.proofs.Math.Nat.{div-div-eq-div-mul}
use Rattle.std.proofs.Common.{pow-add}
use Rattle.std.proofs.lemmas.Nat.Bits.{bit_at-trailing_zeros, bit_at_above, bit_at-zero}
use Rattle.std.proofs.lemmas.Bool.{cases_lt}
use Rattle.gf2_rows.specs.Bits.{word_bit}

-- bit i of a word without its last s bits
shifted : (n s i : ℕ) → bit_at (n / 2 ^ s) i ≡ bit_at n (s + i)
shifted n s i = ap (λ q. q % 2) (div-div-eq-div-mul n (2 ^ s) (2 ^ i) ∙ ap (λ p. n / p) (sym (pow-add 2 s i)))

-- the bits of a word say where P holds, and `rest` are those from place k on
module _ (P : ℕ → Bool) (word k rest : ℕ) (bits : (j : ℕ) → j < 64 → P (64 * (k / 64) + j) ≡ word_bit word j) (rest_is : rest ≡ word / 2 ^ (k % 64)) where
  at : (i : ℕ) → k % 64 + i < 64 → P (k + i) ≡ eqb (bit_at rest i) 1
  at i lt =
      let e : 64 * (k / 64) + (k % 64 + i) ≡ k + i = omega arith in
      subst (λ n. P n ≡ eqb (bit_at rest i) 1) e
      (bits (k % 64 + i) lt ∙ ap (λ d. eqb d 1) (sym (shifted word (k % 64) i) ∙ ap (λ n. bit_at n i) (sym rest_is)))

  -- none is left in this word
  pub none_here : (from : ℕ) → rest ≡ 0 → HoldsNowhere P from k → HoldsNowhere P from (64 * (k / 64 + 1))
  none_here from none before j low high =
      elim (cases_lt j k) [
        | inl lt ↦ before j low lt
        | inr ge ↦
            let e : k + (j - k) ≡ j = omega arith in
            subst (λ n. P n ≡ false) e (at (j - k) (omega arith) ∙ ap (λ n. eqb (bit_at n (j - k)) 1) none ∙ ap (λ d. eqb d 1) (bit_at-zero (j - k)))
      ]

  -- the lowest one of this word
  pub one_here : (from words t : ℕ) → word < 2 ^ 64 → rest < 2 ^ 64 → 0 < rest → t ≡ trailing_zeros w64 rest → from ≤ k → k < 64 * words → HoldsNowhere P from k
      → (k + t < 64 * words) × IsFirstPlace P from (64 * words) (k + t)
  one_here from words t word_fits small some t_is low high before =
      let lowest = bit_at-trailing_zeros w64 rest some small in
      let hit : bit_at rest t ≡ 1 = rw t_is lowest.1 in
      let here : bit_at word (k % 64 + t) ≡ 1 = sym (shifted word (k % 64) t) ∙ ap (λ n. bit_at n t) (sym rest_is) ∙ hit in
      let inside : k % 64 + t < 64 =
      elim (cases_lt (k % 64 + t) 64) [
        | inl lt ↦ lt
        | inr ge ↦ absurd (let z = bit_at_above word 64 (k % 64 + t) word_fits ge in omega arith)
      ] in (
        omega arith,
        record {
          low = omega arith;
          high = omega arith;
          before = λ j j_low j_high.
              elim (cases_lt j k) [
                | inl lt ↦ before j j_low lt
                | inr ge ↦
                    let e : k + (j - k) ≡ j = omega arith in
                    subst (λ n. P n ≡ false) e (at (j - k) (omega arith) ∙ ap (λ d. eqb d 1) (lowest.2 (j - k) (rw (sym t_is) (omega arith))))
              ];
          hit = λ _. at t inside ∙ ap (λ d. eqb d 1) hit;
        },
      )
