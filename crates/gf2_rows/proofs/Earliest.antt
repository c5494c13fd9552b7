-- The first place of several.
use Rattle.std.proofs.Common.{◌≡◌, ℕ, ◌+◌, ◌*◌, ◌/◌, ◌%◌, ◌<◌, ◌^◌, Bool, true, false, ◌||◌, ◌&&◌, min, max, w64, Option, Some, None, refl, ap, ◌∙◌, subst, arith, inl, inr}
use Rattle.std.specs.Slice.Scan.{HoldsNowhere, IsFirstPlace}
use Rattle.std.proofs.lemmas.Bool.{cases_lt, eq-eqb, ne_eqb}
use Rattle.std.specs.Int.{trailing_zeros}
use Rattle.std.proofs.Math.Nat.{div-le_self}
use Rattle.gf2_rows.specs.Bits.{word_bit}
use Rattle.gf2_rows.specs.Few.{FirstFrom, least_of, is_bit_in}
use Rattle.gf2_rows.proofs.Shifts.{none_here, one_here}

-- where one of two holds
module _ (P Q R : ℕ → Bool) (from to : ℕ) (each : (k : ℕ) → R k ≡ (Q k || P k)) where
  neither : (k : ℕ) → P k ≡ false → Q k ≡ false → R k ≡ false
  neither k p q = each k ∙ ap (λ b. b || P k) q ∙ p

  by_first : (k : ℕ) → P k ≡ true → Q k ≡ false → R k ≡ true
  by_first k p q = each k ∙ ap (λ b. b || P k) q ∙ p

  by_second : (k : ℕ) → Q k ≡ true → R k ≡ true
  by_second k q = each k ∙ ap (λ b. b || P k) q

  pub first_of_either : (a b : Option ℕ) → FirstFrom P from to a → FirstFrom Q from to b → FirstFrom R from to (least_of a b)
  first_of_either None None p q = λ k low high. neither k (p k low high) (q k low high)
  first_of_either None (Some y) p q = (
    q.0,
    record {
      low = q.1.low;
      high = q.1.high;
      before = λ k low high. neither k (p k low (let t = q.0 in omega arith)) (q.1.before k low high);
      hit = λ lt. by_second y (q.1.hit lt);
    },
  )
  first_of_either (Some x) None p q = (
    p.0,
    record {
      low = p.1.low;
      high = p.1.high;
      before = λ k low high. neither k (p.1.before k low high) (q k low (let t = p.0 in omega arith));
      hit = λ lt. by_first x (p.1.hit lt) (q x p.1.low lt);
    },
  )
  first_of_either (Some x) (Some y) p q =
      let P' : ℕ → Type 0 = λ m. (m < to) × IsFirstPlace R from to m in
      elim (cases_lt x y) [
        | inl lt ↦
            let e : x ≡ min x y = omega arith in
            subst P' e (
              p.0,
              record {
                low = p.1.low;
                high = p.1.high;
                before = λ k low high. neither k (p.1.before k low high) (q.1.before k low (omega arith));
                hit = λ h. by_first x (p.1.hit h) (q.1.before x p.1.low lt);
              },
            )
        | inr ge ↦
            let e : y ≡ min x y = omega arith in
            subst P' e (
              q.0,
              record {
                low = q.1.low;
                high = q.1.high;
                before = λ k low high. neither k (p.1.before k low (omega arith)) (q.1.before k low high);
                hit = λ h. by_second y (q.1.hit h);
              },
            )
      ]

-- ---- the bits of one word
pub bit_in_word : (word place j : ℕ) → j < 64 → is_bit_in word place (64 * place + j) ≡ word_bit word j
bit_in_word word place j lt =
    let q : (64 * place + j) / 64 ≡ place = omega arith in
    let r : (64 * place + j) % 64 ≡ j = omega arith in
    ap (λ b. b && word_bit word ((64 * place + j) % 64)) (eq-eqb ((64 * place + j) / 64) place q) ∙ ap (word_bit word) r

pub not_in_word : (word place k : ℕ) → (k / 64 ≡ place → ⊥) → is_bit_in word place k ≡ false
not_in_word word place k ne = ap (λ b. b && word_bit word (k % 64)) (ne_eqb (k / 64) place ne)

-- the word at `place`, sought from a position that is not past it
module _ (word place from start : ℕ) (over : from < 64 * (place + 1)) (start_is : start ≡ max from (64 * place)) where
  here : start / 64 ≡ place
  here = omega arith

  its_bits : (j : ℕ) → j < 64 → is_bit_in word place (64 * (start / 64) + j) ≡ word_bit word j
  its_bits j lt = ap (λ q. is_bit_in word place (64 * q + j)) here ∙ bit_in_word word place j lt

  none_before : HoldsNowhere (is_bit_in word place) from start
  none_before k low high = not_in_word word place k (λ e. let f : k / 64 ≡ place = e in omega arith)

  pub none_in_word : (len : ℕ) → word / 2 ^ (start % 64) ≡ 0 → HoldsNowhere (is_bit_in word place) from (64 * len)
  none_in_word len none k low high =
      elim (cases_lt k (64 * (start / 64 + 1))) [
        | inl lt ↦ none_here (is_bit_in word place) word start (word / 2 ^ (start % 64)) its_bits refl from none none_before k low lt
        | inr ge ↦ not_in_word word place k (λ e. let f : k / 64 ≡ place = e in let h = here in omega arith)
      ]

  pub one_in_word : (len t : ℕ) → word < 2 ^ 64 → (word / 2 ^ (start % 64) ≡ 0 → ⊥) → t ≡ trailing_zeros w64 (word / 2 ^ (start % 64)) → place < len
      → (start + t < 64 * len) × IsFirstPlace (is_bit_in word place) from (64 * len) (start + t)
  one_in_word len t small some t_is lt =
      let less = div-le_self word (2 ^ (start % 64)) in
      let h = here in
      one_here (is_bit_in word place) word start (word / 2 ^ (start % 64)) its_bits refl from len t small (omega arith) (omega arith) t_is (omega arith) (omega arith) none_before
