-- Digits that are laid out in places from the end of a list.
use Rattle.std.proofs.Common.{◌≡◌, refl, sym, ap, ◌∙◌, ℕ, zero, suc, cond, ◌+◌, ◌-◌, ◌/◌, ◌%◌, ◌^◌, ◌<◌, ◌≤◌, List, [], ◌∷◌, ◌++◌, get_or, length, take, drop, decimal, arith, append_assoc, length-append, inl, inr}
use Rattle.std.proofs.Math.Dec.{ltb}
use Rattle.std.proofs.lemmas.Bool.{cases_lt, lt-ltb, le-ltb}
use Rattle.std.proofs.lemmas.Fmt.{decimal_digit, decimal_step}
use Rattle.std.proofs.lemmas.List.{drop-drop, length-take-le}
use Rattle.std.proofs.Math.Seq.{drop-append-add}
use Rattle.itoa.proofs.Decimal.{decimal_two, decimal_pair, length_one, length_two, length_pair}
use Rattle.cx_digits.specs.Digits.{three_digits}
use Rattle.cx_digits.specs.declared.digits.TheConstants.{TRIPLES}

-- ---- how many digits a number below a thousand has
count : ℕ → ℕ
count n = cond (ltb n 10) 1 (cond (ltb n 100) 2 3)

length_three : (n : ℕ) → 100 ≤ n → n < 1000 → length (decimal n) ≡ 3
length_three n low high = length_pair n low (omega arith) ∙ ap (λ k. k + 2) (length_one (n / 100) (omega arith))

count_is : (n : ℕ) → n < 1000 → count n ≡ length (decimal n)
unfolding count
count_is n few =
    elim (cases_lt n 10) [
      | inl a ↦ ap (λ b. cond b 1 (cond (ltb n 100) 2 3)) (lt-ltb n 10 a) ∙ sym (length_one n a)
      | inr a ↦ ap (λ b. cond b 1 (cond (ltb n 100) 2 3)) (le-ltb n 10 a) ∙ elim (cases_lt n 100) [
        | inl b ↦ ap (λ b. cond b 2 3) (lt-ltb n 100 b) ∙ sym (length_two n a b)
        | inr b ↦ ap (λ b. cond b 2 3) (le-ltb n 100 b) ∙ sym (length_three n b few)
      ]
    ]

-- ---- the table of three digits each
entry : ℕ → List ℕ
entry n = count n ∷ three_digits n

rows : ℕ → ℕ → List (List ℕ)
rows zero n = []
rows (suc k) n = entry n ∷ rows k (n + 1)

row_at : (k n i : ℕ) → i < k → get_or (rows k n) i [] ≡ entry (n + i)
unfolding rows
row_at zero n i less = absurd (omega arith)
row_at (suc k) n zero less = let e : n ≡ n + 0 = omega arith in ap entry e
row_at (suc k) n (suc i) less = let e : n + 1 + i ≡ n + suc i = omega arith in row_at k (n + 1) i (omega arith) ∙ ap entry e

are_rows : TRIPLES ≡ rows 1000 0
unfolding rows entry count
are_rows = refl

pub triple_at : (n : ℕ) → n < 1000 → get_or TRIPLES n [] ≡ length (decimal n) ∷ three_digits n
unfolding entry
triple_at n few =
    let same : 0 + n ≡ n = omega arith in
    ap (λ t. get_or t n []) are_rows ∙ row_at 1000 0 n few ∙ ap entry same ∙ ap (λ k. k ∷ three_digits n) (count_is n few)

-- ---- three digits are laid out, after a place that they change too
pub three_put : (n end k : ℕ) (xs ys : List ℕ) → 4 ≤ end → end ≤ length xs → k ≡ end - (end - 4) → ys ≡ length (decimal n) ∷ three_digits n
    → drop (end - 3) (take (end - 4) xs ++ (ys ++ drop k (drop (end - 4) xs))) ≡ three_digits n ++ drop end xs
three_put n end k xs ys room within four is =
    let front = take (end - 4) xs in
    let past = drop k (drop (end - 4) xs) in
    let begin : end - 3 ≡ length front + 1 = omega (arith, length-take-le (end - 4) xs (omega arith)) in
    let ends : end - 4 + k ≡ end = omega arith in
    ap (λ i. drop i (front ++ (ys ++ past))) begin
    ∙ drop-append-add front (ys ++ past) 1
    ∙ ap (λ t. drop 1 (t ++ past)) is
    ∙ ap (λ t. three_digits n ++ t) (drop-drop k (end - 4) xs ∙ ap (λ i. drop i xs) ends)

-- ---- the last three digits of a number of four or more
pub last_three : (n : ℕ) → 1000 ≤ n → n < 2 ^ 64 → decimal n ≡ decimal (n / 1000) ++ three_digits (n % 1000)
last_three n low high =
    let front : n / 10 / 100 ≡ n / 1000 = omega arith in
    let hundreds : n / 10 % 100 / 10 ≡ n % 1000 / 100 = omega arith in
    let tens : n / 10 % 100 % 10 ≡ n % 1000 / 10 % 10 = omega arith in
    let ones : n % 10 ≡ n % 1000 % 10 = omega arith in
    rw (decimal_step n (omega arith) high, decimal_pair (n / 10) (omega arith) (omega arith), append_assoc, front, hundreds, tens, ← ones)

pub three_more : (n : ℕ) → 1000 ≤ n → n < 2 ^ 64 → length (decimal n) ≡ length (decimal (n / 1000)) + 3
three_more n low high = ap length (last_three n low high) ∙ length-append (decimal (n / 1000)) (three_digits (n % 1000))

-- ---- three digits are a number's text after the zeros in front of it

module _ (n end : ℕ) (s rest : List ℕ) (room : 3 ≤ end) (laid : drop (end - 3) s ≡ three_digits n ++ rest) where
  behind : (k at : ℕ) → at ≡ end - 3 + k → drop at s ≡ drop k (three_digits n ++ rest)
  behind k at place = ap (λ i. drop i s) place ∙ sym (drop-drop k (end - 3) s) ∙ ap (drop k) laid

  one_laid : n < 10 → drop (end - 1) s ≡ decimal n ++ rest
  one_laid low =
      let ones : n % 10 ≡ n = omega arith in
      behind 2 (end - 1) (omega arith) ∙ ap (λ d. (48 + d) ∷ rest) ones ∙ ap (λ t. t ++ rest) (sym (decimal_digit n low))

  two_laid : 10 ≤ n → n < 100 → drop (end - 2) s ≡ decimal n ++ rest
  two_laid low high =
      let tens : n / 10 % 10 ≡ n / 10 = omega arith in
      behind 1 (end - 2) (omega arith) ∙ ap (λ d. (48 + d) ∷ (48 + n % 10) ∷ rest) tens ∙ ap (λ t. t ++ rest) (sym (decimal_two n low high))

  three_laid : 100 ≤ n → n < 1000 → drop (end - 3) s ≡ decimal n ++ rest
  three_laid low high =
      let tens : n % 100 / 10 ≡ n / 10 % 10 = omega arith in
      let ones : n % 100 % 10 ≡ n % 10 = omega arith in
      let text : decimal n ≡ three_digits n = rw (decimal_pair n low (omega arith), decimal_digit (n / 100) (omega arith), tens, ones) in
      laid ∙ ap (λ t. t ++ rest) (sym text)

  pub few_laid : n < 1000 → drop (end - length (decimal n)) s ≡ decimal n ++ rest
  few_laid few =
      elim (cases_lt n 10) [
        | inl a ↦ ap (λ k. drop (end - k) s) (length_one n a) ∙ one_laid a
        | inr a ↦ elim (cases_lt n 100) [
          | inl b ↦ ap (λ k. drop (end - k) s) (length_two n a b) ∙ two_laid a b
          | inr b ↦ ap (λ k. drop (end - k) s) (length_three n b few) ∙ three_laid b few
        ]
      ]
