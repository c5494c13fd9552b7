-- Digits that are read eight at a time.
use Rattle.std.proofs.Common.{◌≡◌, refl, ap, ◌∙◌, subst, ℕ, zero, suc, ◌+◌, ◌-◌, ◌*◌, ◌%◌, ◌^◌, ◌≤◌, true, List, [], ◌∷◌, length, take, drop, arith}
use Rattle.std.specs.List.{list_all}
use Rattle.std.specs.Str.Parse.{digits_value}
use Rattle.core.specs.Float.Numeral.{digits_len}
use Rattle.core.proofs.dec2flt.Rows.{AllDigits-digits_len}
use Rattle.cx_texts.specs.Words.{is_digit}
use Rattle.cx_texts.proofs.DigitLaws.{digits_are}
use Rattle.cx_texts.proofs.FrontLaws.{few_digits}

take_fewer : {X : Type 0} (n m : ℕ) (xs : List X) → n ≤ m → take n (take m xs) ≡ take n xs
take_fewer zero m xs h = refl
take_fewer (suc n) zero xs h = absurd (omega arith)
take_fewer (suc n) (suc m) [] h = refl
take_fewer (suc n) (suc m) (x ∷ xs) h = ap (λ ys. x ∷ ys) (take_fewer n m xs (omega arith))

-- what is read from the first bytes of a text
module _ (text : List ℕ) (len : ℕ) (end : len ≡ 0 + digits_len (drop 0 (take 18 text))) (few : len ≤ 18) where
  pub are_digits : list_all is_digit (take len text) ≡ true
  are_digits =
      subst (λ ds. list_all is_digit ds ≡ true) (take_fewer len 18 text few)
      (digits_are (take len (take 18 text)) (AllDigits-digits_len (take 18 text) len (omega (arith, end))))

  pub their_value : (value : ℕ) → len ≤ length text → value ≡ (0 * 10 ^ (len - 0) + digits_value 10 (take (len - 0) (drop 0 (take 18 text)))) % 2 ^ 64 → value ≡ digits_value 10 (take len text)
  their_value value inside is =
      let all : len - 0 ≡ len = omega arith in
      let written : digits_value 10 (take (len - 0) (take 18 text)) ≡ digits_value 10 (take len text) =
      ap (digits_value 10) (ap (λ n. take n (take 18 text)) all ∙ take_fewer len 18 text few) in
      let small = few_digits text len (digits_value 10 (take len text)) 18 few inside are_digits refl in
      omega (arith, is, written, small)
