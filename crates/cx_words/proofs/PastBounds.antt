-- Numbers past every bound.
use Rattle.std.proofs.Common.{◌≡◌, ◌<◌, ◌^◌, ◌&&◌, ℕ, Bool, [], ◌∷◌, true, false, nat_le, nat_lt, length, Some, None, Err, inl, inr, refl, sym, ap, ◌∙◌, arith}
use Rattle.std.specs.Str.{all_ascii_digits}
use Rattle.std.specs.Str.Parse.{digits_value, ParsesUnsigned}
use Rattle.std.proofs.lemmas.Str.Parse.{parse_digits, numerals_by_value, tells_all_ascii_digits}
use Rattle.std.proofs.lemmas.Bool.Decides.{leb_tells}
use Rattle.std.proofs.lemmas.Bool.{and_parts, ltb-true}
use Rattle.std.specs.Prelude.{if◌then◌else◌}
use Rattle.std.specs.List.{list_all}
use Rattle.std.specs.Char.{is_ascii_digit}
use Rattle.cx_desk.specs.Outside.{Bytes}
use Rattle.cx_words.specs.Given.{number_in}

digits_alike : (t : Bytes) → list_all is_ascii_digit t ≡ all_ascii_digits t
digits_alike [] = refl
digits_alike (c ∷ cs) = rw (digits_alike cs) refl

off : (a b c d : Bool) → d ≡ false → (a && (b && (c && d))) ≡ false
off true true true d e = e
off true true false d e = refl
off true false c d e = refl
off false b c d e = refl

-- a number past 64 bits is past every bound
pub too_great : {E : Type 0} (t : Bytes) (least most : ℕ) (e : E) → most < 2 ^ 64
    → ParsesUnsigned {E = E} 64 10 t (Err e) → true ≡ (list_all is_ascii_digit t && nat_lt 0 (length t)) → None ≡ number_in least most t
too_great t least most e fits h digits =
    let two = and_parts _ _ (sym digits) in
    let all : all_ascii_digits t ≡ true = sym (digits_alike t) ∙ two.0 in
    let some : 0 < length t = ltb-true _ _ two.1 in
    let past = parse_digits (numerals_by_value _ tells_all_ascii_digits) 64 t (Err e) h all in
    let beyond : nat_le (digits_value 10 t) most ≡ false = elim (leb_tells (digits_value 10 t) most) as (λ _. nat_le (digits_value 10 t) most ≡ false) [
      | inl p ↦ absurd (past (some, omega arith))
      | inr p ↦ p.0
    ] in
    ap (λ b. if b then Some (digits_value 10 t) else None) (sym (off (list_all is_ascii_digit t) (nat_lt 0 (length t)) (nat_le least (digits_value 10 t)) _ beyond))
