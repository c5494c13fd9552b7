-- A few digits, integers and runs at the start of a text.
use Rattle.std.proofs.Common.{◌≡◌, sym, ap, ◌∙◌, subst, ℕ, suc, ◌+◌, ◌^◌, ◌<◌, ◌≤◌, pos, neg_ℤ, Bool, true, false, List, [], ◌∷◌, length, take, drop, get_or, Some, arith, true≢false, length-take, eqb-true}
use Rattle.std.specs.List.{list_all}
use Rattle.std.specs.Str.Parse.{digits_value}
use Rattle.std.proofs.lemmas.Int.Digits.{digits_value-lt}
use Rattle.std.proofs.Math.Nat.{pow-le-pow_right}
use Rattle.cx_base.specs.Integers.{signed}
use Rattle.std.proofs.lemmas.List.{drop_more}
use Rattle.cx_texts.specs.Tokens.{is_blank, NoBlank, EndsRun}
use Rattle.cx_texts.specs.Words.{integer, is_digit}
use Rattle.cx_texts.specs.LiteralTokens.{begins_with_minus}
use Rattle.cx_texts.proofs.DigitLaws.{digits_no_blank, all_digits_of, integer_digits, integer_minus}
use mir.Val.{bool_byte}

-- this many digits make a number below this power of ten
pub few_digits : (text : List ℕ) (len value most : ℕ) → len ≤ most → len ≤ length text → list_all is_digit (take len text) ≡ true → value ≡ digits_value 10 (take len text) → value < 10 ^ most
few_digits text len value most few l h v =
    let size : length (take len text) ≡ len = omega (arith, length-take len text) in
    let small : digits_value 10 (take len text) < 10 ^ length (take len text) = digits_value-lt 10 (take len text) (all_digits_of (take len text) h) in
    let least : 0 < 10 = omega arith in
    let fits : length (take len text) ≤ most = omega arith in
    let power : 10 ^ length (take len text) ≤ 10 ^ most = pow-le-pow_right {n = 10} least {i = length (take len text)} {j = most} fits in
    omega arith

-- ---- integers at the start of a text

front_length : (text : List ℕ) (len : ℕ) → len ≤ length text → length (take len text) ≡ len
front_length text len h = omega (arith, length-take len text)

plain_front : (text : List ℕ) (len value : ℕ) → 0 < len → len ≤ length text → list_all is_digit (take len text) ≡ true → value ≡ digits_value 10 (take len text)
    → NoBlank (take len text) × (integer (take len text) ≡ Some (pos value))
plain_front text len value some l h v = (
  digits_no_blank (take len text) h,
  integer_digits (take len text) (omega (arith, front_length text len l)) h ∙ ap (λ n. Some (pos n)) (sym v),
)

minus_front : (text : List ℕ) (len value : ℕ) → begins_with_minus text ≡ true → 0 < len → len ≤ length (drop 1 text) → list_all is_digit (take len (drop 1 text)) ≡ true → value ≡ digits_value 10 (take len (drop 1 text))
    → NoBlank (take (suc len) text) × (integer (take (suc len) text) ≡ Some (neg_ℤ (pos value)))
minus_front [] len value e more l h v = absurd (true≢false (sym e))
minus_front (b ∷ bs) len value e more l h v = (
  (ap is_blank (eqb-true b 45 e), digits_no_blank (take len bs) h),
  ap (λ x. integer (x ∷ take len bs)) (eqb-true b 45 e) ∙ integer_minus (take len bs) (omega (arith, front_length bs len l)) h ∙ ap (λ n. Some (neg_ℤ (pos n))) (sym v),
)

pub signed_front : (negative : Bool) (text : List ℕ) (first len value : ℕ) → first ≡ bool_byte negative → negative ≡ begins_with_minus text → 0 < len → len ≤ length (drop first text)
    → list_all is_digit (take len (drop first text)) ≡ true → value ≡ digits_value 10 (take len (drop first text))
    → NoBlank (take (first + len) text) × (integer (take (first + len) text) ≡ Some (signed negative value))
signed_front false text first len value e m more l h v =
    let n : first + len ≡ len = omega arith in
    let p = plain_front text len value more (subst (λ i. len ≤ length (drop i text)) e l) (subst (λ i. list_all is_digit (take len (drop i text)) ≡ true) e h) (subst (λ i. value ≡ digits_value 10 (take len (drop i text))) e v) in
    subst (λ i. NoBlank (take i text) × (integer (take i text) ≡ Some (pos value))) (sym n) p
signed_front true text first len value e m more l h v =
    let n : first + len ≡ suc len = omega arith in
    let p = minus_front text len value (sym m) more (subst (λ i. len ≤ length (drop i text)) e l) (subst (λ i. list_all is_digit (take len (drop i text)) ≡ true) e h) (subst (λ i. value ≡ digits_value 10 (take len (drop i text))) e v) in
    subst (λ i. NoBlank (take i text) × (integer (take i text) ≡ Some (neg_ℤ (pos value)))) (sym n) p

pub bool_byte_small : (b : Bool) → bool_byte b ≤ 1
bool_byte_small true = omega arith
bool_byte_small false = omega arith

-- a run ends where a blank is
pub ends_at_blank : (text : List ℕ) (k : ℕ) → k < length text → is_blank (get_or text k 0) ≡ true → EndsRun (drop k text)
ends_at_blank text k l b = subst EndsRun (sym (drop_more text k 0 l)) b
