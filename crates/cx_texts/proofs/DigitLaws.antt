-- Runs of digits as numbers, and tokens as integers.
use Rattle.std.proofs.Common.{◌≡◌, refl, ap, ◌∙◌, ℕ, ◌+◌, ◌-◌, ◌*◌, ◌^◌, ◌<◌, ◌≤◌, min, pos, neg_ℤ, true, false, cond, ◌&&◌, ◌||◌, leb-true, le-leb, eqb-true, List, [], ◌∷◌, length, take, get_or, Some, None, option_map, arith, nat_le, ◌==◌}
use Rattle.std.specs.List.{list_all}
use Rattle.std.specs.Char.{digit_value}
use Rattle.std.specs.Str.Parse.{AllDigits, digits_value}
use Rattle.std.proofs.lemmas.List.Folds.{list_all_more}
use Rattle.std.proofs.lemmas.Int.Digits.{digits_value_more}
use Rattle.std.proofs.lemmas.Str.{digit_value_digit}
use Rattle.std.proofs.lemmas.Str.Parse.{digit_from_value}
use Rattle.std.proofs.lemmas.Bool.{and_parts, and_from}
use Rattle.cx_texts.specs.Tokens.{is_blank, NoBlank}
use Rattle.cx_texts.specs.Words.{natural, integer, is_digit}

-- ---- digits

pub digit_is : (c : ℕ) → digit_value c < 10 → is_digit c ≡ true
digit_is c h = let r = digit_from_value c h in and_from _ _ (le-leb 48 c r.0) (le-leb c 57 r.1)

pub digits_are : (ds : List ℕ) → AllDigits 10 ds → list_all is_digit ds ≡ true
digits_are [] h = refl
digits_are (c ∷ ds) h = and_from _ _ (digit_is c h.0) (digits_are ds h.1)

pub digit_bounds : (c : ℕ) → is_digit c ≡ true → (48 ≤ c) × (c ≤ 57)
digit_bounds c h = let p = and_parts (nat_le 48 c) (nat_le c 57) h in (leb-true 48 c p.0, leb-true c 57 p.1)

pub not_equal : (c n : ℕ) → (c ≡ n → ⊥) → (c == n) ≡ false
not_equal c n h = elim (c == n) as (λ b. (c == n) ≡ b → b ≡ false) [ true ↦ λ e. absurd (h (eqb-true c n e)) | false ↦ λ e. refl ] refl

digit_not_blank : (c : ℕ) → is_digit c ≡ true → is_blank c ≡ false
digit_not_blank c h =
    let p = digit_bounds c h in
    (λ i. ((not_equal c 32 (λ e. omega arith) i || not_equal c 9 (λ e. omega arith) i) || not_equal c 13 (λ e. omega arith) i) || not_equal c 10 (λ e. omega arith) i)

pub digits_no_blank : (ds : List ℕ) → list_all is_digit ds ≡ true → NoBlank ds
digits_no_blank [] h = tt
digits_no_blank (c ∷ ds) h = let p = and_parts (is_digit c) _ h in (digit_not_blank c p.0, digits_no_blank ds p.1)

digit_worth : (c : ℕ) → is_digit c ≡ true → digit_value c ≡ c - 48
digit_worth c h = let e : digit_value c + 48 ≡ c = digit_value_digit c (digit_bounds c h) in omega arith

pub all_digits_of : (ds : List ℕ) → list_all is_digit ds ≡ true → AllDigits 10 ds
all_digits_of [] h = tt
all_digits_of (c ∷ ds) h =
    let p = and_parts (is_digit c) _ h in
    let b = digit_bounds c p.0 in
    let e : digit_value c ≡ c - 48 = digit_worth c p.0 in
    (omega arith, all_digits_of ds p.1)

pub one_more_digit : (text : List ℕ) (len : ℕ) → len < length text → is_digit (get_or text len 0) ≡ true → list_all is_digit (take len text) ≡ true
    → (list_all is_digit (take (len + 1) text) ≡ true) × (digits_value 10 (take (len + 1) text) ≡ digits_value 10 (take len text) * 10 + (get_or text len 0 - 48))
one_more_digit text len l d h = (
  list_all_more is_digit text len 0 l ∙ (λ i. h i && d i),
  digits_value_more 10 text len l ∙ ap (λ n. digits_value 10 (take len text) * 10 + n) (digit_worth (get_or text len 0) d),
)

-- ---- numbers

pub natural_all : (ds : List ℕ) → 0 < length ds → list_all is_digit ds ≡ true → natural ds ≡ Some (digits_value 10 ds)
natural_all [] l h = absurd (omega arith)
natural_all (b ∷ bs) l h = ap (λ x. cond x (Some (digits_value 10 (b ∷ bs))) None) h

-- the number with one more digit, where what is above 64 bits stays there
pub capped_more : (text : List ℕ) (len value : ℕ) → len < length text → is_digit (get_or text len 0) ≡ true
    → (list_all is_digit (take len text) ≡ true) × (value ≡ min (digits_value 10 (take len text)) (2 ^ 64 - 1))
    → (list_all is_digit (take (len + 1) text) ≡ true) × (min (min (value * 10) (2 ^ 64 - 1) + (get_or text len 0 - 48)) (2 ^ 64 - 1) ≡ min (digits_value 10 (take (len + 1) text)) (2 ^ 64 - 1))
capped_more text len value l d h = let more = one_more_digit text len l d h.0 in (more.0, omega (arith, more.1, h.1))

-- ---- integers

-- without a minus an integer is a number
unsigned : (b : ℕ) (bs : List ℕ) → (b ≡ 45 → ⊥) → integer (b ∷ bs) ≡ option_map pos (natural (b ∷ bs))
unsigned b bs h = ap (λ x. cond x (option_map (λ n. neg_ℤ (pos n)) (natural bs)) (option_map pos (natural (b ∷ bs)))) (not_equal b 45 h)

not_minus : (b : ℕ) (bs : List ℕ) → list_all is_digit (b ∷ bs) ≡ true → b ≡ 45 → ⊥
not_minus b bs h e = let k = digit_bounds b (and_parts (is_digit b) _ h).0 in omega arith

pub integer_digits : (ds : List ℕ) → 0 < length ds → list_all is_digit ds ≡ true → integer ds ≡ Some (pos (digits_value 10 ds))
integer_digits [] l h = absurd (omega arith)
integer_digits (b ∷ bs) l h = unsigned b bs (not_minus b bs h) ∙ ap (option_map pos) (natural_all (b ∷ bs) l h)

pub integer_minus : (ds : List ℕ) → 0 < length ds → list_all is_digit ds ≡ true → integer (45 ∷ ds) ≡ Some (neg_ℤ (pos (digits_value 10 ds)))
integer_minus ds l h = ap (option_map (λ n. neg_ℤ (pos n))) (natural_all ds l h)
