-- A printed answer is read as the values that were printed.
use Rattle.std.proofs.Common.{◌≡◌, ◌≢◌, refl, sym, ap, ◌∙◌, subst, ℕ, zero, suc, ◌+◌, ◌-◌, ◌%◌, ◌^◌, ◌<◌, ◌≤◌, ℤ, pos, negsuc, neg_ℤ, nat_abs, Bool, true, false, cond, not, ◌&&◌, ◌||◌, eqb-true, List, [], ◌∷◌, ◌++◌, map, flat_map, filter, length, get_or, take, fold, Some, arith, true≢false, append_assoc, append-nil, length-append, codes, decimal, ◌==◌, lit<, lt_of_le_of_lt}
use Rattle.std.specs.List.{AllByRecursion, enumerate_from}
use Rattle.std.specs.Str.Parse.{IsNumeral}
use Rattle.std.proofs.lemmas.Fmt.{decimal_is_IsNumeral_wide}
use Rattle.std.proofs.lemmas.List.{take-append-le, take_all}
use Rattle.std.proofs.lemmas.List.Sums.{fold-append}
use Rattle.cx_base.specs.Problem.{Problem}
use Rattle.cx_base.specs.declared.literal.TheConstants.{MAX_VARIABLE}
use Rattle.cx_texts.specs.AnswerText.{break_before, printed_value, answer_text}
use Rattle.cx_texts.specs.Printed.{printed_integer}
use Rattle.cx_texts.specs.Tokens.{Token, is_blank, tokens, tokens_from, tokens_within, NoBlank, EndsRun}
use Rattle.cx_texts.proofs.DigitLaws.{digit_is, digits_are, digit_bounds, not_equal, digits_no_blank}
use Rattle.cx_texts.proofs.PrintedWords.{IsPiece, integer-printed}
use Rattle.cx_texts.proofs.Lines.{not_feed}
use Rattle.cx_texts.proofs.TokenLaws.{token_at, tokens_from-kept, tokens_within-blank, tokens_within-feed, tokens_within-run}
use Rattle.model_out.specs.LineTokens.{LineToken, step_in_line, at_line_begin, line_token, line_tokens}
use Rattle.model_out.specs.Answers.{behind_status, written_of, as_literal, Gives, AnswerReads}
use Rattle.model_out.specs.Laws.{PrintedAnswersRead}
use Rattle.model_out.specs.Reading.{scan, whole}
use Rattle.model_out.proofs.Puts.{text_is}
use Rattle.model_out.proofs.SettlingLaws.{answer_of_scan}
use Rattle.model_out.proofs.TurnLaws.{scan_integer}

-- ---- pieces, each after a line feed or a space

abbrev Item : Type 0
Item = Bool × List ℕ

abbrev gap : Bool → ℕ
gap b = cond b 10 32

abbrev text_of : List Item → List ℕ
text_of [] = 10 ∷ []
text_of (i ∷ is) = gap i.0 ∷ (i.1 ++ text_of is)

-- a piece that begins no comment
abbrev IsKept : List ℕ → Type 0
IsKept text = (p : IsPiece text) × ((p.first == 99) ≡ false)

abbrev AreKept : List Item → Type 0
AreKept is = AllByRecursion (λ i. IsKept i.1) is

abbrev placed_items : ℕ → List Item → List Token
placed_items n [] = []
placed_items n (i ∷ is) = token_at (n + 1) i.1 ∷ placed_items ((n + 1) + length i.1) is

ends_run : (is : List Item) → EndsRun (text_of is)
ends_run [] = refl
ends_run ((true, p) ∷ is) = refl
ends_run ((false, p) ∷ is) = refl

run_within : (n : ℕ) (p t : List ℕ) → IsPiece p → EndsRun t → tokens_within n (p ++ t) ≡ token_at n p ∷ tokens_within (n + length p) t
run_within n p t k e = ap (λ q. tokens_within n (q ++ t)) k.is ∙ tokens_within-run n k.first k.rest t k.no_blank e ∙ ap (λ q. token_at n q ∷ tokens_within (n + length q) t) (sym k.is)

run_from : (n : ℕ) (p t : List ℕ) → IsKept p → EndsRun t → tokens_from n (p ++ t) ≡ token_at n p ∷ tokens_within (n + length p) t
run_from n p t (k, c) e =
    ap (λ q. tokens_from n (q ++ t)) k.is ∙ tokens_from-kept n k.first (k.rest ++ t) k.no_blank.0 c ∙ ap (λ q. tokens_within n (q ++ t)) (sym k.is) ∙ run_within n p t k e

item_tokens : (n : ℕ) (is : List Item) → AreKept is → tokens_within n (text_of is) ≡ placed_items n is
item_tokens n [] h = refl
item_tokens n ((true, p) ∷ is) h =
    tokens_within-feed n (p ++ text_of is) ∙ run_from (n + 1) p (text_of is) h.0 (ends_run is) ∙ ap (λ ts. token_at (n + 1) p ∷ ts) (item_tokens ((n + 1) + length p) is h.1)
item_tokens n ((false, p) ∷ is) h =
    tokens_within-blank n 32 (p ++ text_of is) refl refl ∙ run_within (n + 1) p (text_of is) h.0.0 (ends_run is) ∙ ap (λ ts. token_at (n + 1) p ∷ ts) (item_tokens ((n + 1) + length p) is h.1)

-- ---- which of them begin a line

abbrev line_items : ℕ → List Item → List LineToken
line_items n [] = []
line_items n (i ∷ is) = record { place = n + 1; begins = i.0; text = i.1 } ∷ line_items ((n + 1) + length i.1) is

step_no_blank : (s : Bool) (b : ℕ) → is_blank b ≡ false → step_in_line s b ≡ false
step_no_blank s b h = ap (λ x. x || (is_blank b && s)) (not_feed b h) ∙ ap (λ x. x && s) h

run_keeps : (run : List ℕ) → NoBlank run → fold step_in_line false run ≡ false
run_keeps [] h = refl
run_keeps (b ∷ run) h = ap (λ x. fold step_in_line x run) (step_no_blank false b h.0) ∙ run_keeps run h.1

pub piece_inside : (s : Bool) (p : List ℕ) → IsPiece p → fold step_in_line s p ≡ false
piece_inside s p k = ap (fold step_in_line s) k.is ∙ ap (λ x. fold step_in_line x k.rest) (step_no_blank s k.first k.no_blank.0) ∙ run_keeps k.rest k.no_blank.1

gap_begins : (b : Bool) → step_in_line false (gap b) ≡ b
gap_begins true = refl
gap_begins false = refl

pub front_of : (all front rest : List ℕ) (n : ℕ) → all ≡ front ++ rest → length front ≡ n → take n all ≡ front
front_of all front rest n e l =
    let low : n ≤ length front = omega arith in
    ap (take n) e ∙ take-append-le n front rest low ∙ take_all n front (omega arith)

item_marks : (all front : List ℕ) (n : ℕ) (is : List Item) → AreKept is → at_line_begin front ≡ false → length front ≡ n → all ≡ front ++ text_of is → map (line_token all) (placed_items n is) ≡ line_items n is
item_marks all front n [] h b l e = refl
item_marks all front n (i ∷ is) h b l e =
    let next : List ℕ = front ++ (gap i.0 ∷ i.1) in
    let before : take (n + 1) all ≡ front ++ (gap i.0 ∷ []) =
    front_of all (front ++ (gap i.0 ∷ [])) (i.1 ++ text_of is) (n + 1) (e ∙ sym (append_assoc front (gap i.0 ∷ []) (i.1 ++ text_of is))) (length-append front (gap i.0 ∷ []) ∙ ap (λ m. m + 1) l) in
    let begins : at_line_begin (take (n + 1) all) ≡ i.0 =
    ap at_line_begin before ∙ fold-append step_in_line true front (gap i.0 ∷ []) ∙ ap (λ s. step_in_line s (gap i.0)) b ∙ gap_begins i.0 in
    let inside : at_line_begin next ≡ false = fold-append step_in_line true front (gap i.0 ∷ i.1) ∙ piece_inside (step_in_line (at_line_begin front) (gap i.0)) i.1 h.0.0 in
    let long : length next ≡ (n + 1) + length i.1 = omega (arith, length-append front (gap i.0 ∷ i.1), l) in
    let more = item_marks all next ((n + 1) + length i.1) is h.1 inside long (e ∙ sym (append_assoc front (gap i.0 ∷ i.1) (text_of is))) in
    (λ j. record { place = n + 1; begins = begins j; text = i.1 } ∷ more j)

-- ---- a text that begins with `s`

first_is_kept : IsKept (codes "s")
first_is_kept = (record { first = 115; rest = []; is = refl; no_blank = (refl, tt) }, refl)

line_tokens_is : (is : List Item) → AreKept is → line_tokens (115 ∷ text_of is) ≡ record { place = 0; begins = true; text = codes "s" } ∷ line_items 1 is
unfolding tokens
line_tokens_is is h =
    ap (map (line_token (115 ∷ text_of is))) (run_from 0 (codes "s") (text_of is) first_is_kept (ends_run is) ∙ ap (λ ts. token_at 0 (codes "s") ∷ ts) (item_tokens 1 is h))
    ∙ ap (λ ts. record { place = 0; begins = true; text = codes "s" } ∷ ts) (item_marks (115 ∷ text_of is) (codes "s") 1 is h refl refl refl)

-- ---- the pieces of an answer

abbrev integer_at : ℕ × Bool → ℤ
integer_at p = as_literal p.1 (suc p.0)

abbrev is_broken : ℕ → Bool
is_broken place = place % 16 == 0 && not (place == 0)

abbrev items_at : ℕ × Bool → List Item
items_at p = cond (is_broken p.0) ((true, codes "v") ∷ (false, printed_integer (integer_at p)) ∷ []) ((false, printed_integer (integer_at p)) ∷ [])

abbrev all_items : List (ℕ × Bool) → List Item
all_items ps = flat_map items_at ps ++ (false, codes "0") ∷ []

piece_is : (p : ℕ × Bool) → cond p.1 [] (codes "-") ++ decimal (p.0 + 1) ≡ printed_integer (integer_at p)
piece_is (k, true) = let e : k + 1 ≡ suc k = omega arith in ap decimal e
piece_is (k, false) = let e : k + 1 ≡ suc k = omega arith in ap (λ m. 45 ∷ decimal m) e

value_text : (p : ℕ × Bool) → printed_value p ≡ break_before p.0 ++ (32 ∷ printed_integer (integer_at p))
value_text p =
    append_assoc (break_before p.0 ++ codes " ") (cond p.1 [] (codes "-")) (decimal (p.0 + 1))
    ∙ append_assoc (break_before p.0) (codes " ") (cond p.1 [] (codes "-") ++ decimal (p.0 + 1))
    ∙ ap (λ t. break_before p.0 ++ (32 ∷ t)) (piece_is p)

item_text : (b : Bool) (w : List ℕ) (xs ys : List Item)
    → text_of ((cond b ((true, codes "v") ∷ (false, w) ∷ []) ((false, w) ∷ []) ++ xs) ++ ys) ≡ (cond b (10 ∷ codes "v") [] ++ (32 ∷ w)) ++ text_of (xs ++ ys)
item_text true w xs ys = refl
item_text false w xs ys = refl

text_items : (ps : List (ℕ × Bool)) → text_of (all_items ps) ≡ flat_map printed_value ps ++ (codes " 0" ++ 10 ∷ [])
text_items [] = refl
text_items (p ∷ ps) =
    item_text (is_broken p.0) (printed_integer (integer_at p)) (flat_map items_at ps) ((false, codes "0") ∷ [])
    ∙ (λ i. sym (value_text p) i ++ text_items ps i)
    ∙ sym (append_assoc (printed_value p) (flat_map printed_value ps) (codes " 0" ++ 10 ∷ []))

numeral_kept : (ds : List ℕ) → IsNumeral 10 ds → IsKept ds
numeral_kept [] h = absurd (let k : 0 < 0 = h.0 in omega arith)
numeral_kept (c ∷ ds) h = (record { first = c; rest = ds; is = refl; no_blank = digits_no_blank (c ∷ ds) (digits_are (c ∷ ds) h.1) }, not_equal c 99 (λ e. let b = digit_bounds c (digit_is c h.1.0) in omega arith))

integer_kept : (z : ℤ) → nat_abs z < 10 ^ 64 → IsKept (printed_integer z)
integer_kept (pos n) h = numeral_kept (decimal n) (decimal_is_IsNumeral_wide n h).0
integer_kept (negsuc n) h =
    let d = (decimal_is_IsNumeral_wide (suc n) h).0 in
    (record { first = 45; rest = decimal (suc n); is = refl; no_blank = (refl, digits_no_blank (decimal (suc n)) (digits_are (decimal (suc n)) d.1)) }, refl)

size_at : (p : ℕ × Bool) → nat_abs (integer_at p) ≡ suc p.0
size_at (k, true) = refl
size_at (k, false) = refl

not_zero : (p : ℕ × Bool) → integer_at p ≢ pos 0
not_zero (k, true) e = cc
not_zero (k, false) e = cc

abbrev AreSmall : List (ℕ × Bool) → Type 0
AreSmall ps = AllByRecursion (λ p. suc p.0 < 10 ^ 64) ps

one_small : (p : ℕ × Bool) → suc p.0 < 10 ^ 64 → nat_abs (integer_at p) < 10 ^ 64
one_small p h = subst (λ n. n < 10 ^ 64) (sym (size_at p)) h

mark_kept : IsKept (codes "v")
mark_kept = (record { first = 118; rest = []; is = refl; no_blank = (refl, tt) }, refl)

zero_kept : IsKept (codes "0")
zero_kept = (record { first = 48; rest = []; is = refl; no_blank = (refl, tt) }, refl)

one_kept : (b : Bool) (w : List ℕ) (xs ys : List Item) → IsKept w → AreKept (xs ++ ys) → AreKept ((cond b ((true, codes "v") ∷ (false, w) ∷ []) ((false, w) ∷ []) ++ xs) ++ ys)
one_kept true w xs ys h k = (mark_kept, (h, k))
one_kept false w xs ys h k = (h, k)

all_kept : (ps : List (ℕ × Bool)) → AreSmall ps → AreKept (all_items ps)
all_kept [] h = (zero_kept, tt)
all_kept (p ∷ ps) h = one_kept (is_broken p.0) (printed_integer (integer_at p)) (flat_map items_at ps) ((false, codes "0") ∷ []) (integer_kept (integer_at p) (one_small p h.0)) (all_kept ps h.1)

-- ---- what they say

module _ (len : ℕ) where
  literal_scan : (n : ℕ) (lits : List ℤ) (z : ℤ) (more : List Item) → nat_abs z < 10 ^ 64 → z ≢ pos 0
      → scan len lits (line_items n ((false, printed_integer z) ∷ more)) ≡ scan len (lits ++ z ∷ []) (line_items ((n + 1) + length (printed_integer z)) more)
  literal_scan n lits z more h nz =
      scan_integer len lits (record { place = n + 1; begins = false; text = printed_integer z }) (line_items ((n + 1) + length (printed_integer z)) more) z refl (integer-printed z h) nz

  one_scan : (b : Bool) (n : ℕ) (lits : List ℤ) (z : ℤ) (xs ys : List Item) (all : List ℤ) → nat_abs z < 10 ^ 64 → z ≢ pos 0
      → ((m : ℕ) → scan len (lits ++ z ∷ []) (line_items m (xs ++ ys)) ≡ whole all)
      → scan len lits (line_items n ((cond b ((true, codes "v") ∷ (false, printed_integer z) ∷ []) ((false, printed_integer z) ∷ []) ++ xs) ++ ys)) ≡ whole all
  one_scan true n lits z xs ys all h nz more = literal_scan ((n + 1) + 1) lits z (xs ++ ys) h nz ∙ more ((((n + 1) + 1) + 1) + length (printed_integer z))
  one_scan false n lits z xs ys all h nz more = literal_scan n lits z (xs ++ ys) h nz ∙ more ((n + 1) + length (printed_integer z))

  scan_items : (n : ℕ) (lits : List ℤ) (ps : List (ℕ × Bool)) → AreSmall ps → scan len lits (line_items n (all_items ps)) ≡ whole (lits ++ map integer_at ps)
  scan_items n lits [] h = ap whole (sym (append-nil lits))
  scan_items n lits (p ∷ ps) h =
      one_scan (is_broken p.0) n lits (integer_at p) (flat_map items_at ps) ((false, codes "0") ∷ []) (lits ++ map integer_at (p ∷ ps)) (one_small p h.0) (not_zero p)
      (λ m. scan_items m (lits ++ integer_at p ∷ []) ps h.1 ∙ ap whole (append_assoc lits (integer_at p ∷ []) (map integer_at ps)))

-- ---- each variable once

written_before : (values : List Bool) (k x : ℕ) → x ≤ k → written_of (map integer_at (enumerate_from k values)) x ≡ []
written_before [] k x h = refl
written_before (b ∷ bs) k x h =
    let rest = written_of (map integer_at (enumerate_from (k + 1) bs)) x in
    let apart : (nat_abs (integer_at (k, b)) == x) ≡ false = not_equal (nat_abs (integer_at (k, b))) x (λ e. omega (arith, size_at (k, b))) in
    ap (λ t. cond t (integer_at (k, b) ∷ rest) rest) apart ∙ written_before bs (k + 1) x (omega arith)

at_first : (b : Bool) (bs : List Bool) (k x : ℕ) → suc k ≡ x → integer_at (k, b) ∷ [] ≡ as_literal (get_or (b ∷ bs) ((x - 1) - k) false) x ∷ []
at_first b bs k x e =
    let f : (x - 1) - k ≡ 0 = omega arith in
    ap (λ y. as_literal b y ∷ []) e ∙ ap (λ i. as_literal (get_or (b ∷ bs) i false) x ∷ []) (sym f)

written_at : (values : List Bool) (k x : ℕ) → k < x → x ≤ k + length values → written_of (map integer_at (enumerate_from k values)) x ≡ as_literal (get_or values ((x - 1) - k) false) x ∷ []
written_at [] k x low high = absurd (omega arith)
written_at (b ∷ bs) k x low high = at_test (nat_abs (integer_at (k, b)) == x) refl (λ h. written_at bs (k + 1) x h (omega arith))
  where
    rest : List ℤ
    rest = written_of (map integer_at (enumerate_from (k + 1) bs)) x

    at_test : (t : Bool) → (nat_abs (integer_at (k, b)) == x) ≡ t → (k + 1 < x → written_of (map integer_at (enumerate_from (k + 1) bs)) x ≡ as_literal (get_or bs ((x - 1) - (k + 1)) false) x ∷ [])
        → cond t (integer_at (k, b) ∷ written_of (map integer_at (enumerate_from (k + 1) bs)) x) (written_of (map integer_at (enumerate_from (k + 1) bs)) x) ≡ as_literal (get_or (b ∷ bs) ((x - 1) - k) false) x ∷ []
    at_test true e more =
        let same : suc k ≡ x = sym (size_at (k, b)) ∙ eqb-true (nat_abs (integer_at (k, b))) x e in
        ap (λ r. integer_at (k, b) ∷ r) (written_before bs (k + 1) x (omega arith)) ∙ at_first b bs k x same
    at_test false e more =
        let apart : suc k ≡ x → ⊥ = λ (f : suc k ≡ x). true≢false (sym (Rattle.std.proofs.Common.eq-eqb (nat_abs (integer_at (k, b))) x (size_at (k, b) ∙ f)) ∙ e) in
        let above : k + 1 < x = omega arith in
        let step : (x - 1) - k ≡ suc ((x - 1) - (k + 1)) = omega arith in
        more above ∙ ap (λ i. as_literal (get_or (b ∷ bs) i false) x ∷ []) (sym step)

given : (formula : Problem) (values : List Bool) → length values ≡ formula.variables → Gives formula (map integer_at (enumerate_from 0 values)) values
given formula values len = record {
  one_each = len;
  as_written = λ x v.
      let at : (x - 1) - 0 ≡ x - 1 = omega arith in
      written_at values 0 x (omega (arith, v.0)) (omega (arith, v.1, len)) ∙ ap (λ i. as_literal (get_or values i false) x ∷ []) at;
}

-- ---- a whole answer

all_small : (values : List Bool) (k limit : ℕ) → k + length values < limit → AllByRecursion (λ p. suc p.0 < limit) (enumerate_from k values)
all_small [] k limit h = tt
all_small (b ∷ bs) k limit h = (omega arith, all_small bs (k + 1) limit (omega arith))

abbrev answer_items : List Bool → List Item
answer_items values = (false, codes "SATISFIABLE") ∷ (true, codes "v") ∷ all_items (enumerate_from 0 values)

answer_kept : (values : List Bool) → AreSmall (enumerate_from 0 values) → AreKept (answer_items values)
answer_kept values h =
    let word : IsKept (codes "SATISFIABLE") = (record { first = 83; rest = codes "ATISFIABLE"; is = refl; no_blank = (refl, (refl, (refl, (refl, (refl, (refl, (refl, (refl, (refl, (refl, (refl, tt))))))))))) }, refl) in
    (word, (mark_kept, all_kept (enumerate_from 0 values) h))

answer_is : (values : List Bool) → 115 ∷ text_of (answer_items values) ≡ answer_text values
answer_is values = ap (λ t. (codes "s SATISFIABLE" ++ 10 ∷ codes "v") ++ t) (text_items (enumerate_from 0 values)) ∙ text_is values

few_small : MAX_VARIABLE < 10 ^ 64
few_small = lit< tt

pub printed_reads : PrintedAnswersRead
printed_reads formula values few meets =
    let ps = enumerate_from 0 values in
    let text : List ℕ = 115 ∷ text_of (answer_items values) in
    let short : 0 + length values < 10 ^ 64 = lt_of_le_of_lt (let k : 0 + length values ≤ MAX_VARIABLE = omega (arith, meets.one_each) in k) few_small in
    let small : AreSmall ps = all_small values 0 (10 ^ 64) short in
    let body : List LineToken = line_items 13 ((true, codes "v") ∷ all_items ps) in
    let status : behind_status (line_tokens text) ≡ Some body = ap behind_status (line_tokens_is (answer_items values) (answer_kept values small)) in
    let scans : scan (length text) [] body ≡ whole (map integer_at ps) = scan_items (length text) ((13 + 1) + 1) [] ps small in
    subst (λ t. AnswerReads t formula values) (answer_is values)
    (record { lits = map integer_at ps; form = answer_of_scan text body (map integer_at ps) status scans; gives = given formula values meets.one_each; meets = meets })
