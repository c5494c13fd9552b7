-- Assignments of at most four variables by their numbers, and the literals that are false under them.
use Rattle.std.proofs.Common.{◌*◌, ◌≡◌, refl, sym, ap, ◌∙◌, ℕ, zero, suc, ◌+◌, ◌-◌, ◌<◌, ◌≤◌, ◌/◌, ◌%◌, ◌^◌, ◌==◌, Bool, true, false, not, cond, ◌&&◌, eqb, eqb-true, List, [], ◌∷◌, ◌++◌, map, filter, length, get_or, take, take_all, arith, append_assoc, append-nil}
use Rattle.std.specs.List.{list_all, range_with_len}
use Rattle.std.proofs.lemmas.List.{map-append}
use Rattle.std.proofs.lemmas.Bool.{and_parts}
use Rattle.cx_base.specs.Literals.{differ}
use mathlib.Core.Bool.{beq}
use Rattle.cx_base.specs.Drafts.{Draft}
use Rattle.cx_base.specs.Parity.{odd_sum}
use Rattle.cx_base.specs.declared.constraint.Constraint.{Constraint}
use Rattle.cx_base.specs.declared.constraint.Constraint.TheVariants.{Clause}
use Rattle.xor_blast.specs.Pieces.{assignments, falsified, is_wrong, clauses_of_piece}
use Rattle.xor_blast.specs.Bits.{bits_of}

-- ---- counting order

abbrev counted : ℕ → List (List Bool)
counted k = map (bits_of k) (range_with_len 0 (2 ^ k))

in_counting_order : (k : ℕ) → k ≤ 4 → assignments k ≡ counted k
in_counting_order zero le = refl
in_counting_order (suc zero) le = refl
in_counting_order (suc (suc zero)) le = refl
in_counting_order (suc (suc (suc zero))) le = refl
in_counting_order (suc (suc (suc (suc zero)))) le = refl
in_counting_order (suc (suc (suc (suc (suc k))))) le = absurd (omega arith)

-- the low bits of a number and of its halves, of which at most four are not 0
abbrev low_bits_odd : ℕ → Bool
low_bits_odd n = (n + n / 2 + n / 4 + n / 8) % 2 == 1

abbrev sum_is_odd : ℕ → ℕ → Bool
sum_is_odd k n = eqb (cond (low_bits_odd n) 1 0) (cond (odd_sum (bits_of k n)) 1 0)

sums_are_odd : (k : ℕ) → k ≤ 4 → list_all (sum_is_odd k) (range_with_len 0 (2 ^ k)) ≡ true
sums_are_odd zero le = refl
sums_are_odd (suc zero) le = refl
sums_are_odd (suc (suc zero)) le = refl
sums_are_odd (suc (suc (suc zero))) le = refl
sums_are_odd (suc (suc (suc (suc zero)))) le = refl
sums_are_odd (suc (suc (suc (suc (suc k))))) le = absurd (omega arith)

in_range : (p : ℕ → Bool) (a m n : ℕ) → list_all p (range_with_len a m) ≡ true → a ≤ n → n < a + m → p n ≡ true
in_range p a zero n h low high = absurd (omega arith)
in_range p a (suc m) n h low high = elim (Rattle.std.proofs.lemmas.Bool.cases_lt a n) [
  | Rattle.std.proofs.Common.inl lt ↦ in_range p (a + 1) m n (and_parts (p a) _ h).1 (omega arith) (omega arith)
  | Rattle.std.proofs.Common.inr le ↦ let e : a ≡ n = omega arith in ap p (sym e) ∙ (and_parts (p a) _ h).0
]

same_bit : (a b : Bool) → eqb (cond a 1 0) (cond b 1 0) ≡ true → a ≡ b
same_bit true true h = refl
same_bit true false h = cc
same_bit false true h = cc
same_bit false false h = refl

pub low_bits_sum : (k n : ℕ) → k ≤ 4 → n < 2 ^ k → low_bits_odd n ≡ odd_sum (bits_of k n)
low_bits_sum k n le lt = same_bit _ _ (in_range (sum_is_odd k) 0 (2 ^ k) n (sums_are_odd k le) (omega arith) (omega arith))

-- ---- the clauses of the first assignments

abbrev pub clauses_below : List ℕ → Bool → ℕ → List Constraint
clauses_below xs right n = map Clause (map (falsified xs) (filter (is_wrong right) (map (bits_of (length xs)) (range_with_len 0 n))))

range_last : (a n : ℕ) → range_with_len a (suc n) ≡ range_with_len a n ++ (a + n) ∷ []
range_last a zero = let e : a ≡ a + zero = omega arith in ap (λ k. k ∷ []) e
range_last a (suc n) = let e : a + 1 + n ≡ a + suc n = omega arith in ap (λ xs. a ∷ xs) (range_last (a + 1) n ∙ ap (λ k. range_with_len (a + 1) n ++ k ∷ []) e)

filter_append : {X : Type 0} (p : X → Bool) (xs ys : List X) → filter p (xs ++ ys) ≡ filter p xs ++ filter p ys
filter_append p [] ys = refl
filter_append p (x ∷ xs) ys = cases (p x) (filter_append p xs ys)
  where
    cases : (b : Bool) → filter p (xs ++ ys) ≡ filter p xs ++ filter p ys → cond b (x ∷ filter p (xs ++ ys)) (filter p (xs ++ ys)) ≡ cond b (x ∷ filter p xs) (filter p xs) ++ filter p ys
    cases true e = ap (λ zs. x ∷ zs) e
    cases false e = e

next_number : (xs : List ℕ) (right : Bool) (n : ℕ) → clauses_below xs right (n + 1)
    ≡ clauses_below xs right n ++ map Clause (map (falsified xs) (cond (is_wrong right (bits_of (length xs) n)) (bits_of (length xs) n ∷ []) []))
next_number xs right n =
    let k = length xs in
    let more : n + 1 ≡ suc n = omega arith in
    let at : 0 + n ≡ n = omega arith in
    ap (clauses_below xs right) more
    ∙ ap (λ ns. map Clause (map (falsified xs) (filter (is_wrong right) (map (bits_of k) ns)))) (range_last 0 n ∙ ap (λ m. range_with_len 0 n ++ m ∷ []) at)
    ∙ ap (λ bs. map Clause (map (falsified xs) (filter (is_wrong right) bs))) (map-append (bits_of k) (range_with_len 0 n) (n ∷ []))
    ∙ ap (λ bs. map Clause (map (falsified xs) bs)) (filter_append (is_wrong right) (map (bits_of k) (range_with_len 0 n)) (bits_of k n ∷ []))
    ∙ ap (map Clause) (map-append (falsified xs) (filter (is_wrong right) (map (bits_of k) (range_with_len 0 n))) (filter (is_wrong right) (bits_of k n ∷ [])))
    ∙ map-append Clause (map (falsified xs) (filter (is_wrong right) (map (bits_of k) (range_with_len 0 n)))) (map (falsified xs) (filter (is_wrong right) (bits_of k n ∷ [])))

pub next_wrong : (xs : List ℕ) (right : Bool) (n : ℕ) → is_wrong right (bits_of (length xs) n) ≡ true → clauses_below xs right (n + 1) ≡ clauses_below xs right n ++ Clause (falsified xs (bits_of (length xs) n)) ∷ []
next_wrong xs right n h = next_number xs right n ∙ ap (λ b. clauses_below xs right n ++ map Clause (map (falsified xs) (cond b (bits_of (length xs) n ∷ []) []))) h

pub next_right : (xs : List ℕ) (right : Bool) (n : ℕ) → is_wrong right (bits_of (length xs) n) ≡ false → clauses_below xs right (n + 1) ≡ clauses_below xs right n
next_right xs right n h =
    next_number xs right n ∙ ap (λ b. clauses_below xs right n ++ map Clause (map (falsified xs) (cond b (bits_of (length xs) n ∷ []) []))) h ∙ append-nil (clauses_below xs right n)

pub all_numbers : (xs : List ℕ) (right : Bool) → length xs ≤ 4 → clauses_below xs right (2 ^ length xs) ≡ map Clause (clauses_of_piece (record { variables = xs; right_side = right }))
all_numbers xs right le = ap (λ list. map Clause (map (falsified xs) (filter (is_wrong right) list))) (sym (in_counting_order (length xs) le))

-- how many assignments there are, as a word of 64 bits
pub word_of_power : (k : ℕ) → k ≤ 4 → 1 * 2 ^ k % 18446744073709551616 ≡ 2 ^ k
word_of_power zero le = refl
word_of_power (suc zero) le = refl
word_of_power (suc (suc zero)) le = refl
word_of_power (suc (suc (suc zero))) le = refl
word_of_power (suc (suc (suc (suc zero)))) le = refl
word_of_power (suc (suc (suc (suc (suc k))))) le = absurd (omega arith)

pub at_most_sixteen : (k : ℕ) → k ≤ 4 → 2 ^ k ≤ 16
at_most_sixteen zero le = omega arith
at_most_sixteen (suc zero) le = omega arith
at_most_sixteen (suc (suc zero)) le = omega arith
at_most_sixteen (suc (suc (suc zero))) le = omega arith
at_most_sixteen (suc (suc (suc (suc zero)))) le = omega arith
at_most_sixteen (suc (suc (suc (suc (suc k))))) le = absurd (omega arith)

-- ---- a builder that has the clauses of the first assignments

abbrev holds : List Constraint → List Constraint → Draft
holds start more = record { constraints = start ++ more; unfinished = [] }

wrong_is : (a b : Bool) → differ a b ≡ not (beq a b)
wrong_is true true = refl
wrong_is true false = refl
wrong_is false true = refl
wrong_is false false = refl

module _ (start : List Constraint) (xs : List ℕ) (right : Bool) (n : ℕ) (odd : Bool) (is : odd ≡ odd_sum (bits_of (length xs) n)) (before after : Draft) (so_far : before ≡ holds start (clauses_below xs right n)) where
  pub added_wrong : not (beq odd right) ≡ true → after ≡ record { constraints = before.constraints ++ Clause (falsified xs (bits_of (length xs) n)) ∷ []; unfinished = [] } → after ≡ holds start (clauses_below xs right (n + 1))
  added_wrong h e =
      e ∙ ap {B = Draft} (λ b. record { constraints = b.constraints ++ Clause (falsified xs (bits_of (length xs) n)) ∷ []; unfinished = [] }) so_far
      ∙ ap (λ cs. holds [] cs) (append_assoc start (clauses_below xs right n) (Clause (falsified xs (bits_of (length xs) n)) ∷ [])
      ∙ ap (λ cs. start ++ cs) (sym (next_wrong xs right n (ap (λ b. differ b right) (sym is) ∙ wrong_is odd right ∙ h))))

  pub passed_right : not (beq odd right) ≡ false → after ≡ before → after ≡ holds start (clauses_below xs right (n + 1))
  passed_right h e = e ∙ so_far ∙ ap (holds start) (sym (next_right xs right n (ap (λ b. differ b right) (sym is) ∙ wrong_is odd right ∙ h)))

pub all_added : (start : List Constraint) (xs : List ℕ) (right : Bool) (n : ℕ) (now : Draft) → length xs ≤ 4 → n ≡ 2 ^ length xs → now ≡ holds start (clauses_below xs right n)
    → now ≡ holds start (map Clause (clauses_of_piece (record { variables = xs; right_side = right })))
all_added start xs right n now few end so_far = so_far ∙ ap (λ m. holds start (clauses_below xs right m)) end ∙ ap (holds start) (all_numbers xs right few)
