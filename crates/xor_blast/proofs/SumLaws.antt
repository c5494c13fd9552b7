-- A parity is met just where the variables of its normal form have its right side as their sum.
use Rattle.std.proofs.Common.{◌≡◌, refl, sym, ap, ◌∙◌, ℕ, zero, suc, ◌+◌, ◌≤◌, Bool, true, false, not, cond, ◌&&◌, nat_eq, List, [], ◌∷◌, ◌++◌, map, filter, arith}
use Rattle.std.specs.List.{range_with_len}
use Rattle.std.specs.FinSet as set
use Rattle.std.proofs.lemmas.List.{map-append}
use Rattle.std.specs.Cmp.{both_ways}
use Rattle.std.proofs.lemmas.Bool.{ne_eqb}
use Rattle.cx_base.specs.Literals.{Literal, differ, value_of}
use Rattle.cx_base.specs.Parity.{normal_form, occurs_odd, odd_sum}
use Rattle.cx_base.specs.Problem.{parity_met, AreWithin}
use Rattle.cx_base.proofs.Odd.{is_odd-count}
use Rattle.cx_base.proofs.ParityLaws.{sum_below, sum_of_members, AreBelow, Sums-from_met, met-from_Sums, contains-normal_form}
use Rattle.xor_blast.specs.Pieces.{rising_variables}
use Rattle.xor_blast.proofs.ChainLaws.{sum_is}

sum_push : (bits : List Bool) (b : Bool) → odd_sum (bits ++ b ∷ []) ≡ differ b (odd_sum bits)
sum_push [] b = refl
sum_push (a ∷ bits) b = ap (differ a) (sum_push bits b) ∙ swapped a b (odd_sum bits)
  where
    swapped : (a b c : Bool) → differ a (differ b c) ≡ differ b (differ a c)
    swapped true true c = refl
    swapped true false c = refl
    swapped false b c = refl

range_last : (a n : ℕ) → range_with_len a (suc n) ≡ range_with_len a n ++ (a + n) ∷ []
range_last a zero = let e : a ≡ a + zero = omega arith in ap (λ k. k ∷ []) e
range_last a (suc n) = let e : a + 1 + n ≡ a + suc n = omega arith in ap (λ xs. a ∷ xs) (range_last (a + 1) n ∙ ap (λ k. range_with_len (a + 1) n ++ k ∷ []) e)

sum_of_range : (f : ℕ → Bool) (n : ℕ) → odd_sum (map f (range_with_len 0 n)) ≡ sum_below n f
sum_of_range f zero = refl
sum_of_range f (suc n) =
    let e : 0 + n ≡ n = omega arith in
    ap (λ xs. odd_sum (map f xs)) (range_last 0 n) ∙ ap odd_sum (map-append f (range_with_len 0 n) ((0 + n) ∷ []))
    ∙ sum_push (map f (range_with_len 0 n)) (f (0 + n)) ∙ (λ i. differ (f (e i)) (sum_of_range f n i))

sum_of_filter : (p f : ℕ → Bool) (xs : List ℕ) → odd_sum (map f (filter p xs)) ≡ odd_sum (map (λ x. p x && f x) xs)
sum_of_filter p f [] = refl
sum_of_filter p f (x ∷ xs) = cases (p x) (sum_of_filter p f xs)
  where
    cases : (b : Bool) → odd_sum (map f (filter p xs)) ≡ odd_sum (map (λ y. p y && f y) xs)
        → odd_sum (map f (cond b (x ∷ filter p xs) (filter p xs))) ≡ differ (b && f x) (odd_sum (map (λ y. p y && f y) xs))
    cases true e = ap (differ (f x)) e
    cases false e = e

-- no literal has the variable 0
never_zero : (n : ℕ) (lits : List Literal) → AreWithin n lits → occurs_odd lits 0 ≡ false
never_zero n [] h = refl
never_zero n (l ∷ lits) h =
    let low : 1 ≤ l.variable = h.0.0 in
    is_odd-count (λ m. nat_eq m.variable 0) l lits ∙ (λ i. differ (ne_eqb l.variable 0 (λ e. omega arith) i) (never_zero n lits h.1 i))

below : (n : ℕ) (lits : List Literal) → AreWithin n lits → AreBelow (suc n) lits
below n [] h = tt
below n (l ∷ lits) h = (let high : l.variable ≤ n = h.0.1 in omega arith, below n lits h.1)

sum_of_rising : (n : ℕ) (values : List Bool) (lits : List Literal) → AreWithin n lits
    → sum_of_members (suc n) values (normal_form lits).variables ≡ odd_sum (map (value_of values) (rising_variables n lits))
sum_of_rising n values lits h =
    let s = (normal_form lits).variables in
    let term : ℕ → Bool = λ x. set.contains s x && value_of values x in
    sym (sum_of_range term (suc n))
    ∙ ap (λ b. differ (b && value_of values 0) (odd_sum (map term (range_with_len 1 n)))) (contains-normal_form lits 0 ∙ never_zero n lits h)
    ∙ sym (sum_of_filter (set.contains s) (value_of values) (range_with_len 1 n))

alike : (a b : Bool) → a ≡ b → not (differ a b) ≡ true
alike a b e = ap (λ c. not (differ c b)) e ∙ itself b
  where
    itself : (c : Bool) → not (differ c c) ≡ true
    itself true = refl
    itself false = refl

from_alike : (a b : Bool) → not (differ a b) ≡ true → a ≡ b
from_alike true true h = refl
from_alike true false h = cc
from_alike false true h = cc
from_alike false false h = refl

pub parity_by_sum : (n : ℕ) (values : List Bool) (lits : List Literal) → AreWithin n lits
    → parity_met values lits ≡ sum_is (map (value_of values) (rising_variables n lits)) (normal_form lits).right_side
parity_by_sum n values lits h =
    let right = (normal_form lits).right_side in
    let less = below n lits h in
    both_ways (parity_met values lits) (not (differ (sum_of_members (suc n) values (normal_form lits).variables) right))
    (λ met. alike _ right (Sums-from_met (suc n) values lits less met))
    (λ same. met-from_Sums (suc n) values lits less (from_alike _ right same))
    ∙ ap (λ b. not (differ b right)) (sum_of_rising n values lits h)
