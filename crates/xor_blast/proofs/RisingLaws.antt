-- The variables of a normal form, rising.
use Rattle.std.proofs.Common.{◌≡◌, refl, sym, ap, ◌∙◌, subst, ℕ, zero, suc, ◌+◌, ◌<◌, ◌≤◌, ◌%◌, Bool, true, false, cond, ◌&&◌, ◌||◌, nat_eq, List, [], ◌∷◌, map, filter, count_by, arith}
use Rattle.std.specs.List.{list_any, range_with_len, AllByRecursion}
use Rattle.std.specs.List.Sorted.{IsPermutation, IsStrictlySortedBy}
use Rattle.std.specs.Ordering.{nat_cmp, MatchOrdering}
use Rattle.std.specs.declared.cmp.Ordering.{Ordering}
use Rattle.std.specs.declared.cmp.Ordering.TheVariants.{Less, Equal, Greater}
use Rattle.std.specs.Cmp.{nat_cmp_total, ranks}
use Rattle.std.specs.FinSet as set
use Rattle.std.proofs.lemmas.Map.Lookups.{btree_set_from_contains, exact_unsigned}
use Rattle.std.proofs.lemmas.List.Sorted.{sum_by-IsPermutation}
use Rattle.std.proofs.lemmas.Bool.{eq-eqb, ne_eqb, cases_lt}
use Rattle.std.proofs.lemmas.Bool.Decides.{nat_tests}
use Rattle.cx_base.specs.Literals.{Literal, differ}
use Rattle.cx_base.specs.Parity.{normal_form, occurs_odd}
use Rattle.cx_base.specs.Problem.{AreWithin}
use Rattle.cx_base.proofs.Odd.{is_odd, is_odd-count}
use Rattle.cx_base.proofs.ParityLaws.{contains-normal_form}
use Rattle.cx_base.proofs.Differences.{same_members}
use Rattle.xor_blast.specs.Pieces.{rising_variables}
use Rattle.xor_blast.specs.Rising.{KeepsOdd}
use Rattle.xor_blast.proofs.OddLaws.{stands_odd}

-- the members of the set, rising
record RisesOver (members : set.FinSet nat_cmp) (xs : List ℕ) : Type 0 where
  same : set.from_list xs ≡ members
  rising : IsStrictlySortedBy nat_cmp xs

-- two rising lists of the same numbers are one
rising_once : (s : set.FinSet nat_cmp) (xs ys : List ℕ) → RisesOver s xs → RisesOver s ys → xs ≡ ys
rising_once s xs ys h k =
    btree_set_from_contains nat_cmp_total (record { keys = xs }) (record { keys = ys }) h.rising k.rising
    (λ q. sym (set.contains-from_list nat_cmp_total xs q) ∙ ap (λ m. set.contains m q) (h.same ∙ sym k.same) ∙ set.contains-from_list nat_cmp_total ys q) exact_unsigned

occurs_as : (lits : List Literal) (q : ℕ) → stands_odd (map (λ l. l.variable) lits) q ≡ occurs_odd lits q
occurs_as [] q = refl
occurs_as (l ∷ lits) q =
    is_odd-count (λ x. nat_eq x q) l.variable (map (λ m. m.variable) lits) ∙ ap (differ (nat_eq l.variable q)) (occurs_as lits q) ∙ sym (is_odd-count (λ m. nat_eq m.variable q) l lits)

-- of the sorted numbers of the variables, those that occur there an odd number of times
variables_of_sorted : (lits : List Literal) (sorted variables : List ℕ) → IsPermutation (map (λ l. l.variable) lits) sorted → KeepsOdd sorted variables → RisesOver (normal_form lits).variables variables
variables_of_sorted lits sorted variables moved keeps = record {
  same = same_members _ _ (λ q.
      set.contains-from_list_nat variables q ∙ keeps.odd q
      ∙ ap is_odd (sum_by-IsPermutation (λ x. cond (nat_eq x q) 1 0) (map (λ l. l.variable) lits) sorted moved)
      ∙ occurs_as lits q ∙ sym (contains-normal_form lits q));
  rising = keeps.rising;
}

-- the right side is 1 where an even number of literals is negative
pub right_side-even : (lits : List Literal) → nat_eq (count_by (λ l. l.negative) lits % 2) 0 ≡ (normal_form lits).right_side
unfolding normal_form
right_side-even lits = even_next (count_by (λ l. l.negative) lits)
  where
    even_next : (n : ℕ) → nat_eq (n % 2) 0 ≡ is_odd (1 + n)
    even_next n = grind (arith, nat_tests)

-- ---- the numbers of a range that pass a test

less_is : (y x : ℕ) → y < x → nat_cmp y x ≡ Less
less_is y x lt = go (nat_cmp y x) (ranks y x)
  where
    go : (o : Ordering) → MatchOrdering o (y < x) (y ≡ x) (x < y) → o ≡ Less
    go Less m = refl
    go Equal m = absurd (omega arith)
    go Greater m = absurd (omega arith)

all_above : (p : ℕ → Bool) (x k m : ℕ) → x < k → AllByRecursion (λ y. nat_cmp x y ≡ Less) (filter p (range_with_len k m))
all_above p x k zero lt = tt
all_above p x k (suc m) lt = cases (p k) (all_above p x (k + 1) m (omega arith))
  where
    cases : (b : Bool) → AllByRecursion (λ y. nat_cmp x y ≡ Less) (filter p (range_with_len (k + 1) m)) → AllByRecursion (λ y. nat_cmp x y ≡ Less) (cond b (k ∷ filter p (range_with_len (k + 1) m)) (filter p (range_with_len (k + 1) m)))
    cases true h = (less_is x k lt, h)
    cases false h = h

filtered_rise : (p : ℕ → Bool) (k m : ℕ) → IsStrictlySortedBy nat_cmp (filter p (range_with_len k m))
unfolding IsStrictlySortedBy
filtered_rise p k zero = tt
filtered_rise p k (suc m) = cases (p k) (all_above p k (k + 1) m (omega arith)) (filtered_rise p (k + 1) m)
  where
    cases : (b : Bool) → AllByRecursion (λ y. nat_cmp k y ≡ Less) (filter p (range_with_len (k + 1) m)) → IsStrictlySortedBy nat_cmp (filter p (range_with_len (k + 1) m))
        → IsStrictlySortedBy nat_cmp (cond b (k ∷ filter p (range_with_len (k + 1) m)) (filter p (range_with_len (k + 1) m)))
    cases true h g = (h, g)
    cases false h g = g

-- below its first number a range has none, and from it on just those that pass
under : (p : ℕ → Bool) (k m q : ℕ) → q < k → list_any (λ y. nat_eq y q) (filter p (range_with_len k m)) ≡ false
under p k zero q lt = refl
under p k (suc m) q lt = cases (p k) (under p (k + 1) m q (omega arith))
  where
    cases : (b : Bool) → list_any (λ y. nat_eq y q) (filter p (range_with_len (k + 1) m)) ≡ false → list_any (λ y. nat_eq y q) (cond b (k ∷ filter p (range_with_len (k + 1) m)) (filter p (range_with_len (k + 1) m))) ≡ false
    cases true h = (λ i. ne_eqb k q (λ e. omega arith) i || h i)
    cases false h = h

has_at : (p : ℕ → Bool) (k m : ℕ) (q : ℕ) → k ≤ q → q < k + m → list_any (λ y. nat_eq y q) (filter p (range_with_len k m)) ≡ p q
has_at p k zero q low high = absurd (omega arith)
has_at p k (suc m) q low high =
    elim (cases_lt k q) [
      | Rattle.std.proofs.Common.inl lt ↦ cases (p k) (ne_eqb k q (λ e. omega arith)) (has_at p (k + 1) m q (omega arith) (omega arith))
      | Rattle.std.proofs.Common.inr le ↦ let e : k ≡ q = omega arith in here (p k) (eq-eqb k q e) (under p (k + 1) m q (omega arith)) ∙ ap p e
    ]
  where
    rest : List ℕ
    rest = filter p (range_with_len (k + 1) m)

    cases : (b : Bool) → nat_eq k q ≡ false → list_any (λ y. nat_eq y q) rest ≡ p q → list_any (λ y. nat_eq y q) (cond b (k ∷ rest) rest) ≡ p q
    cases true e h = ap (λ c. c || list_any (λ y. nat_eq y q) rest) e ∙ h
    cases false e h = h

    here : (b : Bool) → nat_eq k q ≡ true → list_any (λ y. nat_eq y q) rest ≡ false → list_any (λ y. nat_eq y q) (cond b (k ∷ rest) rest) ≡ b
    here true e h = ap (λ c. c || list_any (λ y. nat_eq y q) rest) e
    here false e h = h

above : (p : ℕ → Bool) (k m q : ℕ) → k + m ≤ q → list_any (λ y. nat_eq y q) (filter p (range_with_len k m)) ≡ false
above p k zero q le = refl
above p k (suc m) q le = cases (p k) (above p (k + 1) m q (omega arith))
  where
    cases : (b : Bool) → list_any (λ y. nat_eq y q) (filter p (range_with_len (k + 1) m)) ≡ false → list_any (λ y. nat_eq y q) (cond b (k ∷ filter p (range_with_len (k + 1) m)) (filter p (range_with_len (k + 1) m))) ≡ false
    cases true h = (λ i. ne_eqb k q (λ e. omega arith) i || h i)
    cases false h = h

-- only variables from 1 up to n occur
elsewhere : (n q : ℕ) (lits : List Literal) → AreWithin n lits → (1 ≤ q → n < q) → occurs_odd lits q ≡ false
elsewhere n q [] h out = refl
elsewhere n q (l ∷ lits) h out =
    let low : 1 ≤ l.variable = h.0.0 in
    let high : l.variable ≤ n = h.0.1 in
    let other : nat_eq l.variable q ≡ false = ne_eqb l.variable q (λ e. let far : n < q = out (omega arith) in omega arith) in
    is_odd-count (λ m. nat_eq m.variable q) l lits ∙ (λ i. differ (other i) (elsewhere n q lits h.1 out i))

rising_is : (n : ℕ) (lits : List Literal) → AreWithin n lits → RisesOver (normal_form lits).variables (rising_variables n lits)
rising_is n lits h =
    let p = set.contains (normal_form lits).variables in
    record {
      same = same_members _ _ (λ q. set.contains-from_list_nat (rising_variables n lits) q ∙
          elim (cases_lt q 1) [
            | Rattle.std.proofs.Common.inl lt ↦ under p 1 n q lt ∙ sym (contains-normal_form lits q ∙ elsewhere n q lits h (λ low. absurd (omega arith)))
            | Rattle.std.proofs.Common.inr low ↦ elim (cases_lt n q) [
              | Rattle.std.proofs.Common.inl far ↦ above p 1 n q (omega arith) ∙ sym (contains-normal_form lits q ∙ elsewhere n q lits h (λ _. far))
              | Rattle.std.proofs.Common.inr near ↦ has_at p 1 n q low (omega arith)
            ]
          ]);
      rising = filtered_rise p 1 n;
    }

pub rising_of_sorted : (lits : List Literal) (sorted variables : List ℕ) (n : ℕ) → IsPermutation (map (λ l. l.variable) lits) sorted → KeepsOdd sorted variables → AreWithin n lits → variables ≡ rising_variables n lits
rising_of_sorted lits sorted variables n moved keeps within = rising_once _ _ _ (variables_of_sorted lits sorted variables moved keeps) (rising_is n lits within)

-- ---- they are variables

within_range : (p : ℕ → Bool) (k m : ℕ) → 1 ≤ k → AllByRecursion (λ x. (1 ≤ x) × (x < k + m)) (filter p (range_with_len k m))
within_range p k zero low = tt
within_range p k (suc m) low = cases (p k) (wider (filter p (range_with_len (k + 1) m)) (within_range p (k + 1) m (omega arith)))
  where
    wider : (xs : List ℕ) → AllByRecursion (λ x. (1 ≤ x) × (x < k + 1 + m)) xs → AllByRecursion (λ x. (1 ≤ x) × (x < k + suc m)) xs
    wider [] h = tt
    wider (x ∷ xs) h = ((h.0.0, let high = h.0.1 in omega arith), wider xs h.1)

    cases : (b : Bool) → AllByRecursion (λ x. (1 ≤ x) × (x < k + suc m)) (filter p (range_with_len (k + 1) m)) → AllByRecursion (λ x. (1 ≤ x) × (x < k + suc m)) (cond b (k ∷ filter p (range_with_len (k + 1) m)) (filter p (range_with_len (k + 1) m)))
    cases true h = ((low, omega arith), h)
    cases false h = h

up_to : (n : ℕ) (xs : List ℕ) → AllByRecursion (λ x. (1 ≤ x) × (x < 1 + n)) xs → AllByRecursion (λ x. (1 ≤ x) × (x ≤ n)) xs
up_to n [] h = tt
up_to n (x ∷ xs) h = ((h.0.0, let high = h.0.1 in omega arith), up_to n xs h.1)

-- from 1 up to n
pub rising_within : (n : ℕ) (lits : List Literal) → AllByRecursion (λ x. (1 ≤ x) × (x ≤ n)) (rising_variables n lits)
rising_within n lits = up_to n (rising_variables n lits) (within_range (set.contains (normal_form lits).variables) 1 n (omega arith))
