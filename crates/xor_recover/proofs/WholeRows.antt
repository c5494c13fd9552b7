-- The starts of neighbouring clauses, and the rows of parities whose clauses follow one another.
use Rattle.std.proofs.Common.{◌≡◌, refl, sym, ap, ◌∙◌, subst, ℕ, zero, suc, ◌+◌, ◌-◌, ◌^◌, ◌<◌, ◌≤◌, false, cond, not, List, [], ◌∷◌, ◌++◌, length, get_or, map, arith, Some, inl, inr, append_assoc, fold, length-append}
use Rattle.std.specs.List.{AllByRecursion, Contains, IsDistinct, range_with_len}
use Rattle.std.proofs.lemmas.Bool.{cases_order, le-leb, false_from_ne_true}
use Rattle.std.proofs.lemmas.List.{length-map, append-nil}
use Rattle.std.proofs.lemmas.List.FromFn.{length-map-range_with_len, map-range_with_len_more}
use Rattle.cx_base.specs.Literals.{Literal}
use Rattle.cx_base.specs.Parity.{odd_sum}
use Rattle.cx_base.specs.Problem.{AreWithin}
use Rattle.cx_base.specs.declared.literal.TheConstants.{MAX_VARIABLE}
use Rattle.cx_base.proofs.Elements.{all_append, in_head, in_tail}
use Rattle.cx_semantics.specs.Chain.{has_literal}
use Rattle.cx_semantics.proofs.RecoveredLaws.{Distinct}
use Rattle.cx_semantics.proofs.Widths.{variables}
use Rattle.parity_engine.specs.Written.{AreRising}
use Rattle.xor_recover.specs.declared.starts.Start.{Start}
use Rattle.xor_recover.specs.declared.wholes.Whole.{Whole}
use Rattle.xor_recover.specs.Rows.{Row, row, rows_if, gathered}
use Rattle.xor_recover.specs.Starts.{Begins, IsStart, row_at, rows_at}
use Rattle.xor_recover.specs.Wholes.{AreOnce, IsWhole, clause_at, count_of, starts_of, starts_of_all}
use Rattle.xor_recover.proofs.Normal.{Rising, gathered_is_normal}
use Rattle.xor_recover.proofs.Numbers.{AllWithin, negatives, from_parts}
use Rattle.xor_recover.proofs.Patterns.{same_signs, same_is}
use Rattle.std.specs.List.Sorted.{IsPermutation}
use Rattle.std.proofs.lemmas.List.Elements.{recursion_from_All, All-from_recursion}
use Rattle.std.proofs.lemmas.List.Sorted.{All-permutation, sum_by-IsPermutation}
use Rattle.std.proofs.lemmas.List.Concat.{flat_map-append}
use Rattle.xor_recover.proofs.Grouping.{power_low}
use Rattle.xor_recover.proofs.StartRows.{AreUpTo, more_starts, start_is, rows_at-append}
use Rattle.xor_recover.proofs.Once.{Gathered, gathered_alike, distinct_gathered, one_order}

-- ---- starts of neighbours

abbrev pub at_number : Start → ℕ → Start
at_number s n = record s { number = n }

abbrev pub neighbours : Start → ℕ → ℕ → List Start
neighbours s a k = map (at_number s) (range_with_len a k)

pub in_neighbours : (s : Start) (a k n : ℕ) → a ≤ n → n < a + k → Contains (neighbours s a k) (at_number s n)
in_neighbours s a zero n low high = absurd (omega arith)
in_neighbours s a (suc k) n low high = elim (cases_order n a) [
  | inl e ↦ subst (λ m. Contains (neighbours s a (suc k)) (at_number s m)) (sym e) (in_head (at_number s a) (neighbours s (a + 1) k))
  | inr order ↦ elim order [
    | inl below ↦ absurd (omega arith)
    | inr over ↦ in_tail (at_number s a) (neighbours s (a + 1) k) (at_number s n) (in_neighbours s (a + 1) k n (omega arith) (omega arith))
  ]
]

pub all_neighbours : (P : Start → Type 0) (s : Start) (a k : ℕ) → ((n : ℕ) → a ≤ n → n < a + k → P (at_number s n)) → AllByRecursion P (neighbours s a k)
all_neighbours P s a zero h = tt
all_neighbours P s a (suc k) h = (h a (omega arith) (omega arith), all_neighbours P s (a + 1) k (λ n low high. h n (omega arith) (omega arith)))

pub len_neighbours : (s : Start) (a k : ℕ) → length (neighbours s a k) ≡ k
len_neighbours s a k = length-map-range_with_len (at_number s) a k

-- ---- their rows

-- the clause has one row, and this is true of it
abbrev pub HasRow : List (List Literal) → (Row → Type 0) → ℕ → Type 0
HasRow C P n = (x : Row) × (row_at C n ≡ x ∷ []) × P x

pub all_rows : (C : List (List Literal)) (P : Row → Type 0) (s : Start) (a k : ℕ) → ((n : ℕ) → a ≤ n → n < a + k → HasRow C P n) → AllByRecursion P (rows_at C (neighbours s a k))
all_rows C P s a zero h = tt
all_rows C P s a (suc k) h =
    let x = h a (omega arith) (omega arith) in
    all_append P (row_at C a) (rows_at C (neighbours s (a + 1) k)) (subst (AllByRecursion P) (sym x.1) (x.2, tt)) (all_rows C P s (a + 1) k (λ n low high. h n (omega arith) (omega arith)))

pub all_numbers : (C : List (List Literal)) (s : Start) (a k : ℕ) → ((n : ℕ) → a ≤ n → n < a + k → HasRow C (λ x. x.number ≡ n) n) → map (λ (x : Row). x.number) (rows_at C (neighbours s a k)) ≡ range_with_len a k
all_numbers C s a zero h = refl
all_numbers C s a (suc k) h =
    let x = h a (omega arith) (omega arith) in
    ap (λ (rs : List Row). map (λ (y : Row). y.number) (rs ++ rows_at C (neighbours s (a + 1) k))) x.1
    ∙ (λ i. x.2 i ∷ all_numbers C s (a + 1) k (λ n low high. h n (omega arith) (omega arith)) i)

-- rows of different numbers have different signs
abbrev pub OfOtherSigns : List (List Literal) → ℕ → ℕ → Type 0
OfOtherSigns C m n = (x y : Row) → row_at C m ≡ x ∷ [] → row_at C n ≡ y ∷ [] → same_signs x.signs y.signs ≡ false

others : (C : List (List Literal)) (s : Start) (x : Row) (b a k : ℕ) → row_at C b ≡ x ∷ [] → ((n : ℕ) → a ≤ n → n < a + k → HasRow C (λ y. same_signs x.signs y.signs ≡ false) n)
    → AllByRecursion (λ q. same_signs x.signs q ≡ false) (map (λ (y : Row). y.signs) (rows_at C (neighbours s a k)))
others C s x b a zero here h = tt
others C s x b a (suc k) here h =
    let y = h a (omega arith) (omega arith) in
    subst (λ (rs : List Row). AllByRecursion (λ q. same_signs x.signs q ≡ false) (map (λ (z : Row). z.signs) (rs ++ rows_at C (neighbours s (a + 1) k)))) (sym y.1)
    (y.2, others C s x b (a + 1) k here (λ n low high. h n (omega arith) (omega arith)))

pub all_apart : (C : List (List Literal)) (s : Start) (a k : ℕ) → ((n : ℕ) → a ≤ n → n < a + k → HasRow C (λ x. Unit {0}) n) → ((m n : ℕ) → a ≤ m → m < n → n < a + k → OfOtherSigns C m n)
    → IsDistinct same_signs (map (λ (x : Row). x.signs) (rows_at C (neighbours s a k)))
unfolding IsDistinct
all_apart C s a zero has apart = tt
all_apart C s a (suc k) has apart =
    let x = has a (omega arith) (omega arith) in
    subst (λ (rs : List Row). IsDistinct same_signs (map (λ (z : Row). z.signs) (rs ++ rows_at C (neighbours s (a + 1) k)))) (sym x.1) (
      others C s x.0 a (a + 1) k x.1 (λ n low high. let y = has n (omega arith) (omega arith) in (y.0, y.1, apart a n (omega arith) (omega arith) (omega arith) x.0 y.0 x.1 y.1)),
      all_apart C s (a + 1) k (λ n low high. has n (omega arith) (omega arith)) (λ m n low less high. apart m n (omega arith) less (omega arith)),
    )

-- ---- clauses that are each once

clause_within : (C : List (List Literal)) (k : ℕ) → AllWithin C → AreWithin MAX_VARIABLE (get_or C k [])
clause_within [] k h = tt
clause_within (c ∷ C) zero h = h.0
clause_within (c ∷ C) (suc k) h = clause_within C k h.1

row_stands : (o : List Literal) (n : ℕ) → 2 ≤ length o → rows_if (Some o) n ≡ row o n ∷ []
row_stands o n two = ap (λ b. cond b (row o n ∷ []) []) (le-leb 2 (length o) two)

-- the clauses from a number on, the first of which is gathered so
pub record Family (C : List (List Literal)) (n count : ℕ) (r : List Literal) : Type 0 where
  pub within : AllWithin C
  pub once : AreOnce C n count
  pub is : gathered [] (clause_at C n) ≡ Some r
  pub long : length r ≡ length (clause_at C n)
  pub two : 2 ≤ length r

of_family : (C : List (List Literal)) (n count : ℕ) (r : List Literal) (j : ℕ) → Family C n count r → j < count → Gathered (clause_at C (n + j)) (variables r)
of_family C n count r j h lt =
    gathered_alike (clause_at C n) r (clause_at C (n + j)) (clause_within C (n - 1) h.within) (clause_within C (n + j - 1) h.within) h.is h.long (h.once.variables j lt)

family_row : (C : List (List Literal)) (n count : ℕ) (r : List Literal) (j : ℕ) (h : Family C n count r) (lt : j < count) → row_at C (n + j) ≡ row (of_family C n count r j h lt).r (n + j) ∷ []
family_row C n count r j h lt =
    let g = of_family C n count r j h lt in
    let wide : length g.r ≡ length r = sym (length-map g.r (λ (l : Literal). l.variable)) ∙ ap length g.variables_are ∙ length-map r (λ (l : Literal). l.variable) in
    ap (λ o. rows_if o (n + j)) g.is ∙ row_stands g.r (n + j) (let two = h.two in omega (arith, two, wide))

some_is : {a b : List Literal} → Some a ≡ Some b → a ≡ b
some_is e = cc

one_row_is : (x y : Row) → x ∷ [] ≡ y ∷ [] → x ≡ y
one_row_is x y e = Rattle.cx_base.proofs.Elements.same_head x y [] [] e

family_apart : (C : List (List Literal)) (n count : ℕ) (r : List Literal) (i j : ℕ) → Family C n count r → i < j → j < count → OfOtherSigns C (n + i) (n + j)
family_apart C n count r i j h less lt x y here there =
    let below : i < count = omega (arith, less, lt) in
    let a = of_family C n count r i h below in
    let b = of_family C n count r j h lt in
    let xs : x ≡ row a.r (n + i) = one_row_is x _ (sym here ∙ family_row C n count r i h below) in
    let ys : y ≡ row b.r (n + j) = one_row_is y _ (sym there ∙ family_row C n count r j h lt) in
    false_from_ne_true (same_signs x.signs y.signs) (λ e. clash a b (sym (ap (λ (z : Row). z.signs) xs) ∙ same_is x.signs y.signs e ∙ ap (λ (z : Row). z.signs) ys))
  where
    clash : (a : Gathered (clause_at C (n + i)) (variables r)) (b : Gathered (clause_at C (n + j)) (variables r)) → negatives a.r ≡ negatives b.r → ⊥
    clash a b signs =
        let below : i < count = omega (arith, less, lt) in
        let one : a.r ≡ b.r = from_parts a.r b.r (a.variables_are ∙ sym b.variables_are) signs in
        let distinct = subst Distinct (sym (h.once.variables i below)) (distinct_gathered (clause_at C n) r (clause_within C (n - 1) h.within) h.is h.long) in
        let same = λ (q : Literal). sym (a.same q) ∙ ap (λ (zs : List Literal). has_literal zs q) one ∙ b.same q in
        h.once.apart i j less lt (one_order (clause_at C (n + i)) (clause_at C (n + j)) (h.once.variables i below ∙ sym (h.once.variables j lt)) distinct same)

-- what is true of each row of the family by its place
by_place : (C : List (List Literal)) (P : ℕ → Row → Type 0) (n count : ℕ) → ((j : ℕ) → j < count → HasRow C (P (n + j)) (n + j)) → (m : ℕ) → n ≤ m → m < n + count → HasRow C (P m) m
by_place C P n count h m low high = let e : n + (m - n) ≡ m = omega arith in subst (λ k. HasRow C (P k) k) e (h (m - n) (omega arith))

pub family_is_whole : (C : List (List Literal)) (n count : ℕ) (r : List Literal) (w : Whole) → Family C n count r → 1 ≤ n → n + count ≤ length C + 1 → w.start.number ≡ n → w.key.vars.items ≡ variables r → w.key.right ≡ not (odd_sum (negatives r))
    → length r ≤ 6 → count_of w ≡ count → w.start.first ≡ get_or (variables r) 0 0 → w.start.second ≡ get_or (variables r) 1 0 → w.start.second < 4294967296 → Rising 1 r → IsWhole C w
family_is_whole C n count r w h low high number vars right six counts first second fits rises =
    let wide : length w.key.vars.items ≡ length r = ap length vars ∙ length-map r (λ (l : Literal). l.variable) in
    let two = h.two in
    record {
      two = omega (arith, wide, two);
      six = omega (arith, wide, six);
      rises = subst (AreRising 1 MAX_VARIABLE) (sym vars) rises;
      each = subst (λ k. AllByRecursion (IsStart C) (neighbours w.start w.start.number k)) (sym counts) (subst (λ k. AllByRecursion (IsStart C) (neighbours w.start k count)) (sym number)
          (all_neighbours (IsStart C) w.start n count starts_there));
      rows = moved (λ a k. AllByRecursion (λ x. (x.variables ≡ w.key.vars.items) × (x.right ≡ w.key.right)) (rows_at C (neighbours w.start a k)))
          (all_rows C (λ x. (x.variables ≡ w.key.vars.items) × (x.right ≡ w.key.right)) w.start n count (λ m lo hi. let x = has_row m lo hi in (x.0, x.1, (x.2.0 ∙ sym vars, x.2.1 ∙ ap not (sym first_is) ∙ sym right))));
      numbers = moved (λ a k. map (λ (x : Row). x.number) (rows_at C (neighbours w.start a k)) ≡ range_with_len a k)
          (all_numbers C w.start n count (λ m lo hi. let x = has_row m lo hi in (x.0, x.1, x.2.2)));
      apart = moved (λ a k. IsDistinct same_signs (map (λ (x : Row). x.signs) (rows_at C (neighbours w.start a k))))
          (all_apart C w.start n count (λ m lo hi. let x = has_row m lo hi in (x.0, x.1, tt)) apart_there);
    }
  where
    has_row : (m : ℕ) → n ≤ m → m < n + count → HasRow C (λ x. (x.variables ≡ variables r) × (x.right ≡ not (odd_sum (negatives (clause_at C n)))) × (x.number ≡ m)) m
    has_row = by_place C (λ m x. (x.variables ≡ variables r) × (x.right ≡ not (odd_sum (negatives (clause_at C n)))) × (x.number ≡ m)) n count there
      where
        there : (j : ℕ) → j < count → HasRow C (λ x. (x.variables ≡ variables r) × (x.right ≡ not (odd_sum (negatives (clause_at C n)))) × (x.number ≡ n + j)) (n + j)
        there j lt = let g = of_family C n count r j h lt in (row g.r (n + j), family_row C n count r j h lt, (g.variables_are, ap not (g.sum ∙ h.once.sums j lt), refl))

    moved : (P : ℕ → ℕ → Type 0) → P n count → P w.start.number (count_of w)
    moved P p = subst (λ a. P a (count_of w)) (sym number) (subst (P n) (sym counts) p)

    first_is : odd_sum (negatives r) ≡ odd_sum (negatives (clause_at C n))
    first_is = let g = gathered_alike (clause_at C n) r (clause_at C n) (clause_within C (n - 1) h.within) (clause_within C (n - 1) h.within) h.is h.long refl in ap (λ (rs : List Literal). odd_sum (negatives rs)) (some_is (sym h.is ∙ g.is)) ∙ g.sum

    starts_there : (m : ℕ) → n ≤ m → m < n + count → IsStart C (at_number w.start m)
    starts_there m lo hi =
        let x = has_row m lo hi in
        record {
          low = omega (arith, low, lo);
          high = omega (arith, high, hi);
          fits = fits;
          begins = subst (AllByRecursion (Begins (at_number w.start m))) (sym x.1) ((ap (λ (vs : List ℕ). get_or vs 0 0) x.2.0 ∙ sym first, ap (λ (vs : List ℕ). get_or vs 1 0) x.2.0 ∙ sym second), tt);
        }

    apart_there : (i j : ℕ) → n ≤ i → i < j → j < n + count → OfOtherSigns C i j
    apart_there i j lo less hi x y here there =
        let a : n + (i - n) ≡ i = omega (arith, lo) in
        let b : n + (j - n) ≡ j = omega (arith, lo, less) in
        family_apart C n count r (i - n) (j - n) h (omega (arith, lo, less)) (omega (arith, lo, less, hi)) x y (ap (row_at C) a ∙ here) (ap (row_at C) b ∙ there)

-- ---- neighbours read one after the other

pub neighbours_more : (s : Start) (a k : ℕ) → neighbours s a (k + 1) ≡ neighbours s a k ++ at_number s (a + k) ∷ []
neighbours_more s a k = map-range_with_len_more (at_number s) a k (a + k) refl

pub number_rows_more : (C : List (List Literal)) (s : Start) (a k : ℕ) (lits : List Literal) (base old new : List Row) → get_or C (a + k - 1) [] ≡ lits → old ≡ base ++ rows_at C (neighbours s a k) → new ≡ old ++ rows_if (gathered [] lits) (a + k)
    → new ≡ base ++ rows_at C (neighbours s a (k + 1))
number_rows_more C s a k lits base old new read e pushed =
    pushed ∙ (λ i. e i ++ rows_if (gathered [] (sym read i)) (a + k)) ∙ append_assoc base (rows_at C (neighbours s a k)) (row_at C (a + k))
    ∙ ap (λ (rs : List Row). base ++ rs) (ap (λ (rs : List Row). rows_at C (neighbours s a k) ++ rs) (sym (append-nil (row_at C (a + k))))
    ∙ sym (rows_at-append C (neighbours s a k) (at_number s (a + k) ∷ [])) ∙ ap (rows_at C) (sym (neighbours_more s a k)))

-- a clause of a whole parity is one of the formula's
pub whole_inside : (C : List (List Literal)) (w : Whole) (k : ℕ) → IsWhole C w → k < count_of w → (1 ≤ w.start.number + k) × (w.start.number + k ≤ length C)
whole_inside C w k h lt =
    let is = start_is C (starts_of w) (at_number w.start (w.start.number + k)) h.each (in_neighbours w.start w.start.number (count_of w) (w.start.number + k) (omega arith) (omega (arith, lt))) in
    (is.low, is.high)

pub wholes_each : (C : List (List Literal)) (ws : List Whole) → AllByRecursion (IsWhole C) ws → AllByRecursion (IsStart C) (starts_of_all ws)
wholes_each C [] h = tt
wholes_each C (w ∷ ws) h = all_append (IsStart C) (starts_of w) (starts_of_all ws) h.0.each (wholes_each C ws h.1)

pub range_more : (a n : ℕ) → range_with_len a (n + 1) ≡ range_with_len a n ++ (a + n) ∷ []
range_more a zero = let e : a ≡ a + 0 = omega arith in ap (λ m. m ∷ []) e
range_more a (suc n) =
    let next : suc n + 1 ≡ suc (n + 1) = omega arith in
    let last : a + 1 + n ≡ a + suc n = omega arith in
    ap (range_with_len a) next ∙ ap (λ ns. a ∷ ns) (range_more (a + 1) n) ∙ ap (λ m. (a ∷ range_with_len (a + 1) n) ++ m ∷ []) last

pub wholes_push : (ws new : List Whole) (w : Whole) → new ≡ ws ++ w ∷ [] → starts_of_all new ≡ starts_of_all ws ++ starts_of w
wholes_push ws new w e = ap starts_of_all e ∙ flat_map-append starts_of ws (w ∷ []) ∙ ap (λ (ss : List Start). starts_of_all ws ++ ss) (append-nil (starts_of w))

pub count_low : (w : Whole) → 2 ≤ length w.key.vars.items → length w.key.vars.items ≤ 6 → 1 ≤ count_of w
count_low w two six = power_low (length w.key.vars.items) (omega arith) six

-- one whole parity more
pub whole_more : (C : List (List Literal)) (S : List Start) (W new : List Whole) (w : Whole) (k count : ℕ) → IsWhole C w → w.start.number ≡ k + 1 → count ≡ count_of w → new ≡ W ++ w ∷ [] → AreUpTo C S (starts_of_all W) k → AreUpTo C S (starts_of_all new) (k + count)
whole_more C S W new w k count h number counts pushed upto =
    let low = count_low w h.two h.six in
    let last = (whole_inside C w (count_of w - 1) h (omega (arith, low))).1 in
    more_starts C S (starts_of_all W) (starts_of_all new) (starts_of w) k count h.each (len_neighbours w.start w.start.number (count_of w) ∙ sym counts)
    (λ n lt le. (at_number w.start n, in_neighbours w.start w.start.number (count_of w) n (omega (arith, number, lt)) (omega (arith, number, le, counts)), refl))
    (omega (arith, last, number, counts, low)) (wholes_push W new w pushed) upto

second_fits : (r : List Literal) → Rising 1 r → get_or (variables r) 1 0 < 4294967296
second_fits [] h = omega arith
second_fits (x ∷ []) h = omega arith
second_fits (x ∷ y ∷ r) h = let high : y.variable ≤ MAX_VARIABLE = h.2.1 in omega (arith, high)

-- what is gathered from the first clause
pub whole_is : (C : List (List Literal)) (n count : ℕ) (lits r : List Literal) (w : Whole) → AllWithin C → AreOnce C n count → clause_at C n ≡ lits → gathered [] lits ≡ Some r → length r ≡ length lits → 2 ≤ length lits → length lits ≤ 6
    → 1 ≤ n → n + count ≤ length C + 1 → count ≡ 2 ^ (length lits - 1) → w.start.number ≡ n → w.key.vars.items ≡ variables r → w.key.right ≡ not (odd_sum (negatives r)) → w.start.first ≡ get_or (variables r) 0 0 → w.start.second ≡ get_or (variables r) 1 0 → IsWhole C w
whole_is C n count lits r w within once read e long two six low high counts number vars right first second =
    let normal = gathered_is_normal lits r (subst (AreWithin MAX_VARIABLE) read (clause_within C (n - 1) within)) e in
    let fits : w.start.second < 4294967296 = (let f = second_fits r normal.rises in omega (arith, f, second)) in
    let wide : length w.key.vars.items ≡ length lits = ap length vars ∙ length-map r (λ (l : Literal). l.variable) ∙ long in
    family_is_whole C n count r w (record { within = within; once = once; is = ap (gathered []) read ∙ e; long = long ∙ ap length (sym read); two = omega (arith, long, two) })
    low high number vars right (omega (arith, long, six)) (ap (λ m. 2 ^ (m - 1)) wide ∙ sym counts) first second fits normal.rises

pub at_whole : (C : List (List Literal)) (ws : List Whole) (k : ℕ) (d w : Whole) → AllByRecursion (IsWhole C) ws → k < length ws → w ≡ get_or ws k d → IsWhole C w
at_whole C [] k d w h lt e = absurd (omega arith)
at_whole C (v ∷ ws) zero d w h lt e = subst (IsWhole C) (sym e) h.0
at_whole C (v ∷ ws) (suc k) d w h lt e = at_whole C ws k d w h.1 (omega arith) e

-- ---- in another order

sum_from : (n : ℕ) (ws : List Whole) → fold (λ a w. a + count_of w) n ws ≡ n + length (starts_of_all ws)
sum_from n [] = omega arith
sum_from n (w ∷ ws) =
    let rest = sum_from (n + count_of w) ws in
    let both = length-append (starts_of w) (starts_of_all ws) in
    let here = len_neighbours w.start w.start.number (count_of w) in
    omega (arith, rest, both, here)

pub len_moved : (W W' : List Whole) → IsPermutation W W' → length (starts_of_all W') ≡ length (starts_of_all W)
len_moved W W' moves = let a = sum_from 0 W in let b = sum_from 0 W' in let e = sum_by-IsPermutation count_of W W' moves in omega (arith, a, b, e)

pub wholes_moved : (C : List (List Literal)) (W W' : List Whole) → IsPermutation W W' → AllByRecursion (IsWhole C) W → AllByRecursion (IsWhole C) W'
wholes_moved C W W' moves h = recursion_from_All (IsWhole C) W' (All-permutation (IsWhole C) W W' moves (All-from_recursion (IsWhole C) W h))
