-- A parity by the values of its variables, each named once.
use Rattle.std.proofs.Common.{◌≡◌, refl, sym, ap, ◌∙◌, subst, ℕ, zero, suc, ◌+◌, ◌-◌, ◌<◌, ◌≤◌, Bool, true, false, not, ◌&&◌, ◌||◌, nat_eq, eqb-true, List, [], ◌∷◌, map, get_or, arith, true≢false}
use Rattle.std.specs.List.{list_any, AllByRecursion}
use Rattle.std.specs.Ordering.{nat_cmp}
use Rattle.std.specs.Cmp.{both_ways}
use Rattle.std.specs.FinSet as set
use Rattle.cx_base.specs.Literals.{Literal, differ, value_of}
use Rattle.cx_base.specs.Problem.{parity_met}
use Rattle.cx_base.specs.Parity.{normal_form, odd_sum}
use Rattle.cx_base.proofs.ParityLaws.{sum_below, sum_below-differ, sum_below-one, differ_and, sum_of_members, no_members, Sums-from_met, met-from_Sums}
use Rattle.cx_base.proofs.Differences.{differ_assoc, not_differ-same, same-not_differ, differ_move}
use Rattle.cx_semantics.proofs.RecoveredLaws.{or_apart}
use Rattle.cx_semantics.proofs.Soundness.{roof, below_roof}
use Rattle.proof_rules.specs.Assignments.{AreDistinct, Lists}

-- ---- values by a function

-- the values of the variables from 1 to n
abbrev pub values_by : ℕ → (ℕ → Bool) → List Bool
values_by zero f = []
values_by (suc n) f = f 1 ∷ values_by n (λ x. f (suc x))

get_or-values_by : (n : ℕ) (f : ℕ → Bool) (i : ℕ) → i < n → get_or (values_by n f) i false ≡ f (suc i)
get_or-values_by zero f i h = absurd (omega arith)
get_or-values_by (suc n) f zero h = refl
get_or-values_by (suc n) f (suc i) h = get_or-values_by n (λ x. f (suc x)) i (omega arith)

pub value_of-values_by : (n : ℕ) (f : ℕ → Bool) (x : ℕ) → 1 ≤ x → x ≤ n → value_of (values_by n f) x ≡ f x
value_of-values_by n f x low high =
    let k : x - 1 < n = omega arith in
    let e : suc (x - 1) ≡ x = omega arith in
    get_or-values_by n f (x - 1) k ∙ ap f e

abbrev pub AreWithin : ℕ → List ℕ → Type 0
AreWithin n xs = AllByRecursion (λ x. x ≤ n) xs

-- a number that none of the list is above
abbrev pub top : List ℕ → ℕ
top [] = 0
top (x ∷ xs) = x + top xs

pub within_top : (n : ℕ) (xs : List ℕ) → top xs ≤ n → AreWithin n xs
within_top n [] h = tt
within_top n (x ∷ xs) h = (omega arith, within_top n xs (omega arith))

pub values-values_by : (n : ℕ) (f : ℕ → Bool) (xs : List ℕ) → AllByRecursion (λ x. 1 ≤ x) xs → AreWithin n xs → map (value_of (values_by n f)) xs ≡ map f xs
values-values_by n f [] low high = refl
values-values_by n f (x ∷ xs) low high = λ i. value_of-values_by n f x low.0 high.0 i ∷ values-values_by n f xs low.1 high.1 i

-- ---- the sum of the members of a set, by a list of them

abbrev AllBelow : ℕ → List ℕ → Type 0
AllBelow n xs = AllByRecursion (λ x. x < n) xs

below_top : (n : ℕ) (xs : List ℕ) → top xs < n → AllBelow n xs
below_top n [] h = tt
below_top n (x ∷ xs) h = (omega arith, below_top n xs (omega arith))

apart_members : (x : ℕ) (xs : List ℕ) → list_any (λ y. nat_eq y x) xs ≡ false → (y : ℕ) → set.contains (set.from_list {R = nat_cmp} (x ∷ xs)) y ≡ differ (nat_eq x y) (set.contains (set.from_list {R = nat_cmp} xs) y)
apart_members x xs h y =
    set.contains-from_list_nat (x ∷ xs) y
    ∙ or_apart (nat_eq x y) _ (λ e. subst (λ z. list_any (λ w. nat_eq w z) xs ≡ false) (eqb-true x y e) h)
    ∙ ap (differ (nat_eq x y)) (sym (set.contains-from_list_nat xs y))

sum_of_members-list : (n : ℕ) (v : List Bool) (xs : List ℕ) → AreDistinct xs → AllBelow n xs → sum_of_members n v (set.from_list xs) ≡ odd_sum (map (value_of v) xs)
sum_of_members-list n v [] d h = no_members n v
sum_of_members-list n v (x ∷ xs) d h =
    ap (sum_below n) (λ i y. (ap (λ b. b && value_of v y) (apart_members x xs d.0 y) ∙ differ_and (nat_eq x y) (set.contains (set.from_list xs) y) (value_of v y)) i)
    ∙ sum_below-differ n (λ y. nat_eq x y && value_of v y) (λ y. set.contains (set.from_list xs) y && value_of v y)
    ∙ (λ i. differ (sum_below-one n x v h.0 i) (sum_of_members-list n v xs d.1 h.1 i))

-- a parity is met where the sum of its variables is its right side
pub parity_met-list : (lits : List Literal) (xs : List ℕ) (v : List Bool) → Lists (normal_form lits).variables xs → parity_met v lits ≡ not (differ (odd_sum (map (value_of v) xs)) (normal_form lits).right_side)
parity_met-list lits xs v l =
    let n : ℕ = roof lits + suc (top xs) in
    let sum = ap (sum_of_members n v) (sym l.same) ∙ sum_of_members-list n v xs l.once (below_top n xs (omega arith)) in
    both_ways _ _
    (λ h. not_differ-same _ _ (sym sum ∙ Sums-from_met n v lits (below_roof n lits (omega arith)) h))
    (λ h. met-from_Sums n v lits (below_roof n lits (omega arith)) (sum ∙ same-not_differ _ _ h))

-- ---- one variable flipped

abbrev pub flip_at : ℕ → (ℕ → Bool) → ℕ → Bool
flip_at x f y = differ (nat_eq y x) (f y)

unflipped : (x : ℕ) (f : ℕ → Bool) (xs : List ℕ) → list_any (λ y. nat_eq y x) xs ≡ false → map (flip_at x f) xs ≡ map f xs
unflipped x f [] h = refl
unflipped x f (y ∷ ys) h = go (nat_eq y x) refl h (unflipped x f ys)
  where
    go : (b : Bool) → nat_eq y x ≡ b → (b || list_any (λ z. nat_eq z x) ys) ≡ false → (list_any (λ z. nat_eq z x) ys ≡ false → map (flip_at x f) ys ≡ map f ys) → map (flip_at x f) (y ∷ ys) ≡ map f (y ∷ ys)
    go true e k rest = absurd (true≢false k)
    go false e k rest = λ i. differ (e i) (f y) ∷ rest k i

pub odd_sum-flipped : (x : ℕ) (f : ℕ → Bool) (xs : List ℕ) → AreDistinct xs → list_any (λ y. nat_eq y x) xs ≡ true → odd_sum (map (flip_at x f) xs) ≡ not (odd_sum (map f xs))
odd_sum-flipped x f [] d h = absurd (true≢false (sym h))
odd_sum-flipped x f (y ∷ ys) d h = go (nat_eq y x) refl h (odd_sum-flipped x f ys d.1)
  where
    go : (b : Bool) → nat_eq y x ≡ b → (b || list_any (λ z. nat_eq z x) ys) ≡ true → (list_any (λ z. nat_eq z x) ys ≡ true → odd_sum (map (flip_at x f) ys) ≡ not (odd_sum (map f ys)))
        → odd_sum (map (flip_at x f) (y ∷ ys)) ≡ not (odd_sum (map f (y ∷ ys)))
    go true e k rest =
        let others = unflipped x f ys (subst (λ z. list_any (λ w. nat_eq w z) ys ≡ false) (eqb-true y x e) d.0) in
        (λ i. differ (differ (e i) (f y)) (odd_sum (others i))) ∙ differ_assoc true (f y) (odd_sum (map f ys))
    go false e k rest = (λ i. differ (differ (e i) (f y)) (rest k i)) ∙ differ_move (f y) true (odd_sum (map f ys))
