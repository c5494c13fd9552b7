-- Rows in order, each shape once.
use Rattle.std.proofs.Common.{◌≡◌, refl, sym, ap, ◌∙◌, subst, ℕ, zero, suc, ◌+◌, ◌<◌, ◌≤◌, Bool, true, false, cond, List, [], ◌∷◌, length, get_or, map, arith, true≢false, ◌⊎◌, inl, inr}
use mathlib.Core.Bool.{beq}
use Rattle.std.specs.List.{AllByRecursion, Contains, dedup, dedup_from}
use Rattle.std.specs.List.Sorted.{IsPermutation, IsSortedBy, IsSorted, IsStrictlySortedBy}
use Rattle.std.specs.Cmp.{IsTotalOrder, nat_cmp_total, bool_cmp_total, then_total, on_total, both_tied, tied_back, tied_itself, ranks, Equal-is}
use Rattle.std.specs.Cmp.Lexicographic.{slice_cmp, lists_total, lists_ties, texts_ties}
use Rattle.std.specs.Ordering.{is_lt, is_eq, ordering_then, nat_cmp, bool_cmp, eq_by_cmp}
use Rattle.std.specs.declared.cmp.Ordering.{Ordering}
use Rattle.std.specs.declared.cmp.Ordering.TheVariants.{Less, Equal, Greater}
use Rattle.std.proofs.lemmas.List.Sorted.{sorted_far, ranks_by, Contains-permutation, IsPermutation-sym}
use Rattle.std.proofs.lemmas.List.Kept.{Contains-from_dedup, IsStrictlySortedBy-dedup}
use Rattle.cx_base.proofs.Elements.{in_head, in_tail}
use Rattle.xor_recover.specs.Rows.{Row, key_cmp, shape_cmp, row_cmp}
use Rattle.xor_recover.specs.Groups.{AreFirsts, same_key, same_shape}

-- ---- the orders are total, and tie where the tests say so

pub key_total : IsTotalOrder key_cmp
key_total = then_total (on_total (λ (r : Row). r.variables) (lists_total nat_cmp_total)) (on_total (λ (r : Row). r.right) bool_cmp_total)

pub shape_total : IsTotalOrder shape_cmp
shape_total = then_total key_total (on_total (λ (r : Row). r.signs) (lists_total bool_cmp_total))

pub row_total : IsTotalOrder row_cmp
row_total = then_total key_total (then_total (on_total (λ (r : Row). r.signs) (lists_total bool_cmp_total)) (on_total (λ (r : Row). r.number) nat_cmp_total))

grouped : (a b c : Ordering) → ordering_then a (ordering_then b c) ≡ ordering_then (ordering_then a b) c
grouped Less b c = refl
grouped Equal b c = refl
grouped Greater b c = refl

-- the shapes first, and then the numbers
row_is : (a b : Row) → row_cmp a b ≡ ordering_then (shape_cmp a b) (nat_cmp a.number b.number)
row_is a b = grouped (key_cmp a b) (slice_cmp bool_cmp a.signs b.signs) (nat_cmp a.number b.number)

bool_ties : (x y : Bool) → beq x y ≡ eq_by_cmp bool_cmp x y
bool_ties true true = refl
bool_ties true false = refl
bool_ties false true = refl
bool_ties false false = refl

pub key_ties : (x y : Row) → same_key x y ≡ eq_by_cmp key_cmp x y
key_ties x y = both_tied _ _ (slice_cmp nat_cmp x.variables y.variables) (bool_cmp x.right y.right) (texts_ties x.variables y.variables) (bool_ties x.right y.right)

pub shape_ties : (x y : Row) → same_shape x y ≡ eq_by_cmp shape_cmp x y
shape_ties x y = both_tied _ _ (key_cmp x y) (slice_cmp bool_cmp x.signs y.signs) (key_ties x y) (lists_ties bool_cmp bool_ties x.signs y.signs)

-- ---- lists in order

abbrev pub Up : {X : Type 0} → (X → X → Ordering) → List X → Type 0
Up R [] = Unit {0}
Up R (x ∷ xs) = AllByRecursion (λ y. is_lt (R y x) ≡ false) xs × Up R xs

by_index : {X : Type 0} (P : X → Type 0) (xs : List X) → ((k : ℕ) (d : X) → k < length xs → P (get_or xs k d)) → AllByRecursion P xs
by_index P [] h = tt
by_index P (x ∷ xs) h = (h 0 x (omega arith), by_index P xs (λ k d lt. h (suc k) d (omega arith)))

up_far : {X : Type 0} (R : X → X → Ordering) (xs : List X) → ((i j : ℕ) (d : X) → i ≤ j → j < length xs → is_lt (R (get_or xs j d) (get_or xs i d)) ≡ false) → Up R xs
up_far R [] h = tt
up_far R (x ∷ xs) h = (by_index (λ y. is_lt (R y x) ≡ false) xs (λ k d lt. h 0 (suc k) d (omega arith) (omega arith)), up_far R xs (λ i j d le lt. h (suc i) (suc j) d (omega arith) (omega arith)))

up_map : {X Y : Type 0} (R : Y → Y → Ordering) (f : X → Y) (xs : List X) → Up (λ x y. R (f x) (f y)) xs → Up R (map f xs)
up_map R f [] h = tt
up_map R f (x ∷ xs) h = (all_map xs h.0, up_map R f xs h.1)
  where
    all_map : (ys : List _) → AllByRecursion (λ y. is_lt (R (f y) (f x)) ≡ false) ys → AllByRecursion (λ y. is_lt (R y (f x)) ≡ false) (map f ys)
    all_map [] g = tt
    all_map (y ∷ ys) g = (g.0, all_map ys g.1)

pub up_sorted : {X : Type 0} (f : X → Row) (xs : List X) → IsSortedBy (λ x y. is_lt (row_cmp (f x) (f y))) xs → Up (λ x y. row_cmp (f x) (f y)) xs
up_sorted f xs h = up_far (λ x y. row_cmp (f x) (f y)) xs (λ i j d le lt. sorted_far (λ x y. is_lt (row_cmp (f x) (f y))) (ranks_by row_total f) xs h i j d le lt)

pub up_rows : {X : Type 0} (f : X → Row) (xs : List X) → IsSortedBy (λ x y. is_lt (row_cmp (f x) (f y))) xs → Up row_cmp (map f xs)
up_rows f xs h = up_map row_cmp f xs (up_sorted f xs h)

first_not_less : (a b : Ordering) → is_lt (ordering_then a b) ≡ false → is_lt a ≡ false
first_not_less Less b h = h
first_not_less Equal b h = refl
first_not_less Greater b h = refl

shapes_up : (xs : List Row) → Up row_cmp xs → IsSorted shape_cmp xs
shapes_up [] h k d low lt = absurd (omega arith)
shapes_up (x ∷ []) h k d low lt = absurd (omega arith)
shapes_up (x ∷ y ∷ xs) h zero d low lt = first_not_less (shape_cmp y x) (nat_cmp y.number x.number) (sym (ap is_lt (row_is y x)) ∙ h.0.0)
shapes_up (x ∷ y ∷ xs) h (suc k) d low lt =
    let e : suc k + 1 ≡ suc (k + 1) = omega arith in
    ap (λ n. is_lt (shape_cmp (get_or (x ∷ y ∷ xs) n d) (get_or (y ∷ xs) k d))) e ∙ shapes_up (y ∷ xs) h.1 k d (omega arith) (omega arith)

-- ---- what is kept of each shape

pub contains_cases : (k : Row) (xs : List Row) (x : Row) → Contains (k ∷ xs) x → (k ≡ x) ⊎ Contains xs x
contains_cases k xs x (zero, lt, e) = inl e
contains_cases k xs x (suc i, lt, e) = inr (i, omega arith, e)

abbrev Kept : List Row → Row → Type 0
Kept ys x = (y : Row) × Contains ys y × (shape_cmp y x ≡ Equal) × (y.number ≤ x.number)

same_is : (x k : Row) → same_shape x k ≡ true → shape_cmp x k ≡ Equal
same_is x k e = (Equal-is (shape_cmp x k)).0 (sym (shape_ties x k) ∙ e)

number_up : (x k : Row) → shape_cmp x k ≡ Equal → is_lt (row_cmp x k) ≡ false → k.number ≤ x.number
number_up x k e h = go (nat_cmp x.number k.number) (ranks x.number k.number) (sym (ap (λ o. is_lt (ordering_then o (nat_cmp x.number k.number))) e) ∙ sym (ap is_lt (row_is x k)) ∙ h)
  where
    go : (o : Ordering) → Rattle.std.specs.Ordering.MatchOrdering o (x.number < k.number) (x.number ≡ k.number) (k.number < x.number) → is_lt o ≡ false → k.number ≤ x.number
    go Less m g = absurd (true≢false g)
    go Equal m g = omega arith
    go Greater m g = omega arith

itself_kept : (k x : Row) (ys : List Row) → k ≡ x → Contains ys k → Kept ys x
itself_kept k x ys e here = (k, here, ap (shape_cmp k) (sym e) ∙ tied_itself shape_total k, (let q = ap (λ (r : Row). r.number) e in omega arith))

without_second : (k z : Row) (zs : List Row) → Up row_cmp (k ∷ z ∷ zs) → Up row_cmp (k ∷ zs)
without_second k z zs up = (up.0.1, up.1.1)

kept_step : (k z : Row) (zs : List Row) → Up row_cmp (k ∷ z ∷ zs) → (x : Row) → Contains (k ∷ z ∷ zs) x
    → ((y : Row) → Contains (k ∷ zs) y → Kept (dedup_from same_shape k zs) y) → ((y : Row) → Contains (z ∷ zs) y → Kept (dedup_from same_shape z zs) y)
    → (b : Bool) → same_shape z k ≡ b → Kept (cond b (dedup_from same_shape k zs) (k ∷ dedup_from same_shape z zs)) x
kept_step k z zs up x here one two true e = elim (contains_cases k (z ∷ zs) x here) [
  | inl s ↦ one x (subst (λ (r : Row). Contains (k ∷ zs) r) s (in_head k zs))
  | inr p ↦ elim (contains_cases z zs x p) [
    | inl s ↦
        let y = one k (in_head k zs) in
        let same = same_is z k e in
        subst (λ (r : Row). Kept (dedup_from same_shape k zs) r) s
        (y.0, y.1, shape_total.congr y.0 k z y.2 ∙ tied_back shape_total z k same, (let n = number_up z k same up.0.0 in let m = y.3 in omega arith))
    | inr q ↦ one x (in_tail k zs x q)
  ]
]
kept_step k z zs up x here one two false e = elim (contains_cases k (z ∷ zs) x here) [
  | inl s ↦ itself_kept k x (k ∷ dedup_from same_shape z zs) s (in_head k (dedup_from same_shape z zs))
  | inr p ↦ let y = two x p in (y.0, in_tail k (dedup_from same_shape z zs) y.0 y.1, y.2, y.3)
]

kept_from : (k : Row) (xs : List Row) → Up row_cmp (k ∷ xs) → (x : Row) → Contains (k ∷ xs) x → Kept (dedup_from same_shape k xs) x
kept_from k [] up x here = elim (contains_cases k [] x here) [
  | inl e ↦ itself_kept k x (k ∷ []) e (in_head k [])
  | inr none ↦ absurd (let lt = none.1 in omega arith)
]
kept_from k (z ∷ zs) up x here = kept_step k z zs up x here (λ y c. kept_from k zs (without_second k z zs up) y c) (λ y c. kept_from z zs up.1 y c) (same_shape z k) refl

kept_all : (xs : List Row) → Up row_cmp xs → (x : Row) → Contains xs x → Kept (dedup same_shape xs) x
kept_all [] up x here = absurd (let lt = here.1 in omega arith)
kept_all (k ∷ xs) up x here = kept_from k xs up x here

pub are_firsts : (old sorted new : List Row) → IsPermutation old sorted → Up row_cmp sorted → new ≡ dedup same_shape sorted → AreFirsts old new
are_firsts old sorted new moved up is = record {
  sorted = subst (IsStrictlySortedBy shape_cmp) (sym is) (IsStrictlySortedBy-dedup shape_total shape_ties sorted (shapes_up sorted up));
  from = λ x c. Contains-permutation sorted old x (IsPermutation-sym old sorted moved) (Contains-from_dedup same_shape sorted x (subst (λ (l : List Row). Contains l x) is c));
  each = λ x c. subst (λ (l : List Row). Kept l x) (sym is) (kept_all sorted up x (Contains-permutation old sorted x moved c));
}

map_step : {X : Type 0} (f : X → Row) (k x : X) (front rest : List X) (front' rest' : List Row) → map f front ≡ front' → map f rest ≡ rest' → (b : Bool) → map f (cond b front (k ∷ rest)) ≡ cond b front' (f k ∷ rest')
map_step f k x front rest front' rest' e g true = e
map_step f k x front rest front' rest' e g false = ap (λ ys. f k ∷ ys) g

map_dedup_from : {X : Type 0} (f : X → Row) (k : X) (xs : List X) → map f (dedup_from (λ x y. same_shape (f x) (f y)) k xs) ≡ dedup_from same_shape (f k) (map f xs)
map_dedup_from f k [] = refl
map_dedup_from f k (x ∷ xs) = map_step f k x _ _ _ _ (map_dedup_from f k xs) (map_dedup_from f x xs) (same_shape (f x) (f k))

pub map_dedup : {X : Type 0} (f : X → Row) (xs : List X) → map f (dedup (λ x y. same_shape (f x) (f y)) xs) ≡ dedup same_shape (map f xs)
map_dedup f [] = refl
map_dedup f (x ∷ xs) = map_dedup_from f x xs
