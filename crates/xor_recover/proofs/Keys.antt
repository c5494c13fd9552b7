-- Rows of one key, and how many there can be.
use Rattle.std.proofs.Common.{◌≡◌, refl, sym, ap, ◌∙◌, ℕ, zero, suc, ◌-◌, ◌^◌, ◌≤◌, Bool, true, false, not, List, [], ◌∷◌, length, map, arith, nat_eq, true≢false}
use mathlib.Core.Bool.{beq}
use Rattle.std.specs.List.{AllByRecursion, IsDistinct, list_any}
use Rattle.std.specs.List.Sorted.{IsStrictlySortedBy}
use Rattle.std.specs.Cmp.{IsTotalOrder, Equal-is, booleans_Decides}
use Rattle.std.specs.Cmp.Lexicographic.{pointwise}
use Rattle.std.specs.Ordering.{is_lt, is_eq, is_gt, ordering_then, ordering_reverse, nat_cmp, bool_cmp, eq_by_cmp}
use Rattle.std.specs.declared.cmp.Ordering.TheVariants.{Less, Equal}
use Rattle.std.proofs.lemmas.Bool.{and_parts, and_from, false_from_ne_true}
use Rattle.std.proofs.lemmas.List.{length-map}
use Rattle.cx_base.specs.Literals.{Literal}
use Rattle.cx_base.specs.Parity.{odd_sum}
use Rattle.xor_recover.specs.Rows.{Row, key_cmp, shape_cmp, IsProper}
use Rattle.xor_recover.specs.Groups.{needed, same_key, same_shape}
use Rattle.xor_recover.proofs.Firsts.{key_total, key_ties, shape_ties}
use Rattle.xor_recover.proofs.Patterns.{same_signs, few_patterns, all_patterns}

abbrev pub Sorted : List Row → Type 0
Sorted zs = IsStrictlySortedBy shape_cmp zs

abbrev pub AllProper : List Row → Type 0
AllProper zs = AllByRecursion IsProper zs

abbrev pub AllOfKey : Row → List Row → Type 0
AllOfKey x zs = AllByRecursion (λ y. same_key y x ≡ true) zs

pub sorted_head : (x : Row) (xs : List Row) → Sorted (x ∷ xs) → AllByRecursion (λ y. shape_cmp x y ≡ Less) xs
unfolding IsStrictlySortedBy
sorted_head x xs h = h.0

pub sorted_tail : (x : Row) (xs : List Row) → Sorted (x ∷ xs) → Sorted xs
unfolding IsStrictlySortedBy
sorted_tail x xs h = h.1

-- ---- what one key means

same_numbers : (a b : List ℕ) → pointwise nat_eq a b ≡ true → a ≡ b
same_numbers [] [] h = refl
same_numbers [] (y ∷ b) h = absurd (true≢false (sym h))
same_numbers (x ∷ a) [] h = absurd (true≢false (sym h))
same_numbers (x ∷ a) (y ∷ b) h = let p = and_parts (nat_eq x y) (pointwise nat_eq a b) h in (λ i. Rattle.std.proofs.lemmas.Bool.eqb-true x y p.0 i ∷ same_numbers a b p.1 i)

pub variables_same : (y x : Row) → same_key y x ≡ true → y.variables ≡ x.variables
variables_same y x h = same_numbers y.variables x.variables (and_parts (pointwise nat_eq y.variables x.variables) (beq y.right x.right) h).0

pub right_same : (y x : Row) → same_key y x ≡ true → y.right ≡ x.right
right_same y x h = (booleans_Decides y.right x.right).0 (and_parts (pointwise nat_eq y.variables x.variables) (beq y.right x.right) h).1

pub key_equal : (y x : Row) → same_key y x ≡ true → key_cmp y x ≡ Equal
key_equal y x h = (Equal-is (key_cmp y x)).0 (sym (key_ties y x) ∙ h)

pub key_is : (y x : Row) → key_cmp y x ≡ Equal → same_key y x ≡ true
key_is y x h = key_ties y x ∙ ap is_eq h

pub needed_same : (y x : Row) → same_key y x ≡ true → needed y ≡ needed x
needed_same y x h = ap (λ (vs : List ℕ). 2 ^ (length vs - 1)) (variables_same y x h)

pub key_swap : (y x : Row) → same_key y x ≡ true → same_key x y ≡ true
key_swap y x h = key_is x y (Rattle.std.specs.Cmp.tied_back key_total y x (key_equal y x h))

pub key_chain : (z y x : Row) → same_key z y ≡ true → same_key y x ≡ true → same_key z x ≡ true
key_chain z y x h g = key_is z x (key_total.congr z y x (key_equal z y h) ∙ key_equal y x g)

-- a test by one key is the test by the other
pub same_test : (y x : Row) → same_key y x ≡ true → (z : Row) → same_key z y ≡ same_key z x
same_test y x h z = both (same_key z y) (same_key z x) (λ e. key_chain z y x e h) (λ e. key_chain z x y e (key_swap y x h))
  where
    both : (a b : Bool) → (a ≡ true → b ≡ true) → (b ≡ true → a ≡ true) → a ≡ b
    both true b f g = sym (f refl)
    both false true f g = g refl
    both false false f g = refl

-- ---- proper rows

pub signs_long : (x : Row) → IsProper x → length x.signs ≡ length x.variables
signs_long x p =
    ap (λ (r : Row). length r.signs) (sym p.is) ∙ length-map p.lits (λ (l : Literal). l.negative) ∙ sym (length-map p.lits (λ (l : Literal). l.variable)) ∙ ap (λ (r : Row). length r.variables) p.is

pub signs_sum : (x : Row) → IsProper x → odd_sum x.signs ≡ not x.right
signs_sum x p = ap (λ (r : Row). odd_sum r.signs) (sym p.is) ∙ twice (odd_sum (map (λ (l : Literal). l.negative) p.lits)) ∙ ap (λ (r : Row). not r.right) p.is
  where
    twice : (b : Bool) → b ≡ not (not b)
    twice true = refl
    twice false = refl

pub variables_long : (x : Row) → IsProper x → (2 ≤ length x.variables) × (length x.variables ≤ 6)
variables_long x p =
    let e : length p.lits ≡ length x.variables = sym (length-map p.lits (λ (l : Literal). l.variable)) ∙ ap (λ (r : Row). length r.variables) p.is in
    let a = p.two in
    let b = p.six in
    (omega arith, omega arith)

signs_of : (x : Row) (k : ℕ) (zs : List Row) → length x.variables ≡ suc k → AllProper zs → AllOfKey x zs → AllByRecursion (λ p. (length p ≡ suc k) × (odd_sum p ≡ not x.right)) (map (λ (z : Row). z.signs) zs)
signs_of x k [] e p h = tt
signs_of x k (z ∷ zs) e p h = (
  (signs_long z p.0 ∙ ap length (variables_same z x h.0) ∙ e, signs_sum z p.0 ∙ ap not (right_same z x h.0)),
  signs_of x k zs e p.1 h.1,
)

not_less : (a b : Row) → same_shape a b ≡ true → shape_cmp a b ≡ Less → ⊥
not_less a b h less = true≢false (sym h ∙ shape_ties a b ∙ ap is_eq less)

signs_apart : (x y : Row) (zs : List Row) → same_key y x ≡ true → AllOfKey x zs → AllByRecursion (λ z. shape_cmp y z ≡ Less) zs → AllByRecursion (λ q. same_signs y.signs q ≡ false) (map (λ (z : Row). z.signs) zs)
signs_apart x y [] k h less = tt
signs_apart x y (z ∷ zs) k h less = (
  false_from_ne_true (same_signs y.signs z.signs) (λ e. not_less y z (and_from (same_key y z) (same_signs y.signs z.signs) (key_chain y x z k (key_swap z x h.0)) e) less.0),
  signs_apart x y zs k h.1 less.1,
)

signs_distinct : (x : Row) (zs : List Row) → Sorted zs → AllOfKey x zs → IsDistinct same_signs (map (λ (z : Row). z.signs) zs)
unfolding IsDistinct
signs_distinct x [] s h = tt
signs_distinct x (z ∷ zs) s h = (signs_apart x z zs h.0 h.1 (sorted_head z zs s), signs_distinct x zs (sorted_tail z zs s) h.1)

predecessor : (n : ℕ) → 1 ≤ n → (k : ℕ) × (n ≡ suc k)
predecessor zero h = absurd (omega arith)
predecessor (suc k) h = (k, refl)

-- no more rows than are needed have one key
pub few_of_key : (x : Row) (zs : List Row) → IsProper x → Sorted zs → AllProper zs → AllOfKey x zs → length zs ≤ needed x
few_of_key x zs px s p h =
    let two = (variables_long x px).0 in
    let k = predecessor (length x.variables) (omega arith) in
    let few = few_patterns k.0 (not x.right) (map (λ (z : Row). z.signs) zs) (signs_of x k.0 zs k.1 p h) (signs_distinct x zs s h) in
    let e : length (map (λ (z : Row). z.signs) zs) ≡ length zs = length-map zs (λ (z : Row). z.signs) in
    let n : 2 ^ k.0 ≡ needed x = (let d : k.0 ≡ length x.variables - 1 = (let q = k.1 in omega arith) in ap (λ m. 2 ^ m) d) in
    omega arith

-- as many have each list of signs with the sum
pub whole_of_key : (x : Row) (zs : List Row) → IsProper x → Sorted zs → AllProper zs → AllOfKey x zs → needed x ≤ length zs
    → (p : List Bool) → length p ≡ length x.variables → odd_sum p ≡ not x.right → list_any (same_signs p) (map (λ (z : Row). z.signs) zs) ≡ true
whole_of_key x zs px s p h many q long odd =
    let two = (variables_long x px).0 in
    let k = predecessor (length x.variables) (omega arith) in
    let e : length (map (λ (z : Row). z.signs) zs) ≡ length zs = length-map zs (λ (z : Row). z.signs) in
    let n : 2 ^ k.0 ≡ needed x = (let d : k.0 ≡ length x.variables - 1 = (let r = k.1 in omega arith) in ap (λ m. 2 ^ m) d) in
    all_patterns k.0 (not x.right) (map (λ (z : Row). z.signs) zs) (signs_of x k.0 zs k.1 p h) (signs_distinct x zs s h) (omega arith) q (long ∙ k.1) odd
