-- The lists of signs of one length whose sum is one bit.
use Rattle.std.proofs.Common.{◌≡◌, refl, sym, ap, ◌∙◌, subst, ℕ, zero, suc, ◌+◌, ◌*◌, ◌^◌, ◌≤◌, Bool, true, false, not, List, [], ◌∷◌, ◌++◌, length, map, arith, true≢false, length-append, inl, inr}
use mathlib.Core.Bool.{beq}
use Rattle.std.specs.List.{list_any, AllByRecursion, IsDistinct}
use Rattle.std.specs.Cmp.{IsEquivalence, bool_eq_equiv, booleans_Decides}
use Rattle.std.specs.Cmp.Lexicographic.{pointwise, lists_equiv}
use Rattle.std.proofs.Math.Nat.{pow-suc}
use Rattle.std.proofs.lemmas.List.{length-map}
use Rattle.std.proofs.lemmas.List.Folds.{list_any-append}
use Rattle.std.proofs.lemmas.Bool.{and_parts, or_left, or_right, or_cases, true_from_ne_false}
use Rattle.std.proofs.lemmas.Map.Made.{length-le_from_is_member}
use Rattle.cx_base.specs.Parity.{odd_sum}

abbrev pub same_signs : List Bool → List Bool → Bool
same_signs p q = pointwise beq p q

pub same_signs_equiv : IsEquivalence same_signs
same_signs_equiv = lists_equiv bool_eq_equiv

pub same_is : (p q : List Bool) → same_signs p q ≡ true → p ≡ q
same_is [] [] h = refl
same_is [] (y ∷ q) h = absurd (true≢false (sym h))
same_is (x ∷ p) [] h = absurd (true≢false (sym h))
same_is (x ∷ p) (y ∷ q) h =
    let parts = and_parts (beq x y) (same_signs p q) h in
    (λ i. (booleans_Decides x y).0 parts.0 i ∷ same_is p q parts.1 i)

pub patterns : ℕ → Bool → List (List Bool)
patterns zero true = []
patterns zero false = [] ∷ []
patterns (suc k) odd = map (λ p. false ∷ p) (patterns k odd) ++ map (λ p. true ∷ p) (patterns k (not odd))

twice_not : (b : Bool) → not (not b) ≡ b
twice_not true = refl
twice_not false = refl

-- ---- how many

length-two : (k : ℕ) (odd : Bool) → length (patterns (suc k) odd) ≡ length (patterns k odd) + length (patterns k (not odd))
unfolding patterns
length-two k odd = length-append (map (λ p. false ∷ p) (patterns k odd)) (map (λ p. true ∷ p) (patterns k (not odd))) ∙ (λ i. length-map (patterns k odd) (λ p. false ∷ p) i + length-map (patterns k (not odd)) (λ p. true ∷ p) i)

pub length-patterns : (k : ℕ) (odd : Bool) → length (patterns (suc k) odd) ≡ 2 ^ k
unfolding patterns
length-patterns zero true = refl
length-patterns zero false = refl
length-patterns (suc k) odd =
    let a = length-patterns k odd in
    let b = length-patterns k (not odd) in
    let p : 2 ^ suc k ≡ 2 ^ k * 2 = pow-suc 2 k in
    let e = length-two (suc k) odd in
    omega arith

-- ---- which

in_map : (b : Bool) (p : List Bool) (qs : List (List Bool)) → list_any (same_signs p) qs ≡ true → list_any (same_signs (b ∷ p)) (map (λ q. b ∷ q) qs) ≡ true
in_map b p [] h = h
in_map true p (q ∷ qs) h = elim (or_cases (same_signs p q) (list_any (same_signs p) qs) h) [
  | inl e ↦ or_left (same_signs p q) _ e
  | inr later ↦ or_right (same_signs p q) _ (in_map true p qs later)
]
in_map false p (q ∷ qs) h = elim (or_cases (same_signs p q) (list_any (same_signs p) qs) h) [
  | inl e ↦ or_left (same_signs p q) _ e
  | inr later ↦ or_right (same_signs p q) _ (in_map false p qs later)
]

pub is_pattern : (p : List Bool) → list_any (same_signs p) (patterns (length p) (odd_sum p)) ≡ true
unfolding patterns
is_pattern [] = refl
is_pattern (false ∷ p) =
    list_any-append (same_signs (false ∷ p)) (map (λ q. false ∷ q) (patterns (length p) (odd_sum p))) (map (λ q. true ∷ q) (patterns (length p) (not (odd_sum p))))
    ∙ or_left _ _ (in_map false p (patterns (length p) (odd_sum p)) (is_pattern p))
is_pattern (true ∷ p) =
    list_any-append (same_signs (true ∷ p)) (map (λ q. false ∷ q) (patterns (length p) (not (odd_sum p)))) (map (λ q. true ∷ q) (patterns (length p) (not (not (odd_sum p)))))
    ∙ or_right _ _ (in_map true p (patterns (length p) (not (not (odd_sum p)))) (ap (λ b. list_any (same_signs p) (patterns (length p) b)) (twice_not (odd_sum p)) ∙ is_pattern p))

pub pattern_of : (p : List Bool) (k : ℕ) (odd : Bool) → length p ≡ k → odd_sum p ≡ odd → list_any (same_signs p) (patterns k odd) ≡ true
pattern_of p k odd e o = (λ i. list_any (same_signs p) (patterns (sym e i) (sym o i))) ∙ is_pattern p

-- ---- each once

apart_map : (p : List Bool) (qs : List (List Bool)) → AllByRecursion (λ q. same_signs (false ∷ p) q ≡ false) (map (λ q. true ∷ q) qs)
apart_map p [] = tt
apart_map p (q ∷ qs) = (refl, apart_map p qs)

all_map : (b : Bool) (p : List Bool) (qs : List (List Bool)) → AllByRecursion (λ q. same_signs p q ≡ false) qs → AllByRecursion (λ q. same_signs (b ∷ p) q ≡ false) (map (λ q. b ∷ q) qs)
all_map b p [] h = tt
all_map true p (q ∷ qs) h = (h.0, all_map true p qs h.1)
all_map false p (q ∷ qs) h = (h.0, all_map false p qs h.1)

all_append : (p : List Bool) (xs ys : List (List Bool)) → AllByRecursion (λ q. same_signs p q ≡ false) xs → AllByRecursion (λ q. same_signs p q ≡ false) ys → AllByRecursion (λ q. same_signs p q ≡ false) (xs ++ ys)
all_append p [] ys h g = g
all_append p (x ∷ xs) ys h g = (h.0, all_append p xs ys h.1 g)

distinct_true : (qs : List (List Bool)) → IsDistinct same_signs qs → IsDistinct same_signs (map (λ q. true ∷ q) qs)
unfolding IsDistinct
distinct_true [] h = tt
distinct_true (q ∷ qs) h = (all_map true q qs h.0, distinct_true qs h.1)

distinct_both : (ps qs : List (List Bool)) → IsDistinct same_signs ps → IsDistinct same_signs qs → IsDistinct same_signs (map (λ q. false ∷ q) ps ++ map (λ q. true ∷ q) qs)
unfolding IsDistinct
distinct_both [] qs h g = distinct_true qs g
distinct_both (p ∷ ps) qs h g = (all_append (false ∷ p) (map (λ q. false ∷ q) ps) (map (λ q. true ∷ q) qs) (all_map false p ps h.0) (apart_map p qs), distinct_both ps qs h.1 g)

pub distinct_patterns : (k : ℕ) (odd : Bool) → IsDistinct same_signs (patterns k odd)
unfolding patterns IsDistinct
distinct_patterns zero true = tt
distinct_patterns zero false = (tt, tt)
distinct_patterns (suc k) odd = distinct_both (patterns k odd) (patterns k (not odd)) (distinct_patterns k odd) (distinct_patterns k (not odd))

-- ---- lists of patterns

member_of : (k : ℕ) (odd : Bool) (ps : List (List Bool)) → AllByRecursion (λ p. (length p ≡ k) × (odd_sum p ≡ odd)) ps → (q : List Bool) → list_any (same_signs q) ps ≡ true → list_any (same_signs q) (patterns k odd) ≡ true
member_of k odd [] h q m = absurd (true≢false (sym m))
member_of k odd (p ∷ ps) h q m = elim (or_cases (same_signs q p) (list_any (same_signs q) ps) m) [
  | inl e ↦ let is = same_is q p e in pattern_of q k odd (ap length is ∙ h.0.0) (ap odd_sum is ∙ h.0.1)
  | inr later ↦ member_of k odd ps h.1 q later
]

-- different patterns are no more than there are
pub few_patterns : (k : ℕ) (odd : Bool) (ps : List (List Bool)) → AllByRecursion (λ p. (length p ≡ suc k) × (odd_sum p ≡ odd)) ps → IsDistinct same_signs ps → length ps ≤ 2 ^ k
few_patterns k odd ps h d =
    let le = length-le_from_is_member same_signs_equiv ps (patterns (suc k) odd) d (member_of (suc k) odd ps h) in
    subst (λ n. length ps ≤ n) (length-patterns k odd) le

unlike_all : (p : List Bool) (ps : List (List Bool)) → list_any (same_signs p) ps ≡ false → AllByRecursion (λ q. same_signs p q ≡ false) ps
unlike_all p [] h = tt
unlike_all p (q ∷ ps) h = let parts = Rattle.std.proofs.lemmas.Bool.or_parts (same_signs p q) (list_any (same_signs p) ps) h in (parts.0, unlike_all p ps parts.1)

-- and where they are as many, each is among them
pub all_patterns : (k : ℕ) (odd : Bool) (ps : List (List Bool)) → AllByRecursion (λ p. (length p ≡ suc k) × (odd_sum p ≡ odd)) ps → IsDistinct same_signs ps → 2 ^ k ≤ length ps
    → (p : List Bool) → length p ≡ suc k → odd_sum p ≡ odd → list_any (same_signs p) ps ≡ true
unfolding IsDistinct
all_patterns k odd ps h d many p e o = true_from_ne_false _ (λ none. let more = few_patterns k odd (p ∷ ps) ((e, o), h) (unlike_all p ps none, d) in omega arith)

-- a list that has each of them is as long
pub many_patterns : (k : ℕ) (odd : Bool) (ps : List (List Bool)) → ((p : List Bool) → list_any (same_signs p) (patterns (suc k) odd) ≡ true → list_any (same_signs p) ps ≡ true) → 2 ^ k ≤ length ps
many_patterns k odd ps h =
    subst (λ n. n ≤ length ps) (length-patterns k odd) (length-le_from_is_member same_signs_equiv (patterns (suc k) odd) ps (distinct_patterns (suc k) odd) h)

-- a pattern has the length and the sum
sum_of_pattern : (k : ℕ) (odd : Bool) → AllByRecursion (λ p. (length p ≡ k) × (odd_sum p ≡ odd)) (patterns k odd)
unfolding patterns
sum_of_pattern zero true = tt
sum_of_pattern zero false = ((refl, refl), tt)
sum_of_pattern (suc k) odd = join (map (λ p. false ∷ p) (patterns k odd)) (map (λ p. true ∷ p) (patterns k (not odd))) (falses (patterns k odd) (sum_of_pattern k odd)) (trues (patterns k (not odd)) (sum_of_pattern k (not odd)))
  where
    falses : (ps : List (List Bool)) → AllByRecursion (λ p. (length p ≡ k) × (odd_sum p ≡ odd)) ps → AllByRecursion (λ p. (length p ≡ suc k) × (odd_sum p ≡ odd)) (map (λ p. false ∷ p) ps)
    falses [] h = tt
    falses (p ∷ ps) h = ((ap suc h.0.0, h.0.1), falses ps h.1)

    trues : (ps : List (List Bool)) → AllByRecursion (λ p. (length p ≡ k) × (odd_sum p ≡ not odd)) ps → AllByRecursion (λ p. (length p ≡ suc k) × (odd_sum p ≡ odd)) (map (λ p. true ∷ p) ps)
    trues [] h = tt
    trues (p ∷ ps) h = ((ap suc h.0.0, ap not h.0.1 ∙ twice_not odd), trues ps h.1)

    join : (xs ys : List (List Bool)) → AllByRecursion (λ p. (length p ≡ suc k) × (odd_sum p ≡ odd)) xs → AllByRecursion (λ p. (length p ≡ suc k) × (odd_sum p ≡ odd)) ys → AllByRecursion (λ p. (length p ≡ suc k) × (odd_sum p ≡ odd)) (xs ++ ys)
    join [] ys h g = g
    join (x ∷ xs) ys h g = (h.0, join xs ys h.1 g)

pub pattern_says : (k : ℕ) (odd : Bool) (p : List Bool) → list_any (same_signs p) (patterns k odd) ≡ true → (length p ≡ k) × (odd_sum p ≡ odd)
pattern_says k odd p h = go (patterns k odd) (sum_of_pattern k odd) h
  where
    go : (qs : List (List Bool)) → AllByRecursion (λ q. (length q ≡ k) × (odd_sum q ≡ odd)) qs → list_any (same_signs p) qs ≡ true → (length p ≡ k) × (odd_sum p ≡ odd)
    go [] all m = absurd (true≢false (sym m))
    go (q ∷ qs) all m = elim (or_cases (same_signs p q) (list_any (same_signs p) qs) m) [
      | inl e ↦ let is = same_is p q e in (ap length is ∙ all.0.0, ap odd_sum is ∙ all.0.1)
      | inr later ↦ go qs all.1 later
    ]
