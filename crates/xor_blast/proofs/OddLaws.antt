-- The numbers that occur in a list an odd number of times, one more number at a time.
use Rattle.std.proofs.Common.{◌≡◌, ◌≢◌, refl, sym, ap, ◌∙◌, subst, ℕ, ◌+◌, ◌-◌, ◌<◌, ◌≤◌, Bool, true, false, cond, ◌||◌, nat_eq, eqb-true, is_eq, List, [], ◌∷◌, ◌++◌, length, get_or, take, drop, set, count_by, true≢false, arith, add_comm, eq-zero-or-pos, ◌⊎◌, inl, inr}
use Rattle.std.specs.List.{list_any, AllByRecursion}
use Rattle.std.specs.List.Sorted.{IsStrictlySortedBy, IsNonDecreasing}
use Rattle.std.specs.Ordering.{nat_cmp, MatchOrdering}
use Rattle.std.specs.declared.cmp.Ordering.{Ordering}
use Rattle.std.specs.declared.cmp.Ordering.TheVariants.{Less, Equal, Greater}
use Rattle.std.specs.Cmp.{nat_cmp_total, unsigned_tied, nat_eq_equiv, ranks}
use Rattle.std.proofs.Math.Bool.{or-true}
use Rattle.std.proofs.lemmas.List.{take_more, take_more_set, length-take-le, length-set, get_or-take, get_or-drop, get_or_default, drop-drop, drop-set-lt}
use Rattle.std.proofs.lemmas.List.Elements.{recursion_from_All}
use Rattle.std.proofs.lemmas.List.Folds.{list_any-append}
use Rattle.std.proofs.lemmas.List.Sums.{sum_by-cons, sum_by_push}
use Rattle.cx_base.specs.Literals.{differ}
use Rattle.cx_base.proofs.Elements.{all_push}
use Rattle.cx_base.proofs.Odd.{is_odd, is_odd-count}
use Rattle.cx_base.proofs.Differences.{differ_turned, differ_twice}
use Rattle.xor_blast.specs.Rising.{KeepsOdd}

-- each number of the list is below x
abbrev AreBelow : ℕ → List ℕ → Type 0
AreBelow x ys = AllByRecursion (λ y. nat_cmp y x ≡ Less) ys

abbrev is_in : List ℕ → ℕ → Bool
is_in ys q = list_any (λ y. nat_eq y q) ys

abbrev pub stands_odd : List ℕ → ℕ → Bool
stands_odd xs q = is_odd (count_by (λ x. nat_eq x q) xs)

-- ---- a rising list and one more number

all_parts : (P : ℕ → Type 0) (ys : List ℕ) (x : ℕ) → AllByRecursion P (ys ++ x ∷ []) → AllByRecursion P ys × P x
all_parts P [] x h = (tt, h.0)
all_parts P (y ∷ ys) x h = let rest = all_parts P ys x h.1 in ((h.0, rest.0), rest.1)

rising_push : (ys : List ℕ) (x : ℕ) → IsStrictlySortedBy nat_cmp ys → AreBelow x ys → IsStrictlySortedBy nat_cmp (ys ++ x ∷ [])
unfolding IsStrictlySortedBy
rising_push [] x h low = (tt, tt)
rising_push (y ∷ ys) x h low = (all_push (λ z. nat_cmp y z ≡ Less) ys x h.0 low.0, rising_push ys x h.1 low.1)

rising_parts : (ys : List ℕ) (x : ℕ) → IsStrictlySortedBy nat_cmp (ys ++ x ∷ []) → IsStrictlySortedBy nat_cmp ys × AreBelow x ys
unfolding IsStrictlySortedBy
rising_parts [] x h = (tt, tt)
rising_parts (y ∷ ys) x h =
    let rest = rising_parts ys x h.1 in
    let parts = all_parts (λ z. nat_cmp y z ≡ Less) ys x h.0 in
    ((parts.0, rest.0), (parts.1, rest.1))

-- ---- which numbers are in the list with one more

not_in : (ys : List ℕ) (x : ℕ) → AreBelow x ys → is_in ys x ≡ false
not_in [] x h = refl
not_in (y ∷ ys) x h = ap (λ b. b || is_in ys x) (sym (unsigned_tied y x) ∙ ap is_eq h.0) ∙ not_in ys x h.1

in_one : (a b : Bool) → (b ≡ true → a ≡ false) → (a || (b || false)) ≡ differ a b
in_one true true h = absurd (true≢false (h refl))
in_one true false h = refl
in_one false true h = refl
in_one false false h = refl

is_in-push : (ys : List ℕ) (x q : ℕ) → AreBelow x ys → is_in (ys ++ x ∷ []) q ≡ differ (is_in ys q) (nat_eq x q)
is_in-push ys x q h = list_any-append (λ y. nat_eq y q) ys (x ∷ []) ∙ in_one (is_in ys q) (nat_eq x q) (λ e. ap (is_in ys) (sym (eqb-true x q e)) ∙ not_in ys x h)

stands_odd-push : (xs : List ℕ) (x q : ℕ) → stands_odd (xs ++ x ∷ []) q ≡ differ (stands_odd xs q) (nat_eq x q)
stands_odd-push xs x q =
    ap is_odd (sum_by_push (λ y. cond (nat_eq y q) 1 0) xs x ∙ add_comm _ _ ∙ sym (sum_by-cons (λ y. cond (nat_eq y q) 1 0) x xs))
    ∙ is_odd-count (λ y. nat_eq y q) x xs ∙ differ_turned (nat_eq x q) (stands_odd xs q)

-- ---- one more number, which is kept or cancels the last one that was kept

kept_more : (xs ys : List ℕ) (x : ℕ) → KeepsOdd xs ys → AreBelow x ys → KeepsOdd (xs ++ x ∷ []) (ys ++ x ∷ [])
kept_more xs ys x h low = record {
  odd = λ q. is_in-push ys x q low ∙ ap (λ b. differ b (nat_eq x q)) (h.odd q) ∙ sym (stands_odd-push xs x q);
  rising = rising_push ys x h.rising low;
}

kept_less : (xs ys : List ℕ) (x : ℕ) → KeepsOdd xs (ys ++ x ∷ []) → KeepsOdd (xs ++ x ∷ []) ys
kept_less xs ys x h =
    let parts = rising_parts ys x h.rising in
    record {
      odd = λ q. sym (differ_twice (is_in ys q) (nat_eq x q)) ∙ ap (λ b. differ b (nat_eq x q)) (sym (is_in-push ys x q parts.1) ∙ h.odd q) ∙ sym (stands_odd-push xs x q);
      rising = parts.0;
    }

-- ---- the last number that was kept is below the next one, or the same

odd_low : (xs : List ℕ) (q x : ℕ) → AllByRecursion (λ z. z ≤ x) xs → stands_odd xs q ≡ true → q ≤ x
odd_low [] q x h e = absurd (true≢false (sym e))
odd_low (z ∷ xs) q x h e = elim (nat_eq z q) as (λ b. nat_eq z q ≡ b → differ b (stands_odd xs q) ≡ true → q ≤ x) [
  | true ↦ λ same k. let is : z ≡ q = eqb-true z q same in let le = h.0 in omega arith
  | false ↦ λ other k. odd_low xs q x h.1 k
] refl (sym (is_odd-count (λ y. nat_eq y q) z xs) ∙ e)

all_through : (ys : List ℕ) (y x : ℕ) → nat_cmp y x ≡ Less → AreBelow y ys → AreBelow x ys
all_through [] y x less h = tt
all_through (z ∷ ys) y x less h = (nat_cmp_total.trans z y x h.0 less, all_through ys y x less h.1)

last_in : (ys : List ℕ) (y : ℕ) → is_in (ys ++ y ∷ []) y ≡ true
last_in ys y = list_any-append (λ z. nat_eq z y) ys (y ∷ []) ∙ ap (λ b. is_in ys y || (b || false)) (nat_eq_equiv.refl y) ∙ or-true (is_in ys y)

less_is : (y x : ℕ) → y < x → nat_cmp y x ≡ Less
less_is y x lt = go (nat_cmp y x) (ranks y x)
  where
    go : (o : Ordering) → MatchOrdering o (y < x) (y ≡ x) (x < y) → o ≡ Less
    go Less m = refl
    go Equal m = absurd (omega arith)
    go Greater m = absurd (omega arith)

all_below : (xs ys : List ℕ) (y x : ℕ) → KeepsOdd xs (ys ++ y ∷ []) → AllByRecursion (λ z. z ≤ x) xs → y ≢ x → AreBelow x (ys ++ y ∷ [])
all_below xs ys y x h low other =
    let le = odd_low xs y x low (sym (h.odd y) ∙ last_in ys y) in
    let less = less_is y x (omega arith) in
    all_push (λ z. nat_cmp z x ≡ Less) ys y (all_through ys y x less (rising_parts ys y h.rising).1) less

-- ---- in place

-- the first k numbers of m are what is kept of the first i of s, and what there is from i on is still to come
pub record KeptSoFar (s m : List ℕ) (i k : ℕ) : Type 0 where
  pub before : k ≤ i
  pub long : length m ≡ length s
  pub rest : drop i m ≡ drop i s
  pub kept : KeepsOdd (take i s) (take k m)

pub kept_of_none : (s : List ℕ) → KeptSoFar s s 0 0
unfolding IsStrictlySortedBy
kept_of_none s = record { before = omega arith; long = refl; rest = refl; kept = record { odd = λ q. refl; rising = tt } }

-- x is the next number
module _ (s m : List ℕ) (i k x : ℕ) (up : IsNonDecreasing s) (inside : i < length s) (h : KeptSoFar s m i k) (next : x ≡ get_or m i x) where
  is_next : x ≡ get_or s i 0
  is_next =
      let on : i ≡ i + 0 = omega arith in
      next ∙ ap (λ n. get_or m n x) on ∙ sym (get_or-drop i m 0 x) ∙ ap (λ l. get_or l 0 x) h.rest ∙ get_or-drop i s 0 x ∙ ap (λ n. get_or s n x) (sym on) ∙ get_or_default s i x 0 inside

  passed : AllByRecursion (λ z. z ≤ x) (take i s)
  passed = recursion_from_All (λ z. z ≤ x) (take i s) (λ j d lt.
      let short = length-take-le i s (omega arith) in
      let low = up j i d (omega arith) inside in
      omega (arith, get_or-take i s j d (omega arith), get_or_default s i d 0 inside, is_next))

  one_more : take i s ++ x ∷ [] ≡ take (i + 1) s
  one_more = ap (λ n. take i s ++ n ∷ []) is_next ∙ sym (take_more s i 0 inside)

  last_kept : 0 < k → take k m ≡ take (k - 1) m ++ get_or m (k - 1) x ∷ []
  last_kept some = let long = h.long in let before = h.before in let whole : k ≡ k - 1 + 1 = omega arith in ap (λ n. take n m) whole ∙ take_more m (k - 1) x (omega arith)

  pub kept_cancelled : 0 < k → get_or m (k - 1) x ≡ x → KeptSoFar s m (i + 1) (k - 1)
  kept_cancelled some same =
      let before = h.before in
      let last = last_kept some ∙ ap (λ n. take (k - 1) m ++ n ∷ []) same in
      record {
        before = omega arith;
        long = h.long;
        rest = sym (drop-drop 1 i m) ∙ ap (drop 1) h.rest ∙ drop-drop 1 i s;
        kept = subst (λ xs. KeepsOdd xs (take (k - 1) m)) one_more (kept_less (take i s) (take (k - 1) m) x (subst (KeepsOdd (take i s)) last h.kept));
      }

  kept_below : (0 < k → get_or m (k - 1) x ≢ x) → (k ≡ 0) ⊎ (0 < k) → AreBelow x (take k m)
  kept_below other (inl none) = subst (λ n. AreBelow x (take n m)) (sym none) tt
  kept_below other (inr some) =
      let last = last_kept some in
      subst (AreBelow x) (sym last) (all_below (take i s) (take (k - 1) m) (get_or m (k - 1) x) x (subst (KeepsOdd (take i s)) last h.kept) passed (other some))

  pub kept_one_more : (0 < k → get_or m (k - 1) x ≢ x) → KeptSoFar s (set m k x) (i + 1) (k + 1)
  kept_one_more other =
      let long = h.long in
      let before = h.before in
      let more = take_more_set m k x (omega arith) in
      record {
        before = omega arith;
        long = length-set m k x ∙ h.long;
        rest = drop-set-lt (i + 1) m k x (omega arith) ∙ sym (drop-drop 1 i m) ∙ ap (drop 1) h.rest ∙ drop-drop 1 i s;
        kept = subst (λ ys. KeepsOdd (take (i + 1) s) ys) (sym more) (subst (λ xs. KeepsOdd xs (take k m ++ x ∷ [])) one_more
            (kept_more (take i s) (take k m) x h.kept (kept_below other (eq-zero-or-pos k))));
      }
