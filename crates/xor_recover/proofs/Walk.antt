-- Walking two lists in order side by side: what comes up to a pair of variables, and what comes after it.
use Rattle.std.proofs.Common.{◌≡◌, refl, sym, ap, ◌∙◌, subst, ℕ, zero, suc, ◌+◌, ◌-◌, ◌<◌, ◌≤◌, List, [], ◌∷◌, ◌++◌, length, get_or, take, drop, arith, ◌⊎◌, inl, inr, length-append, length-drop}
use Rattle.std.specs.List.{AllByRecursion, Contains}
use Rattle.std.specs.List.Sorted.{IsNonDecreasingBy, IsPermutation}
use Rattle.std.proofs.lemmas.List.Concat.{flat_map-append}
use Rattle.std.proofs.lemmas.List.Elements.{Contains-append_cases, Contains-append_left, Contains-append_right}
use Rattle.cx_base.specs.Literals.{Literal}
use Rattle.cx_base.proofs.Elements.{in_head, in_tail}
use Rattle.xor_recover.specs.declared.starts.Start.{Start}
use Rattle.xor_recover.specs.declared.wholes.Whole.{Whole}
use Rattle.xor_recover.specs.Starts.{AreStarts, IsStart, pair_of}
use Rattle.xor_recover.specs.Wholes.{starts_of, starts_of_all, count_of}
use Rattle.xor_recover.proofs.Runs.{Ahead, ahead_by, IsRun, RunsDone, next_run, found_runs, run_each}
use Rattle.std.proofs.lemmas.List.Sorted.{IsPermutation-sym, Contains-permutation, length_permutation}
use Rattle.std.proofs.Math.ListN.{drop_of_length-le}
use Rattle.std.proofs.lemmas.Bool.{cases_order}
use Rattle.cx_base.specs.Problem.{Problem, IsWithinVariables, clauses_of}
use Rattle.xor_recover.specs.declared.found.FoundParity.{FoundParity}
use Rattle.xor_recover.specs.Groups.{AddsFound}
use Rattle.xor_recover.proofs.Numbers.{AllWithin}
use Rattle.xor_recover.proofs.Sound.{FoundAll}
use Rattle.xor_recover.proofs.StartRows.{starts_moved, start_is}
use Rattle.xor_recover.proofs.WholeRows.{neighbours, len_moved}

-- ---- a part of a list

none_of : {X : Type 0} (n : ℕ) → ◌≡◌ {A = List X} (take n []) []
none_of zero = refl
none_of (suc n) = refl

front_and_rest : {X : Type 0} (n : ℕ) (xs : List X) → xs ≡ take n xs ++ drop n xs
front_and_rest zero xs = refl
front_and_rest (suc n) [] = refl
front_and_rest (suc n) (x ∷ xs) = ap (λ ys. x ∷ ys) (front_and_rest n xs)

-- from a place on: up to a further one, and from there on
pub two_parts : {X : Type 0} (xs : List X) (i j : ℕ) → i ≤ j → drop i xs ≡ take (j - i) (drop i xs) ++ drop j xs
two_parts xs zero j le = (let e : j ≡ j - 0 = omega arith in front_and_rest j xs ∙ ap (λ n. take n xs ++ drop j xs) e)
two_parts xs (suc i) zero le = absurd (omega arith)
two_parts [] (suc i) (suc j) le = sym (ap (λ (ys : List _). ys ++ []) (none_of (suc j - suc i)))
two_parts (x ∷ xs) (suc i) (suc j) le = (let e : j - i ≡ suc j - suc i = omega arith in two_parts xs i j (omega arith) ∙ ap (λ n. take n (drop i xs) ++ drop j xs) e)

in_front : {X : Type 0} (xs : List X) (n : ℕ) (s : X) → Contains (take n xs) s → (k : ℕ) × (k < n) × (k < length xs) × (get_or xs k s ≡ s)
in_front xs zero s c = absurd (let lt = c.1 in omega arith)
in_front [] (suc n) s c = absurd (let lt = c.1 in omega arith)
in_front (x ∷ xs) (suc n) s (zero, lt, e) = (0, omega arith, omega arith, e)
in_front (x ∷ xs) (suc n) s (suc k, lt, e) = let r = in_front xs n s (k, omega arith, e) in let low = r.1 in let high = r.2 in (suc r.0, omega (arith, low), omega (arith, high), r.3)

in_part : {X : Type 0} (xs : List X) (at n : ℕ) (s : X) → Contains (take n (drop at xs)) s → (k : ℕ) × (at ≤ k) × (k < at + n) × (k < length xs) × (get_or xs k s ≡ s)
in_part xs zero n s c = let r = in_front xs n s c in let low = r.1 in (r.0, omega arith, omega (arith, low), r.2, r.3)
in_part [] (suc at) n s c = absurd (let none = subst (λ (ss : List _). Contains ss s) (none_of n) c in let lt = none.1 in omega (arith, lt))
in_part (x ∷ xs) (suc at) n s c = let r = in_part xs at n s c in let le = r.1 in let lt = r.2 in let high = r.3 in (suc r.0, omega (arith, le), omega (arith, lt), omega (arith, high), r.4)

in_rest : {X : Type 0} (xs : List X) (at : ℕ) (s : X) → Contains (drop at xs) s → (k : ℕ) × (at ≤ k) × (k < length xs) × (get_or xs k s ≡ s)
in_rest xs zero s c = (c.0, omega arith, c.1, c.2)
in_rest [] (suc at) s c = absurd (let lt = c.1 in omega (arith, lt))
in_rest (x ∷ xs) (suc at) s c = let r = in_rest xs at s c in let le = r.1 in let high = r.2 in (suc r.0, omega (arith, le), omega (arith, high), r.3)

-- ---- the starts of parities

pub in_starts_of_all : (ws : List Whole) (s : Start) → Contains (starts_of_all ws) s → (w : Whole) × Contains ws w × Contains (starts_of w) s
in_starts_of_all [] s c = absurd (let lt = c.1 in omega arith)
in_starts_of_all (w ∷ ws) s c = elim (Contains-append_cases (starts_of w) (starts_of_all ws) s c) [
  | inl here ↦ (w, in_head w ws, here)
  | inr later ↦ let r = in_starts_of_all ws s later in (r.0, in_tail w ws r.0 r.1, r.2)
]

pub has_starts_of_all : (ws : List Whole) (w : Whole) (s : Start) → Contains ws w → Contains (starts_of w) s → Contains (starts_of_all ws) s
has_starts_of_all [] w s (k, lt, e) c = absurd (omega arith)
has_starts_of_all (v ∷ ws) w s (zero, lt, e) c = Contains-append_left (starts_of v) (starts_of_all ws) s (subst (λ (u : Whole). Contains (starts_of u) s) (sym e) c)
has_starts_of_all (v ∷ ws) w s (suc k, lt, e) c = Contains-append_right (starts_of v) (starts_of_all ws) s (has_starts_of_all ws w s (k, omega arith, e) c)

-- neighbours start with the same pair
same_pair : (s : Start) (a k : ℕ) (t : Start) → Contains (neighbours s a k) t → pair_of t ≡ pair_of s
same_pair s a zero t c = absurd (let lt = c.1 in omega arith)
same_pair s a (suc k) t (zero, lt, e) = sym (ap pair_of e)
same_pair s a (suc k) t (suc i, lt, e) = same_pair s (a + 1) k t (i, omega arith, e)

-- ---- up to a pair, and beyond it

abbrev UpTo : ℕ → List Start → Type 0
UpTo p ss = (s : Start) → Contains ss s → pair_of s ≤ p

abbrev Beyond : ℕ → List Start → Type 0
Beyond p ss = (s : Start) → Contains ss s → p < pair_of s

-- where the elements up to a pair end
pub record EndsAt {X : Type 0} (n : X → ℕ) (xs : List X) (at end p : ℕ) : Type 0 where
  pub ahead : at ≤ end
  pub inside : end ≤ length xs
  pub upto : (k : ℕ) (d : X) → at ≤ k → k < end → n (get_or xs k d) ≤ p
  pub beyond : (d : X) → end < length xs → p < n (get_or xs end d)

part_upto : {X : Type 0} (n : X → ℕ) (xs : List X) (at end p : ℕ) → EndsAt n xs at end p → (s : X) → Contains (take (end - at) (drop at xs)) s → n s ≤ p
part_upto n xs at end p h s c =
    let r = in_part xs at (end - at) s c in
    let up = h.ahead in
    let high = r.2 in
    subst (λ x. n x ≤ p) r.4 (h.upto r.0 s r.1 (omega (arith, up, high)))

rest_beyond : {X : Type 0} (n : X → ℕ) (xs : List X) (at end p : ℕ) → IsNonDecreasingBy n xs → EndsAt n xs at end p → (s : X) → Contains (drop end xs) s → p < n s
rest_beyond n xs at end p rise h s c =
    let r = in_rest xs end s c in
    let low = r.1 in
    let high = r.2 in
    let first = h.beyond s (omega (arith, low, high)) in
    let le = rise end r.0 s low high in
    subst (λ x. p < n x) r.3 (omega (arith, first, le))

abbrev whole_pair : Whole → ℕ
whole_pair w = pair_of w.start

wholes_upto : (p : ℕ) (ws : List Whole) → ((w : Whole) → Contains ws w → whole_pair w ≤ p) → UpTo p (starts_of_all ws)
wholes_upto p ws h s c = let r = in_starts_of_all ws s c in let le = h r.0 r.1 in let e = same_pair r.0.start r.0.start.number (count_of r.0) s r.2 in omega (arith, le, e)

wholes_beyond : (p : ℕ) (ws : List Whole) → ((w : Whole) → Contains ws w → p < whole_pair w) → Beyond p (starts_of_all ws)
wholes_beyond p ws h s c = let r = in_starts_of_all ws s c in let lt = h r.0 r.1 in let e = same_pair r.0.start r.0.start.number (count_of r.0) s r.2 in omega (arith, lt, e)

-- ---- a step of the walk

four_parts : (a b c d : List Start) → ((s t : Start) → Contains (a ++ c) s → Contains (b ++ d) t → Ahead s t) → IsRun ((a ++ b) ++ (c ++ d)) (a ++ c) (b ++ d)
four_parts a b c d ahead = record {
  from = λ s h. elim (Contains-append_cases a c s h) [
    | inl x ↦ Contains-append_left (a ++ b) (c ++ d) s (Contains-append_left a b s x)
    | inr x ↦ Contains-append_right (a ++ b) (c ++ d) s (Contains-append_left c d s x)
  ];
  splits = λ s h. elim (Contains-append_cases (a ++ b) (c ++ d) s h) [
    | inl x ↦ elim (Contains-append_cases a b s x) [ inl y ↦ inl (Contains-append_left a c s y) | inr y ↦ inr (Contains-append_left b d s y) ]
    | inr x ↦ elim (Contains-append_cases c d s x) [ inl y ↦ inl (Contains-append_right a c s y) | inr y ↦ inr (Contains-append_right b d s y) ]
  ];
  stays = λ s h. elim (Contains-append_cases b d s h) [
    | inl x ↦ Contains-append_left (a ++ b) (c ++ d) s (Contains-append_right a b s x)
    | inr x ↦ Contains-append_right (a ++ b) (c ++ d) s (Contains-append_right c d s x)
  ];
  ahead = ahead;
  long =
      let ab = length-append a b in
      let cd = length-append c d in
      let ac = length-append a c in
      let bd = length-append b d in
      let all = length-append (a ++ b) (c ++ d) in
      omega (arith, ab, cd, ac, bd, all);
}

-- the starts from two places on
abbrev pub rest_of : List Start → List Whole → ℕ → ℕ → List Start
rest_of S W a b = drop a S ++ starts_of_all (drop b W)

-- those up to two further places
abbrev pub run_of : List Start → List Whole → ℕ → ℕ → ℕ → ℕ → List Start
run_of S W a a' b b' = take (a' - a) (drop a S) ++ starts_of_all (take (b' - b) (drop b W))

pub a_run : (S : List Start) (W : List Whole) (a a' b b' p : ℕ) → IsNonDecreasingBy pair_of S → IsNonDecreasingBy (λ (w : Whole). pair_of w.start) W → ((s : Start) → Contains (S ++ starts_of_all W) s → s.second < 4294967296)
    → EndsAt pair_of S a a' p → EndsAt (λ (w : Whole). pair_of w.start) W b b' p → IsRun (rest_of S W a b) (run_of S W a a' b b') (rest_of S W a' b')
a_run S W a a' b b' p rise rise' fits ends ends' =
    let r = take (a' - a) (drop a S) in
    let l = drop a' S in
    let r' = take (b' - b) (drop b W) in
    let l' = drop b' W in
    let split : r ++ l ≡ drop a S = sym (two_parts S a a' ends.ahead) in
    let split' : starts_of_all r' ++ starts_of_all l' ≡ starts_of_all (drop b W) = sym (flat_map-append starts_of r' l') ∙ ap starts_of_all (sym (two_parts W b b' ends'.ahead)) in
    (let whole : (s : Start) → Contains (rest_of S W a b) s → s.second < 4294967296 = (λ s c. fits s (elim (Contains-append_cases (drop a S) (starts_of_all (drop b W)) s c) [
      | inl x ↦ (let k = in_rest S a s x in Contains-append_left S (starts_of_all W) s (k.0, k.2, k.3))
      | inr x ↦ (let w = in_starts_of_all (drop b W) s x in let k = in_rest W b w.0 w.1 in Contains-append_right S (starts_of_all W) s (has_starts_of_all W w.0 s (k.0, k.2, k.3) w.2))
    ])) in
    let parts = four_parts r l (starts_of_all r') (starts_of_all l') in
    let from : (s : Start) → Contains (r ++ starts_of_all r') s → pair_of s ≤ p = (λ s c. elim (Contains-append_cases r (starts_of_all r') s c) [
      | inl x ↦ part_upto pair_of S a a' p ends s x
      | inr x ↦ wholes_upto p r' (λ w cw. part_upto whole_pair W b b' p ends' w cw) s x
    ]) in
    let behind : (s : Start) → Contains (l ++ starts_of_all l') s → p < pair_of s = (λ s c. elim (Contains-append_cases l (starts_of_all l') s c) [
      | inl x ↦ rest_beyond pair_of S a a' p rise ends s x
      | inr x ↦ wholes_beyond p l' (λ w cw. rest_beyond whole_pair W b b' p rise' ends' w cw) s x
    ]) in
    let here : (s : Start) → Contains (r ++ starts_of_all r') s → Contains (rest_of S W a b) s = (λ s c. elim (Contains-append_cases r (starts_of_all r') s c) [
      | inl x ↦ Contains-append_left (drop a S) (starts_of_all (drop b W)) s (subst (λ (ss : List Start). Contains ss s) split (Contains-append_left r l s x))
      | inr x ↦ Contains-append_right (drop a S) (starts_of_all (drop b W)) s (subst (λ (ss : List Start). Contains ss s) split' (Contains-append_left (starts_of_all r') (starts_of_all l') s x))
    ]) in
    let there : (s : Start) → Contains (l ++ starts_of_all l') s → Contains (rest_of S W a b) s = (λ s c. elim (Contains-append_cases l (starts_of_all l') s c) [
      | inl x ↦ Contains-append_left (drop a S) (starts_of_all (drop b W)) s (subst (λ (ss : List Start). Contains ss s) split (Contains-append_right r l s x))
      | inr x ↦ Contains-append_right (drop a S) (starts_of_all (drop b W)) s (subst (λ (ss : List Start). Contains ss s) split' (Contains-append_right (starts_of_all r') (starts_of_all l') s x))
    ]) in
    subst (λ (ss : List Start). IsRun ss (run_of S W a a' b b') (rest_of S W a' b')) (λ i. split i ++ split' i)
    (parts (λ s t cs ct. ahead_by s t (whole s (here s cs)) (whole t (there t ct)) (let le = from s cs in let lt = behind t ct in omega (arith, le, lt)))))

-- what is in the run is among all
pub run_among : (S : List Start) (W : List Whole) (a a' b b' : ℕ) → (s : Start) → Contains (run_of S W a a' b b') s → Contains (S ++ starts_of_all W) s
run_among S W a a' b b' s c = elim (Contains-append_cases (take (a' - a) (drop a S)) (starts_of_all (take (b' - b) (drop b W))) s c) [
  | inl x ↦ (let k = in_part S a (a' - a) s x in Contains-append_left S (starts_of_all W) s (k.0, k.3, k.4))
  | inr x ↦ (let w = in_starts_of_all (take (b' - b) (drop b W)) s x in let k = in_part W b (b' - b) w.0 w.1 in Contains-append_right S (starts_of_all W) s (has_starts_of_all W w.0 s (k.0, k.3, k.4) w.2))
]

-- ---- in another order

pub order_moved : (C : List (List Literal)) (S S' : List Start) (W W' : List Whole) → IsPermutation S S' → IsPermutation W W' → AreStarts C (S ++ starts_of_all W) → AreStarts C (S' ++ starts_of_all W')
order_moved C S S' W W' moves moves' h =
    let a = length-append S (starts_of_all W) in
    let b = length-append S' (starts_of_all W') in
    let c = length_permutation S S' moves in
    let d = len_moved W W' moves' in
    starts_moved C (S ++ starts_of_all W) (S' ++ starts_of_all W') (among S S' W W' moves moves') (among S' S W' W (IsPermutation-sym S S' moves) (IsPermutation-sym W W' moves')) (omega (arith, a, b, c, d)) h
  where
    among : (S S' : List Start) (W W' : List Whole) → IsPermutation S S' → IsPermutation W W' → (s : Start) → Contains (S ++ starts_of_all W) s → Contains (S' ++ starts_of_all W') s
    among S S' W W' moves moves' s c = elim (Contains-append_cases S (starts_of_all W) s c) [
      | inl x ↦ Contains-append_left S' (starts_of_all W') s (Contains-permutation S S' s moves x)
      | inr x ↦ (let w = in_starts_of_all W s x in Contains-append_right S' (starts_of_all W') s (has_starts_of_all W' w.0 s (Contains-permutation W W' w.0 moves' w.1) w.2))
    ]

-- ---- the walk's steps

len_front : {X : Type 0} (n : ℕ) (xs : List X) → n ≤ length xs → length (take n xs) ≡ n
len_front zero xs le = refl
len_front (suc n) [] le = absurd (omega arith)
len_front (suc n) (x ∷ xs) le = ap suc (len_front n xs (omega arith))

len_part : {X : Type 0} (xs : List X) (at end : ℕ) → at ≤ end → end ≤ length xs → length (take (end - at) (drop at xs)) ≡ end - at
len_part xs at end le inside = let long = length-drop at xs in len_front (end - at) (drop at xs) (omega (arith, long, inside))

-- the next clause or parity starts no later than the pair
abbrev pub Reaches : List Start → List Whole → ℕ → ℕ → ℕ → Type 0
Reaches S W a b p = ((a < length S) × ((d : Start) → pair_of (get_or S a d) ≤ p)) ⊎ ((b < length W) × ((d : Whole) → pair_of (get_or W b d).start ≤ p))

gets_on : {X : Type 0} (n : X → ℕ) (xs : List X) (at end p : ℕ) → EndsAt n xs at end p → at < length xs → ((d : X) → n (get_or xs at d) ≤ p) → at < end
gets_on n [] at end p ends lt low = absurd (omega arith)
gets_on n (x ∷ xs) at end p ends lt low = elim (cases_order at end) [
  | inl e ↦ absurd (let le = low x in let high = ends.beyond x (omega (arith, lt, e)) in let same = ap (λ k. n (get_or (x ∷ xs) k x)) e in omega (arith, le, high, same))
  | inr order ↦ elim order [ inl below ↦ below | inr over ↦ absurd (let up = ends.ahead in omega (arith, up, over)) ]
]

pub smaller : (S s : List Start) (W w : List Whole) (a e b f p : ℕ) → s ≡ S → w ≡ W → EndsAt pair_of S a e p → EndsAt (λ (w : Whole). pair_of w.start) W b f p → Reaches S W a b p
    → (length S - (a + length (take (e - a) (drop a s)))) + (length W - (b + length (take (f - b) (drop b w)))) < (length S - a) + (length W - b)
smaller S s W w a e b f p is is' ends ends' next =
    let long = ap (λ (xs : List Start). length (take (e - a) (drop a xs))) is ∙ len_part S a e ends.ahead ends.inside in
    let long' = ap (λ (xs : List Whole). length (take (f - b) (drop b xs))) is' ∙ len_part W b f ends'.ahead ends'.inside in
    let up = ends.ahead in
    let up' = ends'.ahead in
    let high = ends.inside in
    let high' = ends'.inside in
    elim next [
      | inl h ↦ let on = gets_on pair_of S a e p ends h.0 h.1 in omega (arith, long, long', up, up', high, high', on)
      | inr h ↦ let on = gets_on whole_pair W b f p ends' h.0 h.1 in omega (arith, long, long', up, up', high, high', on)
    ]

pub stays_inside : {X : Type 0} (n : X → ℕ) (xs ys : List X) (at end p : ℕ) → ys ≡ xs → EndsAt n xs at end p → at + length (take (end - at) (drop at ys)) ≤ length xs
stays_inside n xs ys at end p is ends =
    let long = ap (λ (zs : List _). length (take (end - at) (drop at zs))) is ∙ len_part xs at end ends.ahead ends.inside in
    let up = ends.ahead in
    let high = ends.inside in
    omega (arith, long, up, high)

pub walk_step : (C : List (List Literal)) (S s : List Start) (W w : List Whole) (a e b f p : ℕ) (old new : List FoundParity) → s ≡ S → w ≡ W → AllWithin C → AreStarts C (S ++ starts_of_all W) → IsNonDecreasingBy pair_of S → IsNonDecreasingBy (λ (w : Whole). pair_of w.start) W
    → EndsAt pair_of S a e p → EndsAt (λ (w : Whole). pair_of w.start) W b f p → AddsFound C (take (e - a) (drop a s) ++ starts_of_all (take (f - b) (drop b w))) old new → RunsDone C (S ++ starts_of_all W) (rest_of S W a b) old
    → RunsDone C (S ++ starts_of_all W) (rest_of S W (a + length (take (e - a) (drop a s))) (b + length (take (f - b) (drop b w)))) new
walk_step C S s W w a e b f p old new is is' within are rise rise' ends ends' adds done =
    let at : e ≡ a + length (take (e - a) (drop a s)) = (let long = ap (λ (xs : List Start). length (take (e - a) (drop a xs))) is ∙ len_part S a e ends.ahead ends.inside in let up = ends.ahead in omega (arith, long, up)) in
    let at' : f ≡ b + length (take (f - b) (drop b w)) = (let long = ap (λ (xs : List Whole). length (take (f - b) (drop b xs))) is' ∙ len_part W b f ends'.ahead ends'.inside in let up = ends'.ahead in omega (arith, long, up)) in
    let adds' : AddsFound C (run_of S W a e b f) old new = subst (λ (ss : List Start). AddsFound C ss old new) (λ i. take (e - a) (drop a (is i)) ++ starts_of_all (take (f - b) (drop b (is' i)))) adds in
    let fits : (t : Start) → Contains (S ++ starts_of_all W) t → t.second < 4294967296 = (λ t c. (start_is C (S ++ starts_of_all W) t are.each c).fits) in
    let run = a_run S W a e b f p rise rise' fits ends ends' in
    let inside = run_among S W a e b f in
    subst (λ (ss : List Start). RunsDone C (S ++ starts_of_all W) ss new) (λ i. rest_of S W (at i) (at' i))
    (next_run C (S ++ starts_of_all W) (rest_of S W a b) (run_of S W a e b f) (rest_of S W e f) old new within are.each (run_each C (S ++ starts_of_all W) (run_of S W a e b f) are.each inside) inside run adds' done)

pub walk_ends : (formula : Problem) (S : List Start) (W : List Whole) (a b : ℕ) (finds result : List FoundParity) → IsWithinVariables formula.variables formula.constraints → AreStarts (clauses_of formula.constraints) (S ++ starts_of_all W)
    → length S ≤ a → length W ≤ b → RunsDone (clauses_of formula.constraints) (S ++ starts_of_all W) (rest_of S W a b) finds → result ≡ finds → FoundAll formula result
walk_ends formula S W a b finds result within are le le' done is =
    found_runs formula (S ++ starts_of_all W) (rest_of S W a b) finds result within are (ap length (λ i. drop_of_length-le S le i ++ starts_of_all (drop_of_length-le W le' i))) done is

all_left : (P : Start → Type 0) (xs ys : List Start) → AllByRecursion P (xs ++ ys) → AllByRecursion P xs
all_left P [] ys h = tt
all_left P (x ∷ xs) ys h = (h.0, all_left P xs ys h.1)

all_front : (P : Start → Type 0) (n : ℕ) (xs : List Start) → AllByRecursion P xs → AllByRecursion P (take n xs)
all_front P zero xs h = tt
all_front P (suc n) [] h = tt
all_front P (suc n) (x ∷ xs) h = (h.0, all_front P n xs h.1)

all_later : (P : Start → Type 0) (n : ℕ) (xs : List Start) → AllByRecursion P xs → AllByRecursion P (drop n xs)
all_later P zero xs h = h
all_later P (suc n) [] h = tt
all_later P (suc n) (x ∷ xs) h = all_later P n xs h.1

pub run_starts : (C : List (List Literal)) (S s : List Start) (others : List Start) (a n : ℕ) → s ≡ S → AreStarts C (S ++ others) → AllByRecursion (IsStart C) (take n (drop a s))
run_starts C S s others a n is are = subst (λ (ss : List Start). AllByRecursion (IsStart C) (take n (drop a ss))) (sym is) (all_front (IsStart C) n (drop a S) (all_later (IsStart C) a S (all_left (IsStart C) S others are.each)))
