-- The groups of rows in order: which there are, in which order, and that none is missed.
use Rattle.std.proofs.Common.{◌≡◌, refl, sym, ap, ◌∙◌, subst, ℕ, zero, suc, ◌-◌, ◌<◌, ◌≤◌, Bool, true, false, cond, ◌&&◌, List, [], ◌∷◌, length, get_or, take, arith, true≢false, inl, inr, Option, Some, None}
use Rattle.std.specs.Prelude.{filter, nat_le}
use Rattle.std.specs.List.{AllByRecursion, Contains}
use Rattle.std.specs.List.Sorted.{IsStrictlySortedBy}
use Rattle.std.specs.Cmp.{upto, tied_itself, alike_right}
use Rattle.std.specs.Cmp.Lexicographic.{slice_cmp}
use Rattle.std.specs.Ordering.{is_lt, is_gt, ordering_then, ordering_reverse, bool_cmp}
use Rattle.std.specs.declared.cmp.Ordering.{Ordering}
use Rattle.std.specs.declared.cmp.Ordering.TheVariants.{Less, Equal, Greater}
use Rattle.std.proofs.lemmas.Bool.{and_parts, and_from, leb-true, le-leb, cases_Bool, false_from_ne_true}
use Rattle.std.proofs.lemmas.List.Kept.{IsStrictlySortedBy-filter}
use Rattle.cx_base.proofs.Elements.{in_head, in_tail, same_head}
use Rattle.xor_recover.specs.Rows.{Row, key_cmp, shape_cmp, IsProper}
use Rattle.xor_recover.specs.Groups.{group_of, groups_of, and_more, needed, same_key}
use Rattle.xor_recover.proofs.Firsts.{key_total}
use Rattle.xor_recover.proofs.Grouping.{power_low}
use Rattle.xor_recover.proofs.Keys.{Sorted, AllProper, AllOfKey, sorted_head, sorted_tail, key_equal, key_is, key_swap, same_test, needed_same, few_of_key, variables_long}

some_is : {X : Type 0} {a b : X} → Some a ≡ Some b → a ≡ b
some_is g = cc

none_is : {X : Type 0} {b : X} → ◌≡◌ {A = Option X} None (Some b) → ⊥
none_is g = cc

-- ---- orders of keys

first_up : (a b : Ordering) → ordering_then a b ≡ Less → is_gt a ≡ false
first_up Less b h = refl
first_up Equal b h = refl
first_up Greater b h = absurd (true≢false (ap is_gt h))

pub key_up : (x y : Row) → shape_cmp x y ≡ Less → is_gt (key_cmp x y) ≡ false
key_up x y h = first_up (key_cmp x y) (slice_cmp bool_cmp x.signs y.signs) h

both_up : (a b : Ordering) → a ≡ ordering_reverse b → is_gt a ≡ false → is_gt b ≡ false → a ≡ Equal
both_up a Less e h g = absurd (true≢false (sym (ap is_gt e) ∙ h))
both_up a Equal e h g = e
both_up a Greater e h g = absurd (true≢false g)

between : (x y z : Row) → is_gt (key_cmp x y) ≡ false → is_gt (key_cmp y z) ≡ false → same_key z x ≡ true → same_key y x ≡ true
between x y z h g e =
    let back : is_gt (key_cmp y x) ≡ false = upto key_total y z x g (ap is_gt (key_equal z x e)) in
    key_is y x (both_up (key_cmp y x) (key_cmp x y) (key_total.antisymm y x) back h)

itself_up : (x : Row) → is_gt (key_cmp x x) ≡ false
itself_up x = ap is_gt (tied_itself key_total x)

less_or_same : (x y : Row) → is_gt (key_cmp x y) ≡ false → (same_key y x ≡ true → ⊥) → key_cmp x y ≡ Less
less_or_same x y h apart = go (key_cmp x y) refl
  where
    go : (o : Ordering) → key_cmp x y ≡ o → key_cmp x y ≡ Less
    go Less e = e
    go Equal e = absurd (apart (key_swap x y (key_is x y e)))
    go Greater e = absurd (true≢false (sym (ap is_gt e) ∙ h))

pub at_all : (P : Row → Type 0) (xs : List Row) (k : ℕ) (d : Row) → AllByRecursion P xs → k < length xs → P (get_or xs k d)
at_all P [] k d h lt = absurd (omega arith)
at_all P (x ∷ xs) zero d h lt = h.0
at_all P (x ∷ xs) (suc k) d h lt = at_all P xs k d h.1 (omega arith)

-- all up to a row of the key are of the key
run_of_key : (x y : Row) (ys : List Row) (j : ℕ) (d : Row) → Sorted (y ∷ ys) → is_gt (key_cmp x y) ≡ false → j < length (y ∷ ys) → same_key (get_or (y ∷ ys) j d) x ≡ true → AllOfKey x (take (suc j) (y ∷ ys))
run_of_key x y ys zero d s up lt e = (e, tt)
run_of_key x y [] (suc j) d s up lt e = absurd (omega arith)
run_of_key x y (z ∷ zs) (suc j) d s up lt e =
    let later = at_all (λ w. shape_cmp y w ≡ Less) (z ∷ zs) j d (sorted_head y (z ∷ zs) s) (omega arith) in
    let here = between x y (get_or (z ∷ zs) j d) up (key_up y (get_or (z ∷ zs) j d) later) e in
    (here, run_of_key x z zs j d (sorted_tail y (z ∷ zs) s) (upto key_total x y z up (key_up y z (sorted_head y (z ∷ zs) s).0)) (omega arith) e)

-- ---- how many rows have a key

pub count : Row → List Row → ℕ
count x zs = length (filter (λ z. same_key z x) zs)

pub count-is : (x : Row) (zs : List Row) → count x zs ≡ length (filter (λ z. same_key z x) zs)
unfolding count
count-is x zs = refl

count-hit : (x y : Row) (ys : List Row) → same_key y x ≡ true → count x (y ∷ ys) ≡ suc (count x ys)
unfolding count
count-hit x y ys e = ap (λ b. length (cond b (y ∷ filter (λ z. same_key z x) ys) (filter (λ z. same_key z x) ys))) e

count-miss : (x y : Row) (ys : List Row) → same_key y x ≡ false → count x (y ∷ ys) ≡ count x ys
unfolding count
count-miss x y ys e = ap (λ b. length (cond b (y ∷ filter (λ z. same_key z x) ys) (filter (λ z. same_key z x) ys))) e

count-more : (x y : Row) (ys : List Row) → count x ys ≤ count x (y ∷ ys)
count-more x y ys = elim (cases_Bool (same_key y x)) [ inl e ↦ (let h = count-hit x y ys e in omega arith) | inr e ↦ (let h = count-miss x y ys e in omega arith) ]

count-none : (x : Row) → count x [] ≡ 0
unfolding count
count-none x = refl

count-same : (y x : Row) (zs : List Row) → same_key y x ≡ true → count y zs ≡ count x zs
unfolding count
count-same y x zs e = ap (λ (f : Row → Bool). length (filter f zs)) (λ i z. same_test y x e z i)

all_filter : (P : Row → Type 0) (p : Row → Bool) (zs : List Row) → AllByRecursion P zs → AllByRecursion P (filter p zs)
all_filter P p [] h = tt
all_filter P p (z ∷ zs) h = elim (p z) as (λ b. AllByRecursion P (cond b (z ∷ filter p zs) (filter p zs))) [ true ↦ (h.0, all_filter P p zs h.1) | false ↦ all_filter P p zs h.1 ]

passed : (p : Row → Bool) (zs : List Row) → AllByRecursion (λ z. p z ≡ true) (filter p zs)
passed p [] = tt
passed p (z ∷ zs) = elim (p z) as (λ b. p z ≡ b → AllByRecursion (λ z. p z ≡ true) (cond b (z ∷ filter p zs) (filter p zs))) [ true ↦ λ e. (e, passed p zs) | false ↦ λ e. passed p zs ] refl

pub few : (x : Row) (zs : List Row) → IsProper x → Sorted zs → AllProper zs → count x zs ≤ needed x
unfolding count
few x zs px s p = few_of_key x (filter (λ z. same_key z x) zs) px (IsStrictlySortedBy-filter shape_cmp (λ z. same_key z x) zs s) (all_filter IsProper (λ z. same_key z x) zs p) (passed (λ z. same_key z x) zs)

count-long : (x : Row) (zs : List Row) → count x zs ≤ length zs
count-long x [] = (let e = count-none x in omega arith)
count-long x (z ∷ zs) =
    let rest = count-long x zs in
    elim (cases_Bool (same_key z x)) [ inl e ↦ (let h = count-hit x z zs e in omega arith) | inr e ↦ (let h = count-miss x z zs e in omega arith) ]

front_counts : (x : Row) (n : ℕ) (zs : List Row) → n ≤ length zs → AllOfKey x (take n zs) → n ≤ count x zs
front_counts x zero zs le h = omega arith
front_counts x (suc n) [] le h = absurd (omega arith)
front_counts x (suc n) (z ∷ zs) le h = (let rest = front_counts x n zs (omega arith) h.1 in let e = count-hit x z zs h.0 in omega arith)

pub less_not_same : (x y : Row) → key_cmp x y ≡ Less → same_key y x ≡ false
less_not_same x y less = false_from_ne_true (same_key y x) (λ e. true≢false (sym (ap is_lt less) ∙ ap is_lt (key_equal x y (key_swap y x e))))

less_through : (x y z : Row) (o : Ordering) → key_cmp y z ≡ o → key_cmp x y ≡ Less → is_gt o ≡ false → key_cmp x z ≡ Less
less_through x y z Less e h g = key_total.trans x y z h e
less_through x y z Equal e h g = sym (alike_right key_total y z x e) ∙ h
less_through x y z Greater e h g = absurd (true≢false g)

all_less : (x y : Row) (ys : List Row) → key_cmp x y ≡ Less → AllByRecursion (λ z. shape_cmp y z ≡ Less) ys → AllByRecursion (λ z. key_cmp x z ≡ Less) ys
all_less x y [] less h = tt
all_less x y (z ∷ zs) less h = (less_through x y z (key_cmp y z) refl less (key_up y z h.0), all_less x y zs less h.1)

none_less : (x : Row) (ys : List Row) → AllByRecursion (λ z. key_cmp x z ≡ Less) ys → count x ys ≡ 0
none_less x [] h = count-none x
none_less x (z ∷ zs) h = count-miss x z zs (less_not_same x z h.0) ∙ none_less x zs h.1

-- a place below the count is of the key
reach : (x y : Row) (ys : List Row) (j : ℕ) (d : Row) → Sorted (y ∷ ys) → is_gt (key_cmp x y) ≡ false → j < count x (y ∷ ys) → same_key (get_or (y ∷ ys) j d) x ≡ true
reach x y ys zero d s up lt = elim (cases_Bool (same_key y x)) [
  | inl e ↦ e
  | inr apart ↦ absurd (
      let less = less_or_same x y up (λ e. true≢false (sym e ∙ apart)) in
      let none = none_less x (y ∷ ys) (less, all_less x y ys less (sorted_head y ys s)) in
      omega arith)
]
reach x y [] (suc j) d s up lt = absurd (let most = count-long x (y ∷ []) in omega arith)
reach x y (z ∷ zs) (suc j) d s up lt = elim (cases_Bool (same_key y x)) [
  | inl e ↦ reach x z zs j d (sorted_tail y (z ∷ zs) s) (upto key_total x y z up (key_up y z (sorted_head y (z ∷ zs) s).0)) (let hit = count-hit x y (z ∷ zs) e in omega arith)
  | inr apart ↦ absurd (
      let less = less_or_same x y up (λ e. true≢false (sym e ∙ apart)) in
      let none = none_less x (y ∷ z ∷ zs) (less, all_less x y (z ∷ zs) less (sorted_head y (z ∷ zs) s)) in
      omega arith)
]

pub power_needed : (x : Row) → IsProper x → 1 ≤ needed x
power_needed x p = let long = variables_long x p in power_low (length x.variables) (let two = long.0 in omega arith) long.1

-- ---- groups

pub record IsGroup (zs g : List Row) : Type 0 where
  pub head : Row
  pub rest : List Row
  pub is : g ≡ head ∷ rest
  pub of_key : AllOfKey head g
  pub sorted : Sorted g
  pub proper : AllProper g
  pub long : length g ≡ needed head
  pub many : needed head ≤ count head zs
  pub from : AllByRecursion (Contains zs) g

pub group_opens : (x : Row) (xs g : List Row) → group_of (x ∷ xs) ≡ Some g → (g ≡ take (needed x) (x ∷ xs)) × (needed x ≤ length (x ∷ xs)) × (same_key (get_or (x ∷ xs) (needed x - 1) x) x ≡ true)
unfolding group_of
group_opens x xs g h =
    let here = same_key (get_or (x ∷ xs) (needed x - 1) x) x in
    let n = nat_le (needed x) (length (x ∷ xs)) in
    elim (n && here) as (λ b. (n && here) ≡ b → cond b (Some (take (needed x) (x ∷ xs))) None ≡ Some g → (g ≡ take (needed x) (x ∷ xs)) × (needed x ≤ length (x ∷ xs)) × (here ≡ true)) [
      | true ↦ λ e k. let p = and_parts n here e in (sym (some_is k), leb-true (needed x) (length (x ∷ xs)) p.0, p.1)
      | false ↦ λ e k. absurd (none_is k)
    ] refl h

pub group_stands : (x : Row) (xs : List Row) → needed x ≤ length (x ∷ xs) → same_key (get_or (x ∷ xs) (needed x - 1) x) x ≡ true → group_of (x ∷ xs) ≡ Some (take (needed x) (x ∷ xs))
unfolding group_of
group_stands x xs le here = ap (λ b. cond b (Some (take (needed x) (x ∷ xs))) None) (and_from _ _ (le-leb (needed x) (length (x ∷ xs)) le) here)

all_take : (P : Row → Type 0) (n : ℕ) (xs : List Row) → AllByRecursion P xs → AllByRecursion P (take n xs)
all_take P zero xs h = tt
all_take P (suc n) [] h = tt
all_take P (suc n) (x ∷ xs) h = (h.0, all_take P n xs h.1)

sorted_take : (n : ℕ) (xs : List Row) → Sorted xs → Sorted (take n xs)
unfolding IsStrictlySortedBy
sorted_take zero xs s = tt
sorted_take (suc n) [] s = tt
sorted_take (suc n) (x ∷ xs) s = (all_take (λ y. shape_cmp x y ≡ Less) n xs s.0, sorted_take n xs s.1)

all_weaker : (P Q : Row → Type 0) (xs : List Row) → ((x : Row) → P x → Q x) → AllByRecursion P xs → AllByRecursion Q xs
all_weaker P Q [] f h = tt
all_weaker P Q (x ∷ xs) f h = (f x h.0, all_weaker P Q xs f h.1)

all_contained : (xs : List Row) → AllByRecursion (Contains xs) xs
all_contained [] = tt
all_contained (x ∷ xs) = (in_head x xs, all_weaker (Contains xs) (Contains (x ∷ xs)) xs (λ y c. in_tail x xs y c) (all_contained xs))

length_take : (n : ℕ) (xs : List Row) → n ≤ length xs → length (take n xs) ≡ n
length_take zero xs le = refl
length_take (suc n) [] le = absurd (omega arith)
length_take (suc n) (x ∷ xs) le = ap suc (length_take n xs (omega arith))

front_is : (n : ℕ) (x : Row) (xs : List Row) → 1 ≤ n → take n (x ∷ xs) ≡ x ∷ take (n - 1) xs
front_is zero x xs h = absurd (omega arith)
front_is (suc n) x xs h = let e : n ≡ suc n - 1 = omega arith in ap (λ m. x ∷ take m xs) e

pub group_first : (x : Row) (xs g : List Row) → IsProper x → group_of (x ∷ xs) ≡ Some g → g ≡ x ∷ take (needed x - 1) xs
group_first x xs g p h = (group_opens x xs g h).0 ∙ front_is (needed x) x xs (power_needed x p)

first_group : (x : Row) (xs g : List Row) → Sorted (x ∷ xs) → AllProper (x ∷ xs) → group_of (x ∷ xs) ≡ Some g → IsGroup (x ∷ xs) g
first_group x xs g s p h =
    let zs = x ∷ xs in
    let n = needed x in
    let open' = group_opens x xs g h in
    let one = power_needed x p.0 in
    let next : suc (n - 1) ≡ n = omega arith in
    let run : AllOfKey x (take n zs) = subst (λ m. AllOfKey x (take m zs)) next (run_of_key x x xs (n - 1) x s (itself_up x) (let le = open'.1 in omega arith) open'.2) in
    subst (IsGroup zs) (sym open'.0) (record {
      head = x;
      rest = take (n - 1) xs;
      is = front_is n x xs one;
      of_key = run;
      sorted = sorted_take n zs s;
      proper = all_take IsProper n zs p;
      long = length_take n zs open'.1;
      many = front_counts x n zs open'.1 run;
      from = all_take (Contains zs) n zs (all_contained zs);
    })

later_group : (x : Row) (xs g : List Row) → IsGroup xs g → IsGroup (x ∷ xs) g
later_group x xs g h = record {
  head = h.head;
  rest = h.rest;
  is = h.is;
  of_key = h.of_key;
  sorted = h.sorted;
  proper = h.proper;
  long = h.long;
  many = (let m = h.many in let c = count-more h.head x xs in omega arith);
  from = all_weaker (Contains xs) (Contains (x ∷ xs)) g (λ y c. in_tail x xs y c) h.from;
}

all_later : (x : Row) (xs : List Row) (gs : List (List Row)) → AllByRecursion (IsGroup xs) gs → AllByRecursion (IsGroup (x ∷ xs)) gs
all_later x xs [] h = tt
all_later x xs (g ∷ gs) h = (later_group x xs g h.0, all_later x xs gs h.1)

pub groups_are : (zs : List Row) → Sorted zs → AllProper zs → AllByRecursion (IsGroup zs) (groups_of zs)
unfolding groups_of
groups_are [] s p = tt
groups_are (x ∷ xs) s p =
    let rest = all_later x xs (groups_of xs) (groups_are xs (sorted_tail x xs s) p.1) in
    elim (group_of (x ∷ xs)) as (λ o. group_of (x ∷ xs) ≡ o → AllByRecursion (IsGroup (x ∷ xs)) (and_more o (groups_of xs))) [
      | None ↦ λ _. rest
      | Some g ↦ λ e. (first_group x xs g s p e, rest)
    ] refl

-- ---- their order

abbrev pub Ahead : Row → List (List Row) → Type 0
Ahead x gs = AllByRecursion (λ g. (a : Row) (r : List Row) → g ≡ a ∷ r → key_cmp x a ≡ Less) gs

abbrev pub GroupsRise : List (List Row) → Type 0
GroupsRise [] = Unit {0}
GroupsRise (g ∷ gs) = ((x : Row) (r : List Row) → g ≡ x ∷ r → Ahead x gs) × GroupsRise gs

pub contained : (P : Row → Type 0) (xs : List Row) (x : Row) → AllByRecursion P xs → Contains xs x → P x
contained P xs x h c = subst P c.2 (at_all P xs c.0 x h c.1)

pub head_in : (zs g : List Row) (h : IsGroup zs g) → Contains zs h.head
head_in zs g h = (subst (λ (l : List Row). AllByRecursion (Contains zs) l) h.is h.from).0

pub head_proper : (zs g : List Row) (h : IsGroup zs g) → IsProper h.head
head_proper zs g h = (subst AllProper h.is h.proper).0

pub itself_same : (x : Row) → same_key x x ≡ true
itself_same x = key_is x x (tied_itself key_total x)

head_less : (x : Row) (xs g : List Row) → Sorted (x ∷ xs) → AllProper (x ∷ xs) → (h : IsGroup xs g) → key_cmp x h.head ≡ Less
head_less x xs g s p h =
    let b = h.head in
    let up = key_up x b (contained (λ y. shape_cmp x y ≡ Less) xs b (sorted_head x xs s) (head_in xs g h)) in
    less_or_same x b up (λ same.
    let many = h.many in
    let counts = count-same b x xs same in
    let needs = needed_same b x same in
    let hit = count-hit x x xs (itself_same x) in
    let bound = few x (x ∷ xs) p.0 s p in
    omega arith)

all_ahead : (x : Row) (xs : List Row) (gs : List (List Row)) → Sorted (x ∷ xs) → AllProper (x ∷ xs) → AllByRecursion (IsGroup xs) gs → Ahead x gs
all_ahead x xs [] s p h = tt
all_ahead x xs (g ∷ gs) s p h = (
  (λ a r e. subst (λ (y : Row). key_cmp x y ≡ Less) (same_head h.0.head a h.0.rest r (sym h.0.is ∙ e)) (head_less x xs g s p h.0)),
  all_ahead x xs gs s p h.1,
)

pub groups_rise : (zs : List Row) → Sorted zs → AllProper zs → GroupsRise (groups_of zs)
unfolding groups_of
groups_rise [] s p = tt
groups_rise (x ∷ xs) s p =
    let rest = groups_rise xs (sorted_tail x xs s) p.1 in
    elim (group_of (x ∷ xs)) as (λ o. group_of (x ∷ xs) ≡ o → GroupsRise (and_more o (groups_of xs))) [
      | None ↦ λ _. rest
      | Some g ↦ λ e.
          let first = first_group x xs g s p e in
          let open' = group_opens x xs g e in
          let g_is : g ≡ x ∷ take (needed x - 1) xs = open'.0 ∙ front_is (needed x) x xs (power_needed x p.0) in
          ((λ y r f. subst (λ (z : Row). Ahead z (groups_of xs)) (same_head x y (take (needed x - 1) xs) r (sym g_is ∙ f)) (all_ahead x xs (groups_of xs) s p (groups_are xs (sorted_tail x xs s) p.1))), rest)
    ] refl

-- ---- none is missed

pub record FoundGroup (zs : List Row) (x : Row) : Type 0 where
  pub group : List Row
  pub head : Row
  pub rest : List Row
  pub is : group ≡ head ∷ rest
  pub same : same_key head x ≡ true
  pub among : Contains (groups_of zs) group

in_more : (o : Option (List Row)) (gs : List (List Row)) (g : List Row) → Contains gs g → Contains (and_more o gs) g
in_more None gs g c = c
in_more (Some h) gs g c = in_tail h gs g c

pub groups_complete : (zs : List Row) → Sorted zs → AllProper zs → (x : Row) → 1 ≤ needed x → needed x ≤ count x zs → FoundGroup zs x
unfolding groups_of
groups_complete [] s p x one many = absurd (let none = count-none x in omega arith)
groups_complete (y ∷ ys) s p x one many = elim (cases_Bool (same_key y x)) [
  | inl e ↦
      let needs = needed_same y x e in
      let counts = count-same y x (y ∷ ys) e in
      let long = count-long x (y ∷ ys) in
      let at = reach y y ys (needed y - 1) y s (itself_up y) (omega arith) in
      let stands = group_stands y ys (omega arith) at in
      let g = take (needed y) (y ∷ ys) in
      record {
        group = g;
        head = y;
        rest = take (needed y - 1) ys;
        is = front_is (needed y) y ys (omega arith);
        same = e;
        among = subst (λ (o : Option (List Row)). Contains (and_more o (groups_of ys)) g) (sym stands) (in_head g (groups_of ys));
      }
  | inr apart ↦
      let rest = groups_complete ys (sorted_tail y ys s) p.1 x one (let c = count-miss x y ys apart in omega arith) in
      record { group = rest.group; head = rest.head; rest = rest.rest; is = rest.is; same = rest.same; among = in_more (group_of (y ∷ ys)) (groups_of ys) rest.group rest.among }
]
