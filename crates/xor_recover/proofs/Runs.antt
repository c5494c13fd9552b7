-- Runs of clauses that start alike, one after another: their rows, their groups and what is found.
use Rattle.std.proofs.Common.{◌≡◌, refl, sym, ap, ◌∙◌, subst, ℕ, zero, suc, ◌+◌, ◌-◌, ◌^◌, ◌<◌, ◌≤◌, Bool, true, false, cond, ◌&&◌, List, [], ◌∷◌, ◌++◌, length, get_or, take, drop, arith, true≢false, ◌⊎◌, inl, inr, Option, Some, None, length-append, append_assoc}
use Rattle.std.specs.Prelude.{nat_le}
use Rattle.std.specs.List.{AllByRecursion, AllZip, Contains}
use Rattle.std.specs.List.Sorted.{IsStrictlySortedBy}
use Rattle.std.specs.Ordering.{ordering_then, nat_cmp, bool_cmp, MatchOrdering}
use Rattle.std.specs.Cmp.{ranks, tied_itself}
use Rattle.std.specs.Cmp.Lexicographic.{slice_cmp}
use Rattle.std.specs.declared.cmp.Ordering.{Ordering}
use Rattle.std.specs.declared.cmp.Ordering.TheVariants.{Less, Equal, Greater}
use Rattle.std.proofs.lemmas.Bool.{cases_order, leb-true, le-leb, false_from_ne_true}
use Rattle.std.proofs.lemmas.List.{append-nil, take-append-le}
use Rattle.std.proofs.lemmas.List.Elements.{Contains-append_cases, Contains-append_left, Contains-append_right}
use Rattle.cx_base.specs.Literals.{Literal}
use Rattle.cx_base.specs.Problem.{Problem, IsWithinVariables, clauses_of}
use Rattle.xor_recover.specs.declared.found.FoundParity.{FoundParity}
use Rattle.xor_recover.specs.declared.starts.Start.{Start}
use Rattle.xor_recover.specs.Rows.{Row, rows_of, key_cmp, shape_cmp, IsProper}
use Rattle.xor_recover.specs.Groups.{AreFirsts, SaysGroup, AddsFound, needed, same_key, group_of, groups_of, and_more}
use Rattle.xor_recover.specs.Starts.{Begins, IsStart, AreStarts, rows_at, pair_of}
use Rattle.xor_recover.proofs.Firsts.{shape_total}
use Rattle.xor_recover.proofs.Keys.{variables_long}
use Rattle.xor_recover.proofs.GroupLaws.{less_not_same, power_needed}
use Rattle.xor_recover.proofs.Kept.{are_kept}
use Rattle.xor_recover.proofs.Within.{all_by_contains}
use Rattle.xor_recover.proofs.Bounds.{few_finds}
use Rattle.xor_recover.proofs.Sound.{FoundAll, Progress, begins, stays, grows, ends, found_all}
use Rattle.xor_recover.proofs.Numbers.{AllWithin, proper}
use Rattle.xor_recover.proofs.StartRows.{of_starts, start_is, all_rows, in_rows_at, has_rows_at, rows_at-append, few_at}
use Rattle.cx_base.proofs.Elements.{in_head, in_tail}

-- ---- groups of two lists of rows of other keys

-- no row of one has the key of a row of the other
abbrev pub Apart : List Row → List Row → Type 0
Apart xs ys = AllByRecursion (λ x. AllByRecursion (λ y. key_cmp x y ≡ Less) ys) xs

at_more : (xs ys : List Row) (k : ℕ) (d : Row) → k < length (xs ++ ys) → length xs ≤ k → (P : Row → Type 0) → AllByRecursion P ys → P (get_or (xs ++ ys) k d)
at_more [] [] k d lt le P h = absurd (omega arith)
at_more [] (y ∷ ys) zero d lt le P h = h.0
at_more [] (y ∷ ys) (suc k) d lt le P h = at_more [] ys k d (omega arith) (omega arith) P h.1
at_more (x ∷ xs) ys zero d lt le P h = absurd (omega arith)
at_more (x ∷ xs) ys (suc k) d lt le P h = at_more xs ys k d (omega arith) (omega arith) P h

at_front : (xs ys : List Row) (k : ℕ) (d : Row) → k < length xs → get_or (xs ++ ys) k d ≡ get_or xs k d
at_front [] ys k d lt = absurd (omega arith)
at_front (x ∷ xs) ys zero d lt = refl
at_front (x ∷ xs) ys (suc k) d lt = at_front xs ys k d (omega arith)

group_append : (x : Row) (xs ys : List Row) → 1 ≤ needed x → AllByRecursion (λ y. key_cmp x y ≡ Less) ys → group_of (x ∷ xs ++ ys) ≡ group_of (x ∷ xs)
unfolding group_of
group_append x xs ys one apart = go (nat_le n (length front)) refl
  where
    n : ℕ
    n = needed x

    front : List Row
    front = x ∷ xs

    whole : List Row
    whole = x ∷ xs ++ ys

    long : length whole ≡ length front + length ys
    long = length-append front ys

    fails : (b c : Bool) → (b ≡ true → c ≡ false) → (b && c) ≡ false
    fails true c f = f refl
    fails false c f = refl

    go : (b : Bool) → nat_le n (length front) ≡ b → group_of whole ≡ group_of front
    go true e =
        let le = leb-true n (length front) e in
        let more : nat_le n (length whole) ≡ true = le-leb n (length whole) (omega (arith, le, long)) in
        let at = at_front front ys (n - 1) x (omega (arith, le, one)) in
        let same = take-append-le n front ys le in
        (λ i. cond ((more ∙ sym e) i && same_key (at i) x) (Some (same i)) None)
    go false e =
        let low : nat_le n (length whole) ≡ true → same_key (get_or whole (n - 1) x) x ≡ false = (λ h.
        let le = leb-true n (length whole) h in
        let short : length front ≤ n - 1 = (elim (cases_order n (length front)) [
          | inl same ↦ absurd (true≢false (sym (le-leb n (length front) (omega (arith, same))) ∙ e))
          | inr order ↦ elim order [ inl below ↦ absurd (true≢false (sym (le-leb n (length front) (omega (arith, below))) ∙ e)) | inr over ↦ omega (arith, over) ]
        ]) in
        less_not_same x (get_or whole (n - 1) x) (at_more front ys (n - 1) x (omega (arith, le, one)) short (λ y. key_cmp x y ≡ Less) apart)) in
        ap (λ b. cond b (Some (take n whole)) None) (fails (nat_le n (length whole)) (same_key (get_or whole (n - 1) x) x) low)
        ∙ sym (ap (λ b. cond (b && same_key (get_or front (n - 1) x) x) (Some (take n front)) None) e)

and_more-append : (o : Option (List Row)) (gs hs : List (List Row)) → and_more o (gs ++ hs) ≡ and_more o gs ++ hs
and_more-append None gs hs = refl
and_more-append (Some g) gs hs = refl

pub groups_append : (xs ys : List Row) → AllByRecursion (λ x. 1 ≤ needed x) xs → Apart xs ys → groups_of (xs ++ ys) ≡ groups_of xs ++ groups_of ys
unfolding groups_of
groups_append [] ys one apart = refl
groups_append (x ∷ xs) ys one apart = (λ i. and_more (group_append x xs ys one.0 apart.0 i) (groups_append xs ys one.1 apart.1 i)) ∙ and_more-append (group_of (x ∷ xs)) (groups_of xs) (groups_of ys)

pub zip_append : (gs hs : List (List Row)) (fs es : List FoundParity) → AllZip SaysGroup gs fs → AllZip SaysGroup hs es → AllZip SaysGroup (gs ++ hs) (fs ++ es)
zip_append [] hs [] es h k = k
zip_append [] hs (f ∷ fs) es h k = absurd h
zip_append (g ∷ gs) hs [] es h k = absurd h
zip_append (g ∷ gs) hs (f ∷ fs) es h k = (h.0, zip_append gs hs fs es h.1 k)

-- ---- the first ones of two lists of rows

shape_less : (x y : Row) → key_cmp x y ≡ Less → shape_cmp x y ≡ Less
shape_less x y h = ap (λ o. ordering_then o (slice_cmp bool_cmp x.signs y.signs)) h

all_both : (P : Row → Type 0) (xs ys : List Row) → AllByRecursion P xs → AllByRecursion P ys → AllByRecursion P (xs ++ ys)
all_both P [] ys h g = g
all_both P (x ∷ xs) ys h g = (h.0, all_both P xs ys h.1 g)

all_shapes : (x : Row) (ys : List Row) → AllByRecursion (λ y. key_cmp x y ≡ Less) ys → AllByRecursion (λ y. shape_cmp x y ≡ Less) ys
all_shapes x [] h = tt
all_shapes x (y ∷ ys) h = (shape_less x y h.0, all_shapes x ys h.1)

sorted_append : (xs ys : List Row) → IsStrictlySortedBy shape_cmp xs → IsStrictlySortedBy shape_cmp ys → Apart xs ys → IsStrictlySortedBy shape_cmp (xs ++ ys)
unfolding IsStrictlySortedBy
sorted_append [] ys h g apart = g
sorted_append (x ∷ xs) ys h g apart = (all_both (λ y. shape_cmp x y ≡ Less) xs ys h.0 (all_shapes x ys apart.0), sorted_append xs ys h.1 g apart.1)

firsts_append : (old kept old' kept' : List Row) → AreFirsts old kept → AreFirsts old' kept' → Apart kept kept' → AreFirsts (old ++ old') (kept ++ kept')
firsts_append old kept old' kept' h g apart = record {
  sorted = sorted_append kept kept' h.sorted g.sorted apart;
  from = λ x c. elim (Contains-append_cases kept kept' x c) [
    | inl here ↦ Contains-append_left old old' x (h.from x here)
    | inr later ↦ Contains-append_right old old' x (g.from x later)
  ];
  each = λ x c. elim (Contains-append_cases old old' x c) [
    | inl here ↦ (let y = h.each x here in (y.0, Contains-append_left kept kept' y.0 y.1, y.2, y.3))
    | inr later ↦ (let y = g.each x later in (y.0, Contains-append_right kept kept' y.0 y.1, y.2, y.3))
  ];
}

pub few_firsts : (rows : List Row) → length rows ≤ 1 → AreFirsts rows rows
unfolding IsStrictlySortedBy
few_firsts rows few = record { sorted = go rows few; from = λ x c. c; each = λ x c. (x, c, tied_itself shape_total x, omega arith) }
  where
    go : (rows : List Row) → length rows ≤ 1 → IsStrictlySortedBy shape_cmp rows
    go [] few = tt
    go (x ∷ []) few = (tt, tt)
    go (x ∷ y ∷ rows) few = absurd (omega arith)

pub no_groups : (rows : List Row) → length rows ≤ 1 → AllByRecursion (λ x. 2 ≤ needed x) rows → groups_of rows ≡ []
unfolding groups_of group_of
no_groups [] few two = refl
no_groups (x ∷ []) few two = ap (λ b. and_more (cond (b && same_key (get_or (x ∷ []) (needed x - 1) x) x) (Some (take (needed x) (x ∷ []))) None) []) (false_from_ne_true (nat_le (needed x) 1) (λ e. let le = leb-true (needed x) 1 e in let t = two.0 in omega (arith, le, t)))
no_groups (x ∷ y ∷ rows) few two = absurd (omega arith)

-- ---- rows that start before others

-- the row starts before the start
abbrev pub Before : Row → Start → Type 0
Before x s = (get_or x.variables 0 0 < s.first) ⊎ ((get_or x.variables 0 0 ≡ s.first) × (get_or x.variables 1 0 < s.second))

less_is : (a b : ℕ) → a < b → nat_cmp a b ≡ Less
less_is a b lt = go (nat_cmp a b) (ranks a b)
  where
    go : (o : Ordering) → MatchOrdering o (a < b) (a ≡ b) (b < a) → o ≡ Less
    go Less m = refl
    go Equal m = absurd (omega arith)
    go Greater m = absurd (omega arith)

equal_is : (a b : ℕ) → a ≡ b → nat_cmp a b ≡ Equal
equal_is a b e = go (nat_cmp a b) (ranks a b)
  where
    go : (o : Ordering) → MatchOrdering o (a < b) (a ≡ b) (b < a) → o ≡ Equal
    go Less m = absurd (omega arith)
    go Equal m = refl
    go Greater m = absurd (omega arith)

lists_less : (vs ws : List ℕ) → 2 ≤ length vs → 2 ≤ length ws → (get_or vs 0 0 < get_or ws 0 0) ⊎ ((get_or vs 0 0 ≡ get_or ws 0 0) × (get_or vs 1 0 < get_or ws 1 0)) → slice_cmp nat_cmp vs ws ≡ Less
lists_less [] ws two two' h = absurd (omega arith)
lists_less (a ∷ []) ws two two' h = absurd (omega arith)
lists_less (a ∷ a' ∷ vs) [] two two' h = absurd (omega arith)
lists_less (a ∷ a' ∷ vs) (b ∷ []) two two' h = absurd (omega arith)
lists_less (a ∷ a' ∷ vs) (b ∷ b' ∷ ws) two two' h = elim h [
  | inl less ↦ ap (λ o. ordering_then o (slice_cmp nat_cmp (a' ∷ vs) (b' ∷ ws))) (less_is a b less)
  | inr both ↦ (λ i. ordering_then (equal_is a b both.0 i) (ordering_then (less_is a' b' both.1 i) (slice_cmp nat_cmp vs ws)))
]

key_less : (x y : Row) (s : Start) → IsProper x → IsProper y → Before x s → Begins s y → key_cmp x y ≡ Less
key_less x y s px py before begins =
    ap (λ o. ordering_then o (bool_cmp x.right y.right)) (lists_less x.variables y.variables (variables_long x px).0 (variables_long y py).0 (elim before [
      | inl less ↦ inl (let e = begins.0 in omega (arith, less, e))
      | inr both ↦ inr ((both.0 ∙ sym begins.0), (let less = both.1 in let e = begins.1 in omega (arith, less, e)))
    ]))

two_needed : (x : Row) → IsProper x → 2 ≤ needed x
two_needed x p = let long = variables_long x p in go (length x.variables) long.0
  where
    go : (n : ℕ) → 2 ≤ n → 2 ≤ 2 ^ (n - 1)
    go zero h = absurd (omega arith)
    go (suc zero) h = absurd (omega arith)
    go (suc (suc n)) h = let e : suc (suc n) - 1 ≡ suc n = omega arith in let one = positive n in subst (λ m. 2 ≤ 2 ^ m) (sym e) (omega (arith, one))
      where
        positive : (n : ℕ) → 1 ≤ 2 ^ n
        positive zero = omega arith
        positive (suc n) = let h = positive n in omega (arith, h)

-- ---- starts in order

abbrev pub Ahead : Start → Start → Type 0
Ahead s t = (s.first < t.first) ⊎ ((s.first ≡ t.first) × (s.second < t.second))

pub ahead_by : (s t : Start) → s.second < 4294967296 → t.second < 4294967296 → pair_of s < pair_of t → Ahead s t
ahead_by s t fits fits' less = elim (cases_order s.first t.first) [
  | inl e ↦ inr (e, omega (arith, e, less))
  | inr order ↦ elim order [ inl below ↦ inl below | inr over ↦ absurd (omega (arith, over, less, fits, fits')) ]
]

before_by : (x : Row) (s t : Start) → Begins s x → Ahead s t → Before x t
before_by x s t begins ahead = elim ahead [
  | inl less ↦ inl (let first = begins.0 in omega (arith, first, less))
  | inr both ↦ inr (begins.0 ∙ both.0, (let less = both.1 in let second = begins.1 in omega (arith, second, less)))
]

-- ---- a run by itself

pub record RunProgress (rows : List Row) (start : ℕ) (old finds : List FoundParity) : Type 0 where
  pub more : List FoundParity
  pub progress : Progress rows start more
  pub added : finds ≡ old ++ more

pub run_begins : (rows : List Row) (old : List FoundParity) → RunProgress rows 0 old old
run_begins rows old = record { more = []; progress = begins rows; added = sym (append-nil old) }

pub run_stays : (rows : List Row) (k : ℕ) (old finds new : List FoundParity) → k < length rows → group_of (drop k rows) ≡ None → new ≡ finds → RunProgress rows k old finds → RunProgress rows (k + 1) old new
run_stays rows k old finds new lt none is h = record { more = h.more; progress = stays rows k h.more lt none h.progress; added = is ∙ h.added }

pub run_grows : (rows : List Row) (k : ℕ) (old finds new : List FoundParity) (g : List Row) (find : FoundParity) → k < length rows → group_of (drop k rows) ≡ Some g → SaysGroup g find → new ≡ finds ++ find ∷ []
    → RunProgress rows k old finds → RunProgress rows (k + 1) old new
run_grows rows k old finds new g find lt some says pushed h = record {
  more = h.more ++ find ∷ [];
  progress = grows rows k h.more (h.more ++ find ∷ []) g find lt some says refl h.progress;
  added = pushed ∙ ap (λ fs. fs ++ find ∷ []) h.added ∙ append_assoc old h.more (find ∷ []);
}

pub run_ends : (C : List (List Literal)) (run : List Start) (rows : List Row) (k : ℕ) (old finds : List FoundParity) → AreFirsts (rows_at C run) rows → length rows ≤ k → length rows ≤ length run → RunProgress rows k old finds → AddsFound C run old finds
run_ends C run rows k old finds firsts le few h =
    let says = ends rows k h.more le h.progress in
    let least = few_finds rows h.more says in
    record { kept = rows; more = h.more; firsts = firsts; says = says; added = h.added; few = omega (arith, least, few) }

pub rows_proper : (C : List (List Literal)) (ss : List Start) → AllWithin C → AllByRecursion (IsStart C) ss → (x : Row) → Contains (rows_at C ss) x → IsProper x
rows_proper C ss within each x c = (proper C 1 within x (of_starts C ss x each c).3).0

-- one clause alone
pub run_alone : (C : List (List Literal)) (run : List Start) (old : List FoundParity) → AllWithin C → AllByRecursion (IsStart C) run → length run < 2 → AddsFound C run old old
run_alone C run old within each alone =
    let rows = rows_at C run in
    let few = few_at C run in
    let one : length rows ≤ 1 = omega (arith, few, alone) in
    record {
      kept = rows;
      more = [];
      firsts = few_firsts rows one;
      says = subst (λ gs. AllZip SaysGroup gs []) (sym (no_groups rows one (all_by_contains (λ x. 2 ≤ needed x) rows (λ x c. two_needed x (rows_proper C run within each x c))))) tt;
      added = sym (append-nil old);
      few = omega arith;
    }

-- ---- one run after the others

-- what is found of some of the starts, where the rest start later
pub record RunsDone (C : List (List Literal)) (all rest : List Start) (finds : List FoundParity) : Type 0 where
  pub done : List Start
  pub kept : List Row
  pub among : (s : Start) → Contains done s → Contains all s
  pub covers : (s : Start) → Contains all s → Contains done s ⊎ Contains rest s
  pub firsts : AreFirsts (rows_at C done) kept
  pub before : (x : Row) → Contains kept x → (s : Start) → Contains rest s → Before x s
  pub says : AllZip SaysGroup (groups_of kept) finds
  pub few : length finds + length rest ≤ length all

pub no_runs : (C : List (List Literal)) (all : List Start) → RunsDone C all all []
unfolding groups_of
no_runs C all = record {
  done = [];
  kept = [];
  among = λ s c. absurd (let lt = c.1 in omega (arith, lt));
  covers = λ s c. inr c;
  firsts = few_firsts [] (omega arith);
  before = λ x c. absurd (let lt = c.1 in omega (arith, lt));
  says = tt;
  few = omega arith;
}

-- some of the starts, and the later ones
pub record IsRun (rest run later : List Start) : Type 0 where
  pub from : (s : Start) → Contains run s → Contains rest s
  pub splits : (s : Start) → Contains rest s → Contains run s ⊎ Contains later s
  pub stays : (s : Start) → Contains later s → Contains rest s
  pub ahead : (s t : Start) → Contains run s → Contains later t → Ahead s t
  pub long : length run + length later ≤ length rest

all_starts_by : (P : Start → Type 0) (ss : List Start) → ((s : Start) → Contains ss s → P s) → AllByRecursion P ss
all_starts_by P [] h = tt
all_starts_by P (s ∷ ss) h = (h s (in_head s ss), all_starts_by P ss (λ t c. h t (in_tail s ss t c)))

pub run_each : (C : List (List Literal)) (all run : List Start) → AllByRecursion (IsStart C) all → ((s : Start) → Contains run s → Contains all s) → AllByRecursion (IsStart C) run
run_each C all run each inside = all_starts_by (IsStart C) run (λ s c. start_is C all s each (inside s c))

done_each : (C : List (List Literal)) (all rest : List Start) (finds : List FoundParity) → AllByRecursion (IsStart C) all → (h : RunsDone C all rest finds) → AllByRecursion (IsStart C) h.done
done_each C all rest finds each h = run_each C all h.done each h.among

pub next_run : (C : List (List Literal)) (all rest run later : List Start) (old new : List FoundParity) → AllWithin C → AllByRecursion (IsStart C) all → AllByRecursion (IsStart C) run → ((s : Start) → Contains run s → Contains all s) → IsRun rest run later
    → AddsFound C run old new → RunsDone C all rest old → RunsDone C all later new
next_run C all rest run later old new within each each_run inside is adds done =
    let proper_old : (x : Row) → Contains done.kept x → IsProper x = (λ x c. rows_proper C done.done within (done_each C all rest old each done) x (done.firsts.from x c)) in
    let proper_new : (y : Row) → Contains adds.kept y → IsProper y = (λ y c. rows_proper C run within each_run y (adds.firsts.from y c)) in
    let apart : Apart done.kept adds.kept = all_by_contains (λ x. AllByRecursion (λ y. key_cmp x y ≡ Less) adds.kept) done.kept (λ x cx. all_by_contains (λ y. key_cmp x y ≡ Less) adds.kept (λ y cy.
    let s = of_starts C run y each_run (adds.firsts.from y cy) in
    key_less x y s.0 (proper_old x cx) (proper_new y cy) (done.before x cx s.0 (is.from s.0 s.1)) s.2)) in
    let needs = all_by_contains (λ x. 1 ≤ needed x) done.kept (λ x c. power_needed x (proper_old x c)) in
    record {
      done = done.done ++ run;
      kept = done.kept ++ adds.kept;
      among = λ s c. elim (Contains-append_cases done.done run s c) [ inl here ↦ done.among s here | inr later' ↦ inside s later' ];
      covers = λ s c. elim (done.covers s c) [
        | inl here ↦ inl (Contains-append_left done.done run s here)
        | inr left ↦ elim (is.splits s left) [ inl now ↦ inl (Contains-append_right done.done run s now) | inr then' ↦ inr then' ]
      ];
      firsts = subst (λ (rs : List Row). AreFirsts rs (done.kept ++ adds.kept)) (sym (rows_at-append C done.done run)) (firsts_append (rows_at C done.done) done.kept (rows_at C run) adds.kept done.firsts adds.firsts apart);
      before = λ x c t ct. elim (Contains-append_cases done.kept adds.kept x c) [
        | inl here ↦ done.before x here t (is.stays t ct)
        | inr new' ↦ (let s = of_starts C run x each_run (adds.firsts.from x new') in before_by x s.0 t s.2 (is.ahead s.0 t s.1 ct))
      ];
      says = subst (AllZip SaysGroup (groups_of (done.kept ++ adds.kept))) (sym adds.added) (subst (λ gs. AllZip SaysGroup gs (old ++ adds.more)) (sym (groups_append done.kept adds.kept needs apart)) (zip_append (groups_of done.kept) (groups_of adds.kept) old adds.more done.says adds.says));
      few = (let n = ap length adds.added in let both = length-append old adds.more in let a = done.few in let b = adds.few in let m = is.long in omega (arith, n, both, a, b, m));
    }

-- ---- all runs

pub found_runs : (formula : Problem) (all rest : List Start) (finds result : List FoundParity) → IsWithinVariables formula.variables formula.constraints → AreStarts (clauses_of formula.constraints) all → length rest ≡ 0
    → RunsDone (clauses_of formula.constraints) all rest finds → result ≡ finds → FoundAll formula result
found_runs formula all rest finds result within are none done is =
    let C = clauses_of formula.constraints in
    subst (FoundAll formula) (sym is) (found_all formula done.kept finds within (are_kept (rows_of 1 C) done.kept (record {
      sorted = done.firsts.sorted;
      from = λ x c. (of_starts C done.done x (done_each C all rest finds are.each done) (done.firsts.from x c)).3;
      each = λ x c.
          let s = in_rows_at C all x (all_rows C all x are c) in
          done.firsts.each x (elim (done.covers s.0 s.1) [ inl here ↦ has_rows_at C done.done s.0 x here s.2 | inr left ↦ absurd (let lt = left.1 in omega (arith, lt, none)) ]);
    })) done.says)
