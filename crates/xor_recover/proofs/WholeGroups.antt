-- The rows of a parity whose clauses follow one another are one group.
use Rattle.std.proofs.Common.{◌≡◌, refl, sym, ap, ◌∙◌, subst, ℕ, ◌-◌, ◌^◌, ◌<◌, ◌≤◌, Bool, true, false, cond, ◌&&◌, nat_eq, List, [], ◌∷◌, ◌++◌, length, get_or, take, map, arith, true≢false, Some, None}
use Rattle.std.specs.Prelude.{nat_le}
use Rattle.std.specs.List.{AllByRecursion, AllZip, IsDistinct, range_with_len}
use Rattle.std.specs.List.Sorted.{IsPermutation, IsNonDecreasing, IsStrictlySortedBy}
use Rattle.std.specs.Cmp.{tied_itself}
use Rattle.std.specs.Cmp.Lexicographic.{pointwise}
use Rattle.std.specs.Ordering.{is_eq, ordering_reverse}
use Rattle.std.specs.declared.cmp.Ordering.{Ordering}
use Rattle.std.specs.declared.cmp.Ordering.TheVariants.{Less, Equal, Greater}
use mathlib.Core.Bool.{beq}
use Rattle.std.proofs.lemmas.Bool.{false_from_ne_true, leb-true, and_parts}
use Rattle.std.proofs.lemmas.List.{length-map, append-nil, take_all}
use Rattle.std.proofs.lemmas.List.FromFn.{length-range_with_len, get_or-range_with_len}
use Rattle.std.proofs.lemmas.List.Elements.{recursion_from_All, All-from_recursion}
use Rattle.std.proofs.lemmas.List.Sorted.{IsPermutation-refl, IsPermutation-sym, IsPermutation-trans, IsPermutation-cons, IsPermutation-middle, IsPermutation-map, All-permutation, Contains-permutation, length_permutation}
use Rattle.cx_base.specs.Literals.{Literal}
use Rattle.parity_engine.specs.Written.{literals_with}
use Rattle.xor_recover.specs.declared.found.FoundParity.{FoundParity}
use Rattle.xor_recover.specs.declared.wholes.Whole.{Whole}
use Rattle.xor_recover.specs.Rows.{Row, shape_cmp}
use Rattle.xor_recover.specs.Groups.{AddsFound, SaysGroup, needed, same_key, same_shape, group_of, groups_of, and_more}
use Rattle.xor_recover.specs.declared.starts.Start.{Start}
use Rattle.xor_recover.specs.Starts.{IsStart, rows_at}
use Rattle.xor_recover.specs.Wholes.{IsWhole, count_of, starts_of, starts_of_all}
use Rattle.xor_recover.proofs.Firsts.{shape_total, shape_ties}
use Rattle.xor_recover.proofs.Keys.{Sorted, sorted_head, sorted_tail}
use Rattle.xor_recover.proofs.Patterns.{same_signs}
use Rattle.xor_recover.proofs.GroupLaws.{at_all, group_stands, itself_same}
use Rattle.xor_recover.proofs.Numbers.{AllWithin}
use Rattle.xor_recover.proofs.Runs.{run_alone}
use Rattle.xor_recover.proofs.WholeRows.{len_neighbours, count_low}

moved : (P : Row → Type 0) (xs ys : List Row) → IsPermutation xs ys → AllByRecursion P xs → AllByRecursion P ys
moved P xs ys m h = recursion_from_All P ys (All-permutation P xs ys m (All-from_recursion P xs h))

-- ---- rows of different shapes in order

less_all : (x y : Row) (ys : List Row) → shape_cmp x y ≡ Less → AllByRecursion (λ z. shape_cmp y z ≡ Less) ys → AllByRecursion (λ z. shape_cmp x z ≡ Less) ys
less_all x y [] less h = tt
less_all x y (z ∷ zs) less h = (shape_total.trans x y z less h.0, less_all x y zs less h.1)

InOrder : List Row → Type 0
InOrder xs = (zs : List Row) × IsPermutation xs zs × Sorted zs

put_in : (x : Row) (ys : List Row) → Sorted ys → AllByRecursion (λ y. same_shape x y ≡ false) ys → InOrder (x ∷ ys)
unfolding InOrder IsStrictlySortedBy
put_in x [] s h = (x ∷ [], IsPermutation-refl (x ∷ []), (tt, tt))
put_in x (y ∷ ys) s h = go (shape_cmp x y) refl (put_in x ys (sorted_tail y ys s) h.1)
  where
    swapped : IsPermutation (x ∷ y ∷ ys) (y ∷ x ∷ ys)
    swapped = IsPermutation-sym (y ∷ x ∷ ys) (x ∷ y ∷ ys) (IsPermutation-middle (y ∷ []) x ys)

    go : (o : Ordering) → shape_cmp x y ≡ o → InOrder (x ∷ ys) → InOrder (x ∷ y ∷ ys)
    go Less e rest = (x ∷ y ∷ ys, IsPermutation-refl (x ∷ y ∷ ys), ((e, less_all x y ys e (sorted_head y ys s)), s))
    go Equal e rest = absurd (true≢false (sym (ap is_eq e) ∙ sym (shape_ties x y) ∙ h.0))
    go Greater e rest =
        let back : shape_cmp y x ≡ Less = shape_total.antisymm y x ∙ ap ordering_reverse e in (
          y ∷ rest.0,
          IsPermutation-trans (x ∷ y ∷ ys) (y ∷ x ∷ ys) (y ∷ rest.0) swapped (IsPermutation-cons y (x ∷ ys) rest.0 rest.1),
          (moved (λ z. shape_cmp y z ≡ Less) (x ∷ ys) rest.0 rest.1 (back, sorted_head y ys s), rest.2),
        )

pub put_in_order : (xs : List Row) → IsDistinct same_shape xs → (zs : List Row) × IsPermutation xs zs × Sorted zs
unfolding InOrder IsStrictlySortedBy IsDistinct
put_in_order [] d = ([], IsPermutation-refl [], tt)
put_in_order (x ∷ xs) d =
    let rest = put_in_order xs d.1 in
    let all = put_in x rest.0 rest.2 (moved (λ y. same_shape x y ≡ false) xs rest.0 rest.1 d.0) in
    (all.0, IsPermutation-trans (x ∷ xs) (x ∷ rest.0) all.0 (IsPermutation-cons x xs rest.0 rest.1) all.1, all.2)

other_shapes : (x : Row) (xs : List Row) → AllByRecursion (λ q. same_signs x.signs q ≡ false) (map (λ (z : Row). z.signs) xs) → AllByRecursion (λ y. same_shape x y ≡ false) xs
other_shapes x [] h = tt
other_shapes x (y ∷ xs) h = (false_from_ne_true (same_shape x y) (λ e. true≢false (sym (and_parts (same_key x y) (same_signs x.signs y.signs) e).1 ∙ h.0)), other_shapes x xs h.1)

shapes_apart : (xs : List Row) → IsDistinct same_signs (map (λ (z : Row). z.signs) xs) → IsDistinct same_shape xs
unfolding IsDistinct
shapes_apart [] d = tt
shapes_apart (x ∷ xs) d = (other_shapes x xs d.0, shapes_apart xs d.1)

-- ---- their group

short_groups : (n : ℕ) (xs : List Row) → AllByRecursion (λ x. needed x ≡ n) xs → length xs < n → groups_of xs ≡ []
unfolding groups_of group_of
short_groups n [] h few = refl
short_groups n (x ∷ xs) h few =
    let none : nat_le (needed x) (length (x ∷ xs)) ≡ false = false_from_ne_true _ (λ e. let le = leb-true (needed x) (length (x ∷ xs)) e in let is = h.0 in omega (arith, le, is, few)) in
    ap (λ b. and_more (cond (b && same_key (get_or (x ∷ xs) (needed x - 1) x) x) (Some (take (needed x) (x ∷ xs))) None) (groups_of xs)) none
    ∙ short_groups n xs h.1 (omega arith)

-- rows of one key
abbrev OfKey : List ℕ → Bool → Row → Type 0
OfKey vs right x = (x.variables ≡ vs) × (x.right ≡ right)

needed_by : (vs : List ℕ) (right : Bool) (xs : List Row) → AllByRecursion (OfKey vs right) xs → AllByRecursion (λ x. needed x ≡ 2 ^ (length vs - 1)) xs
needed_by vs right [] h = tt
needed_by vs right (x ∷ xs) h = (ap (λ (v : List ℕ). 2 ^ (length v - 1)) h.0.0, needed_by vs right xs h.1)

same_keys : (vs : List ℕ) (right : Bool) (y x : Row) → OfKey vs right y → OfKey vs right x → same_key y x ≡ true
same_keys vs right y x h g = (λ i. pointwise nat_eq ((h.0 ∙ sym g.0) i) x.variables && beq ((h.1 ∙ sym g.1) i) x.right) ∙ itself_same x

whole_group : (vs : List ℕ) (right : Bool) (zs : List Row) → AllByRecursion (OfKey vs right) zs → length zs ≡ 2 ^ (length vs - 1) → 1 ≤ length zs → groups_of zs ≡ zs ∷ []
unfolding groups_of
whole_group vs right [] h long some = absurd (omega arith)
whole_group vs right (x ∷ xs) h long some =
    let n = 2 ^ (length vs - 1) in
    let needs = needed_by vs right (x ∷ xs) h in
    let one : needed x ≡ n = needs.0 in
    let last = at_all (OfKey vs right) (x ∷ xs) (needed x - 1) x h (omega (arith, one, long, some)) in
    let group : group_of (x ∷ xs) ≡ Some (x ∷ xs) = group_stands x xs (omega (arith, one, long)) (same_keys vs right (get_or (x ∷ xs) (needed x - 1) x) x last h.0) ∙ ap Some (take_all (needed x) (x ∷ xs) (omega (arith, one, long))) in
    (λ i. and_more (group i) (short_groups n xs needs.1 (omega (arith, long)) i))

range_rises : (a n : ℕ) → IsNonDecreasing (range_with_len a n)
range_rises a n i j d le lt =
    let long = length-range_with_len a n in
    let x = get_or-range_with_len a n i d (omega (arith, le, lt, long)) in
    let y = get_or-range_with_len a n j d (omega (arith, lt, long)) in
    omega (arith, x, y, le)

says_whole : (vs : List ℕ) (right : Bool) (zs : List Row) (find : FoundParity) → AllByRecursion (OfKey vs right) zs → 1 ≤ length zs → find.parity ≡ literals_with right vs → IsPermutation (map (λ (x : Row). x.number) zs) find.clauses → IsNonDecreasing find.clauses → SaysGroup zs find
says_whole vs right [] find h some parity numbers rising = absurd (omega arith)
says_whole vs right (x ∷ xs) find h some parity numbers rising =
    record { first = x; rest = xs; is = refl; parity = parity ∙ (λ i. literals_with (sym h.0.1 i) (sym h.0.0 i)); numbers = numbers; rising = rising }

pub whole_adds : (C : List (List Literal)) (w : Whole) (old : List FoundParity) (find : FoundParity) → IsWhole C w → find.parity ≡ literals_with w.key.right w.key.vars.items → find.clauses ≡ range_with_len w.start.number (count_of w)
    → 1 ≤ count_of w → AddsFound C (starts_of w) old (old ++ find ∷ [])
whole_adds C w old find h parity clauses some =
    let rows = rows_at C (starts_of w) in
    let order = put_in_order rows (shapes_apart rows h.apart) in
    let zs = order.0 in
    let moves = order.1 in
    let long : length zs ≡ count_of w = length_permutation rows zs moves ∙ sym (length-map rows (λ (x : Row). x.number)) ∙ ap length h.numbers ∙ length-range_with_len w.start.number (count_of w) in
    let key = moved (OfKey w.key.vars.items w.key.right) rows zs moves h.rows in
    let numbers : IsPermutation (map (λ (x : Row). x.number) zs) find.clauses = subst (IsPermutation (map (λ (x : Row). x.number) zs)) (h.numbers ∙ sym clauses) (IsPermutation-map (λ (x : Row). x.number) zs rows (IsPermutation-sym rows zs moves)) in
    let rising : IsNonDecreasing find.clauses = subst IsNonDecreasing (sym clauses) (range_rises w.start.number (count_of w)) in
    record {
      kept = zs;
      more = find ∷ [];
      firsts = record {
        sorted = order.2;
        from = λ x c. Contains-permutation zs rows x (IsPermutation-sym rows zs moves) c;
        each = λ x c. (x, Contains-permutation rows zs x moves c, tied_itself shape_total x, omega arith);
      };
      says = subst (λ gs. AllZip SaysGroup gs (find ∷ [])) (sym (whole_group w.key.vars.items w.key.right zs key long (omega (arith, long, some)))) (says_whole w.key.vars.items w.key.right zs find key (omega (arith, long, some)) parity numbers rising, tt);
      added = refl;
      few = let n = len_neighbours w.start w.start.number (count_of w) in omega (arith, n, some);
    }

no_run : (run : List Start) → length run ≡ 0 → run ≡ []
no_run [] e = refl
no_run (s ∷ run) e = absurd (omega arith)

one_whole : (ws : List Whole) (w : Whole) → length ws ≡ 1 → w ≡ get_or ws 0 w → ws ≡ w ∷ []
one_whole [] w e is = absurd (omega arith)
one_whole (v ∷ []) w e is = ap (λ u. u ∷ []) (sym is)
one_whole (v ∷ u ∷ ws) w e is = absurd (omega arith)

-- a whole parity that starts like no other clause
pub whole_alone : (C : List (List Literal)) (run : List Start) (ws : List Whole) (w : Whole) (old new : List FoundParity) (find : FoundParity) → length run ≡ 0 → length ws ≡ 1 → w ≡ get_or ws 0 w → IsWhole C w → find.parity ≡ literals_with w.key.right w.key.vars.items
    → find.clauses ≡ range_with_len w.start.number (count_of w) → new ≡ old ++ find ∷ [] → AddsFound C (run ++ starts_of_all ws) old new
whole_alone C run ws w old new find none one is h parity clauses pushed =
    let e : run ++ starts_of_all ws ≡ starts_of w = (λ i. no_run run none i ++ starts_of_all (one_whole ws w one is i)) ∙ append-nil (starts_of w) in
    subst (λ (ss : List Start). AddsFound C ss old new) (sym e) (subst (AddsFound C (starts_of w) old) (sym pushed) (whole_adds C w old find h parity clauses (count_low w h.two h.six)))

pub clause_alone : (C : List (List Literal)) (run : List Start) (ws : List Whole) (old : List FoundParity) → AllWithin C → AllByRecursion (IsStart C) run → length ws ≡ 0 → length run < 2 → AddsFound C (run ++ starts_of_all ws) old old
clause_alone C run [] old within each none few = subst (λ (ss : List Start). AddsFound C ss old old) (sym (append-nil run)) (run_alone C run old within each few)
clause_alone C run (w ∷ ws) old within each none few = absurd (omega arith)
