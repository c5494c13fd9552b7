-- The finds in order, and the numbers of their clauses.
use Rattle.std.proofs.Common.{◌≡◌, refl, sym, ap, ◌∙◌, subst, ℕ, ◌+◌, ◌≤◌, Bool, true, false, cond, eqb, List, [], ◌∷◌, length, map, arith, true≢false, Option, Some, None, inl, inr}
use Rattle.std.specs.List.{AllByRecursion, AllZip, Contains, IsDistinct, All}
use Rattle.std.specs.List.Sorted.{IsStrictlySortedBy}
use Rattle.std.specs.FinSet as set
use Rattle.std.specs.Ordering.{is_lt, ordering_then, nat_cmp, bool_cmp}
use Rattle.std.specs.Cmp.{nat_eq_equiv, tied_itself}
use Rattle.std.specs.Cmp.Lexicographic.{slice_cmp}
use Rattle.std.specs.declared.cmp.Ordering.TheVariants.{Less}
use Rattle.std.proofs.lemmas.Bool.{false_from_ne_true, eqb-true}
use Rattle.std.proofs.lemmas.List.Sorted.{Contains-permutation, All-permutation}
use Rattle.std.proofs.lemmas.List.Elements.{All-from_recursion}
use Rattle.std.proofs.lemmas.Map.Keys.{IsDistinct-IsPermutation, IsStrictlyIncreasing-from_distinct}
use Rattle.cx_base.specs.Literals.{Literal}
use Rattle.cx_base.specs.Problem.{Problem, clauses_of}
use Rattle.cx_base.specs.Parity.{normal_form, HasOneOfEach}
use Rattle.cx_base.proofs.Elements.{in_head, in_tail}
use Rattle.cx_semantics.specs.Chain.{has_literal, same_literals}
use Rattle.cx_semantics.proofs.SameSets.{HaveSame-by_test}
use Rattle.gf2_matrix.proofs.Written.{variables_written}
use Rattle.xor_recover.specs.declared.found.FoundParity.{FoundParity}
use Rattle.xor_recover.specs.Finds.{first_with, IsExcluding, HasLeastNumbers, find_cmp}
use Rattle.xor_recover.specs.Rows.{Row, row, rows_of, IsProper, key_cmp, shape_cmp}
use Rattle.xor_recover.specs.Groups.{groups_of}
use Rattle.xor_recover.proofs.Kept.{AreKept}
use Rattle.xor_recover.proofs.Normal.{unique}
use Rattle.xor_recover.proofs.Numbers.{AllWithin}
use Rattle.xor_recover.proofs.Firsts.{shape_total}
use Rattle.xor_recover.proofs.Keys.{Sorted, AllProper, sorted_head, sorted_tail, variables_long}
use Rattle.xor_recover.proofs.GroupLaws.{GroupsRise, Ahead, groups_rise, head_proper, contained}
use Rattle.xor_recover.proofs.FindLaws.{row_for, excludes, right_is, set_is, rising_of, least_is}
use Rattle.xor_recover.proofs.Within.{kept_proper}
use Rattle.xor_recover.proofs.Sound.{Says, FoundAll, each_find}

-- ---- finds rise as their groups' rows do

says_cmp : (kept g h : List Row) (a b : FoundParity) (s : Says kept g a) (t : Says kept h b) → find_cmp a b ≡ key_cmp s.group.head t.group.head
says_cmp kept g h a b s t =
    let x = s.group.head in
    let y = t.group.head in
    let px = head_proper kept g s.group in
    let py = head_proper kept h t.group in
    (λ i. ordering_then
    (slice_cmp nat_cmp ((ap (λ (p : List Literal). map (λ l. l.variable) p) s.parity ∙ variables_written x.right x.variables) i) ((ap (λ (p : List Literal). map (λ l. l.variable) p) t.parity ∙ variables_written y.right y.variables) i))
    (bool_cmp ((ap (λ (p : List Literal). (normal_form p).right_side) s.parity ∙ right_is x.right x.variables (let two = (variables_long x px).0 in omega arith)) i)
    ((ap (λ (p : List Literal). (normal_form p).right_side) t.parity ∙ right_is y.right y.variables (let two = (variables_long y py).0 in omega arith)) i)))

ahead_finds : (kept g : List Row) (a : FoundParity) (s : Says kept g a) (gs : List (List Row)) (finds : List FoundParity) → Ahead s.group.head gs → AllZip (Says kept) gs finds → AllByRecursion (λ b. find_cmp a b ≡ Less) finds
ahead_finds kept g a s [] [] h z = tt
ahead_finds kept g a s [] (b ∷ finds) h z = absurd z
ahead_finds kept g a s (x ∷ gs) [] h z = absurd z
ahead_finds kept g a s (x ∷ gs) (b ∷ finds) h z = (says_cmp kept g x a b s z.0 ∙ h.0 z.0.group.head z.0.group.rest z.0.group.is, ahead_finds kept g a s gs finds h.1 z.1)

finds_rise : (kept : List Row) (gs : List (List Row)) (finds : List FoundParity) → GroupsRise gs → AllZip (Says kept) gs finds → IsStrictlySortedBy find_cmp finds
unfolding IsStrictlySortedBy
finds_rise kept [] [] h z = tt
finds_rise kept [] (b ∷ finds) h z = absurd z
finds_rise kept (g ∷ gs) [] h z = absurd z
finds_rise kept (g ∷ gs) (a ∷ finds) h z = (ahead_finds kept g a z.0 gs finds (h.0 z.0.group.head z.0.group.rest z.0.group.is) z.1, finds_rise kept gs finds h.1 z.1)

pub all_in_order : (formula : Problem) (finds : List FoundParity) → FoundAll formula finds → IsStrictlySortedBy find_cmp finds
all_in_order formula finds h = finds_rise h.kept (groups_of h.kept) finds (groups_rise h.kept h.firsts.sorted (kept_proper (clauses_of formula.constraints) h.kept h.within h.firsts)) h.says

-- ---- one number, one set of literals

first_low : (a : List Literal) (n m : ℕ) (C : List (List Literal)) → first_with a n C ≡ Some m → n ≤ m
first_low a n m [] e = absurd (none_is e)
  where
    none_is : {b : ℕ} → ◌≡◌ {A = Option ℕ} None (Some b) → ⊥
    none_is g = cc
first_low a n m (d ∷ C) e = go (same_literals a d) (first_low a (n + 1) m C) e
  where
    some_is : {x y : ℕ} → Some x ≡ Some y → x ≡ y
    some_is g = cc

    go : (b : Bool) → (first_with a (n + 1) C ≡ Some m → n + 1 ≤ m) → cond b (Some n) (first_with a (n + 1) C) ≡ Some m → n ≤ m
    go true rest h = let q : n ≡ m = some_is h in omega arith
    go false rest h = let q = rest h in omega arith

one_set : (a b : List Literal) (n m : ℕ) (C : List (List Literal)) → first_with a n C ≡ Some m → first_with b n C ≡ Some m → (q : Literal) → has_literal a q ≡ has_literal b q
one_set a b n m [] e f = absurd (none_is e)
  where
    none_is : {b : ℕ} → ◌≡◌ {A = Option ℕ} None (Some b) → ⊥
    none_is g = cc
one_set a b n m (d ∷ C) e f = go (same_literals a d) (same_literals b d) refl refl (one_set a b (n + 1) m C) e f
  where
    some_is : {x y : ℕ} → Some x ≡ Some y → x ≡ y
    some_is g = cc

    go : (s t : Bool) → same_literals a d ≡ s → same_literals b d ≡ t → (first_with a (n + 1) C ≡ Some m → first_with b (n + 1) C ≡ Some m → (q : Literal) → has_literal a q ≡ has_literal b q)
        → cond s (Some n) (first_with a (n + 1) C) ≡ Some m → cond t (Some n) (first_with b (n + 1) C) ≡ Some m → (q : Literal) → has_literal a q ≡ has_literal b q
    go true true s t rest e f = λ q. HaveSame-by_test a d s q ∙ sym (HaveSame-by_test b d t q)
    go true false s t rest e f = absurd (let x : n ≡ m = some_is e in let y = first_low b (n + 1) m C f in omega arith)
    go false true s t rest e f = absurd (let x : n ≡ m = some_is f in let y = first_low a (n + 1) m C e in omega arith)
    go false false s t rest e f = rest e f

apart_numbers : (C : List (List Literal)) (kept : List Row) → AllWithin C → AreKept (rows_of 1 C) kept → AllProper kept → (z w : Row) → Contains kept z → Contains kept w → shape_cmp z w ≡ Less → z.number ≡ w.number → ⊥
apart_numbers C kept within firsts all z w cz cw less same =
    let pz = contained IsProper kept z all cz in
    let pw = contained IsProper kept w all cw in
    let sets = one_set pz.lits pw.lits 1 w.number C (least_is C kept within firsts z cz pz ∙ ap Some same) (least_is C kept within firsts w cw pw) in
    let lits : pz.lits ≡ pw.lits = unique pz.lits pw.lits 1 1 pz.rises pw.rises sets in
    let rows : z ≡ w = sym pz.is ∙ (λ i. row (lits i) (same i)) ∙ pw.is in
    true≢false (sym (ap is_lt less) ∙ ap is_lt (ap (λ (x : Row). shape_cmp z x) (sym rows) ∙ tied_itself shape_total z))

numbers_apart : (C : List (List Literal)) (kept : List Row) → AllWithin C → AreKept (rows_of 1 C) kept → AllProper kept → (g : List Row) → Sorted g → AllByRecursion (Contains kept) g → IsDistinct eqb (map (λ (x : Row). x.number) g)
unfolding IsDistinct
numbers_apart C kept within firsts all [] s inside = tt
numbers_apart C kept within firsts all (z ∷ g) s inside = (each g (sorted_head z g s) inside.1, numbers_apart C kept within firsts all g (sorted_tail z g s) inside.1)
  where
    each : (ws : List Row) → AllByRecursion (λ w. shape_cmp z w ≡ Less) ws → AllByRecursion (Contains kept) ws → AllByRecursion (λ n. eqb z.number n ≡ false) (map (λ (x : Row). x.number) ws)
    each [] h c = tt
    each (w ∷ ws) h c = (false_from_ne_true (eqb z.number w.number) (λ e. apart_numbers C kept within firsts all z w inside.0 c.0 h.0 (eqb-true z.number w.number e)), each ws h.1 c.1)

number_in : (g : List Row) (z : Row) → Contains g z → Contains (map (λ (x : Row). x.number) g) z.number
number_in [] z c = absurd (let lt = c.1 in omega arith)
number_in (x ∷ g) z c = elim (Rattle.xor_recover.proofs.Firsts.contains_cases x g z c) [
  | inl e ↦ subst (λ (n : ℕ). Contains (x.number ∷ map (λ (r : Row). r.number) g) n) (ap (λ (r : Row). r.number) e) (in_head x.number (map (λ (r : Row). r.number) g))
  | inr later ↦ in_tail x.number (map (λ (r : Row). r.number) g) z.number (number_in g z later)
]

all_numbers : (P : ℕ → Type 0) (g : List Row) → ((z : Row) → Contains g z → P z.number) → AllByRecursion P (map (λ (x : Row). x.number) g)
all_numbers P [] h = tt
all_numbers P (x ∷ g) h = (h x (in_head x g), all_numbers P g (λ z c. h z (in_tail x g z c)))

pub least : (formula : Problem) (kept g : List Row) (find : FoundParity) → AllWithin (clauses_of formula.constraints) → AreKept (rows_of 1 (clauses_of formula.constraints)) kept → Says kept g find → HasLeastNumbers formula find
least formula kept g find within firsts s =
    let C = clauses_of formula.constraints in
    let all = kept_proper C kept within firsts in
    let x = s.group.head in
    let px = head_proper kept g s.group in
    let rise = rising_of x px in
    let some : 1 ≤ length x.variables = (let two = (variables_long x px).0 in omega arith) in
    let set_same : (normal_form find.parity).variables ≡ set.from_list x.variables = ap (λ (p : List Literal). (normal_form p).variables) s.parity ∙ set_is x.right x.variables rise in
    let right_same : (normal_form find.parity).right_side ≡ x.right = ap (λ (p : List Literal). (normal_form p).right_side) s.parity ∙ right_is x.right x.variables some in
    record {
      rising = IsStrictlyIncreasing-from_distinct find.clauses s.rising (IsDistinct-IsPermutation eqb nat_eq_equiv.symm _ find.clauses s.numbers (numbers_apart C kept within firsts all g s.group.sorted s.group.from));
      needed = λ lits e.
          let z = row_for C kept g within firsts all s.group lits (subst (λ (v : set.FinSet nat_cmp). HasOneOfEach v lits) set_same e.each) (λ q. e.wrong (q ∙ sym right_same)) in
          (z.0.number, Contains-permutation _ find.clauses z.0.number s.numbers (number_in g z.0 z.1), z.2);
      only = All-permutation (λ n. (lits : List Literal) × IsExcluding find lits × (first_with lits 1 C ≡ Some n)) _ find.clauses s.numbers
          (All-from_recursion (λ n. (lits : List Literal) × IsExcluding find lits × (first_with lits 1 C ≡ Some n)) _ (all_numbers (λ n. (lits : List Literal) × IsExcluding find lits × (first_with lits 1 C ≡ Some n)) g (λ z c.
          let pz = contained IsProper g z s.group.proper c in
          let ex = excludes kept g s.group z c pz in (
            pz.lits,
            record { each = subst (λ (v : set.FinSet nat_cmp). HasOneOfEach v pz.lits) (sym set_same) ex.0; wrong = λ q. ex.1 (q ∙ right_same) },
            least_is C kept within firsts z (contained (Contains kept) g z s.group.from c) pz,
          ))));
    }

pub all_least : (formula : Problem) (finds : List FoundParity) → FoundAll formula finds → All (HasLeastNumbers formula) finds
all_least formula finds h = each_find h.kept (HasLeastNumbers formula) (groups_of h.kept) finds (λ g f s. least formula h.kept g f h.within h.firsts s) h.says
