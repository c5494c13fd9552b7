-- What a find says, from its group.
use Rattle.std.proofs.Common.{◌≡◌, ◌≢◌, refl, sym, ap, ◌∙◌, subst, ℕ, ◌+◌, ◌≤◌, Bool, true, false, cond, not, ◌&&◌, ◌||◌, nat_eq, List, [], ◌∷◌, length, map, arith, true≢false, inl, inr, Some}
use Rattle.std.specs.List.{Contains, list_any}
use Rattle.std.specs.Ordering.{nat_cmp}
use Rattle.std.specs.Cmp.{nat_cmp_total, tied_itself, nat_eq_equiv}
use Rattle.std.specs.FinSet as set
use Rattle.std.specs.declared.cmp.Ordering.TheVariants.{Equal}
use Rattle.std.proofs.lemmas.Bool.{or_parts, or_cases, and_from, and_parts, cases_Bool, eq-eqb}
use Rattle.std.proofs.lemmas.List.{length-map}
use Rattle.cx_base.specs.Literals.{Literal, differ, positive_of, same_literal}
use Rattle.cx_base.specs.Problem.{AreWithin}
use Rattle.cx_base.specs.Parity.{normal_form, odd_sum, HasOneOfEach}
use Rattle.cx_base.specs.declared.literal.TheConstants.{MAX_VARIABLE}
use Rattle.cx_base.proofs.Elements.{in_head, in_tail}
use Rattle.cx_semantics.specs.Chain.{has_literal, same_literals}
use Rattle.cx_semantics.specs.Recovered.{excluded_sum}
use Rattle.cx_semantics.proofs.Members.{has_at_head, has_behind}
use Rattle.cx_semantics.proofs.RecoveredLaws.{Distinct, len-distinct}
use Rattle.cx_semantics.proofs.Widths.{variables, variable_in, variables-normal_form, len-normal_form, length-variables}
use Rattle.gf2_rows.proofs.Words.{parity-count}
use Rattle.parity_engine.specs.Written.{literals_with, Rises, AreRising, IsWritten}
use Rattle.parity_engine.proofs.Rising.{columns_rise, none_below}
use Rattle.parity_engine.proofs.Literals.{right_parity}
use Rattle.gf2_matrix.proofs.Written.{variables_written}
use Rattle.xor_recover.specs.Finds.{first_with}
use Rattle.xor_recover.specs.Rows.{Row, row, rows_of, inserted, shape_cmp, IsProper}
use Rattle.xor_recover.specs.Groups.{needed, same_key}
use Rattle.xor_recover.proofs.Normal.{Rising, by_insertion, rises_on, has_inserted, unique, fits_in}
use Rattle.cx_semantics.proofs.SameSets.{HaveSame-by_test}
use Rattle.xor_recover.proofs.Firsts.{shape_total}
use Rattle.xor_recover.proofs.Keys.{AllProper, variables_same, right_same, signs_sum, whole_of_key}
use Rattle.xor_recover.proofs.GroupLaws.{IsGroup, contained, head_proper}
use Rattle.xor_recover.proofs.Kept.{AreKept}
use Rattle.xor_recover.proofs.Patterns.{same_signs, same_is}
use Rattle.xor_recover.proofs.Numbers.{AllWithin, negatives, from_parts, first_is, test_same}

-- ---- the parity as it is written

pub distinct_rising : (least : ℕ) (vs : List ℕ) → Rises least vs → Distinct vs
distinct_rising least [] rise = tt
distinct_rising least (v ∷ vs) rise = (none_below (v + 1) vs v rise.1 (omega arith), distinct_rising (v + 1) vs rise.1)

positive_sum : (vs : List ℕ) → odd_sum (map (λ (l : Literal). l.negative) (map positive_of vs)) ≡ false
positive_sum [] = refl
positive_sum (v ∷ vs) = positive_sum vs

pub sign_sum : (right : Bool) (v : ℕ) (vs : List ℕ) → odd_sum (map (λ (l : Literal). l.negative) (literals_with right (v ∷ vs))) ≡ not right
sign_sum true v vs = positive_sum vs
sign_sum false v vs = ap not (positive_sum vs)

pub right_is : (right : Bool) (vs : List ℕ) → 1 ≤ length vs → (normal_form (literals_with right vs)).right_side ≡ right
right_is right [] some = absurd (omega arith)
right_is right (v ∷ vs) some = right_parity (literals_with right (v ∷ vs)) ∙ ap not (sign_sum right v vs) ∙ twice right
  where
    twice : (b : Bool) → not (not b) ≡ b
    twice true = refl
    twice false = refl

written_distinct : (right : Bool) (vs : List ℕ) → AreRising 1 MAX_VARIABLE vs → Distinct (variables (literals_with right vs))
written_distinct right vs rise = subst Distinct (sym (variables_written right vs)) (distinct_rising 1 vs (columns_rise 1 MAX_VARIABLE vs rise))

pub set_is : (right : Bool) (vs : List ℕ) → AreRising 1 MAX_VARIABLE vs → (normal_form (literals_with right vs)).variables ≡ set.from_list vs
set_is right vs rise = variables-normal_form (literals_with right vs) (written_distinct right vs rise) ∙ ap set.from_list (variables_written right vs)

pub len_is : (right : Bool) (vs : List ℕ) → AreRising 1 MAX_VARIABLE vs → set.len (normal_form (literals_with right vs)).variables ≡ length vs
len_is right vs rise = len-normal_form (literals_with right vs) (written_distinct right vs rise) ∙ sym (length-variables (literals_with right vs)) ∙ ap length (variables_written right vs)

pub written : (right : Bool) (vs : List ℕ) → AreRising 1 MAX_VARIABLE vs → 1 ≤ length vs → IsWritten (normal_form (literals_with right vs)) (literals_with right vs)
written right vs rise some = record {
  normal = refl;
  rises = subst (Rises 1) (sym (variables_written right vs)) (columns_rise 1 MAX_VARIABLE vs rise);
  signs = (λ i. literals_with (sym (right_is right vs some) i) (sym (variables_written right vs) i));
}

-- ---- one literal of each variable, in order

differ_swap : (a b c : Bool) → differ a (differ b c) ≡ differ b (differ a c)
differ_swap true true c = refl
differ_swap true false c = refl
differ_swap false true c = refl
differ_swap false false c = refl

sum_inserted : (l : Literal) (ms r : List Literal) → inserted l ms ≡ Some r → has_literal ms l ≡ false → odd_sum (negatives r) ≡ differ l.negative (odd_sum (negatives ms))
sum_inserted l ms r e apart = by_insertion (λ ms r. has_literal ms l ≡ false → odd_sum (negatives r) ≡ differ l.negative (odd_sum (negatives ms))) l
    (λ h. refl)
    (λ m ms below h. refl)
    (λ ms h. absurd (true≢false (sym (has_at_head l ms) ∙ h)))
    (λ m ms q above ih h. ap (differ m.negative) (ih (or_parts (same_literal l m) (has_literal ms l) h).1) ∙ differ_swap m.negative l.negative (odd_sum (negatives ms)))
    ms r e apart

pub record InOrder (lits r : List Literal) : Type 0 where
  pub rises : Rising 1 r
  pub same : (q : Literal) → has_literal r q ≡ has_literal lits q
  pub sum : odd_sum (negatives r) ≡ odd_sum (negatives lits)

pub in_order : (lits : List Literal) → AreWithin MAX_VARIABLE lits → Distinct (variables lits) → (r : List Literal) × InOrder lits r
in_order [] within d = ([], record { rises = tt; same = λ q. refl; sum = refl })
in_order (l ∷ lits) within d =
    let rest = in_order lits within.1 d.1 in
    let apart : (m : Literal) → has_literal rest.0 m ≡ true → l.variable ≡ m.variable → ⊥ =
    (λ m h v. true≢false (sym (variable_in lits m (sym (rest.1.same m) ∙ h)) ∙ ap (λ y. list_any (λ z. nat_eq z y) (variables lits)) (sym v) ∙ d.0)) in
    let put = fits_in l rest.0 (λ m h v. absurd (apart m h v)) in
    let none : has_literal rest.0 l ≡ false = Rattle.std.proofs.lemmas.Bool.false_from_ne_true (has_literal rest.0 l) (λ h. apart l h refl) in (
      put.0,
      record {
        rises = rises_on l rest.0 put.0 put.1 within.0.1 1 rest.1.rises within.0.0;
        same = λ q. has_inserted l rest.0 put.0 put.1 q ∙ ap (λ b. same_literal q l || b) (rest.1.same q);
        sum = sum_inserted l rest.0 put.0 put.1 none ∙ ap (differ l.negative) rest.1.sum;
      },
    )

pub excluded_is : (lits : List Literal) → excluded_sum lits ≡ odd_sum (negatives lits)
excluded_is lits = sym (parity-count (λ (l : Literal). l.negative) lits)

-- rising numbers with one set are one list
pub positives_rise : (k : ℕ) (vs : List ℕ) → AreRising k MAX_VARIABLE vs → Rising k (map positive_of vs)
positives_rise k [] h = tt
positives_rise k (v ∷ vs) h = (h.0, h.1, positives_rise (v + 1) vs h.2)

variables_positive : (vs : List ℕ) → variables (map positive_of vs) ≡ vs
variables_positive [] = refl
variables_positive (v ∷ vs) = ap (λ xs. v ∷ xs) (variables_positive vs)

in_positives : (vs : List ℕ) (q : Literal) → has_literal (map positive_of vs) q ≡ (list_any (λ z. nat_eq z q.variable) vs && not q.negative)
in_positives [] q = refl
in_positives (v ∷ vs) q =
    ap (λ b. same_literal q (positive_of v) || b) (in_positives vs q)
    ∙ merge (nat_eq q.variable v) (nat_eq v q.variable) (list_any (λ z. nat_eq z q.variable) vs) q.negative (nat_eq_equiv.symm q.variable v)
  where
    table : (a r n : Bool) → ((a && not (differ n false)) || (r && not n)) ≡ ((a || r) && not n)
    table true true true = refl
    table true true false = refl
    table true false true = refl
    table true false false = refl
    table false r true = refl
    table false r false = refl

    merge : (a b r n : Bool) → a ≡ b → ((a && not (differ n false)) || (r && not n)) ≡ ((b || r) && not n)
    merge a b r n e = table a r n ∙ ap (λ x. (x || r) && not n) e

pub same_rising : (a b : List ℕ) → AreRising 1 MAX_VARIABLE a → AreRising 1 MAX_VARIABLE b → ((y : ℕ) → list_any (λ z. nat_eq z y) a ≡ list_any (λ z. nat_eq z y) b) → a ≡ b
same_rising a b h g same =
    sym (variables_positive a)
    ∙ ap variables (unique (map positive_of a) (map positive_of b) 1 1 (positives_rise 1 a h) (positives_rise 1 b g) (λ q. in_positives a q ∙ ap (λ t. t && not q.negative) (same q.variable) ∙ sym (in_positives b q)))
    ∙ variables_positive b

-- ---- one of each variable: within the range, and different

high_rising : (k : ℕ) (vs : List ℕ) (y : ℕ) → AreRising k MAX_VARIABLE vs → list_any (λ z. nat_eq z y) vs ≡ true → (k ≤ y) × (y ≤ MAX_VARIABLE)
high_rising k [] y h m = absurd (true≢false (sym m))
high_rising k (v ∷ vs) y h m = elim (or_cases (nat_eq v y) (list_any (λ z. nat_eq z y) vs) m) [
  | inl e ↦ (let q = Rattle.std.proofs.lemmas.Bool.eqb-true v y e in let low = h.0 in let high = h.1 in (omega arith, omega arith))
  | inr later ↦ (let rest = high_rising (v + 1) vs y h.2 later in let low = h.0 in let low' = rest.0 in (omega arith, rest.1))
]

within_set : (vs : List ℕ) (lits : List Literal) → AreRising 1 MAX_VARIABLE vs → ((y : ℕ) → list_any (λ z. nat_eq z y) (variables lits) ≡ true → list_any (λ z. nat_eq z y) vs ≡ true) → AreWithin MAX_VARIABLE lits
within_set vs [] rise h = tt
within_set vs (l ∷ lits) rise h = (
  high_rising 1 vs l.variable rise (h l.variable (ap (λ b. b || list_any (λ z. nat_eq z l.variable) (variables lits)) (eq-eqb l.variable l.variable refl))),
  within_set vs lits rise (λ y m. h y (Rattle.std.proofs.lemmas.Bool.or_right (nat_eq l.variable y) _ m)),
)

abbrev pub set_of : List ℕ → set.FinSet nat_cmp
set_of xs = set.from_list xs

len_more : (x : ℕ) (xs : List ℕ) → set.len (set_of (x ∷ xs)) ≡ cond (list_any (λ y. nat_eq y x) xs) (set.len (set_of xs)) (set.len (set_of xs) + 1)
len_more x xs = set.len-insert nat_cmp_total (set_of xs) x ∙ ap (λ b. cond b (set.len (set_of xs)) (set.len (set_of xs) + 1)) (set.contains-from_list_nat xs x)

few_members : (xs : List ℕ) → set.len (set_of xs) ≤ length xs
few_members [] = (let e = set.len-empty nat_cmp in omega arith)
few_members (x ∷ xs) =
    let rest = few_members xs in
    elim (cases_Bool (list_any (λ y. nat_eq y x) xs)) [
      | inl e ↦ (let n = len_more x xs ∙ ap (λ b. cond b (set.len (set_of xs)) (set.len (set_of xs) + 1)) e in omega arith)
      | inr e ↦ (let n = len_more x xs ∙ ap (λ b. cond b (set.len (set_of xs)) (set.len (set_of xs) + 1)) e in omega arith)
    ]

distinct_from_len : (xs : List ℕ) → length xs ≡ set.len (set_of xs) → Distinct xs
distinct_from_len [] e = tt
distinct_from_len (x ∷ xs) e =
    let rest = few_members xs in
    elim (cases_Bool (list_any (λ y. nat_eq y x) xs)) [
      | inl h ↦ absurd (let n = len_more x xs ∙ ap (λ b. cond b (set.len (set_of xs)) (set.len (set_of xs) + 1)) h in omega arith)
      | inr h ↦ (h, distinct_from_len xs (let n = len_more x xs ∙ ap (λ b. cond b (set.len (set_of xs)) (set.len (set_of xs) + 1)) h in omega arith))
    ]

pub record OneOfEach (vs : List ℕ) (lits : List Literal) : Type 0 where
  pub members : (y : ℕ) → list_any (λ z. nat_eq z y) (variables lits) ≡ list_any (λ z. nat_eq z y) vs
  pub distinct : Distinct (variables lits)
  pub within : AreWithin MAX_VARIABLE lits

pub one_of_each : (vs : List ℕ) (lits : List Literal) → AreRising 1 MAX_VARIABLE vs → HasOneOfEach (set_of vs) lits → OneOfEach vs lits
one_of_each vs lits rise each =
    let members : (y : ℕ) → list_any (λ z. nat_eq z y) (variables lits) ≡ list_any (λ z. nat_eq z y) vs =
    (λ y. sym (set.contains-from_list_nat (variables lits) y) ∙ ap (λ (s : set.FinSet nat_cmp). set.contains s y) each.same ∙ set.contains-from_list_nat vs y) in
    record {
      members = members;
      distinct = distinct_from_len (variables lits) (length-variables lits ∙ each.once ∙ ap set.len (sym each.same));
      within = within_set vs lits rise (λ y m. sym (members y) ∙ m);
    }

pub variable_of : (xs : List Literal) (y : ℕ) → list_any (λ z. nat_eq z y) (variables xs) ≡ true → (m : Literal) × (has_literal xs m ≡ true) × (m.variable ≡ y)
variable_of [] y h = absurd (true≢false (sym h))
variable_of (x ∷ xs) y h = elim (or_cases (nat_eq x.variable y) (list_any (λ z. nat_eq z y) (variables xs)) h) [
  | inl e ↦ (x, has_at_head x xs, Rattle.std.proofs.lemmas.Bool.eqb-true x.variable y e)
  | inr later ↦ let m = variable_of xs y later in (m.0, has_behind x xs m.0 m.1, m.2)
]

pub same_variables : (a b : List Literal) → ((q : Literal) → has_literal a q ≡ has_literal b q) → (y : ℕ) → list_any (λ z. nat_eq z y) (variables a) ≡ true → list_any (λ z. nat_eq z y) (variables b) ≡ true
same_variables a b same y h = let m = variable_of a y h in subst (λ (n : ℕ). list_any (λ z. nat_eq z n) (variables b) ≡ true) m.2 (variable_in b m.0 (sym (same m.0) ∙ m.1))

both : (a b : Bool) → (a ≡ true → b ≡ true) → (b ≡ true → a ≡ true) → a ≡ b
both true b f g = sym (f refl)
both false true f g = g refl
both false false f g = refl

other : (a b : Bool) → a ≢ b → a ≡ not b
other true true n = absurd (n refl)
other true false n = refl
other false true n = refl
other false false n = absurd (n refl)

-- the literals in order have these variables
pub ordered_variables : (vs : List ℕ) (lits r : List Literal) → AreRising 1 MAX_VARIABLE vs → OneOfEach vs lits → InOrder lits r → variables r ≡ vs
ordered_variables vs lits r rise one order = same_rising (variables r) vs order.rises rise (λ y. both _ _
    (λ h. sym (one.members y) ∙ same_variables r lits order.same y h)
    (λ h. same_variables lits r (λ q. sym (order.same q)) y (one.members y ∙ h)))

-- ---- the first clauses with sets of literals

first_same : (a b : List Literal) (n : ℕ) (C : List (List Literal)) → ((q : Literal) → has_literal a q ≡ has_literal b q) → first_with a n C ≡ first_with b n C
first_same a b n [] same = refl
first_same a b n (d ∷ C) same = (λ i. cond (same_tests i) (Some n) (first_same a b (n + 1) C same i))
  where
    along : (x y : List Literal) → ((q : Literal) → has_literal x q ≡ has_literal y q) → same_literals x d ≡ true → same_literals y d ≡ true
    along x y h e = test_same y d (λ q. sym (h q) ∙ HaveSame-by_test x d e q)

    same_tests : same_literals a d ≡ same_literals b d
    same_tests = both _ _ (along a b same) (along b a (λ q. sym (same q)))

-- a kept row has the least number of its literals
pub least_is : (C : List (List Literal)) (kept : List Row) → AllWithin C → AreKept (rows_of 1 C) kept → (z : Row) → Contains kept z → (p : IsProper z) → first_with p.lits 1 C ≡ Some z.number
least_is C kept within firsts z c p =
    first_is C 1 p.lits z.number within p.rises p.two p.six (subst (Contains (rows_of 1 C)) (sym p.is) (firsts.from z c))
    (λ k h. firsts.least z (row p.lits k) c h (subst (λ (x : Row). shape_cmp x (row p.lits k) ≡ Equal) p.is (tied_itself shape_total (row p.lits k))))

in_signs : (g : List Row) (p : List Bool) → list_any (same_signs p) (map (λ (z : Row). z.signs) g) ≡ true → (z : Row) × Contains g z × (z.signs ≡ p)
in_signs [] p h = absurd (true≢false (sym h))
in_signs (z ∷ g) p h = elim (or_cases (same_signs p z.signs) (list_any (same_signs p) (map (λ (z : Row). z.signs) g)) h) [
  | inl e ↦ (z, in_head z g, sym (same_is p z.signs e))
  | inr later ↦ let rest = in_signs g p later in (rest.0, in_tail z g rest.0 rest.1, rest.2)
]

lits_of : (z : Row) (p : IsProper z) → (variables p.lits ≡ z.variables) × (negatives p.lits ≡ z.signs)
lits_of z p = (ap (λ (r : Row). r.variables) p.is, ap (λ (r : Row). r.signs) p.is)

pub rising_of : (z : Row) → IsProper z → AreRising 1 MAX_VARIABLE z.variables
rising_of z p = subst (λ (vs : List ℕ). AreRising 1 MAX_VARIABLE vs) (lits_of z p).0 p.rises

-- each set of literals that excludes a wrong assignment has a row in the group
pub row_for : (C : List (List Literal)) (kept g : List Row) → AllWithin C → AreKept (rows_of 1 C) kept → AllProper kept → (h : IsGroup kept g) → (lits : List Literal)
    → HasOneOfEach (set_of h.head.variables) lits → excluded_sum lits ≢ h.head.right → (z : Row) × Contains g z × (first_with lits 1 C ≡ Some z.number)
row_for C kept g within firsts all h lits each wrong =
    let x = h.head in
    let px = head_proper kept g h in
    let rise = rising_of x px in
    let one = one_of_each x.variables lits rise each in
    let order = in_order lits one.within one.distinct in
    let ys = order.0 in
    let vars : variables ys ≡ x.variables = ordered_variables x.variables lits ys rise one order.1 in
    let long : length (negatives ys) ≡ length x.variables = length-map ys (λ (l : Literal). l.negative) ∙ sym (length-map ys (λ (l : Literal). l.variable)) ∙ ap length vars in
    let odd : odd_sum (negatives ys) ≡ not x.right = order.1.sum ∙ sym (excluded_is lits) ∙ other (excluded_sum lits) x.right wrong in
    let many : needed x ≤ length g = (let l = h.long in omega arith) in
    let found = in_signs g (negatives ys) (whole_of_key x g px h.sorted h.proper h.of_key many (negatives ys) long odd) in
    let z = found.0 in
    let pz = contained IsProper g z h.proper found.1 in
    let key = contained (λ y. same_key y x ≡ true) g z h.of_key found.1 in
    let same : pz.lits ≡ ys = from_parts pz.lits ys ((lits_of z pz).0 ∙ variables_same z x key ∙ sym vars) ((lits_of z pz).1 ∙ found.2) in
    let in_kept = contained (Contains kept) g z h.from found.1 in
    (z, found.1, first_same lits ys 1 C (λ q. sym (order.1.same q)) ∙ ap (λ (l : List Literal). first_with l 1 C) (sym same) ∙ least_is C kept within firsts z in_kept pz)

-- each row of the group excludes a wrong assignment
pub excludes : (kept g : List Row) → (h : IsGroup kept g) → (z : Row) → Contains g z → (p : IsProper z) → HasOneOfEach (set_of h.head.variables) p.lits × (excluded_sum p.lits ≢ h.head.right)
excludes kept g h z c p =
    let x = h.head in
    let key = contained (λ y. same_key y x ≡ true) g z h.of_key c in
    let vars : variables p.lits ≡ x.variables = (lits_of z p).0 ∙ variables_same z x key in
    let sum : excluded_sum p.lits ≡ not x.right = excluded_is p.lits ∙ ap odd_sum (lits_of z p).1 ∙ signs_sum z p ∙ ap not (right_same z x key) in (
      record {
        same = ap set.from_list vars;
        once = sym (length-variables p.lits) ∙ sym (len-distinct (variables p.lits) (distinct_rising 1 (variables p.lits) (columns_rise 1 MAX_VARIABLE (variables p.lits) p.rises))) ∙ ap (λ (vs : List ℕ). set.len (set_of vs)) vars;
      },
      λ e. apart x.right (sym sum ∙ e),
    )
  where
    apart : (b : Bool) → not b ≡ b → ⊥
    apart true e = true≢false (sym e)
    apart false e = true≢false e
