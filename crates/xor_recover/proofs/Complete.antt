-- Each parity that the formula has as clauses is found.
use Rattle.std.proofs.Common.{◌≡◌, refl, sym, ap, ◌∙◌, subst, ℕ, zero, suc, ◌-◌, ◌≤◌, Bool, true, false, cond, not, ◌||◌, nat_eq, List, [], ◌∷◌, length, map, arith, true≢false, inl, inr, eqb-true, ◌⊎◌}
use Rattle.std.specs.Prelude.{filter}
use Rattle.std.specs.List.{AllZip, Contains, list_any}
use Rattle.std.specs.FinSet as set
use Rattle.std.specs.Ordering.{nat_cmp, is_eq, eq_by_cmp}
use Rattle.std.specs.Cmp.{nat_cmp_total, unsigned_tied, nat_eq_equiv}
use Rattle.std.proofs.lemmas.Bool.{or_cases, or_left, or_right, and_parts}
use Rattle.std.proofs.lemmas.List.{length-map}
use Rattle.cx_base.specs.Literals.{Literal}
use Rattle.cx_base.specs.Problem.{Problem, AreWithin, clauses_of}
use Rattle.cx_base.specs.Parity.{NormalForm, normal_form, odd_sum, HasOneOfEach}
use Rattle.cx_base.specs.declared.literal.TheConstants.{MAX_VARIABLE}
use Rattle.cx_base.proofs.Elements.{in_head, in_tail, same_head}
use Rattle.cx_semantics.specs.Chain.{has_literal, same_literals}
use Rattle.cx_semantics.specs.Recovered.{Recovered, excluded_sum}
use Rattle.cx_semantics.proofs.SameSets.{HaveSame-by_test}
use Rattle.cx_semantics.proofs.Members.{has_at_head, has_behind}
use Rattle.cx_semantics.proofs.RecoveredLaws.{Distinct, len-distinct}
use Rattle.cx_semantics.proofs.Widths.{variables, length-variables}
use Rattle.parity_engine.specs.Written.{literals_with, AreRising}
use Rattle.parity_engine.proofs.Rising.{columns_rise}
use Rattle.gf2_matrix.proofs.Written.{variables_written}
use Rattle.xor_recover.specs.declared.found.FoundParity.{FoundParity}
use Rattle.xor_recover.specs.Rows.{Row, row, rows_of}
use Rattle.xor_recover.specs.Groups.{groups_of, same_key}
use Rattle.xor_recover.proofs.Kept.{AreKept}
use Rattle.xor_recover.proofs.Firsts.{shape_ties}
use Rattle.xor_recover.proofs.Numbers.{AllWithin, negatives, stands}
use Rattle.xor_recover.proofs.Patterns.{same_signs, same_is, same_signs_equiv, many_patterns, pattern_says}
use Rattle.xor_recover.proofs.Keys.{variables_same, right_same, variables_long}
use Rattle.xor_recover.proofs.GroupLaws.{count, count-is, groups_complete, head_proper}
use Rattle.xor_recover.proofs.FindLaws.{set_of, distinct_rising, set_is, right_is, rising_of, sign_sum, excluded_is, in_order, same_variables}
use Rattle.xor_recover.proofs.Within.{kept_proper}
use Rattle.xor_recover.proofs.Sound.{Says, FoundAll}

-- ---- a set as a list of different numbers

without_repeats : List ℕ → List ℕ
without_repeats [] = []
without_repeats (x ∷ xs) = cond (list_any (λ y. nat_eq y x) (without_repeats xs)) (without_repeats xs) (x ∷ without_repeats xs)

distinct_without : (xs : List ℕ) → Distinct (without_repeats xs)
unfolding without_repeats
distinct_without [] = tt
distinct_without (x ∷ xs) = elim (list_any (λ y. nat_eq y x) (without_repeats xs)) as (λ b. list_any (λ y. nat_eq y x) (without_repeats xs) ≡ b → Distinct (cond b (without_repeats xs) (x ∷ without_repeats xs)))
    [ true ↦ λ e. distinct_without xs | false ↦ λ e. (e, distinct_without xs) ] refl

same_number : (x q : ℕ) (ys : List ℕ) → nat_eq x q ≡ true → list_any (λ y. nat_eq y x) ys ≡ true → list_any (λ y. nat_eq y q) ys ≡ true
same_number x q ys e h = subst (λ z. list_any (λ y. nat_eq y z) ys ≡ true) (eqb-true x q e) h

members_without : (xs : List ℕ) (q : ℕ) → list_any (λ y. nat_eq y q) (without_repeats xs) ≡ list_any (λ y. nat_eq y q) xs
unfolding without_repeats
members_without [] q = refl
members_without (x ∷ xs) q = elim (list_any (λ y. nat_eq y x) (without_repeats xs)) as (λ b. list_any (λ y. nat_eq y x) (without_repeats xs) ≡ b
    → list_any (λ y. nat_eq y q) (cond b (without_repeats xs) (x ∷ without_repeats xs)) ≡ (nat_eq x q || list_any (λ y. nat_eq y q) xs)) [
      | true ↦ λ e. members_without xs q ∙ absorbed (nat_eq x q) (λ f. sym (members_without xs q) ∙ same_number x q (without_repeats xs) f e)
      | false ↦ λ e. ap (λ b. nat_eq x q || b) (members_without xs q)
    ] refl
  where
    absorbed : (b : Bool) → (b ≡ true → list_any (λ y. nat_eq y q) xs ≡ true) → list_any (λ y. nat_eq y q) xs ≡ (b || list_any (λ y. nat_eq y q) xs)
    absorbed true h = h refl
    absorbed false h = refl

members_items : (s : set.FinSet nat_cmp) (q : ℕ) → set.contains s q ≡ list_any (λ y. nat_eq y q) (set.items s)
members_items s q = set.contains-items s q ∙ go (set.items s)
  where
    go : (ks : List ℕ) → list_any (eq_by_cmp nat_cmp q) ks ≡ list_any (λ y. nat_eq y q) ks
    go [] = refl
    go (k ∷ ks) = λ i. (unsigned_tied q k ∙ nat_eq_equiv.symm q k) i || go ks i

listed : set.FinSet nat_cmp → List ℕ
listed s = without_repeats (set.items s)

members_listed : (s : set.FinSet nat_cmp) (q : ℕ) → list_any (λ y. nat_eq y q) (listed s) ≡ set.contains s q
unfolding listed
members_listed s q = members_without (set.items s) q ∙ sym (members_items s q)

distinct_listed : (s : set.FinSet nat_cmp) → Distinct (listed s)
unfolding listed
distinct_listed s = distinct_without (set.items s)

from_members : (vs : List ℕ) (s : set.FinSet nat_cmp) → ((q : ℕ) → list_any (λ y. nat_eq y q) vs ≡ set.contains s q) → set_of vs ≡ s
from_members vs s h = set.same_set nat_cmp_total set.nat_cmp-IsAntisymmetric _ s (λ q. set.contains-from_list_nat vs q ∙ h q)

each_of : (vs : List ℕ) (s : set.FinSet nat_cmp) (lits : List Literal) → variables lits ≡ vs → Distinct vs → set_of vs ≡ s → HasOneOfEach s lits
each_of vs s lits e d h = record {
  same = ap set.from_list e ∙ h;
  once = sym (length-variables lits) ∙ ap length e ∙ sym (len-distinct vs d) ∙ ap set.len h;
}

-- ---- the variables in order

within_clause : (lits : List Literal) (C : List (List Literal)) → AllWithin C → list_any (same_literals lits) C ≡ true → (m : Literal) → has_literal lits m ≡ true → (1 ≤ m.variable) × (m.variable ≤ MAX_VARIABLE)
within_clause lits [] within h m has = absurd (true≢false (sym h))
within_clause lits (c ∷ C) within h m has = elim (or_cases (same_literals lits c) (list_any (same_literals lits) C) h) [
  | inl e ↦ at c within.0 (sym (HaveSame-by_test lits c e m) ∙ has)
  | inr later ↦ within_clause lits C within.1 later m has
]
  where
    at : (c : List Literal) → AreWithin MAX_VARIABLE c → has_literal c m ≡ true → (1 ≤ m.variable) × (m.variable ≤ MAX_VARIABLE)
    at [] w g = absurd (true≢false (sym g))
    at (x ∷ c) w g = elim (Rattle.cx_semantics.proofs.Members.has_split x c m g) [
      | inl e ↦ subst (λ (l : Literal). (1 ≤ l.variable) × (l.variable ≤ MAX_VARIABLE)) (sym e) w.0
      | inr later ↦ at c w.1 later
    ]

all_within : (lits : List Literal) → ((m : Literal) → has_literal lits m ≡ true → (1 ≤ m.variable) × (m.variable ≤ MAX_VARIABLE)) → AreWithin MAX_VARIABLE lits
all_within [] h = tt
all_within (l ∷ lits) h = (h l (has_at_head l lits), all_within lits (λ m g. h m (has_behind l lits m g)))

some_variable : (s : set.FinSet nat_cmp) → 2 ≤ set.len s → 1 ≤ length (listed s)
some_variable s h = let e = len-distinct (listed s) (distinct_listed s) ∙ refl in let f : set.len (set_of (listed s)) ≡ set.len s = ap set.len (from_members (listed s) s (members_listed s)) in omega arith

not_itself : (b : Bool) → not b ≡ b → ⊥
not_itself true e = true≢false (sym e)
not_itself false e = true≢false e

written_sum : (right : Bool) (vs : List ℕ) → 1 ≤ length vs → excluded_sum (literals_with right vs) ≡ not right
written_sum right [] h = absurd (omega arith)
written_sum right (v ∷ vs) h = excluded_is (literals_with right (v ∷ vs)) ∙ sign_sum right v vs

record Ordered (s : set.FinSet nat_cmp) : Type 0 where
  vs : List ℕ
  rise : AreRising 1 MAX_VARIABLE vs
  set_is : set_of vs ≡ s

both : (a b : Bool) → (a ≡ true → b ≡ true) → (b ≡ true → a ≡ true) → a ≡ b
both true b f g = sym (f refl)
both false true f g = g refl
both false false f g = refl

ordered : (formula : Problem) (form : NormalForm) → AllWithin (clauses_of formula.constraints) → Recovered formula form → Ordered form.variables
ordered formula form within r =
    let s = form.variables in
    let ks = listed s in
    let lits = literals_with form.right_side ks in
    let vars : variables lits ≡ ks = variables_written form.right_side ks in
    let each = each_of ks s lits vars (distinct_listed s) (from_members ks s (members_listed s)) in
    let wrong = written_sum form.right_side ks (some_variable s r.two) in
    let inside = all_within lits (within_clause lits (clauses_of formula.constraints) within (r.stands lits each (λ e. not_itself form.right_side (sym wrong ∙ e)))) in
    let order = in_order lits inside (subst Distinct (sym vars) (distinct_listed s)) in
    record {
      vs = variables order.0;
      rise = order.1.rises;
      set_is = from_members (variables order.0) s (λ q. both _ _ (same_variables order.0 lits order.1.same q) (same_variables lits order.0 (λ p. sym (order.1.same p)) q) ∙ ap (λ (xs : List ℕ). list_any (λ z. nat_eq z q) xs) vars ∙ members_listed s q);
    }

-- ---- a row for each list of signs

signed : List ℕ → List Bool → List Literal
signed [] signs = []
signed (v ∷ vs) [] = []
signed (v ∷ vs) (b ∷ signs) = record { variable = v; negative = b } ∷ signed vs signs

signed_variables : (vs : List ℕ) (p : List Bool) → length p ≡ length vs → variables (signed vs p) ≡ vs
unfolding signed
signed_variables [] p e = refl
signed_variables (v ∷ vs) [] e = absurd (omega arith)
signed_variables (v ∷ vs) (b ∷ p) e = ap (λ xs. v ∷ xs) (signed_variables vs p (omega arith))

signed_signs : (vs : List ℕ) (p : List Bool) → length p ≡ length vs → negatives (signed vs p) ≡ p
unfolding signed
signed_signs [] [] e = refl
signed_signs [] (b ∷ p) e = absurd (omega arith)
signed_signs (v ∷ vs) [] e = absurd (omega arith)
signed_signs (v ∷ vs) (b ∷ p) e = ap (λ xs. b ∷ xs) (signed_signs vs p (omega arith))

in_filter : (x : Row) (p : List Bool) (zs : List Row) (y : Row) → Contains zs y → same_key y x ≡ true → y.signs ≡ p → list_any (same_signs p) (map (λ (z : Row). z.signs) (filter (λ z. same_key z x) zs)) ≡ true
in_filter x p [] y c k e = absurd (let lt = c.1 in omega arith)
in_filter x p (z ∷ zs) y c k e = elim (Rattle.xor_recover.proofs.Firsts.contains_cases z zs y c) [
  | inl is ↦ subst (λ b. list_any (same_signs p) (map (λ (w : Row). w.signs) (cond b (z ∷ filter (λ w. same_key w x) zs) (filter (λ w. same_key w x) zs))) ≡ true)
      (sym (ap (λ (w : Row). same_key w x) is ∙ k))
      (or_left (same_signs p z.signs) _ (ap (same_signs p) (ap (λ (w : Row). w.signs) is ∙ e) ∙ same_signs_equiv.refl p))
  | inr later ↦
      let rest = in_filter x p zs y later k e in
      elim (same_key z x) as (λ b. list_any (same_signs p) (map (λ (w : Row). w.signs) (cond b (z ∷ filter (λ w. same_key w x) zs) (filter (λ w. same_key w x) zs))) ≡ true) [
        | true ↦ or_right (same_signs p z.signs) _ rest
        | false ↦ rest
      ]
]

row_of_signs : (formula : Problem) (form : NormalForm) (kept : List Row) → AllWithin (clauses_of formula.constraints) → AreKept (rows_of 1 (clauses_of formula.constraints)) kept → Recovered formula form
    → (o : Ordered form.variables) → (p : List Bool) → length p ≡ length o.vs → odd_sum p ≡ not form.right_side
    → (y : Row) × Contains kept y × (same_key y (record { variables = o.vs; right = form.right_side; signs = []; number = 0 }) ≡ true) × (y.signs ≡ p)
row_of_signs formula form kept within firsts r o p long odd =
    let lits = signed o.vs p in
    let vars = signed_variables o.vs p long in
    let signs = signed_signs o.vs p long in
    let d = distinct_rising 1 o.vs (columns_rise 1 MAX_VARIABLE o.vs o.rise) in
    let each = each_of o.vs form.variables lits vars d o.set_is in
    let sum : excluded_sum lits ≡ not form.right_side = excluded_is lits ∙ ap odd_sum signs ∙ odd in
    let size : length lits ≡ set.len form.variables = each.once in
    let two = r.two in
    let six = r.six in
    let here = stands (clauses_of formula.constraints) 1 lits within (subst (λ (vs : List ℕ). AreRising 1 MAX_VARIABLE vs) (sym vars) o.rise) (omega arith) (omega arith) (r.stands lits each (λ e. not_itself form.right_side (sym sum ∙ e))) in
    let y = firsts.each (row lits here.0) here.1 in
    let parts = and_parts (same_key y.0 (row lits here.0)) (same_signs y.0.signs (negatives lits)) (shape_ties y.0 (row lits here.0) ∙ ap is_eq y.2) in
    let right : not (odd_sum (negatives lits)) ≡ form.right_side = ap (λ (b : List Bool). not (odd_sum b)) signs ∙ ap not odd ∙ twice form.right_side in (
      y.0,
      y.1,
      subst (λ (vs : List ℕ). same_key y.0 (record { variables = vs; right = form.right_side; signs = []; number = 0 }) ≡ true) vars
          (subst (λ b. same_key y.0 (record { variables = variables lits; right = b; signs = []; number = 0 }) ≡ true) right parts.0),
      same_is y.0.signs (negatives lits) parts.1 ∙ signs,
    )
  where
    twice : (b : Bool) → not (not b) ≡ b
    twice true = refl
    twice false = refl

-- ---- the find

zip_at : (kept : List Row) (gs : List (List Row)) (finds : List FoundParity) (g : List Row) → AllZip (Says kept) gs finds → Contains gs g → (f : FoundParity) × Contains finds f × Says kept g f
zip_at kept [] [] g z c = absurd (let lt = c.1 in omega arith)
zip_at kept [] (f ∷ finds) g z c = absurd z
zip_at kept (h ∷ gs) [] g z c = absurd z
zip_at kept (h ∷ gs) (f ∷ finds) g z c = elim (cases h gs g c) [
  | inl e ↦ (f, in_head f finds, subst (λ (x : List Row). Says kept x f) e z.0)
  | inr later ↦ let rest = zip_at kept gs finds g z.1 later in (rest.0, in_tail f finds rest.0 rest.1, rest.2)
]
  where
    cases : (k : List Row) (xs : List (List Row)) (x : List Row) → Contains (k ∷ xs) x → (k ≡ x) ⊎ Contains xs x
    cases k xs x (zero, lt, e) = inl e
    cases k xs x (suc i, lt, e) = inr (i, omega arith, e)

pub all_complete : (formula : Problem) (finds : List FoundParity) → FoundAll formula finds → (form : NormalForm) → Recovered formula form → (f : FoundParity) × Contains finds f × (normal_form f.parity ≡ form)
all_complete formula finds h form r =
    let o = ordered formula form h.within r in
    let x : Row = record { variables = o.vs; right = form.right_side; signs = []; number = 0 } in
    let size : length o.vs ≡ set.len form.variables = sym (len-distinct o.vs (distinct_rising 1 o.vs (columns_rise 1 MAX_VARIABLE o.vs o.rise))) ∙ ap set.len o.set_is in
    let two = r.two in
    let six = r.six in
    let k = length o.vs - 1 in
    let next : suc k ≡ length o.vs = omega arith in
    let of_key = filter (λ (z : Row). same_key z x) h.kept in
    let many = many_patterns k (not form.right_side) (map (λ (z : Row). z.signs) of_key) (λ p m.
    let says = pattern_says (suc k) (not form.right_side) p m in
    let y = row_of_signs formula form h.kept h.within h.firsts r o p (says.0 ∙ next) says.1 in
    in_filter x p h.kept y.0 y.1 y.2 y.3) in
    let long : length (map (λ (z : Row). z.signs) of_key) ≡ length of_key = length-map of_key (λ (z : Row). z.signs) in
    let counted : count x h.kept ≡ length of_key = count-is x h.kept in
    let found = groups_complete h.kept h.firsts.sorted (kept_proper (clauses_of formula.constraints) h.kept h.within h.firsts) x (Rattle.xor_recover.proofs.Grouping.power_low (length o.vs) (omega arith) (omega arith)) (omega arith) in
    let f = zip_at h.kept (groups_of h.kept) finds found.group h.says found.among in
    let y = f.2.group.head in
    let py = head_proper h.kept found.group f.2.group in
    let same : same_key y x ≡ true = ap (λ (z : Row). same_key z x) (same_head y found.head f.2.group.rest found.rest (sym f.2.group.is ∙ found.is)) ∙ found.same in (
      f.0,
      f.1,
      (λ i. record {
        variables = (ap (λ (p : List Literal). (normal_form p).variables) f.2.parity ∙ set_is y.right y.variables (rising_of y py) ∙ ap set_of (variables_same y x same) ∙ o.set_is) i;
        right_side = (ap (λ (p : List Literal). (normal_form p).right_side) f.2.parity ∙ right_is y.right y.variables (let t = (variables_long y py).0 in omega arith) ∙ right_same y x same) i;
      }),
    )
