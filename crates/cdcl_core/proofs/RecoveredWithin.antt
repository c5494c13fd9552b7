-- The variables of a recovered parity are those of clauses.
use Rattle.std.proofs.Common.{◌≡◌, refl, sym, ap, ◌∙◌, subst, ℕ, suc, ◌+◌, ◌≤◌, Bool, true, false, cond, not, ◌||◌, nat_eq, eqb-true, List, [], ◌∷◌, map, length, count_by, arith, true≢false, inl, inr}
use Rattle.std.specs.List.{list_any, list_all, AllByRecursion}
use Rattle.std.specs.Ordering.{nat_cmp, eq_by_cmp}
use Rattle.std.specs.Cmp.{nat_cmp_total}
use Rattle.std.specs.FinSet as set
use Rattle.std.proofs.lemmas.Bool.{and_parts, or_cases}
use Rattle.cx_base.specs.Literals.{Literal, differ, positive_of}
use Rattle.cx_base.specs.Problem.{Problem, AreWithin, clauses_of, parities_of}
use Rattle.cx_base.specs.Parity.{NormalForm, HasOneOfEach}
use Rattle.cx_base.specs.declared.constraint.Constraint.{Constraint}
use Rattle.cx_base.specs.declared.constraint.Constraint.TheVariants as constraint
use Rattle.cx_base.proofs.Odd.{is_odd, is_odd-count}
use Rattle.cx_base.proofs.ParityLaws.{differ_false}
use Rattle.cx_semantics.specs.Chain.{has_literal, is_inside, same_literals}
use Rattle.cx_semantics.specs.Recovered.{Recovered, excluded_sum}
use Rattle.cx_semantics.proofs.Members.{has_split}
use Rattle.cdcl_core.proofs.NarrowValues.{AllWithin}

-- ---- within

pub has_within : (m : ℕ) (lits : List Literal) (l : Literal) → AreWithin m lits → has_literal lits l ≡ true → (1 ≤ l.variable) × (l.variable ≤ m)
has_within m [] l w h = absurd (true≢false (sym h))
has_within m (x ∷ lits) l w h = elim (has_split x lits l h) [
  | inl e ↦ subst (λ (y : Literal). (1 ≤ y.variable) × (y.variable ≤ m)) (sym e) w.0
  | inr later ↦ has_within m lits l w.1 later
]

inside_within : (m : ℕ) (lits clause : List Literal) → AreWithin m clause → list_all (has_literal clause) lits ≡ true → AreWithin m lits
inside_within m [] clause w h = tt
inside_within m (l ∷ lits) clause w h = let p = and_parts (has_literal clause l) (list_all (has_literal clause) lits) h in (has_within m clause l w p.0, inside_within m lits clause w p.1)

same_within : (m : ℕ) (lits : List Literal) (clauses : List (List Literal)) → AllByRecursion (AreWithin m) clauses → list_any (same_literals lits) clauses ≡ true → AreWithin m lits
same_within m lits [] w h = absurd (true≢false (sym h))
same_within m lits (c ∷ clauses) w h = elim (or_cases (same_literals lits c) (list_any (same_literals lits) clauses) h) [
  | inl e ↦ inside_within m lits c w.0 (and_parts (is_inside lits c) (is_inside c lits) e).0
  | inr later ↦ same_within m lits clauses w.1 later
]

variable_within : (m x : ℕ) (lits : List Literal) → AreWithin m lits → list_any (λ y. nat_eq y x) (map (λ l. l.variable) lits) ≡ true → (1 ≤ x) × (x ≤ m)
variable_within m x [] w h = absurd (true≢false (sym h))
variable_within m x (l ∷ lits) w h = elim (or_cases (nat_eq l.variable x) (list_any (λ y. nat_eq y x) (map (λ k. k.variable) lits)) h) [
  | inl e ↦ subst (λ y. (1 ≤ y) × (y ≤ m)) (eqb-true l.variable x e) w.0
  | inr later ↦ variable_within m x lits w.1 later
]

pub clauses_within : (m : ℕ) (cs : List Constraint) → AllWithin m cs → AllByRecursion (AreWithin m) (clauses_of cs)
unfolding clauses_of
clauses_within m [] w = tt
clauses_within m (constraint.Clause lits ∷ cs) w = (w.0, clauses_within m cs w.1)
clauses_within m (constraint.Parity lits ∷ cs) w = clauses_within m cs w.1
clauses_within m (constraint.Assume lits ∷ cs) w = clauses_within m cs w.1

pub parities_within : (m : ℕ) (cs : List Constraint) → AllWithin m cs → AllByRecursion (AreWithin m) (parities_of cs)
unfolding parities_of
parities_within m [] w = tt
parities_within m (constraint.Clause lits ∷ cs) w = parities_within m cs w.1
parities_within m (constraint.Parity lits ∷ cs) w = (w.0, parities_within m cs w.1)
parities_within m (constraint.Assume lits ∷ cs) w = parities_within m cs w.1

-- ---- a set as a list of different numbers

record Listed (s : set.FinSet nat_cmp) : Type 0 where
  xs : List ℕ
  same : set.from_list xs ≡ s
  long : length xs ≡ set.len s

absorbed : (a b : Bool) → (a ≡ true → b ≡ true) → (a || b) ≡ b
absorbed true b h = sym (h refl)
absorbed false b h = refl

inserted_again : (s : set.FinSet nat_cmp) (k : ℕ) → set.contains s k ≡ true → set.insert s k ≡ s
inserted_again s k h = set.same_set nat_cmp_total set.nat_cmp-IsAntisymmetric _ s (λ q.
    set.contains-insert nat_cmp_total s k q ∙ absorbed (eq_by_cmp nat_cmp q k) (set.contains s q) (λ e. sym (set.contains_tied nat_cmp_total s q k ((Rattle.std.specs.Cmp.Equal-is (nat_cmp q k)).0 e)) ∙ h))

listed_of : (ks : List ℕ) → Listed (set.from_list ks)
listed_of [] = record { xs = []; same = refl; long = sym (set.len-empty nat_cmp) }
listed_of (k ∷ ks) = elim (set.contains (set.from_list {R = nat_cmp} ks) k) as (λ b. set.contains (set.from_list {R = nat_cmp} ks) k ≡ b → Listed (set.insert (set.from_list ks) k)) [
  | true ↦ λ e. subst Listed (sym (inserted_again (set.from_list ks) k e)) (listed_of ks)
  | false ↦ λ e.
      let rest = listed_of ks in
      let more : set.len (set.insert (set.from_list {R = nat_cmp} ks) k) ≡ set.len (set.from_list {R = nat_cmp} ks) + 1 =
      set.len-insert nat_cmp_total (set.from_list ks) k ∙ ap (λ b. cond b (set.len (set.from_list {R = nat_cmp} ks)) (set.len (set.from_list {R = nat_cmp} ks) + 1)) e in
      let before = rest.long in
      record { xs = k ∷ rest.xs; same = ap (λ s. set.insert s k) rest.same; long = omega (arith, more, before) }
] refl

listed : (s : set.FinSet nat_cmp) → Listed s
listed s = subst Listed (set.same_set nat_cmp_total set.nat_cmp-IsAntisymmetric _ s (λ q. set.contains-from_list nat_cmp_total (set.items s) q ∙ sym (set.contains-items s q))) (listed_of (set.items s))

-- ---- a literal of each, the first one with this sign

abbrev signed : Bool → List ℕ → List Literal
signed negative [] = []
signed negative (x ∷ xs) = record { variable = x; negative = negative } ∷ map positive_of xs

positive_variables : (xs : List ℕ) → map (λ l. l.variable) (map positive_of xs) ≡ xs
positive_variables [] = refl
positive_variables (x ∷ xs) = ap (λ ys. x ∷ ys) (positive_variables xs)

signed_variables : (negative : Bool) (xs : List ℕ) → map (λ l. l.variable) (signed negative xs) ≡ xs
signed_variables negative [] = refl
signed_variables negative (x ∷ xs) = ap (λ ys. x ∷ ys) (positive_variables xs)

length-positive : (xs : List ℕ) → length (map positive_of xs) ≡ length xs
length-positive [] = refl
length-positive (x ∷ xs) = ap suc (length-positive xs)

length-signed : (negative : Bool) (xs : List ℕ) → length (signed negative xs) ≡ length xs
length-signed negative [] = refl
length-signed negative (x ∷ xs) = ap suc (length-positive xs)

positive_sum : (xs : List ℕ) → is_odd (count_by (λ l. l.negative) (map positive_of xs)) ≡ false
positive_sum [] = refl
positive_sum (x ∷ xs) = is_odd-count (λ l. l.negative) (positive_of x) (map positive_of xs) ∙ positive_sum xs

signed_sum : (negative : Bool) (xs : List ℕ) → 1 ≤ length xs → excluded_sum (signed negative xs) ≡ negative
signed_sum negative [] h = absurd (omega arith)
signed_sum negative (x ∷ xs) h =
    is_odd-count (λ l. l.negative) (record { variable = x; negative = negative }) (map positive_of xs) ∙ ap (differ negative) (positive_sum xs) ∙ differ_false negative

not_itself : (b : Bool) → not b ≡ b → ⊥
not_itself true e = true≢false (sym e)
not_itself false e = true≢false e

pub recovered_within : (m : ℕ) (formula : Problem) (form : NormalForm) → AllWithin m formula.constraints → Recovered formula form → (x : ℕ) → set.contains form.variables x ≡ true → (1 ≤ x) × (x ≤ m)
recovered_within m formula form within r x member =
    let all = listed form.variables in
    let lits = signed (not form.right_side) all.xs in
    let vars = signed_variables (not form.right_side) all.xs in
    let long = all.long in
    let two = r.two in
    let some : 1 ≤ length all.xs = omega (arith, long, two) in
    let each : HasOneOfEach form.variables lits = record { same = ap set.from_list vars ∙ all.same; once = length-signed (not form.right_side) all.xs ∙ all.long } in
    let stands = r.stands lits each (λ e. not_itself form.right_side (sym (signed_sum (not form.right_side) all.xs some) ∙ e)) in
    variable_within m x lits (same_within m lits (clauses_of formula.constraints) (clauses_within m formula.constraints within) stands)
    (sym (set.contains-from_list_nat (map (λ l. l.variable) lits) x) ∙ ap (λ s. set.contains s x) each.same ∙ member)
