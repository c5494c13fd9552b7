-- What propagation decides over more variables it decides over fewer.
use Rattle.std.proofs.Common.{◌≡◌, refl, sym, ap, ◌∙◌, subst, ℕ, zero, suc, ◌+◌, ◌-◌, ◌<◌, ◌≤◌, Bool, true, false, not, ◌&&◌, ◌||◌, nat_lt, nat_eq, eqb-true, List, [], ◌∷◌, ◌++◌, Contains, arith, true≢false, ◌⊎◌, inl, inr}
use Rattle.std.specs.List.{list_all, AllByRecursion}
use Rattle.std.specs.FinSet as set
use Rattle.std.proofs.lemmas.Bool.{and_parts, and_from, ltb-true, ltb-false}
use Rattle.std.proofs.Math.Bool.{or-false}
use Rattle.std.proofs.lemmas.List.Folds.{list_all-append, list_any-append}
use Rattle.cx_base.specs.Literals.{Literal, differ, negate, value_of, literal_true, same_literal, positive_of, negative_of}
use Rattle.cx_base.specs.Problem.{Problem, AreWithin, clauses_of, parities_of, parity_met}
use Rattle.cx_base.specs.Parity.{normal_form}
use Rattle.cx_base.proofs.Elements.{in_head, in_tail}
use Rattle.cx_base.proofs.ParityLaws.{sum_below, sum_of_members, Sums-from_met, met-from_Sums}
use Rattle.cx_semantics.specs.Chain.{has_literal, left, count_left}
use Rattle.cx_semantics.specs.Forced.{Solves, Consistent, Forced}
use Rattle.cx_semantics.specs.Fresh.{is_falsified}
use Rattle.cx_semantics.specs.Recovered.{Recovered}
use Rattle.cx_semantics.specs.Settled.{IsClauseOf, IsClosed, IsDecidedBy, SettledBy}
use Rattle.cx_semantics.proofs.Deciding.{clip, bound, bounds, clause-clip, parity-clip, all-clip, implies_or}
use Rattle.cx_semantics.proofs.Members.{has_left, has_right, has_at_head, has_behind}
use Rattle.cx_semantics.proofs.Soundness.{roof, below_roof}
use Rattle.cdcl_core.specs.Narrowing.{over}
use Rattle.cdcl_core.proofs.NarrowValues.{Agree, AllWithin, parity_agrees, literal_agrees, mixed, mixed_agrees, below_mixed, above_mixed}
use Rattle.cdcl_core.proofs.RecoveredWithin.{clauses_within, parities_within, recovered_within}

-- ---- parities have a solution that agrees with a part, or none

bound_some : (lits : List Literal) → 1 ≤ bound lits
bound_some [] = omega arith
bound_some (l ∷ lits) = omega (arith, bound_some lits)

part-clip : (n : ℕ) (v : List Bool) (lits : List Literal) → bound lits ≤ n → list_all (literal_true (clip n v)) lits ≡ list_all (literal_true v) lits
part-clip n v [] h = refl
part-clip n v (l ∷ lits) h =
    let here : bound (l ∷ []) ≤ n = omega (arith, bound_some lits) in
    let rest : bound lits ≤ n = omega arith in
    let same = sym (or-false (literal_true (clip n v) l)) ∙ clause-clip n v (l ∷ []) here ∙ or-false (literal_true v l) in
    (λ i. same i && part-clip n v lits rest i)

pub consistent_or_not : (parities : List (List Literal)) (part : List Literal) → Consistent parities part ⊎ (¬ Consistent parities part)
consistent_or_not parities part =
    let n : ℕ = bounds parities + bound part in
    elim (implies_or n (λ v. list_all (literal_true v) part && list_all (parity_met v) parities) (λ v. false)
    (λ v. (λ i. part-clip n v part (omega arith) i && all-clip parity_met parity-clip n v parities (omega arith) i)) (λ v. refl)) [
      | inl none ↦ inr (λ (v, s). true≢false (sym (none v (and_from _ _ s.agrees s.meets))))
      | inr (v, h, e) ↦ let p = and_parts (list_all (literal_true v) part) (list_all (parity_met v) parities) h in inl (v, record { agrees = p.0; meets = p.1 })
    ]

-- ---- parities that look at variables up to m

abbrev pub LooksBelow : ℕ → List Literal → Type 0
LooksBelow m parity = (v w : List Bool) → Agree m v w → parity_met v parity ≡ true → parity_met w parity ≡ true

all_look : (m : ℕ) (parities : List (List Literal)) (v w : List Bool) → ((p : List Literal) → Contains parities p → LooksBelow m p) → Agree m v w → list_all (parity_met v) parities ≡ true → list_all (parity_met w) parities ≡ true
all_look m [] v w looks a h = refl
all_look m (p ∷ parities) v w looks a h =
    let parts = and_parts (parity_met v p) (list_all (parity_met v) parities) h in
    and_from _ _ (looks p (in_head p parities) v w a parts.0) (all_look m parities v w (λ q c. looks q (in_tail p parities q c)) a parts.1)

one_of : {X : Type 0} (P : X → Type 0) (xs : List X) (x : X) → AllByRecursion P xs → Contains xs x → P x
one_of P [] x a (k, less, e) = absurd (omega (arith, less))
one_of P (y ∷ xs) x a (zero, less, e) = subst P e a.0
one_of P (y ∷ xs) x a (suc k, less, e) = one_of P xs x a.1 (k, omega (arith, less), e)

member_same : (b c d : Bool) → (b ≡ true → c ≡ d) → (b && c) ≡ (b && d)
member_same true c d h = h refl
member_same false c d h = refl

pub recovered_looks : (m : ℕ) (formula : Problem) (p : List Literal) → AllWithin m formula.constraints → Recovered formula (normal_form p) → LooksBelow m p
recovered_looks m formula p within r v w a met =
    let n = roof p in
    let s = (normal_form p).variables in
    let same : sum_of_members n v s ≡ sum_of_members n w s = ap (sum_below n) (λ i x. member_same (set.contains s x) (value_of v x) (value_of w x) (λ e.
    let x_in = recovered_within m formula (normal_form p) within r x e in a x x_in.0 x_in.1) i) in
    met-from_Sums n w p (below_roof n p (omega arith)) (sym same ∙ Sums-from_met n v p (below_roof n p (omega arith)) met)

pub given_looks : (m : ℕ) (formula : Problem) (p : List Literal) → AllWithin m formula.constraints → Contains (parities_of formula.constraints) p → LooksBelow m p
given_looks m formula p within c v w a met = sym (parity_agrees m v w a p (one_of (AreWithin m) (parities_of formula.constraints) p (parities_within m formula.constraints within) c)) ∙ met

-- ---- the literals of the variables above m that are true under some values

true_after : List Bool → ℕ → ℕ → List Literal
true_after v m zero = []
true_after v m (suc k) = record { variable = suc m; negative = not (value_of v (suc m)) } ∷ true_after v (suc m) k

made_true : (b : Bool) → differ (not b) b ≡ true
made_true true = refl
made_true false = refl

above_are_true : (v : List Bool) (m k : ℕ) → list_all (literal_true v) (true_after v m k) ≡ true
unfolding true_after
above_are_true v m zero = refl
above_are_true v m (suc k) = and_from _ _ (made_true (value_of v (suc m))) (above_are_true v (suc m) k)

above_are_mixed : (v w : List Bool) (m j k : ℕ) → m ≤ j → list_all (literal_true (mixed m w v)) (true_after v j k) ≡ true
unfolding true_after
above_are_mixed v w m j zero h = refl
above_are_mixed v w m j (suc k) h =
    and_from _ _ (ap (differ (not (value_of v (suc j)))) (above_mixed m w v (suc j - 1) (omega arith)) ∙ made_true (value_of v (suc j))) (above_are_mixed v w m (suc j) k (omega arith))

not_same : (l x : Literal) → l.variable < x.variable → same_literal l x ≡ false
not_same l x h = elim (nat_eq l.variable x.variable) as (λ b. nat_eq l.variable x.variable ≡ b → (b && not (differ l.negative x.negative)) ≡ false) [
  | true ↦ λ e. let q : l.variable ≡ x.variable = eqb-true l.variable x.variable e in absurd (omega (arith, h, q))
  | false ↦ λ e. refl
] refl

none_below : (v : List Bool) (m k : ℕ) (l : Literal) → l.variable ≤ m → has_literal (true_after v m k) l ≡ false
unfolding true_after
none_below v m zero l h = refl
none_below v m (suc k) l h = ap (λ b. b || has_literal (true_after v (suc m) k) l) (not_same l _ (omega arith)) ∙ none_below v (suc m) k l (omega arith)

sign_is : (a b : Bool) → differ a b ≡ true → a ≡ not b
sign_is true true h = absurd (true≢false (sym h))
sign_is true false h = refl
sign_is false true h = refl
sign_is false false h = absurd (true≢false (sym h))

has_true : (v : List Bool) (m k : ℕ) (l : Literal) → literal_true v l ≡ true → m < l.variable → l.variable ≤ m + k → has_literal (true_after v m k) l ≡ true
unfolding true_after
has_true v m zero l e low high = absurd (omega arith)
has_true v m (suc k) l e low high = elim (nat_eq l.variable (suc m)) as (λ b. nat_eq l.variable (suc m) ≡ b → has_literal (record { variable = suc m; negative = not (value_of v (suc m)) } ∷ true_after v (suc m) k) l ≡ true) [
  | true ↦ λ q.
      let here : l.variable ≡ suc m = eqb-true l.variable (suc m) q in
      let sign : l.negative ≡ not (value_of v (suc m)) = sign_is l.negative (value_of v l.variable) e ∙ ap (λ x. not (value_of v x)) here in
      let is : ◌≡◌ {A = Literal} (record { variable = suc m; negative = not (value_of v (suc m)) }) l = (λ i. record { variable = sym here i; negative = sym sign i }) in
      subst (λ (x : Literal). has_literal (x ∷ true_after v (suc m) k) l ≡ true) (sym is) (has_at_head l (true_after v (suc m) k))
  | false ↦ λ q. has_behind _ (true_after v (suc m) k) l (has_true v (suc m) k l e (later q) (omega arith))
] refl
  where
    later : nat_eq l.variable (suc m) ≡ false → suc m < l.variable
    later q = elim (nat_lt (suc m) l.variable) as (λ b. nat_lt (suc m) l.variable ≡ b → suc m < l.variable) [
      | true ↦ λ t. ltb-true (suc m) l.variable t
      | false ↦ λ t.
          let high = ltb-false (suc m) l.variable t in
          let same : l.variable ≡ suc m = omega (arith, high, low) in
          absurd (true≢false (sym (Rattle.std.proofs.Common.eq-eqb l.variable (suc m) same) ∙ q))
    ] refl

-- ---- mixed values make true what both make true

mixed_true : (m : ℕ) (v w : List Bool) (lits : List Literal) → list_all (literal_true v) lits ≡ true → list_all (literal_true w) lits ≡ true → list_all (literal_true (mixed m v w)) lits ≡ true
mixed_true m v w [] h k = refl
mixed_true m v w (l ∷ lits) h k =
    let p = and_parts (literal_true v l) (list_all (literal_true v) lits) h in
    let q = and_parts (literal_true w l) (list_all (literal_true w) lits) k in
    and_from _ _ (elim (nat_lt (l.variable - 1) m) as (λ b. nat_lt (l.variable - 1) m ≡ b → literal_true (mixed m v w) l ≡ true) [
      | true ↦ λ e. ap (differ l.negative) (below_mixed m v w (l.variable - 1) (ltb-true (l.variable - 1) m e)) ∙ p.0
      | false ↦ λ e. ap (differ l.negative) (above_mixed m v w (l.variable - 1) (ltb-false (l.variable - 1) m e)) ∙ q.0
    ] refl) (mixed_true m v w lits p.1 q.1)

both_pass : (p : Literal → Bool) (xs ys : List Literal) → list_all p xs ≡ true → list_all p ys ≡ true → list_all p (xs ++ ys) ≡ true
both_pass p xs ys h k = list_all-append p xs ys ∙ and_from _ _ h k

-- ---- a closed set is completed by these

module _ (m : ℕ) (formula : Problem) (few : m ≤ formula.variables) (within : AllWithin m formula.constraints) (parities : List (List Literal))
    (looks : (p : List Literal) → Contains parities p → LooksBelow m p) (known : List Literal) (closed : IsClosed (over m formula) parities known) (values : List Bool) (solved : Solves parities known values) where
  added : List Literal
  added = true_after values m (formula.variables - m)

  whole : List Literal
  whole = known ++ added

  same_below : (l : Literal) → l.variable ≤ m → has_literal whole l ≡ has_literal known l
  unfolding whole added
  same_below l h = list_any-append (same_literal l) known added ∙ ap (λ b. has_literal known l || b) (none_below values m (formula.variables - m) l h) ∙ or-false (has_literal known l)

  same_left : (clause : List Literal) → AreWithin m clause → left whole clause ≡ left known clause
  same_left [] w = refl
  same_left (l ∷ clause) w = λ i. Rattle.std.proofs.Common.cond (not (same_below (negate l) w.0.1 i)) (l ∷ same_left clause w.1 i) (same_left clause w.1 i)

  same_falsified : (clause : List Literal) → AreWithin m clause → is_falsified whole clause ≡ is_falsified known clause
  same_falsified [] w = refl
  same_falsified (l ∷ clause) w = λ i. same_below (negate l) w.0.1 i && same_falsified clause w.1 i

  clause_within : (clause : List Literal) → IsClauseOf formula clause → AreWithin m clause
  clause_within clause c = one_of (AreWithin m) (clauses_of formula.constraints) clause (clauses_within m formula.constraints within) c

  -- values of the first m variables, and those of the solution, solve the parities with the whole set
  mixed_solves : (v : List Bool) → Solves parities known v → Solves parities whole (mixed m v values)
  unfolding whole added
  mixed_solves v s = record {
    agrees = both_pass (literal_true (mixed m v values)) known added (mixed_true m v values known s.agrees solved.agrees) (above_are_mixed values v m m (formula.variables - m) (omega arith));
    meets = all_look m parities v (mixed m v values) looks (λ x low high. sym (mixed_agrees m v values x low high)) s.meets;
  }

  solved_whole : Solves parities whole values
  unfolding whole added
  solved_whole = record { agrees = both_pass (literal_true values) known added solved.agrees (above_are_true values m (formula.variables - m)); meets = solved.meets }

  has_forced : (l : Literal) → 1 ≤ l.variable → l.variable ≤ formula.variables → Forced parities whole l → has_literal whole l ≡ true
  unfolding whole added
  has_forced l low high f = elim (nat_lt m l.variable) as (λ b. nat_lt m l.variable ≡ b → has_literal (known ++ true_after values m (formula.variables - m)) l ≡ true) [
    | true ↦ λ e. has_right known added l (has_true values m (formula.variables - m) l (f values solved_whole) (ltb-true m l.variable e) (omega (arith, few, high)))
    | false ↦ λ e.
        let below = ltb-false m l.variable e in
        has_left known added l (closed.forced l low below (λ v s. sym (literal_agrees m (mixed m v values) v (mixed_agrees m v values) l low below) ∙ f (mixed m v values) (mixed_solves v s)))
  ] refl

  has_kept : (l : Literal) → has_literal known l ≡ true → has_literal whole l ≡ true
  unfolding whole
  has_kept l h = has_left known added l h

  whole_is_closed : IsClosed formula parities whole
  whole_is_closed = record {
    units = λ clause l c e. has_kept l (closed.units clause l c (ap count_left (sym (same_left clause (clause_within clause c))) ∙ e));
    forced = has_forced;
  }

  decided_below : IsDecidedBy formula parities whole → IsDecidedBy (over m formula) parities known
  decided_below d = elim d [
    | inl (clause, c, f) ↦ inl (clause, c, sym (same_falsified clause (clause_within clause c)) ∙ f)
    | inr rest ↦ elim rest [
      | inl none ↦ absurd (none (values, solved_whole))
      | inr decides ↦ inr (inr (λ x low high. (λ i. sym (same_below (positive_of x) high) i || sym (same_below (negative_of x) high) i) ∙ decides x low (omega (arith, few, high))))
    ]
  ]

pub settled_over_fewer : (m : ℕ) (formula : Problem) → m ≤ formula.variables → AllWithin m formula.constraints → (parities : List (List Literal))
    → ((p : List Literal) → Contains parities p → LooksBelow m p) → SettledBy formula parities → SettledBy (over m formula) parities
settled_over_fewer m formula few within parities looks settled known closed = elim (consistent_or_not parities known) [
  | inl (values, solved) ↦ decided_below m formula few within parities looks known closed values solved (settled (whole m formula few within parities looks known closed values solved) (whole_is_closed m formula few within parities looks known closed values solved))
  | inr none ↦ inr (inl none)
]
