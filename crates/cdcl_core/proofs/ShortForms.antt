-- The normal form of a row's clause, and of what is left of it without the literals that units make false.
use Rattle.std.proofs.Common.{◌≡◌, refl, sym, ap, ◌∙◌, ℕ, suc, ◌+◌, ◌-◌, ◌≤◌, Bool, true, false, not, ◌||◌, eqb, nat_eq, List, [], ◌∷◌, ◌++◌, map, arith, inl, inr, true≢false}
use Rattle.std.specs.List.{range_with_len}
use Rattle.std.specs.FinSet as set
use Rattle.std.specs.Ordering.{nat_cmp}
use Rattle.std.proofs.Math.Bool.{and-false}
use Rattle.std.proofs.lemmas.List.FromFn.{get_or-map-range_with_len}
use Rattle.cx_base.specs.Literals.{Literal, negate, negative_of, differ, literal_true, same_literal, value_of}
use Rattle.cx_base.specs.Parity.{NormalForm, normal_form, sum_of, odd_sum, HasOneOfEach}
use Rattle.cx_base.specs.Problem.{clause_met, parity_met, AreWithin}
use Rattle.cx_base.proofs.Odd.{parity_met-cons}
use Rattle.cx_base.proofs.Differences.{differ_assoc, differ_itself}
use Rattle.cx_base.proofs.ParityLaws.{contains-symmetric_difference, differ_false, differ_swap, AreBelow, sum_of_members, met-from_Sums}
use Rattle.cx_semantics.specs.Chain.{has_literal}
use Rattle.cx_semantics.proofs.Members.{has_at_head, has_behind}
use Rattle.cx_semantics.proofs.Widths.{variables-normal_form}
use Rattle.conflict_learn.proofs.ChainOfResolutions.{by_cases}
use Rattle.parity_engine.proofs.Forms.{same_form}
use Rattle.parity_engine.proofs.Literals.{contains_parity, right_parity}
use Rattle.cdcl_search.proofs.OneSign.{distinct_of_each, one_sign}
use Rattle.cdcl_core.specs.declared.shortening.UnitClause.{UnitClause}
use Rattle.cdcl_core.specs.Shortening.{ArePartedInto}

positive_differs : (x : ℕ) → same_literal (record { variable = x; negative = false }) (negative_of x) ≡ false
positive_differs x = and-false (nat_eq x x)

-- ---- values that make a clause false
module _ (form : NormalForm) (n : ℕ) (parity clause : List Literal) (normal : normal_form parity ≡ form) (each : HasOneOfEach form.variables clause) (parity_within : AreWithin n parity) (clause_within : AreWithin n clause)
    (follows : (values : List Bool) → parity_met values parity ≡ true → clause_met values clause ≡ true) where
  abbrev against : List Bool
  against = map (λ x. has_literal clause (negative_of x)) (range_with_len 1 n)

  against_at : (x : ℕ) → 1 ≤ x → x ≤ n → value_of against x ≡ has_literal clause (negative_of x)
  against_at x low high = get_or-map-range_with_len (λ y. has_literal clause (negative_of y)) 1 n (x - 1) x false (omega (arith, low, high)) (let is : 1 + (x - 1) ≡ x = omega (arith, low) in is)

  turned_false : (l : Literal) → has_literal clause l ≡ true → value_of against l.variable ≡ has_literal clause (negative_of l.variable) → literal_true against l ≡ false
  turned_false l has is = go l.negative refl
    where
      go : (b : Bool) → l.negative ≡ b → differ l.negative (value_of against l.variable) ≡ false
      go true e = (λ i. differ (e i) ((is ∙ ap (λ b. has_literal clause (record { variable = l.variable; negative = b })) (sym e) ∙ has) i))
      go false e = (λ i. differ (e i) ((is ∙ none) i))
        where
          none : has_literal clause (negative_of l.variable) ≡ false
          none = by_cases (has_literal clause (negative_of l.variable))
              (λ h. absurd (one_sign form clause each l (negative_of l.variable) has h refl
              (ap (λ b. same_literal (record { variable = l.variable; negative = b }) (negative_of l.variable)) e ∙ positive_differs l.variable)))
              (λ h. h)

  none_met : (ls : List Literal) → AreWithin n ls → ((l : Literal) → has_literal ls l ≡ true → has_literal clause l ≡ true) → (clause_met against ls ≡ false) × (parity_met against ls ≡ false)
  none_met [] w h = (refl, refl)
  none_met (l ∷ ls) w h =
      let f = turned_false l (h l (has_at_head l ls)) (against_at l.variable w.0.0 w.0.1) in
      let rest = none_met ls w.1 (λ m k. h m (has_behind l ls m k)) in (
        (λ i. f i || rest.0 i),
        parity_met-cons against l ls ∙ (λ i. differ (f i) (rest.1 i)),
      )

  below : (ls : List Literal) → AreWithin n ls → AreBelow (suc n) ls
  below [] w = tt
  below (l ∷ ls) w = (let high = w.0.1 in omega (arith, high), below ls w.1)

  same_right : (a b s : Bool) → (s ≡ a → ⊥) → (s ≡ b → ⊥) → a ≡ b
  same_right true true s h k = refl
  same_right false false s h k = refl
  same_right true false true h k = absurd (h refl)
  same_right true false false h k = absurd (k refl)
  same_right false true true h k = absurd (k refl)
  same_right false true false h k = absurd (h refl)

  -- A clause with one literal of each variable that follows from a parity has its normal form: values that make all of the clause false miss both.
  pub clause_form : normal_form clause ≡ form
  clause_form = λ i. record { variables = variables_same i; right_side = right_same i }
    where
      variables_same : (normal_form clause).variables ≡ form.variables
      variables_same = variables-normal_form clause (distinct_of_each form clause each) ∙ each.same

      missed : parity_met against parity ≡ true → ⊥
      missed met = true≢false (sym (follows against met) ∙ (none_met clause clause_within (λ l h. h)).0)

      right_same : (normal_form clause).right_side ≡ form.right_side
      right_same = same_right (normal_form clause).right_side form.right_side (sum_of_members (suc n) against form.variables)
          (λ e. true≢false (sym (met-from_Sums (suc n) against clause (below clause clause_within) (ap (sum_of_members (suc n) against) variables_same ∙ e)) ∙ (none_met clause clause_within (λ l h. h)).1))
          (λ e. missed (met-from_Sums (suc n) against parity (below parity parity_within) (ap (λ (f : NormalForm). sum_of_members (suc n) against f.variables) normal ∙ e ∙ ap (λ (f : NormalForm). f.right_side) (sym normal))))

-- ---- sums of bits
through : {X Y : Type 0} (f : Y → Bool) (g : X → Y) (xs : List X) → odd_sum (map f (map g xs)) ≡ odd_sum (map (λ x. f (g x)) xs)
through f g [] = refl
through f g (x ∷ xs) = ap (differ (f (g x))) (through f g xs)

two_sums : {X : Type 0} (f : X → Bool) (xs ys : List X) → odd_sum (map f (xs ++ ys)) ≡ differ (odd_sum (map f xs)) (odd_sum (map f ys))
two_sums f [] ys = refl
two_sums f (x ∷ xs) ys = ap (differ (f x)) (two_sums f xs ys) ∙ sym (differ_assoc (f x) (odd_sum (map f xs)) (odd_sum (map f ys)))

-- a bit of each literal, and one of each unit that is that of the literal's negation: those of what is left have the same sum
module _ (f : Literal → Bool) (g : UnitClause → Bool) (same : (u : UnitClause) → g u ≡ f (negate u.literal)) where
  parted_sum : (lits left : List Literal) (units : List UnitClause) → ArePartedInto lits left units → differ (odd_sum (map f lits)) (odd_sum (map g units)) ≡ odd_sum (map f left)
  parted_sum [] left units p = ap (λ us. odd_sum (map g us)) p.1 ∙ sym (ap (λ ls. odd_sum (map f ls)) p.0)
  parted_sum (l ∷ lits) left units (inl p) =
      differ_assoc (f l) (odd_sum (map f lits)) (odd_sum (map g units)) ∙ ap (differ (f l)) (parted_sum lits p.0 units p.2) ∙ sym (ap (λ ls. odd_sum (map f ls)) p.1)
  parted_sum (l ∷ lits) left units (inr p) =
      let u = p.0 in
      ap (λ us. differ (differ (f l) (odd_sum (map f lits))) (odd_sum (map g us))) p.2
      ∙ differ_swap (f l) (odd_sum (map f lits)) (g u) (odd_sum (map g p.1))
      ∙ ap (λ b. differ b (differ (odd_sum (map f lits)) (odd_sum (map g p.1)))) (ap (λ b. differ b (g u)) (ap f p.3 ∙ sym (same u)) ∙ differ_itself (g u))
      ∙ parted_sum lits left p.1 p.4

-- ---- sums of parities
contains_sum : (fs : List NormalForm) (y : ℕ) → set.contains (sum_of fs).variables y ≡ odd_sum (map (λ f. set.contains f.variables y) fs)
unfolding sum_of
contains_sum [] y = set.contains-empty nat_cmp y
contains_sum (f ∷ fs) y = contains-symmetric_difference f.variables (sum_of fs).variables y ∙ ap (differ (set.contains f.variables y)) (contains_sum fs y)

right_sum : (fs : List NormalForm) → (sum_of fs).right_side ≡ odd_sum (map (λ f. f.right_side) fs)
unfolding sum_of
right_sum [] = refl
right_sum (f ∷ fs) = ap (differ f.right_side) (right_sum fs)

turned_first : (a b : Bool) → differ (not a) b ≡ not (differ a b)
turned_first true true = refl
turned_first true false = refl
turned_first false true = refl
turned_first false false = refl

-- the parity of a unit
abbrev pub alone : UnitClause → List Literal
alone u = u.literal ∷ []

-- parities whose sum is the clause's, and those of the units, have the sum of what is left
pub left_is_sum : (lits left : List Literal) (units : List UnitClause) → ArePartedInto lits left units → (fs : List NormalForm) → normal_form lits ≡ sum_of fs → normal_form left ≡ sum_of (fs ++ map normal_form (map alone units))
left_is_sum lits left units p fs is = sym (same_form (sum_of (fs ++ gs)) (normal_form left) variables right)
  where
    gs : List NormalForm
    gs = map normal_form (map alone units)

    all_units : (h : NormalForm → Bool) → odd_sum (map h gs) ≡ odd_sum (map (λ u. h (normal_form (alone u))) units)
    all_units h = through h normal_form (map alone units) ∙ through (λ ls. h (normal_form ls)) alone units

    variables : (y : ℕ) → set.contains (sum_of (fs ++ gs)).variables y ≡ set.contains (normal_form left).variables y
    variables y =
        let has : NormalForm → Bool = λ f. set.contains f.variables y in
        let of : Literal → Bool = λ l. eqb l.variable y in
        contains_sum (fs ++ gs) y ∙ two_sums has fs gs
        ∙ (λ i. differ ((sym (contains_sum fs y) ∙ ap has (sym is) ∙ contains_parity lits y) i) (all_units has i))
        ∙ parted_sum of (λ u. has (normal_form (alone u))) (λ u. contains_parity (alone u) y ∙ differ_false (eqb u.literal.variable y)) lits left units p
        ∙ sym (contains_parity left y)

    right : (sum_of (fs ++ gs)).right_side ≡ (normal_form left).right_side
    right =
        let side : NormalForm → Bool = λ f. f.right_side in
        let minus : Literal → Bool = λ l. l.negative in
        right_sum (fs ++ gs) ∙ two_sums side fs gs
        ∙ (λ i. differ ((sym (right_sum fs) ∙ ap side (sym is) ∙ right_parity lits) i) (all_units side i))
        ∙ turned_first (odd_sum (map minus lits)) (odd_sum (map (λ u. side (normal_form (alone u))) units))
        ∙ ap not (parted_sum minus (λ u. side (normal_form (alone u))) (λ u. right_parity (alone u) ∙ ap not (differ_false u.literal.negative)) lits left units p)
        ∙ sym (right_parity left)
