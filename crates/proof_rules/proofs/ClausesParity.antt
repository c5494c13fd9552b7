-- Clauses imply a parity where they exclude each assignment of the wrong sum.
use Rattle.std.proofs.Common.{◌≡◌, refl, sym, ap, ◌∙◌, ℕ, suc, ◌*◌, ◌^◌, ◌%◌, ◌<◌, ◌≤◌, Bool, true, false, not, ◌||◌, List, [], ◌∷◌, map, length, get_or, Some, None, nat_lt, lt-ltb, le-ltb, arith, inl, inr, true≢false}
use Rattle.std.specs.List.{list_any, cons_option}
use Rattle.std.specs.FinSet as set
use Rattle.std.specs.Ordering.{nat_cmp}
use Rattle.std.proofs.Math.Nat.{pow-succ', mod-eq_of_lt, mul-le-mul_left}
use Rattle.std.proofs.Math.Pow.{pow_mono}
use Rattle.std.proofs.lemmas.Bool.{or_cases, or_parts, and_parts, and_from}
use Rattle.cx_base.specs.Literals.{Literal, differ, value_of}
use Rattle.cx_base.specs.Problem.{clause_met, parity_met}
use Rattle.cx_base.specs.Parity.{normal_form, odd_sum}
use Rattle.cx_semantics.specs.Implied.{Implies, HasCounterexample}
use Rattle.cx_semantics.specs.ProofRules.{all_met, parity_of_clauses}
use Rattle.cx_semantics.specs.Judging.{AllHold, FirstFailure}
use Rattle.cx_semantics.specs.declared.cause.Cause.TheVariants as causes
use Rattle.cx_semantics.specs.Tables.{Table, get, named}
use Rattle.proof_rules.specs.Assignments.{Lists}
use Rattle.cx_semantics.specs.Chain.{HaveSame}
use Rattle.proof_rules.specs.Exclusions.{HasPlaces, excluded, is_hit, all_excluded, Excludes, is_outside}
use Rattle.proof_rules.proofs.ParityValues.{values_by, values-values_by, top, within_top, parity_met-list}
use Rattle.proof_rules.proofs.ExclusionLaws.{get_or-excluded, is_hit-same, place_of, place_of-below, ForEach, for_each-map, falsified, is_hit-place, falsified-unmet, not_falsified-met, inside_by_set, marked_by_all, escape, assigned, map-assigned}

-- ---- clauses and assignments

-- values that meet all clauses are excluded by none
none_falsified : (v : List Bool) (xs : List ℕ) (variables : set.FinSet nat_cmp) → set.from_list xs ≡ variables → (clauses : List (List Literal))
    → list_any (is_outside variables) clauses ≡ false → all_met clause_met clauses v ≡ true → list_any (λ c. falsified c xs (map (value_of v) xs)) clauses ≡ true → ⊥
none_falsified v xs variables same [] o m h = true≢false (sym h)
none_falsified v xs variables same (c ∷ clauses) o m h =
    let a = or_parts (is_outside variables c) _ o in
    let p = and_parts (clause_met v c) _ m in
    elim (or_cases (falsified c xs (map (value_of v) xs)) _ h) [
      | inl e ↦ true≢false (sym p.0 ∙ falsified-unmet v c xs (inside_by_set variables xs same c a.0) e)
      | inr e ↦ none_falsified v xs variables same clauses a.1 p.1 e
    ]

-- values that no clause excludes meet all of them
all_met_by : (v : List Bool) (xs : List ℕ) (clauses : List (List Literal)) → list_any (λ c. falsified c xs (map (value_of v) xs)) clauses ≡ false → all_met clause_met clauses v ≡ true
all_met_by v xs [] h = refl
all_met_by v xs (c ∷ clauses) h = let p = or_parts (falsified c xs (map (value_of v) xs)) _ h in and_from _ _ (not_falsified-met v c xs p.0) (all_met_by v xs clauses p.1)

not_met : (a b : Bool) → not (differ a b) ≡ false → differ b a ≡ true
not_met true true h = absurd (true≢false h)
not_met true false h = refl
not_met false true h = refl
not_met false false h = absurd (true≢false h)

met_not : (a b : Bool) → differ b a ≡ true → not (differ a b) ≡ false
met_not true true h = absurd (true≢false (sym h))
met_not true false h = refl
met_not false true h = refl
met_not false false h = absurd (true≢false (sym h))

module _ (target : List Literal) (clauses : List (List Literal)) (xs : List ℕ) (table : List Bool)
    (lists : Lists (normal_form target).variables xs) (table_is : Excludes xs clauses table) where
  -- what the table has at an assignment
  marked_at : (bits : List Bool) → ForEach xs bits → get_or table (place_of 0 1 bits) false ≡ list_any (λ c. falsified c xs bits) clauses
  marked_at bits e =
      let one : 0 < 1 = omega arith in
      table_is.marked (place_of 0 1 bits) (place_of-below xs bits 0 1 (length table) e table_is.reach one) ∙ (λ i. list_any (λ c. is_hit-place c xs bits 0 1 e one i) clauses)

  pub implied : list_any (is_outside (normal_form target).variables) clauses ≡ false → all_excluded xs 0 1 (normal_form target).right_side table ≡ true → Implies (all_met clause_met clauses) (λ v. parity_met v target)
  implied inside h v met = go (parity_met v target) refl
    where
      go : (b : Bool) → parity_met v target ≡ b → parity_met v target ≡ true
      go true e = e
      go false e =
          let bits = map (value_of v) xs in
          let each = for_each-map (value_of v) xs in
          let wrong = not_met (odd_sum bits) (normal_form target).right_side (sym (parity_met-list target xs v lists) ∙ e) in
          absurd (none_falsified v xs (normal_form target).variables lists.same clauses inside met
          (sym (marked_at bits each) ∙ marked_by_all xs 0 1 (normal_form target).right_side table h bits each wrong))

  pub refused : all_excluded xs 0 1 (normal_form target).right_side table ≡ false → HasCounterexample (all_met clause_met clauses) (λ v. parity_met v target)
  refused h =
      let r = escape xs 0 1 (normal_form target).right_side table h in
      let v = values_by (top xs) (assigned xs r.bits) in
      let given : map (value_of v) xs ≡ r.bits = values-values_by (top xs) (assigned xs r.bits) xs lists.positive (within_top (top xs) xs (omega arith)) ∙ map-assigned xs r.bits lists.once r.each in (
        v,
        all_met_by v xs clauses (ap (λ bits. list_any (λ c. falsified c xs bits) clauses) given ∙ sym (marked_at r.bits r.each) ∙ r.unmarked),
        parity_met-list target xs v lists ∙ met_not (odd_sum (map (value_of v) xs)) (normal_form target).right_side (ap (λ bits. differ (normal_form target).right_side (odd_sum bits)) given ∙ r.wrong_sum),
      )

-- ---- the table's length

fits_power : (xs : List ℕ) (step n : ℕ) → step * 2 ^ length xs ≤ n → HasPlaces xs step n
fits_power [] step n h = let k : step * 2 ^ 0 ≡ step = omega arith in omega arith
fits_power (x ∷ xs) step n h =
    let double : 2 ^ suc (length xs) ≡ 2 * 2 ^ length xs = pow-succ' 2 (length xs) in
    let whole : step * 2 ^ suc (length xs) ≡ (2 * step) * 2 ^ length xs = ap (λ k. step * k) double ∙ (omega arith) in
    let none : 0 ≤ length xs = omega arith in
    let some : 1 ≤ 2 ^ length xs = pow_mono none in
    let once : (2 * step) * 1 ≤ (2 * step) * 2 ^ length xs = mul-le-mul_left (2 * step) some in
    (omega arith, fits_power xs (2 * step) n (omega arith))

pub small_power : (n : ℕ) → n ≤ 60 → (1 * 2 ^ n) % 18446744073709551616 ≡ 2 ^ n
small_power n h =
    let k : 2 ^ n ≤ 2 ^ 60 = pow_mono h in
    ap (λ m. m % 18446744073709551616) (one_times (2 ^ n)) ∙ mod-eq_of_lt (omega arith)
  where
    one_times : (m : ℕ) → 1 * m ≡ m
    one_times m = omega arith

pub reach_of_power : (xs : List ℕ) (n : ℕ) → n ≡ 2 ^ length xs → HasPlaces xs 1 n
reach_of_power xs n h = fits_power xs 1 n (omega arith)

-- ---- one hint at a time

abbrev pub marks : List ℕ → ℕ → List (List Literal) → Bool
marks xs j clauses = list_any (λ clause. is_hit clause xs 0 1 j) clauses

pub marks-hint : (xs : List ℕ) (j : ℕ) (table : Table) (n : ℕ) (ns : List ℕ) (clause : List Literal) → get table n ≡ Some clause → (is_hit clause xs 0 1 j || marks xs j (named table ns)) ≡ marks xs j (named table (n ∷ ns))
marks-hint xs j table n ns clause h = ap (λ o. marks xs j (cons_option o (named table ns))) (sym h)

pub marks-no_hint : (xs : List ℕ) (j : ℕ) (table : Table) (n : ℕ) (ns : List ℕ) → get table n ≡ None → marks xs j (named table ns) ≡ marks xs j (named table (n ∷ ns))
marks-no_hint xs j table n ns h = ap (λ o. marks xs j (cons_option o (named table ns))) (sym h)

or_swap : (a b c : Bool) → ((b || a) || c) ≡ (a || (b || c))
or_swap true true c = refl
or_swap true false c = refl
or_swap false true c = refl
or_swap false false c = refl

-- the marks of one more clause
pub one_more : (set clause : List Literal) → HaveSame set clause → (xs : List ℕ) (j : ℕ) (old new : List Bool) (rest : Bool) → new ≡ excluded set xs 0 1 old → j < length old
    → (get_or new j false || rest) ≡ (get_or old j false || (is_hit clause xs 0 1 j || rest))
one_more set clause same xs j old new rest e h =
    ap (λ t. get_or t j false || rest) e ∙ ap (λ b. b || rest) (get_or-excluded set xs 0 1 old j h ∙ ap (λ b. b || get_or old j false) (is_hit-same set clause same xs 0 1 j))
    ∙ or_swap (get_or old j false) (is_hit clause xs 0 1 j) rest

-- ---- the rules in order

module _ (target : List Literal) (clauses : List (List Literal)) where
  wide : 12 < set.len (normal_form target).variables → nat_lt 12 (set.len (normal_form target).variables) ≡ true
  wide h = lt-ltb 12 (set.len (normal_form target).variables) h

  narrow : set.len (normal_form target).variables ≤ 12 → nat_lt 12 (set.len (normal_form target).variables) ≡ false
  narrow h = le-ltb 12 (set.len (normal_form target).variables) h

  pub too_wide_fails : 12 < set.len (normal_form target).variables → FirstFailure (parity_of_clauses target clauses) causes.TooWide
  too_wide_fails h = inl (wide h, refl)

  pub outside_fails : set.len (normal_form target).variables ≤ 12 → list_any (is_outside (normal_form target).variables) clauses ≡ true → FirstFailure (parity_of_clauses target clauses) causes.ClauseOutside
  outside_fails h k = inr (narrow h, inl (k, refl))

  module _ (xs : List ℕ) (table : List Bool) (lists : Lists (normal_form target).variables xs) (table_is : Excludes xs clauses table) where
    pub refused_fails : set.len (normal_form target).variables ≤ 12 → list_any (is_outside (normal_form target).variables) clauses ≡ false → all_excluded xs 0 1 (normal_form target).right_side table ≡ false
        → FirstFailure (parity_of_clauses target clauses) causes.NotImplied
    refused_fails h k e = inr (narrow h, inr (k, inl (refused target clauses xs table lists table_is e, refl)))

    pub implied_holds : set.len (normal_form target).variables ≤ 12 → list_any (is_outside (normal_form target).variables) clauses ≡ false → all_excluded xs 0 1 (normal_form target).right_side table ≡ true
        → AllHold (parity_of_clauses target clauses)
    implied_holds h k e = (narrow h, (k, (implied target clauses xs table lists table_is k e, tt)))
