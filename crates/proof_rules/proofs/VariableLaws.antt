-- Marks by variable: what is left, and one meeting more.
use Rattle.std.proofs.Common.{◌≡◌, refl, sym, ap, ◌∙◌, ℕ, zero, suc, ◌<◌, Bool, true, false, cond, not, ◌&&◌, ◌||◌, nat_eq, eqb-true, List, [], ◌∷◌, ◌++◌, length, set, filter, inl, inr, arith, true≢false, nat_cmp}
use Rattle.std.proofs.lemmas.Bool.{cases_eq, cases_lt, ne_eqb}
use Rattle.std.proofs.lemmas.List.{get_or-set_same, get_or-set_other, get_or_past, length-set}
use Rattle.std.proofs.lemmas.List.Folds.{list_any-append}
use Rattle.std.specs.List.{list_any}
use Rattle.std.specs.Cmp.{nat_eq_equiv}
use Rattle.std.specs.FinSet as set_
use Rattle.cx_base.specs.Literals.{differ}
use Rattle.cx_base.specs.Parity.{symmetric_difference}
use Rattle.cx_base.proofs.ParityLaws.{contains-symmetric_difference}
use Rattle.cx_base.proofs.Differences.{same_members, contains-one}
use Rattle.proof_rules.specs.Assignments.{AreDistinct}
use Rattle.proof_rules.specs.VariableMarks.{mark_at, is_met, is_odd, left_over, has_variable, AreMarked, AreMetOnly}
use Rattle.proof_rules.specs.declared.parity_sum.Mark.{Mark}
use Rattle.proof_rules.specs.declared.parity_sum.Mark.TheVariants.{Unmet, Even, Odd}

-- ---- the members of a list that is filtered

and_nothing : (b : Bool) → (b && false) ≡ false
and_nothing true = refl
and_nothing false = refl

has-filter : (p : ℕ → Bool) (xs : List ℕ) (q : ℕ) → has_variable (filter p xs) q ≡ (p q && has_variable xs q)
has-filter p [] q = sym (and_nothing (p q))
has-filter p (x ∷ xs) q = go (p x) refl (nat_eq x q) refl (has-filter p xs q)
  where
    here : nat_eq x q ≡ true → p q ≡ p x
    here e = ap p (sym (eqb-true x q e))

    go : (b : Bool) → p x ≡ b → (e : Bool) → nat_eq x q ≡ e → has_variable (filter p xs) q ≡ (p q && has_variable xs q)
        → has_variable (cond b (x ∷ filter p xs) (filter p xs)) q ≡ (p q && (nat_eq x q || has_variable xs q))
    go true is true at rest = (λ i. at i || has_variable (filter p xs) q) ∙ (λ i. sym (here at ∙ is) i && (sym at i || has_variable xs q))
    go true is false at rest = (λ i. at i || has_variable (filter p xs) q) ∙ rest ∙ (λ i. p q && (sym at i || has_variable xs q))
    go false is true at rest = rest ∙ (λ i. (here at ∙ is) i && has_variable xs q) ∙ (λ i. sym (here at ∙ is) i && (nat_eq x q || has_variable xs q))
    go false is false at rest = rest ∙ (λ i. p q && (sym at i || has_variable xs q))

distinct-filter : (p : ℕ → Bool) (xs : List ℕ) → AreDistinct xs → AreDistinct (filter p xs)
distinct-filter p [] d = tt
distinct-filter p (x ∷ xs) d = go (p x) (distinct-filter p xs d.1)
  where
    apart : has_variable (filter p xs) x ≡ false
    apart = has-filter p xs x ∙ ap (λ b. p x && b) d.0 ∙ and_nothing (p x)

    go : (b : Bool) → AreDistinct (filter p xs) → AreDistinct (cond b (x ∷ filter p xs) (filter p xs))
    go true rest = (apart, rest)
    go false rest = rest

pub distinct-left : (marks : List Mark) (met : List ℕ) → AreMarked marks met → AreDistinct (left_over marks met)
distinct-left marks met are = distinct-filter (λ x. is_odd (mark_at marks x)) met are.once

-- ---- what is left, as a set

abbrev pub left_set : List Mark → List ℕ → set_.FinSet nat_cmp
left_set marks met = set_.from_list (left_over marks met)

odd_is_met : (m : Mark) → (is_odd m && is_met m) ≡ is_odd m
odd_is_met Unmet = refl
odd_is_met Even = refl
odd_is_met Odd = refl

pub contains-left : (marks : List Mark) (met : List ℕ) → AreMarked marks met → (q : ℕ) → set_.contains (left_set marks met) q ≡ is_odd (mark_at marks q)
contains-left marks met are q =
    set_.contains-from_list_nat (left_over marks met) q ∙ has-filter (λ x. is_odd (mark_at marks x)) met q
    ∙ ap (λ b. is_odd (mark_at marks q) && b) (sym (are.listed q)) ∙ odd_is_met (mark_at marks q)

pub left-flipped : (old new : List Mark) (met more : List ℕ) (x : ℕ) → AreMarked old met → AreMarked new more → ((q : ℕ) → is_odd (mark_at new q) ≡ differ (is_odd (mark_at old q)) (nat_eq x q))
    → left_set new more ≡ symmetric_difference (left_set old met) (set_.insert set_.empty x)
left-flipped old new met more x was are h = same_members _ _ (λ q.
    contains-left new more are q ∙ h q
    ∙ (λ i. differ (sym (contains-left old met was q) i) (sym (contains-one x q) i))
    ∙ sym (contains-symmetric_difference (left_set old met) (set_.insert set_.empty x) q))

-- nothing is left
pub none_left : (p : ℕ → Bool) (xs : List ℕ) → list_any p xs ≡ false → filter p xs ≡ []
none_left p [] h = refl
none_left p (x ∷ xs) h = go (p x) h (none_left p xs)
  where
    go : (b : Bool) → (b || list_any p xs) ≡ false → (list_any p xs ≡ false → filter p xs ≡ []) → cond b (x ∷ filter p xs) (filter p xs) ≡ []
    go true h rest = absurd (true≢false h)
    go false h rest = rest h

pub none_odd : (p : ℕ → Bool) (xs : List ℕ) → ((q : ℕ) → p q ≡ false) → list_any p xs ≡ false
none_odd p [] h = refl
none_odd p (x ∷ xs) h = (λ i. h x i || list_any p xs) ∙ none_odd p xs h

pub nothing_left : (marks : List Mark) (met : List ℕ) → AreMarked marks met → left_set marks met ≡ set_.empty → (q : ℕ) → is_odd (mark_at marks q) ≡ false
nothing_left marks met are none q = sym (contains-left marks met are q) ∙ ap (λ s. set_.contains s q) none ∙ set_.contains-empty nat_cmp q

-- ---- one meeting more

mark_here : (f : Mark → Bool) (marks : List Mark) (x q : ℕ) (m : Mark) → x < length marks → f (mark_at (set marks x m) q) ≡ cond (nat_eq x q) (f m) (f (mark_at marks q))
mark_here f marks x q m inside = elim (cases_eq q x) [
  | inl e ↦ ap f (ap (mark_at (set marks x m)) e ∙ get_or-set_same marks x m Unmet inside) ∙ (λ i. cond (sym (ap (nat_eq x) e ∙ nat_eq_equiv.refl x) i) (f m) (f (mark_at marks q)))
  | inr ne ↦ ap f (get_or-set_other marks x q m Unmet ne) ∙ (λ i. cond (sym (ne_eqb x q (λ e. ne (sym e))) i) (f m) (f (mark_at marks q)))
]

odd_here : (b e : Bool) (f : Bool) → (e ≡ true → b ≡ f) → cond e (not f) b ≡ differ b e
odd_here true true f h = ap not (sym (h refl))
odd_here true false f h = refl
odd_here false true f h = ap not (sym (h refl))
odd_here false false f h = refl

-- the mark of a variable turns
pub turned_odd : (old marks : List Mark) (x : ℕ) (m : Mark) → ((q : ℕ) → mark_at marks q ≡ mark_at old q) → x < length marks → is_odd m ≡ not (is_odd (mark_at old x))
    → (q : ℕ) → is_odd (mark_at (set marks x m) q) ≡ differ (is_odd (mark_at old q)) (nat_eq x q)
turned_odd old marks x m same inside turns q =
    mark_here is_odd marks x q m inside ∙ (λ i. cond (nat_eq x q) (turns i) (is_odd (same q i)))
    ∙ odd_here (is_odd (mark_at old q)) (nat_eq x q) (is_odd (mark_at old x)) (λ e. ap (λ y. is_odd (mark_at old y)) (sym (eqb-true x q e)))

pub kept_marked : (old new : List Mark) (met : List ℕ) → ((q : ℕ) → mark_at new q ≡ mark_at old q) → AreMarked old met → AreMarked new met
kept_marked old new met same are = record { listed = λ q. ap is_met (same q) ∙ are.listed q; once = are.once }

-- a variable that was met before
pub met_again : (marks : List Mark) (met : List ℕ) (x : ℕ) (m : Mark) → x < length marks → is_met m ≡ true → is_met (mark_at marks x) ≡ true → AreMarked marks met → AreMarked (set marks x m) met
met_again marks met x m inside now before are = record {
  listed = λ q. mark_here is_met marks x q m inside ∙ (λ i. cond (nat_eq x q) (now i) (is_met (mark_at marks q))) ∙ here q (nat_eq x q) refl ∙ are.listed q;
  once = are.once;
}
  where
    here : (q : ℕ) (e : Bool) → nat_eq x q ≡ e → cond e true (is_met (mark_at marks q)) ≡ is_met (mark_at marks q)
    here q true e = sym before ∙ ap (λ y. is_met (mark_at marks y)) (eqb-true x q e)
    here q false e = refl

or_last : (a b : Bool) → (a || (b || false)) ≡ cond b true a
or_last true true = refl
or_last true false = refl
or_last false true = refl
or_last false false = refl

distinct-push : (xs : List ℕ) (x : ℕ) → AreDistinct xs → has_variable xs x ≡ false → AreDistinct (xs ++ x ∷ [])
distinct-push [] x d h = (refl, tt)
distinct-push (y ∷ ys) x d h = go (nat_eq y x) refl h (distinct-push ys x d.1)
  where
    go : (b : Bool) → nat_eq y x ≡ b → (b || has_variable ys x) ≡ false → (has_variable ys x ≡ false → AreDistinct (ys ++ x ∷ [])) → AreDistinct (y ∷ (ys ++ x ∷ []))
    go true e h rest = absurd (true≢false h)
    go false e h rest = (
      list_any-append (λ z. nat_eq z y) ys (x ∷ []) ∙ (λ i. d.0 i || ((nat_eq_equiv.symm x y ∙ e) i || false)),
      rest h,
    )

-- a variable that was not met before
pub met_first : (marks : List Mark) (met : List ℕ) (x : ℕ) (m : Mark) → x < length marks → is_met m ≡ true → is_met (mark_at marks x) ≡ false → AreMarked marks met → AreMarked (set marks x m) (met ++ x ∷ [])
met_first marks met x m inside now before are = record {
  listed = λ q. mark_here is_met marks x q m inside ∙ (λ i. cond (nat_eq x q) (now i) (are.listed q i))
      ∙ sym (or_last (has_variable met q) (nat_eq x q)) ∙ sym (list_any-append (λ y. nat_eq y q) met (x ∷ []));
  once = distinct-push met x are.once (sym (are.listed x) ∙ before);
}

pub is_inside : (marks : List Mark) (x : ℕ) → is_met (mark_at marks x) ≡ true → x < length marks
is_inside marks x h = elim (cases_lt x (length marks)) [
  | inl inside ↦ inside
  | inr past ↦ absurd (true≢false (sym h ∙ ap is_met (get_or_past marks x Unmet past)))
]

-- ---- no mark is left

pub none_met : (marks : List Mark) → ((x : ℕ) → is_met (mark_at marks x) ≡ false) → AreMarked marks []
none_met marks h = record { listed = h; once = tt }

pub longer_marks : (marks : List Mark) (p : ℕ) → mark_at (marks ++ Unmet ∷ []) p ≡ mark_at marks p
longer_marks [] zero = refl
longer_marks [] (suc p) = refl
longer_marks (m ∷ marks) zero = refl
longer_marks (m ∷ marks) (suc p) = longer_marks marks p

pub met_less : (marks : List Mark) (x : ℕ) (rest : List ℕ) → AreMetOnly marks (x ∷ rest) → AreMetOnly (set marks x Unmet) rest
met_less marks x rest only q h = elim (cases_lt x (length marks)) [
  | inl inside ↦ go (nat_eq x q) refl (sym (mark_here is_met marks x q Unmet inside) ∙ h)
  | inr past ↦ elim (cases_eq q x) [
    | inl e ↦ absurd (true≢false (sym h ∙ ap is_met (get_or_past (set marks x Unmet) q Unmet (omega (arith, past, e, length-set marks x Unmet)))))
    | inr ne ↦ other (nat_eq x q) (ne_eqb x q (λ e. ne (sym e))) (only q (sym (ap is_met (get_or-set_other marks x q Unmet Unmet ne)) ∙ h))
  ]
]
  where
    other : (b : Bool) → b ≡ false → (b || has_variable rest q) ≡ true → has_variable rest q ≡ true
    other true e k = absurd (true≢false e)
    other false e k = k

    go : (b : Bool) → nat_eq x q ≡ b → cond b false (is_met (mark_at marks q)) ≡ true → has_variable rest q ≡ true
    go true e k = absurd (true≢false (sym k))
    go false e k = other (nat_eq x q) e (only q k)

pub none_met_only : (marks : List Mark) (rest : List ℕ) → rest ≡ [] → AreMetOnly marks rest → (x : ℕ) → is_met (mark_at marks x) ≡ false
none_met_only marks rest done only x = go (is_met (mark_at marks x)) refl
  where
    go : (b : Bool) → is_met (mark_at marks x) ≡ b → b ≡ false
    go true e = absurd (true≢false (sym (only x e) ∙ ap (λ xs. has_variable xs x) done))
    go false e = refl
