-- What the search knows of assumed literals goes on to hold.
use Rattle.std.proofs.Common.{◌≡◌, refl, sym, ap, ◌∙◌, subst, ℕ, zero, suc, ◌+◌, ◌-◌, ◌<◌, ◌≤◌, nat_lt, nat_eq, eqb-true, Bool, true, false, min, not, ◌||◌, ◌⊎◌, List, [], ◌∷◌, ◌++◌, length, get_or, arith, true≢false, length-append, append-nil, append_assoc, take, inl, inr}
use Rattle.std.specs.List.{AllByRecursion, list_any}
use Rattle.std.proofs.lemmas.Bool.{ltb-true, ltb-false, eqb-false}
use Rattle.std.proofs.lemmas.List.{get_or_append_left, length_push, take_more}
use Rattle.cx_base.specs.Literals.{Literal, negate, same_literal}
use Rattle.cx_base.proofs.LiteralLaws.{negate-negate}
use Rattle.cx_base.specs.Problem.{AreWithin, literals_of}
use Rattle.cx_base.specs.Assumptions.{assumed_by, assumes, assumptions_of}
use Rattle.cx_base.specs.declared.constraint.Constraint.{Constraint}
use Rattle.cx_base.specs.declared.constraint.Constraint.TheVariants as constraint
use Rattle.cx_base.proofs.Elements.{all_append}
use Rattle.cx_trail.specs.declared.entry.Entry.{Entry}
use Rattle.cx_trail.specs.declared.entry.Reason.TheVariants.{Decision}
use Rattle.cx_trail.specs.Sequence.{TrailState, TakesBack, IsTrail, IsFull, entry_at, no_entry, pushed, IsTrueBy, IsTrueIn, IsOpenIn}
use Rattle.search_policy.specs.Assuming.{AreTrue, KeepsAssumptions, IsDecision, IsFirstOpen, HaveValues, literal_of}
use Rattle.search_policy.specs.declared.assumptions.Assumptions.{Assumptions}

pub by_cases : {A : Type 0} (b : Bool) → (b ≡ true → A) → (b ≡ false → A) → A
by_cases true f g = f refl
by_cases false f g = g refl

-- a literal that is in a list is there whatever the default
pub at_default : (lits : List Literal) (i : ℕ) (d : Literal) → i < length lits → get_or lits i d ≡ literal_of lits i
at_default [] i d less = absurd (omega (arith, less))
at_default (l ∷ lits) zero d less = refl
at_default (l ∷ lits) (suc i) d less = at_default lits i d (omega (arith, less))

-- ---- longer lists of entries
pub entry_left : (xs more : List Entry) (i : ℕ) → i < length xs → entry_at (xs ++ more) i ≡ entry_at xs i
entry_left xs more i less = get_or_append_left xs more no_entry i less

entry_new : (xs : List Entry) (e : Entry) → entry_at (xs ++ e ∷ []) (length xs) ≡ e
entry_new [] e = refl
entry_new (x ∷ xs) e = entry_new xs e

pub true_by_longer : (k j : ℕ) (xs more : List Entry) (l : Literal) → k ≤ j → IsTrueBy k xs l → IsTrueBy j (xs ++ more) l
true_by_longer k j xs more l up (i, less, is, low) = (
  i,
  (let long = length-append xs more in omega (arith, less, long)),
  ap (λ e. e.literal) (entry_left xs more i less) ∙ is,
  (let same : (entry_at (xs ++ more) i).level ≡ (entry_at xs i).level = ap (λ e. e.level) (entry_left xs more i less) in omega (arith, same, low, up)),
)

decision_left : (t u : TrailState) (p : ℕ) → entry_at u.entries p ≡ entry_at t.entries p → IsDecision u p → IsDecision t p
decision_left t u p same (above, is) = (subst (λ e. 0 < e.level) same above, ap (λ e. e.reason) (sym same) ∙ is)

-- where nothing is assumed, nothing contradicts it
pub none_contradicts : (constraints : List Constraint) (a : Assumptions) (t : TrailState) → KeepsAssumptions constraints a t → a.lits.items ≡ [] → KeepsAssumptions constraints (record a { checked = length t.entries }) t
none_contradicts constraints a t k none = record {
  all = k.all;
  within = k.within;
  passed = k.passed;
  few = k.few;
  decided = k.decided;
  reached = k.reached;
  rest = k.rest;
  apart = λ p less. ap (λ (lits : List Literal). list_any (same_literal (negate (entry_at t.entries p).literal)) lits) (sym k.all ∙ none);
  checked = omega arith;
}

module _ (constraints : List Constraint) (a : Assumptions) (t : TrailState) (k : KeepsAssumptions constraints a t) (ok : IsTrail t) where
  -- what propagation adds to the trail
  module _ (u : TrailState) (more : List Entry) (parts : u.entries ≡ t.entries ++ more) (same : u.level ≡ t.level) (vars : u.variables ≡ t.variables) (ok_u : IsTrail u) where
    there : (p : ℕ) → p < length t.entries → entry_at u.entries p ≡ entry_at t.entries p
    there p less = ap (λ es. entry_at es p) parts ∙ entry_left t.entries more p less

    long : length u.entries ≡ length t.entries + length more
    long = ap length parts ∙ length-append t.entries more

    none_new : (p : ℕ) → length t.entries ≤ p → p < length u.entries → IsDecision u p → ⊥
    none_new p high within (above, is) = by_cases (nat_lt 0 (length t.entries))
        (λ e.
        let some = ltb-true 0 (length t.entries) e in
        let last = ap (λ x. x.level) (there (length t.entries - 1) (omega (arith, some))) ∙ ok.newest in
        let less = ok_u.opens (length t.entries - 1) p (omega (arith, some, high)) within above is in
        let top = ok_u.levels p within in
        omega (arith, last, less, top, same))
        (λ e.
        let none = ltb-false 0 (length t.entries) e in
        let deep = ok.deep in
        let top = ok_u.levels p within in
        omega (arith, none, deep, top, same, above))

    pub extended_keeps : KeepsAssumptions constraints a u
    extended_keeps = record {
      all = k.all;
      within = subst (λ n. AreWithin n a.lits.items) (sym vars) k.within;
      passed = λ i less. subst (λ es. IsTrueBy a.level es (literal_of a.lits.items i)) (sym parts) (true_by_longer a.level a.level t.entries more (literal_of a.lits.items i) (omega arith) (k.passed i less));
      few = k.few;
      decided = λ p within low d. by_cases (nat_lt p (length t.entries))
          (λ e.
          let less = ltb-true p (length t.entries) e in
          let is = there p less in
          subst (λ x. assumes constraints x.literal ≡ true) (sym is) (k.decided p less (let lev = ap (λ x. x.level) is in omega (arith, lev, low)) (decision_left t u p is d)))
          (λ e. absurd (none_new p (ltb-false p (length t.entries) e) within d));
      reached = let r = k.reached in omega (arith, r, same);
      rest = λ less. k.rest less ∙ sym same;
      apart = λ p less. subst (λ x. assumes constraints (negate x.literal) ≡ false) (sym (there p (let c = k.checked in omega (arith, less, c)))) (k.apart p less);
      checked = let c = k.checked in let n = long in omega (arith, c, n);
    }

  -- the decision of an assumed literal
  module _ (l : Literal) where
    then : TrailState
    then = pushed t (t.level + 1) l Decision

    abbrev e : Entry
    e = record { literal = l; level = t.level + 1; reason = Decision }

    one_more : length (t.entries ++ e ∷ []) ≡ length t.entries + 1
    one_more = length_push t.entries e

    apart_then : (p : ℕ) → p < a.checked → assumes constraints (negate (entry_at (t.entries ++ e ∷ []) p).literal) ≡ false
    apart_then p less = subst (λ x. assumes constraints (negate x.literal) ≡ false) (sym (entry_left t.entries (e ∷ []) p (let c = k.checked in omega (arith, less, c)))) (k.apart p less)

    is_new : (p : ℕ) → length t.entries ≤ p → p < length (t.entries ++ e ∷ []) → entry_at (t.entries ++ e ∷ []) p ≡ e
    is_new p high within = ap (entry_at (t.entries ++ e ∷ [])) (let n = one_more in let same : p ≡ length t.entries = omega (arith, high, within, n) in same) ∙ entry_new t.entries e

    decided_before : (p : ℕ) → p < length t.entries → (entry_at (t.entries ++ e ∷ []) p).level ≤ a.level → IsDecision (pushed t (t.level + 1) l Decision) p → assumes constraints (entry_at (t.entries ++ e ∷ []) p).literal ≡ true
    decided_before p less low d =
        let is = entry_left t.entries (e ∷ []) p less in
        subst (λ x. assumes constraints x.literal ≡ true) (sym is) (k.decided p less (let lev = ap (λ x. x.level) is in omega (arith, lev, low)) (decision_left t (pushed t (t.level + 1) l Decision) p is d))

    pub assumed_keeps : a.level ≡ t.level → assumes constraints l ≡ true → KeepsAssumptions constraints (record a { level = t.level + 1 }) (pushed t (t.level + 1) l Decision)
    assumed_keeps same is_assumed = record {
      all = k.all;
      within = k.within;
      passed = λ i less. true_by_longer a.level (t.level + 1) t.entries (e ∷ []) (literal_of a.lits.items i) (omega (arith, same)) (k.passed i less);
      few = k.few;
      decided = λ p within low d. by_cases (nat_lt p (length t.entries))
          (λ b.
          let less = ltb-true p (length t.entries) b in
          decided_before p less (let is = ap (λ x. x.level) (entry_left t.entries (e ∷ []) p less) in let top = ok.levels p less in omega (arith, is, top, same)) d)
          (λ b. subst (λ x. assumes constraints x.literal ≡ true) (sym (is_new p (ltb-false p (length t.entries) b) within)) is_assumed);
      reached = omega arith;
      rest = λ less. refl;
      apart = apart_then;
      checked = let c = k.checked in let n = one_more in omega (arith, c, n);
    }

    -- the decision of another one, where each assumed literal is true
    pub free_keeps : a.next ≡ length a.lits.items → KeepsAssumptions constraints a (pushed t (t.level + 1) l Decision)
    free_keeps all_passed = record {
      all = k.all;
      within = k.within;
      passed = λ i less. true_by_longer a.level a.level t.entries (e ∷ []) (literal_of a.lits.items i) (omega arith) (k.passed i less);
      few = k.few;
      decided = λ p within low d. by_cases (nat_lt p (length t.entries))
          (λ b. decided_before p (ltb-true p (length t.entries) b) low d)
          (λ b.
          let is = ap (λ x. x.level) (is_new p (ltb-false p (length t.entries) b) within) in
          let r = k.reached in
          absurd (omega (arith, is, low, r)));
      reached = let r = k.reached in omega (arith, r);
      rest = λ less. absurd (omega (arith, less, all_passed));
      apart = apart_then;
      checked = let c = k.checked in let n = one_more in omega (arith, c, n);
    }

-- ---- back to a level
module _ (constraints : List Constraint) (old new : Assumptions) (t u : TrailState) (k : KeepsAssumptions constraints old t) (level : ℕ) (low : level ≤ t.level) (back : TakesBack level t u) (lits : new.lits.items ≡ old.lits.items)
    (checked : new.checked ≡ min old.checked (length u.entries)) where
  still : (p : ℕ) → p < length u.entries → entry_at t.entries p ≡ entry_at u.entries p
  still p less = ap (λ es. entry_at es p) back.parts ∙ entry_left u.entries back.dropped p less

  few_then : new.checked ≤ length u.entries
  few_then = omega (arith, checked)

  long_back : length t.entries ≡ length u.entries + length back.dropped
  long_back = ap length back.parts ∙ length-append u.entries back.dropped

  apart_back : (p : ℕ) → p < new.checked → assumes constraints (negate (entry_at u.entries p).literal) ≡ false
  apart_back p less = subst (λ x. assumes constraints (negate x.literal) ≡ false) (still p (omega (arith, less, checked))) (k.apart p (omega (arith, less, checked)))

  decided_back : (p : ℕ) → p < length u.entries → (entry_at u.entries p).level ≤ old.level → IsDecision u p → assumes constraints (entry_at u.entries p).literal ≡ true
  decided_back p less small d =
      let is = still p less in
      let n = long_back in
      subst (λ x. assumes constraints x.literal ≡ true) is (k.decided p (omega (arith, less, n)) (let lev = ap (λ x. x.level) is in omega (arith, lev, small)) (decision_left t u p (sym is) d))

  within_back : AreWithin u.variables new.lits.items
  within_back = subst (AreWithin u.variables) (sym lits) (subst (λ n. AreWithin n old.lits.items) (sym back.variables) k.within)

  -- below the levels of the assumed literals
  pub lower_keeps : level < old.level → new.next ≡ 0 → new.level ≡ level → KeepsAssumptions constraints new u
  lower_keeps less none is = record {
    all = lits ∙ k.all;
    within = within_back;
    passed = λ i below. absurd (omega (arith, below, none));
    few = omega (arith, none);
    decided = λ p inside small d. decided_back p inside (omega (arith, small, is, less)) d;
    reached = let same = back.level in omega (arith, same, is);
    rest = λ some. is ∙ sym back.level;
    apart = apart_back;
    checked = few_then;
  }

  kept_place : (i : ℕ) → i < length t.entries → (entry_at t.entries i).level ≤ level → i < length u.entries
  kept_place i less small = by_cases (nat_lt i (length u.entries))
      (λ e. ltb-true i (length u.entries) e)
      (λ e.
      let high = ltb-false i (length u.entries) e in
      let n = long_back in
      let up : level < (entry_at back.dropped (i - length u.entries)).level = back.dropped_high (i - length u.entries) no_entry (omega (arith, high, less, n)) in
      let is : (entry_at t.entries i).level ≡ (entry_at back.dropped (i - length u.entries)).level = ap (λ es. (entry_at es i).level) back.parts ∙ ap (λ x. x.level) (Rattle.std.proofs.lemmas.List.get_or-append_right u.entries back.dropped (length u.entries) i no_entry refl high) in
      absurd (omega (arith, up, is, small)))

  -- not below them
  pub higher_keeps : old.level ≤ level → new.next ≡ old.next → new.level ≡ old.level → KeepsAssumptions constraints new u
  higher_keeps more same_next same_level = record {
    all = lits ∙ k.all;
    within = within_back;
    passed = λ i below.
        let r = k.passed i (omega (arith, below, same_next)) in
        let small = r.3 in
        let inside = kept_place r.0 r.1 (omega (arith, small, more)) in
        let lev = ap (λ x. x.level) (still r.0 inside) in
        subst (λ ls. IsTrueBy new.level u.entries (literal_of ls i)) (sym lits) (r.0, inside, ap (λ x. x.literal) (sym (still r.0 inside)) ∙ r.2, omega (arith, lev, small, same_level));
    few = let f = k.few in let n = ap length lits in omega (arith, f, n, same_next);
    decided = λ p inside small d. decided_back p inside (omega (arith, small, same_level)) d;
    reached = let same = back.level in omega (arith, same, same_level, more);
    rest = λ some.
        let n = ap length lits in
        let r = k.rest (omega (arith, some, n, same_next)) in
        let same = back.level in
        omega (arith, r, same, same_level, more, low);
    apart = apart_back;
    checked = few_then;
  }

-- ---- level 0
pub begun_keeps : (constraints : List Constraint) (a : Assumptions) (t : TrailState) → a.lits.items ≡ assumptions_of constraints → AreWithin t.variables a.lits.items → a.next ≡ 0 → a.level ≡ 0 → a.checked ≡ 0 → t.level ≡ 0
    → KeepsAssumptions constraints a t
begun_keeps constraints a t all within none low unchecked level = record {
  all = all;
  within = within;
  passed = λ i less. absurd (omega (arith, less, none));
  few = omega (arith, none);
  decided = λ p inside small d. absurd (let above = d.0 in omega (arith, small, low, above));
  reached = omega (arith, low);
  rest = λ some. low ∙ sym level;
  apart = λ p less. absurd (omega (arith, less, unchecked));
  checked = omega (arith, unchecked);
}

-- ---- a full trail none of whose literals contradicts an assumed one
same_is_one : (l m : Literal) → same_literal l m ≡ true → l ≡ m
same_is_one l m h = Rattle.cx_base.proofs.LiteralLaws.are_one l m h

within_at : (n : ℕ) (lits : List Literal) (l : Literal) → AreWithin n lits → list_any (same_literal l) lits ≡ true → (1 ≤ l.variable) × (l.variable ≤ n)
within_at n [] l w h = absurd (true≢false (sym h))
within_at n (m ∷ lits) l w h = by_cases (same_literal l m)
    (λ e. subst (λ (x : Literal). (1 ≤ x.variable) × (x.variable ≤ n)) (sym (same_is_one l m e)) w.0)
    (λ e. within_at n lits l w.1 (sym (ap (λ b. b || list_any (same_literal l) lits) e) ∙ h))

one_of_two : (l m : Literal) → m.variable ≡ l.variable → (m ≡ l) ⊎ (m ≡ negate l)
one_of_two l m same = go l.negative m.negative refl refl
  where
    go : (a b : Bool) → l.negative ≡ a → m.negative ≡ b → (m ≡ l) ⊎ (m ≡ negate l)
    go true true p q = inl (λ i. record { variable = same i; negative = (q ∙ sym p) i })
    go false false p q = inl (λ i. record { variable = same i; negative = (q ∙ sym p) i })
    go true false p q = inr (λ i. record { variable = same i; negative = (q ∙ sym (ap not p)) i })
    go false true p q = inr (λ i. record { variable = same i; negative = (q ∙ sym (ap not p)) i })

pub all_assumed_true : (constraints : List Constraint) (a : Assumptions) (t : TrailState) → KeepsAssumptions constraints a t → a.checked ≡ length t.entries → IsFull t → (l : Literal) → assumes constraints l ≡ true → IsTrueIn t.entries l
all_assumed_true constraints a t k checked full l is_assumed =
    let w = within_at t.variables a.lits.items l k.within (ap (list_any (same_literal l)) k.all ∙ is_assumed) in
    let at = full l.variable w.0 w.1 in
    let less = at.1 in
    elim (one_of_two l (entry_at t.entries at.0).literal at.2) [
      | inl is ↦ (at.0, (at.1, is))
      | inr is ↦ absurd (true≢false (sym is_assumed ∙ ap (assumes constraints) (sym (negate-negate l) ∙ ap negate (sym is)) ∙ k.apart at.0 (omega (arith, less, checked))))
    ]

-- ---- the assumed literals of the first constraints
assumptions_push : (cs : List Constraint) (c : Constraint) → assumptions_of (cs ++ c ∷ []) ≡ assumptions_of cs ++ assumed_by c
unfolding assumptions_of
assumptions_push [] c = append-nil (assumed_by c)
assumptions_push (x ∷ cs) c = ap (λ xs. assumed_by x ++ xs) (assumptions_push cs c) ∙ sym (append_assoc (assumed_by x) (assumptions_of cs) (assumed_by c))

pub none_assumed : (cs : List Constraint) → [] ≡ assumptions_of (take 0 cs)
unfolding assumptions_of
none_assumed cs = refl

pub one_more_constraint : (cs : List Constraint) (place : ℕ) (d c : Constraint) → place < length cs → get_or cs place d ≡ c → assumptions_of (take (place + 1) cs) ≡ assumptions_of (take place cs) ++ assumed_by c
one_more_constraint cs place d c less is = ap assumptions_of (take_more cs place d less ∙ ap (λ x. take place cs ++ x ∷ []) is) ∙ assumptions_push (take place cs) c

pub assumptions_are_within : (n : ℕ) (cs : List Constraint) → AllByRecursion (λ c. AreWithin n (literals_of c)) cs → AreWithin n (assumptions_of cs)
unfolding assumptions_of
assumptions_are_within n [] w = tt
assumptions_are_within n (constraint.Clause lits ∷ cs) w = assumptions_are_within n cs w.1
assumptions_are_within n (constraint.Parity lits ∷ cs) w = assumptions_are_within n cs w.1
assumptions_are_within n (constraint.Assume lits ∷ cs) w = all_append (λ l. (1 ≤ l.variable) × (l.variable ≤ n)) lits (assumptions_of cs) w.0 (assumptions_are_within n cs w.1)

-- a literal that contradicts an assumed one is at the levels whose decisions are assumed
pub contradicts_low : (constraints : List Constraint) (a : Assumptions) (t : TrailState) → KeepsAssumptions constraints a t → IsTrail t → (p : ℕ) → p < length t.entries → assumes constraints (negate (entry_at t.entries p).literal) ≡ true → a.level ≡ t.level
contradicts_low constraints a t k ok p less h = by_cases (nat_lt a.next (length a.lits.items))
    (λ e. k.rest (ltb-true a.next (length a.lits.items) e))
    (λ e.
    let all = ltb-false a.next (length a.lits.items) e in
    let at = member_at a.lits.items (negate (entry_at t.entries p).literal) (ap (list_any (same_literal (negate (entry_at t.entries p).literal))) k.all ∙ h) in
    let r = k.passed at.0 (let low = at.1 in omega (arith, low, all)) in
    let is : (entry_at t.entries r.0).literal ≡ negate (entry_at t.entries p).literal = r.2 ∙ at.2 in
    let same : r.0 ≡ p = ok.distinct r.0 p r.1 less (ap (λ (x : Literal). x.variable) is) in
    absurd (not_itself (entry_at t.entries p).literal (ap (λ i. (entry_at t.entries i).literal) (sym same) ∙ is)))
  where
    member_at : (lits : List Literal) (l : Literal) → list_any (same_literal l) lits ≡ true → (i : ℕ) × (i < length lits) × (literal_of lits i ≡ l)
    member_at [] l g = absurd (true≢false (sym g))
    member_at (m ∷ lits) l g = by_cases (same_literal l m)
        (λ e. (0, omega arith, sym (same_is_one l m e)))
        (λ e. let r = member_at lits l (sym (ap (λ b. b || list_any (same_literal l) lits) e) ∙ g) in (suc r.0, let low = r.1 in omega (arith, low), r.2))

    turned : (b : Bool) → b ≡ not b → ⊥
    turned true e = true≢false e
    turned false e = true≢false (sym e)

    not_itself : (l : Literal) → l ≡ negate l → ⊥
    not_itself l e = turned l.negative (ap (λ (x : Literal). x.negative) e)

-- ---- one more literal
module _ (constraints : List Constraint) (a : Assumptions) (t : TrailState) (k : KeepsAssumptions constraints a t) where
  -- of the trail, that contradicts no assumed one
  pub checked_more : a.checked < length t.entries → assumes constraints (negate (entry_at t.entries a.checked).literal) ≡ false → KeepsAssumptions constraints (record a { checked = a.checked + 1 }) t
  checked_more less apart = record {
    all = k.all;
    within = k.within;
    passed = k.passed;
    few = k.few;
    decided = k.decided;
    reached = k.reached;
    rest = k.rest;
    apart = λ p below. by_cases (nat_eq p a.checked)
        (λ e. subst (λ i. assumes constraints (negate (entry_at t.entries i).literal) ≡ false) (sym (eqb-true p a.checked e)) apart)
        (λ e. let other = eqb-false p a.checked e in k.apart p (omega (arith, below, other)));
    checked = omega (arith, less);
  }

  -- an assumed literal is not false, where no literal of the trail contradicts it
  pub not_false : a.checked ≡ length t.entries → (i : ℕ) → i < length a.lits.items → IsTrueIn t.entries (negate (literal_of a.lits.items i)) → ⊥
  not_false checked i less (p, (within, is)) =
      let its = ap (λ x. assumes constraints (negate x)) is ∙ ap (assumes constraints) (negate-negate (literal_of a.lits.items i)) in
      true≢false (sym (ap (λ ls. list_any (same_literal (literal_of a.lits.items i)) ls) (sym k.all) ∙ there a.lits.items i less) ∙ sym its ∙ k.apart p (omega (arith, within, checked)))
    where
      there : (lits : List Literal) (j : ℕ) → j < length lits → list_any (same_literal (literal_of lits j)) lits ≡ true
      there [] j low = absurd (omega (arith, low))
      there (m ∷ lits) zero low = ap (λ b. b || list_any (same_literal m) lits) (Rattle.cx_base.proofs.LiteralLaws.same_literal-itself m)
      there (m ∷ lits) (suc j) low = Rattle.std.proofs.lemmas.Bool.or_right (same_literal (literal_of lits j) m) _ (there lits j (omega (arith, low)))

  -- what was passed is true
  pub passed_true : (i : ℕ) → i < a.next → IsTrueIn t.entries (literal_of (assumptions_of constraints) i)
  passed_true i less = let r = k.passed i less in subst (λ ls. IsTrueIn t.entries (literal_of ls i)) k.all (r.0, (r.1, r.2))

  -- those that have values are passed over
  pub more_passed : IsTrail t → a.checked ≡ length t.entries → (n : ℕ) → n ≤ length a.lits.items → a.next ≤ n → HaveValues t a.lits.items a.next n → KeepsAssumptions constraints (record a { next = n }) t
  more_passed ok checked n few low values = record {
    all = k.all;
    within = k.within;
    passed = λ i below. by_cases (nat_lt i a.next)
        (λ e. k.passed i (ltb-true i a.next e))
        (λ e.
        let from = ltb-false i a.next e in
        let inside : i < length a.lits.items = omega (arith, below, few) in
        elim (values i from below) [
          | inl (p, (within, is)) ↦ (p, within, is, let top = ok.levels p within in let same = k.rest (omega (arith, from, inside)) in omega (arith, top, same))
          | inr is_false ↦ absurd (not_false checked i inside is_false)
        ]);
    few = few;
    decided = k.decided;
    reached = k.reached;
    rest = λ some. k.rest (omega (arith, some, low));
    apart = k.apart;
    checked = k.checked;
  }

-- ---- the first literal that has no value
module _ (constraints : List Constraint) (a : Assumptions) (t : TrailState) (n : ℕ) (k : KeepsAssumptions constraints (record a { next = n }) t) where
  pub found_first : n < length a.lits.items → (l : Literal) → l ≡ literal_of a.lits.items n → IsOpenIn t.entries l.variable → IsFirstOpen (assumptions_of constraints) t l
  found_first less l is no_value = record {
    place = n;
    within = subst (λ (ls : List Literal). n < length ls) k.all less;
    is = is ∙ ap (λ ls. literal_of ls n) k.all;
    no_value = no_value;
    before = λ i low. passed_true constraints (record a { next = n }) t k i low;
  }

  pub all_found : length a.lits.items ≤ n → AreTrue (assumptions_of constraints) t
  all_found all i less = let same = ap length k.all in passed_true constraints (record a { next = n }) t k i (omega (arith, all, less, same))

-- a literal of a list is one of it
pub literal_is_in : (lits : List Literal) (j : ℕ) → j < length lits → list_any (same_literal (literal_of lits j)) lits ≡ true
literal_is_in [] j low = absurd (omega (arith, low))
literal_is_in (m ∷ lits) zero low = ap (λ b. b || list_any (same_literal m) lits) (Rattle.cx_base.proofs.LiteralLaws.same_literal-itself m)
literal_is_in (m ∷ lits) (suc j) low = Rattle.std.proofs.lemmas.Bool.or_right (same_literal (literal_of lits j) m) _ (literal_is_in lits j (omega (arith, low)))

pub first_is_assumed : (constraints : List Constraint) (t : TrailState) (l : Literal) → IsFirstOpen (assumptions_of constraints) t l → assumes constraints l ≡ true
first_is_assumed constraints t l f = ap (λ x. list_any (same_literal x) (assumptions_of constraints)) f.is ∙ literal_is_in (assumptions_of constraints) f.place f.within
