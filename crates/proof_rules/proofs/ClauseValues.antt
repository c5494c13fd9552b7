-- A clause under values, and what it implies of a parity.
use Rattle.std.proofs.Common.{◌≡◌, ◌≢◌, refl, sym, ap, ◌∙◌, subst, ℕ, ◌+◌, ◌≤◌, Bool, true, false, cond, not, ◌&&◌, ◌||◌, nat_eq, eqb-true, eq-eqb, List, [], ◌∷◌, map, Option, Some, None, option_map, arith, ◌⊎◌, inl, inr, true≢false}
use Rattle.std.specs.List.{list_any}
use mathlib.Core.Bool.{beq}
use Rattle.std.proofs.lemmas.Bool.{or_cases, or_right}
use Rattle.cx_base.specs.Literals.{Literal, differ, negate, same_literal, literal_true, value_of, positive_of, negative_of}
use Rattle.cx_base.specs.Problem.{clause_met, parity_met}
use Rattle.cx_base.specs.Parity.{normal_form, odd_sum}
use Rattle.cx_base.proofs.Differences.{not_differ-same, same-not_differ}
use Rattle.cx_semantics.specs.Chain.{has_literal, HaveSame}
use Rattle.cx_base.proofs.LiteralLaws.{are_one}
use Rattle.cx_semantics.proofs.ChainLaws.{literal_true-negate}
use Rattle.cx_semantics.proofs.Members.{has_at_head, has_behind}
use Rattle.proof_rules.specs.LiteralSets.{ArePositive}
use Rattle.proof_rules.specs.Assignments.{Lists, has_opposites, forced_sum, Decided}
use Rattle.proof_rules.proofs.ParityValues.{values_by, value_of-values_by, values-values_by, AreWithin, top, within_top, parity_met-list, flip_at, odd_sum-flipped}

-- ---- literals of a clause

-- a literal that is true meets the clause
pub met_by : (v : List Bool) (lits : List Literal) (l : Literal) → has_literal lits l ≡ true → literal_true v l ≡ true → clause_met v lits ≡ true
met_by v [] l h t = absurd (true≢false (sym h))
met_by v (m ∷ lits) l h t = go (or_cases (same_literal l m) (has_literal lits l) h) (met_by v lits l)
  where
    go : (same_literal l m ≡ true) ⊎ (has_literal lits l ≡ true) → (has_literal lits l ≡ true → literal_true v l ≡ true → clause_met v lits ≡ true) → clause_met v (m ∷ lits) ≡ true
    go (inl e) rest = ap (λ b. b || clause_met v lits) (ap (literal_true v) (sym (are_one l m e)) ∙ t)
    go (inr e) rest = or_right (literal_true v m) _ (rest e t)

-- a clause is not met where each of its literals is false
pub unmet_by : (v : List Bool) (lits : List Literal) → ((l : Literal) → has_literal lits l ≡ true → literal_true v l ≡ false) → clause_met v lits ≡ false
unmet_by v [] h = refl
unmet_by v (m ∷ lits) h = ap (λ b. b || clause_met v lits) (h m (has_at_head m lits)) ∙ unmet_by v lits (λ l k. h l (has_behind m lits l k))

-- ---- a clause with a literal and its negation

pub opposite_in : (others lits : List Literal) → has_opposites others lits ≡ true → (l : Literal) × (has_literal lits l ≡ true) × (has_literal others (negate l) ≡ true)
opposite_in others [] h = absurd (true≢false (sym h))
opposite_in others (m ∷ lits) h = go (or_cases (has_literal others (negate m)) _ h) (opposite_in others lits)
  where
    go : (has_literal others (negate m) ≡ true) ⊎ (has_opposites others lits ≡ true) → (has_opposites others lits ≡ true → (l : Literal) × (has_literal lits l ≡ true) × (has_literal others (negate l) ≡ true))
        → (l : Literal) × (has_literal (m ∷ lits) l ≡ true) × (has_literal others (negate l) ≡ true)
    go (inl e) rest = (m, has_at_head m lits, e)
    go (inr e) rest = let r = rest e in (r.0, has_behind m lits r.0 r.1, r.2)

one_of_two : (b : Bool) → (b ≡ true) ⊎ (not b ≡ true)
one_of_two true = inl refl
one_of_two false = inr refl

pub always_met : (set lits : List Literal) → HaveSame set lits → has_opposites set lits ≡ true → (v : List Bool) → clause_met v lits ≡ true
always_met set lits same h v =
    let o = opposite_in set lits h in
    elim (one_of_two (literal_true v o.0)) [
      | inl t ↦ met_by v lits o.0 o.1 t
      | inr t ↦ met_by v lits (negate o.0) (sym (same (negate o.0)) ∙ o.2) (literal_true-negate v o.0 ∙ t)
    ]

-- without one, no literal is there with its negation
pub no_opposite : (set lits : List Literal) → has_opposites set lits ≡ false → (l : Literal) → has_literal lits l ≡ true → has_literal set (negate l) ≡ false
no_opposite set [] h l k = absurd (true≢false (sym k))
no_opposite set (m ∷ lits) h l k = go (has_literal set (negate m)) refl h (or_cases (same_literal l m) (has_literal lits l) k) (no_opposite set lits)
  where
    go : (b : Bool) → has_literal set (negate m) ≡ b → (b || has_opposites set lits) ≡ false → (same_literal l m ≡ true) ⊎ (has_literal lits l ≡ true)
        → (has_opposites set lits ≡ false → (l : Literal) → has_literal lits l ≡ true → has_literal set (negate l) ≡ false) → has_literal set (negate l) ≡ false
    go true e f s rest = absurd (true≢false f)
    go false e f (inl s) rest = ap (λ x. has_literal set (negate x)) (are_one l m s) ∙ e
    go false e f (inr s) rest = rest f l s

-- ---- where all literals are false

-- a literal that is not true has its variable's value
false_value : (n b : Bool) → differ n b ≡ false → b ≡ n
false_value true true h = refl
false_value true false h = absurd (true≢false h)
false_value false b h = h

value_false : (n b : Bool) → b ≡ n → differ n b ≡ false
value_false true b h = ap not h
value_false false b h = h

not_met_value : (v : List Bool) (lits : List Literal) (l : Literal) → clause_met v lits ≡ false → has_literal lits l ≡ true → value_of v l.variable ≡ l.negative
not_met_value v lits l h k = false_value l.negative (value_of v l.variable) (go (literal_true v l) refl)
  where
    go : (b : Bool) → literal_true v l ≡ b → literal_true v l ≡ false
    go true e = absurd (true≢false (sym (met_by v lits l k e) ∙ h))
    go false e = e

abbrev SumIs : Bool → Option Bool → Type 0
SumIs s None = Unit {0}
SumIs s (Some b) = s ≡ b

-- values under which the clause is not met give the sum that it forces
pub forced : (set lits : List Literal) → HaveSame set lits → (v : List Bool) → clause_met v lits ≡ false → (xs : List ℕ) → SumIs (odd_sum (map (value_of v) xs)) (forced_sum set xs)
forced set lits same v h [] = refl
forced set lits same v h (x ∷ xs) = go (has_literal set (negative_of x)) refl (has_literal set (positive_of x)) refl (forced_sum set xs) (forced set lits same v h xs)
  where
    go : (a : Bool) → has_literal set (negative_of x) ≡ a → (b : Bool) → has_literal set (positive_of x) ≡ b → (o : Option Bool) → SumIs (odd_sum (map (value_of v) xs)) o
        → SumIs (differ (value_of v x) (odd_sum (map (value_of v) xs))) (cond a (option_map not o) (cond b o None))
    go true e b f None s = tt
    go true e b f (Some t) s = (λ i. differ (not_met_value v lits (negative_of x) h (sym (same (negative_of x)) ∙ e) i) (s i))
    go false e true f None s = tt
    go false e true f (Some t) s = (λ i. differ (not_met_value v lits (positive_of x) h (sym (same (positive_of x)) ∙ f) i) (s i))
    go false e false f o s = tt

-- a variable that the clause leaves free
abbrev pub Free : List Literal → List ℕ → Type 0
Free set xs = (x : ℕ) × (list_any (λ y. nat_eq y x) xs ≡ true) × (has_literal set (negative_of x) ≡ false) × (has_literal set (positive_of x) ≡ false)

pub free_variable : (set : List Literal) (xs : List ℕ) → forced_sum set xs ≡ None → Free set xs
free_variable set [] h = let k : Some false ≡ None = h in absurd (some_none k)
  where
    some_none : Some false ≡ None → ⊥
    some_none k = cc
free_variable set (x ∷ xs) h = go (has_literal set (negative_of x)) refl (has_literal set (positive_of x)) refl (forced_sum set xs) refl h (free_variable set xs)
  where
    later : Free set xs → Free set (x ∷ xs)
    later r = (r.0, or_right (nat_eq x r.0) _ r.1, r.2, r.3)

    some_none : (b : Bool) → Some b ≡ None → ⊥
    some_none b k = cc

    go : (a : Bool) → has_literal set (negative_of x) ≡ a → (b : Bool) → has_literal set (positive_of x) ≡ b → (o : Option Bool) → forced_sum set xs ≡ o → cond a (option_map not o) (cond b o None) ≡ None
        → (forced_sum set xs ≡ None → Free set xs) → Free set (x ∷ xs)
    go true e b f None o h rest = later (rest o)
    go true e b f (Some t) o h rest = absurd (some_none (not t) h)
    go false e true f None o h rest = later (rest o)
    go false e true f (Some t) o h rest = absurd (some_none t h)
    go false e false f o p h rest = (x, ap (λ b. b || list_any (λ y. nat_eq y x) xs) (eq-eqb x x refl), e, f)

-- ---- the clause and the parity

-- the values that make the literals of a set false
abbrev false_by : List Literal → ℕ → Bool
false_by set x = has_literal set (negative_of x)

-- no variable is 0 or above n
abbrev AreVariables : ℕ → List Literal → Type 0
AreVariables n lits = (l : Literal) → has_literal lits l ≡ true → (1 ≤ l.variable) × (l.variable ≤ n)

abbrev pub top_variable : List Literal → ℕ
top_variable [] = 0
top_variable (l ∷ lits) = l.variable + top_variable lits

variables_within : (n : ℕ) (lits : List Literal) → ArePositive lits → top_variable lits ≤ n → AreVariables n lits
variables_within n [] p h l k = absurd (true≢false (sym k))
variables_within n (m ∷ lits) p h l k = go (or_cases (same_literal l m) (has_literal lits l) k) (variables_within n lits p.1 (omega arith) l)
  where
    go : (same_literal l m ≡ true) ⊎ (has_literal lits l ≡ true) → (has_literal lits l ≡ true → (1 ≤ l.variable) × (l.variable ≤ n)) → (1 ≤ l.variable) × (l.variable ≤ n)
    go (inl e) rest = let q : l.variable ≡ m.variable = ap (λ x. x.variable) (are_one l m e) in let low : 1 ≤ m.variable = p.0 in (omega arith, omega arith)
    go (inr e) rest = rest e

-- a function that falsifies each literal falsifies the clause
unmet_by_function : (n : ℕ) (f : ℕ → Bool) (lits : List Literal) → AreVariables n lits → ((l : Literal) → has_literal lits l ≡ true → f l.variable ≡ l.negative) → clause_met (values_by n f) lits ≡ false
unmet_by_function n f lits within h = unmet_by (values_by n f) lits (λ l k.
    let w = within l k in value_false l.negative (value_of (values_by n f) l.variable) (value_of-values_by n f l.variable w.0 w.1 ∙ h l k))

false_by-false : (set lits : List Literal) → HaveSame set lits → has_opposites set lits ≡ false → (l : Literal) → has_literal lits l ≡ true → false_by set l.variable ≡ l.negative
false_by-false set lits same none l h = go l.negative refl
  where
    go : (b : Bool) → l.negative ≡ b → false_by set l.variable ≡ l.negative
    go true e = ap (λ b. has_literal set (record { variable = l.variable; negative = b })) (sym e) ∙ same l ∙ h ∙ sym e
    go false e = ap (λ b. has_literal set (record { variable = l.variable; negative = not b })) (sym e) ∙ no_opposite set lits none l h ∙ sym e

both_true : (a : Bool) → a ≡ true → (a && true) ≡ true
both_true true h = refl
both_true false h = h

left_true : (a : Bool) → (a && true) ≡ true → a ≡ true
left_true true h = refl
left_true false h = h

module _ (set clause parity : List Literal) (xs : List ℕ) (same : HaveSame set clause) (positive : ArePositive clause) (lists : Lists (normal_form parity).variables xs) where
  bound : ℕ
  bound = top_variable clause + top xs

  abbrev Question : Bool → Type 0
  Question = Decided (λ v. parity_met v parity && true) (λ v. clause_met v clause)

  -- the sum that the clause forces is wrong
  implied_by_sum : (b : Bool) → forced_sum set xs ≡ Some b → b ≢ (normal_form parity).right_side → Question true
  implied_by_sum b e n v met = go (clause_met v clause) refl
    where
      go : (m : Bool) → clause_met v clause ≡ m → clause_met v clause ≡ true
      go true k = k
      go false k = absurd (n (sym (subst (SumIs (odd_sum (map (value_of v) xs))) e (forced set clause same v k xs)) ∙ same-not_differ _ _ (sym (parity_met-list parity xs v lists) ∙ left_true _ met)))

  -- values by a function that falsifies the clause and gives the parity its sum
  counterexample : (f : ℕ → Bool) → ((l : Literal) → has_literal clause l ≡ true → f l.variable ≡ l.negative) → odd_sum (map f xs) ≡ (normal_form parity).right_side → Question false
  unfolding bound
  counterexample f falsifies sum =
      let v = values_by bound f in
      let low : AreVariables bound clause = variables_within bound clause positive (omega arith) in
      let high : AreWithin bound xs = within_top bound xs (omega arith) in (
        v,
        both_true _ (parity_met-list parity xs v lists ∙ not_differ-same _ _ (ap odd_sum (values-values_by bound f xs lists.positive high) ∙ sum)),
        unmet_by_function bound f clause low falsifies,
      )

  module _ (none : has_opposites set clause ≡ false) where
    -- the sum that the clause forces is the right one
    refused_by_sum : (b : Bool) → forced_sum set xs ≡ Some b → b ≡ (normal_form parity).right_side → Question false
    unfolding bound
    refused_by_sum b e right =
        let f : ℕ → Bool = false_by set in
        let v = values_by bound f in
        let low : AreVariables bound clause = variables_within bound clause positive (omega arith) in
        let high : AreWithin bound xs = within_top bound xs (omega arith) in
        let unmet = unmet_by_function bound f clause low (false_by-false set clause same none) in
        counterexample f (false_by-false set clause same none)
        (ap odd_sum (sym (values-values_by bound f xs lists.positive high)) ∙ subst (SumIs (odd_sum (map (value_of v) xs))) e (forced set clause same v unmet xs) ∙ right)

    flip_apart : (x : ℕ) → has_literal set (negative_of x) ≡ false → has_literal set (positive_of x) ≡ false → (l : Literal) → has_literal clause l ≡ true → flip_at x (false_by set) l.variable ≡ l.negative
    flip_apart x h k l has = go (nat_eq l.variable x) refl
      where
        neither : (b : Bool) → has_literal set (record { variable = x; negative = b }) ≡ false
        neither true = h
        neither false = k

        go : (b : Bool) → nat_eq l.variable x ≡ b → differ (nat_eq l.variable x) (false_by set l.variable) ≡ l.negative
        go true e = absurd (true≢false (sym has ∙ sym (same l) ∙ ap (λ y. has_literal set (record { variable = y; negative = l.negative })) (eqb-true l.variable x e) ∙ neither l.negative))
        go false e = ap (λ b. differ b (false_by set l.variable)) e ∙ false_by-false set clause same none l has

    -- a variable of the parity may have either value
    pub refused_by_free : forced_sum set xs ≡ None → Question false
    refused_by_free e =
        let r = free_variable set xs e in
        let f : ℕ → Bool = false_by set in
        go (odd_sum (map f xs)) refl ((normal_form parity).right_side) refl r (odd_sum-flipped r.0 f xs lists.once r.1)
      where
        go : (a : Bool) → odd_sum (map (false_by set) xs) ≡ a → (b : Bool) → (normal_form parity).right_side ≡ b → (r : Free set xs)
            → odd_sum (map (flip_at r.0 (false_by set)) xs) ≡ not (odd_sum (map (false_by set) xs)) → Question false
        go true e true k r turned = counterexample (false_by set) (false_by-false set clause same none) (e ∙ sym k)
        go true e false k r turned = counterexample (flip_at r.0 (false_by set)) (flip_apart r.0 r.2 r.3) (turned ∙ ap not e ∙ sym k)
        go false e true k r turned = counterexample (flip_at r.0 (false_by set)) (flip_apart r.0 r.2 r.3) (turned ∙ ap not e ∙ sym k)
        go false e false k r turned = counterexample (false_by set) (false_by-false set clause same none) (e ∙ sym k)

    pub decided_by_sum : (b r : Bool) → forced_sum set xs ≡ Some b → (normal_form parity).right_side ≡ r → Question (not (beq b r))
    decided_by_sum true true e k = refused_by_sum true e (sym k)
    decided_by_sum true false e k = implied_by_sum true e (λ h. true≢false (h ∙ k))
    decided_by_sum false true e k = implied_by_sum false e (λ h. true≢false (sym k ∙ sym h))
    decided_by_sum false false e k = refused_by_sum false e (sym k)
