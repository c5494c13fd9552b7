-- Sums of normal forms: one literal and one parity at a time.
use Rattle.std.proofs.Common.{◌≡◌, refl, sym, ap, ◌∙◌, ℕ, Bool, true, false, not, nat_eq, List, [], ◌∷◌, map, count_by, Some, None}
use Rattle.std.specs.List.{cons_option}
use Rattle.std.specs.Ordering.{nat_cmp}
use Rattle.std.specs.FinSet as set
use Rattle.cx_base.specs.Literals.{Literal, differ}
use Rattle.cx_base.specs.Parity.{NormalForm, normal_form, symmetric_difference, sum_of}
use Rattle.cx_base.proofs.Odd.{is_odd, is_odd-suc, is_odd-count}
use Rattle.cx_base.proofs.ParityLaws.{contains-normal_form, contains-symmetric_difference, differ_false}
use Rattle.cx_base.proofs.Differences.{differ_assoc, differ_turned, differ_itself, same-differ, same_members, contains-one, difference_assoc, difference_nothing, nothing_difference, difference_itself, same-no_difference}
use Rattle.cx_semantics.specs.Tables.{Table, get, named}
use Rattle.cx_semantics.specs.ProofRules.{IsSum}
use Rattle.proof_rules.specs.Sums.{zero_sum, plus, flipped, turned, plus_all}

pub plus_assoc : (p q r : NormalForm) → plus (plus p q) r ≡ plus p (plus q r)
plus_assoc p q r = λ i. record { variables = difference_assoc p.variables q.variables r.variables i; right_side = differ_assoc p.right_side q.right_side r.right_side i }

pub plus_zero : (p : NormalForm) → plus p zero_sum ≡ p
plus_zero p = λ i. record { variables = difference_nothing p.variables i; right_side = differ_false p.right_side i }

pub zero_plus : (p : NormalForm) → plus zero_sum p ≡ p
zero_plus p = λ i. record { variables = nothing_difference p.variables i; right_side = p.right_side }

-- ---- one literal at a time

abbrev pub with_literal : NormalForm → Literal → NormalForm
with_literal p l = turned (flipped p l.variable) l.negative

abbrev pub with_literals : NormalForm → List Literal → NormalForm
with_literals p [] = p
with_literals p (l ∷ lits) = with_literals (with_literal p l) lits

-- the normal form without the 1 of its right side
abbrev places : List Literal → NormalForm
places lits = record { variables = (normal_form lits).variables; right_side = is_odd (count_by (λ l. l.negative) lits) }

variables-cons : (s : set.FinSet nat_cmp) (l : Literal) (lits : List Literal) →
    symmetric_difference (symmetric_difference s (set.insert set.empty l.variable)) (normal_form lits).variables ≡ symmetric_difference s (normal_form (l ∷ lits)).variables
variables-cons s l lits = difference_assoc s _ _ ∙ ap (symmetric_difference s) (same_members _ _ (λ q.
    contains-symmetric_difference (set.insert set.empty l.variable) (normal_form lits).variables q
    ∙ (λ i. differ (contains-one l.variable q i) (contains-normal_form lits q i))
    ∙ sym (is_odd-count (λ m. nat_eq m.variable q) l lits) ∙ sym (contains-normal_form (l ∷ lits) q)))

no_variables : (normal_form []).variables ≡ set.empty
no_variables = same_members _ _ (λ q. contains-normal_form [] q ∙ sym (set.contains-empty nat_cmp q))

with_literals-plus : (p : NormalForm) (lits : List Literal) → with_literals p lits ≡ plus p (places lits)
with_literals-plus p [] = sym (plus_zero p) ∙ (λ i. plus p (record { variables = sym no_variables i; right_side = false }))
with_literals-plus p (l ∷ lits) =
    with_literals-plus (with_literal p l) lits
    ∙ (λ i. record {
      variables = variables-cons p.variables l lits i;
      right_side = (ap (λ b. differ b (is_odd (count_by (λ m. m.negative) lits))) (differ_turned l.negative p.right_side)
          ∙ differ_assoc p.right_side l.negative (is_odd (count_by (λ m. m.negative) lits))
          ∙ ap (differ p.right_side) (sym (is_odd-count (λ m. m.negative) l lits))) i;
    })

right_side-normal_form : (lits : List Literal) → (normal_form lits).right_side ≡ not (is_odd (count_by (λ l. l.negative) lits))
unfolding normal_form
right_side-normal_form lits = is_odd-suc (count_by (λ l. l.negative) lits)

turned_places : (a b : Bool) → differ (differ true a) b ≡ differ a (not b)
turned_places true true = refl
turned_places true false = refl
turned_places false b = refl

-- with all literals, and 1 on the right side: with the parity
pub plus-by_literals : (p : NormalForm) (lits : List Literal) → with_literals (turned p true) lits ≡ plus p (normal_form lits)
plus-by_literals p lits =
    with_literals-plus (turned p true) lits
    ∙ (λ i. record {
      variables = symmetric_difference p.variables (normal_form lits).variables;
      right_side = (turned_places p.right_side (is_odd (count_by (λ l. l.negative) lits)) ∙ ap (differ p.right_side) (sym (right_side-normal_form lits))) i;
    })

-- ---- one parity at a time

sum_of-none : sum_of [] ≡ zero_sum
unfolding sum_of
sum_of-none = refl

sum_of-cons : (p : NormalForm) (ps : List NormalForm) → sum_of (p ∷ ps) ≡ plus p (sum_of ps)
unfolding sum_of
sum_of-cons p ps = refl

pub plus_all-none : (p : NormalForm) → plus_all p [] ≡ p
plus_all-none p = ap (plus p) sum_of-none ∙ plus_zero p

plus_all-cons : (p : NormalForm) (lits : List Literal) (parities : List (List Literal)) → plus_all (plus p (normal_form lits)) parities ≡ plus_all p (lits ∷ parities)
plus_all-cons p lits parities = plus_assoc p (normal_form lits) (sum_of (map normal_form parities)) ∙ ap (plus p) (sym (sum_of-cons (normal_form lits) (map normal_form parities)))

pub plus_all-hint : (p : NormalForm) (table : Table) (n : ℕ) (ns : List ℕ) (lits : List Literal) → get table n ≡ Some lits → plus_all (plus p (normal_form lits)) (named table ns) ≡ plus_all p (named table (n ∷ ns))
plus_all-hint p table n ns lits h = plus_all-cons p lits (named table ns) ∙ ap (λ o. plus_all p (cons_option o (named table ns))) (sym h)

pub plus_all-no_hint : (p : NormalForm) (table : Table) (n : ℕ) (ns : List ℕ) → get table n ≡ None → plus_all p (named table ns) ≡ plus_all p (named table (n ∷ ns))
plus_all-no_hint p table n ns h = ap (λ o. plus_all p (cons_option o (named table ns))) (sym h)

-- ---- nothing is left

pub same_from_zero : (p q : NormalForm) → plus p q ≡ zero_sum → p ≡ q
same_from_zero p q h = λ i. record { variables = same-no_difference p.variables q.variables (ap (λ r. r.variables) h) i; right_side = same-differ p.right_side q.right_side (ap (λ r. r.right_side) h) i }

pub zero_from_same : (p q : NormalForm) → p ≡ q → plus p q ≡ zero_sum
zero_from_same p q h = ap (plus p) (sym h) ∙ (λ i. record { variables = difference_itself p.variables i; right_side = differ_itself p.right_side i })

-- ---- the target and the parities

module _ (target : List Literal) (parities : List (List Literal)) where
  pub is_sum : plus_all (normal_form target) parities ≡ zero_sum → IsSum target parities
  is_sum h = same_from_zero (normal_form target) (sum_of (map normal_form parities)) h

  pub sum_is_zero : IsSum target parities → plus_all (normal_form target) parities ≡ zero_sum
  sum_is_zero h = zero_from_same (normal_form target) (sum_of (map normal_form parities)) h
