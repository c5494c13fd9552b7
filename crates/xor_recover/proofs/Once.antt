-- Clauses of different variables in the same order, and what they are in order of their variables.
use Rattle.std.proofs.Common.{◌≡◌, refl, sym, ap, ◌∙◌, subst, ℕ, suc, ◌+◌, ◌<◌, ◌≤◌, get_or, Bool, true, false, not, nat_eq, List, [], ◌∷◌, ◌++◌, length, arith, true≢false, inl, inr, Some, length-append}
use Rattle.std.specs.Bool.{OnTrue}
use Rattle.std.specs.List.{list_any}
use Rattle.std.specs.List.Sorted.{IsPermutation}
use Rattle.std.proofs.lemmas.List.Elements.{recursion_from_All, All-from_recursion}
use Rattle.std.proofs.lemmas.List.Sorted.{All-permutation, length_permutation, list_any-IsPermutation}
use Rattle.std.proofs.lemmas.Bool.{false_from_ne_true}
use Rattle.std.proofs.lemmas.List.{length-map}
use Rattle.cx_base.specs.Literals.{Literal, same_literal}
use Rattle.cx_base.specs.Parity.{odd_sum}
use Rattle.cx_base.specs.Problem.{AreWithin}
use Rattle.cx_base.specs.declared.literal.TheConstants.{MAX_VARIABLE}
use Rattle.cx_base.proofs.Elements.{same_head, same_tail}
use Rattle.cx_semantics.specs.Chain.{has_literal}
use Rattle.cx_semantics.proofs.Members.{has_at_head, has_behind, has_split, has_left, has_right, has_either}
use Rattle.cx_semantics.proofs.RecoveredLaws.{Distinct}
use Rattle.cx_semantics.proofs.Widths.{variables, variable_in}
use Rattle.xor_recover.specs.Rows.{gathered}
use Rattle.xor_recover.proofs.Normal.{Rising, gathered_is_normal, gathered_from, inside_short, one_of_variable}
use Rattle.xor_recover.proofs.FindLaws.{in_order, same_rising, same_variables, variable_of}
use Rattle.xor_recover.proofs.Numbers.{negatives}

both : (a b : Bool) → (a ≡ true → b ≡ true) → (b ≡ true → a ≡ true) → a ≡ b
both true b f g = sym (f refl)
both false true f g = g refl
both false false f g = refl

-- ---- as many literals in order as there are: each of another variable

without : (front rest : List Literal) (l q : Literal) → has_literal rest l ≡ true → has_literal (front ++ l ∷ rest) q ≡ true → has_literal (front ++ rest) q ≡ true
without front rest l q again h = elim (has_either front (l ∷ rest) q h) [
  | inl here ↦ has_left front rest q here
  | inr later ↦ elim (has_split l rest q later) [
    | inl e ↦ has_right front rest q (ap (has_literal rest) e ∙ again)
    | inr deep ↦ has_right front rest q deep
  ]
]

all_distinct : (r front lits : List Literal) → Rising 1 r → ((q : Literal) → has_literal r q ≡ has_literal (front ++ lits) q) → length (front ++ lits) ≤ length r → Distinct (variables lits)
all_distinct r front [] rises same long = tt
all_distinct r front (l ∷ lits) rises same long = (
  false_from_ne_true (list_any (λ y. nat_eq y l.variable) (variables lits)) (λ h.
      let m = variable_of lits l.variable h in
      let one : l ≡ m.0 = one_of_variable 1 r l m.0 rises (same l ∙ has_right front (l ∷ lits) l (has_at_head l lits)) (same m.0 ∙ has_right front (l ∷ lits) m.0 (has_behind l lits m.0 m.1)) (sym m.2) in
      let again : has_literal lits l ≡ true = ap (has_literal lits) one ∙ m.1 in
      let short = inside_short 1 r (front ++ lits) rises (λ q g. without front lits l q again (sym (same q) ∙ g)) in
      let a = length-append front (l ∷ lits) in
      let b = length-append front lits in
      omega (arith, short, a, b, long)),
  all_distinct r (front ++ l ∷ []) lits rises (λ q. same q ∙ ap (λ (xs : List Literal). has_literal xs q) (sym (Rattle.std.proofs.Common.append_assoc front (l ∷ []) lits))) (subst (λ (xs : List Literal). length xs ≤ length r) (sym (Rattle.std.proofs.Common.append_assoc front (l ∷ []) lits)) long),
)

pub distinct_gathered : (lits r : List Literal) → AreWithin MAX_VARIABLE lits → gathered [] lits ≡ Some r → length r ≡ length lits → Distinct (variables lits)
distinct_gathered lits r within e long =
    let normal = gathered_is_normal lits r within e in
    all_distinct r [] lits normal.rises normal.same (omega (arith, long))

-- ---- one set of literals in one order of variables

pub one_order : (a b : List Literal) → variables a ≡ variables b → Distinct (variables a) → ((q : Literal) → has_literal a q ≡ has_literal b q) → negatives a ≡ negatives b
one_order [] [] e d same = refl
one_order [] (y ∷ b) e d same = absurd (true≢false (sym (has_at_head y b) ∙ sym (same y)))
one_order (x ∷ a) [] e d same = absurd (true≢false (sym (has_at_head x a) ∙ same x))
one_order (x ∷ a) (y ∷ b) e d same =
    let tails : variables a ≡ variables b = same_tail x.variable y.variable (variables a) (variables b) e in
    let heads : x.variable ≡ y.variable = same_head x.variable y.variable (variables a) (variables b) e in
    let first : x ≡ y = elim (has_split y b x (sym (same x) ∙ has_at_head x a)) [
      | inl is ↦ is
      | inr later ↦ absurd (true≢false (sym (variable_in b x later) ∙ ap (λ (vs : List ℕ). list_any (λ z. nat_eq z x.variable) vs) (sym tails) ∙ d.0))
    ] in
    let distinct' : list_any (λ z. nat_eq z y.variable) (variables b) ≡ false = (λ i. list_any (λ z. nat_eq z (sym heads i)) (sym tails i)) ∙ d.0 in
    (λ i. (first i).negative ∷ one_order a b tails d.1 (λ q. both _ _
    (λ h. elim (has_split y b q (sym (same q) ∙ has_behind x a q h)) [
      | inl is ↦ absurd (true≢false (sym (variable_in a q h) ∙ ap (λ (l : Literal). list_any (λ z. nat_eq z l.variable) (variables a)) (is ∙ sym first) ∙ d.0))
      | inr later ↦ later
    ])
    (λ h. elim (has_split x a q (same q ∙ has_behind y b q h)) [
      | inl is ↦ absurd (true≢false (sym (variable_in b q h) ∙ ap (λ (l : Literal). list_any (λ z. nat_eq z l.variable) (variables b)) (is ∙ first) ∙ distinct'))
      | inr later ↦ later
    ])) i)

-- ---- literals of the same variables as some that are gathered

-- the literals in order of their variables, which are these
pub record Gathered (lits : List Literal) (vs : List ℕ) : Type 0 where
  pub r : List Literal
  pub is : gathered [] lits ≡ Some r
  pub variables_are : variables r ≡ vs
  pub same : (q : Literal) → has_literal r q ≡ has_literal lits q
  pub sum : odd_sum (negatives r) ≡ odd_sum (negatives lits)

pub gathered_alike : (first r lits : List Literal) → AreWithin MAX_VARIABLE first → AreWithin MAX_VARIABLE lits → gathered [] first ≡ Some r → length r ≡ length first → variables lits ≡ variables first → Gathered lits (variables r)
gathered_alike first r lits within within' e long alike =
    let normal = gathered_is_normal first r within e in
    let order = in_order lits within' (subst Distinct (sym alike) (distinct_gathered first r within e long)) in
    let wide : length lits ≡ length first = sym (length-map lits (λ (l : Literal). l.variable)) ∙ ap length alike ∙ length-map first (λ (l : Literal). l.variable) in
    let inside = inside_short 1 order.0 lits order.1.rises (λ q h. sym (order.1.same q) ∙ h) in
    let short = normal.short in
    let six : length order.0 ≤ 6 = omega (arith, wide, inside, short, long) in
    record {
      r = order.0;
      is = gathered_from order.0 lits order.1.rises six within' order.1.same;
      variables_are = same_rising (variables order.0) (variables r) order.1.rises normal.rises (λ y. both _ _
          (λ h. same_variables first r (λ q. sym (normal.same q)) y (ap (λ (vs : List ℕ). list_any (λ z. nat_eq z y) vs) (sym alike) ∙ same_variables order.0 lits order.1.same y h))
          (λ h. same_variables lits order.0 (λ q. sym (order.1.same q)) y (ap (λ (vs : List ℕ). list_any (λ z. nat_eq z y) vs) alike ∙ same_variables r first normal.same y h)));
      same = order.1.same;
      sum = order.1.sum;
    }

-- ---- a clause put in order

rises_by_index : (k : ℕ) (ys : List Literal) → AreWithin MAX_VARIABLE ys → ((d : Literal) → 1 ≤ length ys → k ≤ (get_or ys 0 d).variable) → ((i : ℕ) (d : Literal) → i + 1 < length ys → (get_or ys i d).variable < (get_or ys (i + 1) d).variable) → Rising k ys
rises_by_index k [] within low up = tt
rises_by_index k (y ∷ ys) within low up = (
  low y (omega arith),
  within.0.1,
  rises_by_index (y.variable + 1) ys within.1 (λ d some. let lt = up 0 d (omega arith) in omega (arith, lt))
      (λ i d lt. let e : suc i + 1 ≡ suc (i + 1) = omega arith in let next = up (suc i) d (omega (arith, lt)) in subst (λ n. (get_or (y ∷ ys) (suc i) d).variable < (get_or (y ∷ ys) n d).variable) e next),
)

pub gathered_rising : (b : Bool) (lits ys : List Literal) → AreWithin MAX_VARIABLE lits → length lits ≤ 6 → IsPermutation lits ys → OnTrue b ((i : ℕ) (d : Literal) → i + 1 < length ys → (get_or ys i d).variable < (get_or ys (i + 1) d).variable)
    → OnTrue b ((gathered [] lits ≡ Some ys) × (length ys ≡ length lits))
gathered_rising false lits ys within six moves up = tt
gathered_rising true lits ys within six moves up =
    let long = length_permutation lits ys moves in
    let inside = recursion_from_All (λ (l : Literal). (1 ≤ l.variable) × (l.variable ≤ MAX_VARIABLE)) ys (All-permutation (λ (l : Literal). (1 ≤ l.variable) × (l.variable ≤ MAX_VARIABLE)) lits ys moves (All-from_recursion (λ (l : Literal). (1 ≤ l.variable) × (l.variable ≤ MAX_VARIABLE)) lits within)) in
    let rises = rises_by_index 1 ys inside (λ d some. first ys d inside some) up in
    (gathered_from ys lits rises (omega (arith, long, six)) within (λ q. sym (list_any-IsPermutation (same_literal q) lits ys moves)), long)
  where
    first : (ys : List Literal) (d : Literal) → AreWithin MAX_VARIABLE ys → 1 ≤ length ys → 1 ≤ (get_or ys 0 d).variable
    first [] d h some = absurd (omega arith)
    first (y ∷ ys) d h some = h.0.0
