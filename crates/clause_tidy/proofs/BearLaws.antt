-- What is so where one clause lies inside another or strengthens it.
use Rattle.std.proofs.Common.{◌≡◌, refl, sym, ap, ◌∙◌, ℕ, suc, ◌+◌, ◌%◌, ◌≤◌, Bool, true, false, ◌||◌, ◌⊎◌, inl, inr, List, [], ◌∷◌, arith}
use Rattle.std.specs.List.{Contains, list_any, count_by}
use Rattle.std.specs.Int.{bit_at}
use Rattle.std.proofs.lemmas.Bool.{and_parts, and_from, or_left, or_right, or_cases}
use Rattle.std.proofs.lemmas.List.Elements.{All-contains}
use Rattle.cx_base.specs.Literals.{Literal, negate, same_literal}
use Rattle.cx_base.proofs.LiteralLaws.{negate-negate, are_one}
use Rattle.cx_semantics.specs.Chain.{has_literal, is_inside}
use Rattle.cx_semantics.proofs.Closure.{has_by_inside}
use Rattle.cx_semantics.proofs.Members.{has_split, has_by_index, all_by}
use Rattle.tidy_rules.specs.Relations.{is_inside_but, strengthens_at, strengthens, bears_on}
use Rattle.clause_tidy.specs.Marks.{is_marked, AreMarksOf, HasSoMany}
use Rattle.clause_tidy.specs.Signatures.{IsSignature, HasOther}
use Rattle.tidy_rules.proofs.InsideLaws.{any_by, some_member, inside_through}
use Rattle.clause_tidy.proofs.Literals.{not_both, by_cases, all_at}
use Rattle.clause_tidy.proofs.Tallies.{tally, tally_is, tally_weaker, all_counted, all_but_one}

-- ---- members by index
pub has_contained : (lits : List Literal) (l : Literal) → Contains lits l → has_literal lits l ≡ true
has_contained lits l (k, low, e) = ap (has_literal lits) (sym e) ∙ has_by_index lits k l low

pub contained : (lits : List Literal) (l : Literal) → has_literal lits l ≡ true → Contains lits l
contained [] l h = not_both false h refl
contained (x ∷ lits) l h = elim (has_split x lits l h) [
  | inl e ↦ (0, omega arith, sym e)
  | inr g ↦ let w = contained lits l g in (suc w.0, let low = w.1 in omega (arith, low), w.2)
]

-- ---- at which literal
module _ (part whole : List Literal) where
  -- at some literal the part strengthens the whole
  pub record IsTurnedAt : Type 0 where
    pub m : Literal
    pub has_m : has_literal part m ≡ true
    pub turned : has_literal whole (negate m) ≡ true
    pub rest : (l : Literal) → has_literal part l ≡ true → same_literal l m ≡ false → has_literal whole l ≡ true

  turned_at : strengthens part whole ≡ true → IsTurnedAt
  turned_at h =
      let w = some_member (strengthens_at part whole) part h in
      let both = and_parts (has_literal whole (negate w.0)) (is_inside_but part w.0 whole) w.2 in
      record {
        m = w.0;
        has_m = w.1;
        turned = both.0;
        rest = λ l k s. elim (or_cases (same_literal l w.0) (has_literal whole l) (all_at (λ x. same_literal x w.0 || has_literal whole x) part l both.1 k)) [
          | inl e ↦ not_both (same_literal l w.0) e s
          | inr g ↦ g
        ];
      }

  pub bear_cases : bears_on part whole ≡ true → (is_inside part whole ≡ true) ⊎ IsTurnedAt
  bear_cases h = elim (or_cases (is_inside part whole) (strengthens part whole) h) [ inl i ↦ inl i | inr s ↦ inr (turned_at s) ]

  -- the whole has each variable of the part
  pub has_variable : bears_on part whole ≡ true → (l : Literal) → has_literal part l ≡ true → (m : Literal) × (has_literal whole m ≡ true) × (m.variable ≡ l.variable)
  has_variable h l k = elim (bear_cases h) [
    | inl i ↦ (l, has_by_inside part whole l i k, refl)
    | inr t ↦ by_cases (same_literal l t.m) (λ e. (negate t.m, t.turned, ap (λ (x : Literal). x.variable) (sym (are_one l t.m e)))) (λ e. (l, t.rest l k e, refl))
  ]

  -- ---- the test
  module _ (marks : List Bool) (many same : ℕ) (are : AreMarksOf marks part) (has : HasSoMany part many) (counts : same ≡ count_by (is_marked marks) whole) where
    marked : (l : Literal) → has_literal has.different l ≡ true → is_marked marks l ≡ true
    marked l h = are l ∙ sym (has.same l) ∙ h

    sames : tally (has_literal has.different) whole ≤ same
    sames = let less = tally_weaker (has_literal has.different) (is_marked marks) whole marked in let is = tally_is (is_marked marks) whole in omega (arith, less, is, counts)

    pub may_bear_holds : bears_on part whole ≡ true → (many ≤ same) ⊎ ((many ≤ same + 1) × (list_any (λ l. is_marked marks (negate l)) whole ≡ true))
    may_bear_holds h = elim (bear_cases h) [
      | inl i ↦
          let enough = all_counted has.different whole has.once (λ l k. has_by_inside part whole l i (sym (has.same l) ∙ k)) in
          let less = sames in
          let is = has.many in
          inl (omega (arith, enough, less, is))
      | inr t ↦
          let enough = all_but_one has.different whole t.m has.once (λ l k s. t.rest l (sym (has.same l) ∙ k) s) in
          let less = sames in
          let is = has.many in
          inr (omega (arith, enough, less, is), any_by (λ l. is_marked marks (negate l)) whole (negate t.m) t.turned (ap (is_marked marks) (negate-negate t.m) ∙ are t.m ∙ t.has_m))
    ]

  -- ---- signatures
  pub signatures_agree : (s t : ℕ) → IsSignature s part → IsSignature t whole → bears_on part whole ≡ true → HasOther s t → ⊥
  signatures_agree s t hs ht h (i, one, none) =
      let w = hs.only i one in
      let v = has_variable h w.0 (has_contained part w.0 w.1) in
      let set = All-contains (λ l. bit_at t (l.variable % 64) ≡ 1) whole v.0 ht.each (contained whole v.0 v.1) in
      let here : v.0.variable % 64 ≡ i = ap (λ n. n % 64) v.2 ∙ w.2 in
      let two = ap (bit_at t) (sym here) ∙ set in
      absurd (omega (arith, two, none))

-- ---- a whole that loses literals
pub bears_wider : (part whole wider : List Literal) → is_inside whole wider ≡ true → bears_on part whole ≡ true → bears_on part wider ≡ true
bears_wider part whole wider inside h = elim (bear_cases part whole h) [
  | inl i ↦ or_left (is_inside part wider) (strengthens part wider) (inside_through part whole wider i inside)
  | inr t ↦ or_right (is_inside part wider) (strengthens part wider) (any_by (strengthens_at part wider) part t.m t.has_m
      (and_from (has_literal wider (negate t.m)) (is_inside_but part t.m wider) (has_by_inside whole wider (negate t.m) inside t.turned)
      (all_by (λ l. same_literal l t.m || has_literal wider l) part (λ l k. by_cases (same_literal l t.m) (λ e. or_left (same_literal l t.m) (has_literal wider l) e)
      (λ e. or_right (same_literal l t.m) (has_literal wider l) (has_by_inside whole wider l inside (t.rest l k e)))))))
]
