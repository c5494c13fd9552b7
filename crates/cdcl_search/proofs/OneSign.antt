-- A list of one literal for each variable has one sign of each.
use Rattle.std.proofs.Common.{◌≡◌, refl, sym, ap, ◌∙◌, ℕ, suc, ◌+◌, ◌≤◌, Bool, true, false, cond, nat_eq, List, [], ◌∷◌, length, arith, inl, inr, true≢false}
use Rattle.std.specs.List.{list_any}
use Rattle.std.specs.Cmp.{nat_cmp_total}
use Rattle.std.specs.Ordering.{nat_cmp}
use Rattle.std.specs.FinSet as set
use Rattle.cx_base.specs.Literals.{Literal, same_literal}
use Rattle.cx_base.specs.Parity.{NormalForm, HasOneOfEach}
use Rattle.cx_semantics.specs.Chain.{has_literal}
use Rattle.cx_base.proofs.LiteralLaws.{same_literal-itself}
use Rattle.cx_semantics.proofs.Members.{has_split}
use Rattle.cx_semantics.proofs.RecoveredLaws.{Distinct}
use Rattle.cx_semantics.proofs.Widths.{variable_in, length-variables, variables}
use Rattle.conflict_learn.proofs.ChainOfResolutions.{by_cases}
use Rattle.search_steps.proofs.Sets.{not_both}

-- a set of a list's members has at most as many, and fewer where one occurs twice
len_more : (x : ℕ) (xs : List ℕ) → set.len (set.from_list {R = nat_cmp} (x ∷ xs)) ≡ cond (list_any (λ y. nat_eq y x) xs) (set.len (set.from_list {R = nat_cmp} xs)) (set.len (set.from_list {R = nat_cmp} xs) + 1)
len_more x xs = set.len-insert nat_cmp_total (set.from_list xs) x ∙ ap (λ b. cond b (set.len (set.from_list {R = nat_cmp} xs)) (set.len (set.from_list {R = nat_cmp} xs) + 1)) (set.contains-from_list_nat xs x)

at_most : (xs : List ℕ) → set.len (set.from_list {R = nat_cmp} xs) ≤ length xs
at_most [] = let none = set.len-empty nat_cmp in omega (arith, none)
at_most (x ∷ xs) = go (list_any (λ y. nat_eq y x) xs) refl (len_more x xs) (at_most xs)
  where
    go : (b : Bool) → list_any (λ y. nat_eq y x) xs ≡ b → set.len (set.from_list {R = nat_cmp} (x ∷ xs)) ≡ cond (list_any (λ y. nat_eq y x) xs) (set.len (set.from_list {R = nat_cmp} xs)) (set.len (set.from_list {R = nat_cmp} xs) + 1)
        → set.len (set.from_list {R = nat_cmp} xs) ≤ length xs → set.len (set.from_list {R = nat_cmp} (x ∷ xs)) ≤ suc (length xs)
    go true e h rec = let is = h ∙ ap (λ c. cond c (set.len (set.from_list {R = nat_cmp} xs)) (set.len (set.from_list {R = nat_cmp} xs) + 1)) e in omega (arith, is, rec)
    go false e h rec = let is = h ∙ ap (λ c. cond c (set.len (set.from_list {R = nat_cmp} xs)) (set.len (set.from_list {R = nat_cmp} xs) + 1)) e in omega (arith, is, rec)

-- so where it has as many, the head is not in the rest, and the rest has as many
heads_apart : (x : ℕ) (xs : List ℕ) → length (x ∷ xs) ≡ set.len (set.from_list {R = nat_cmp} (x ∷ xs)) → (list_any (λ y. nat_eq y x) xs ≡ false) × (length xs ≡ set.len (set.from_list {R = nat_cmp} xs))
heads_apart x xs h = by_cases (list_any (λ y. nat_eq y x) xs)
    (λ e. absurd (let is = h ∙ len_more x xs ∙ ap (λ c. cond c (set.len (set.from_list {R = nat_cmp} xs)) (set.len (set.from_list {R = nat_cmp} xs) + 1)) e in let few = at_most xs in omega (arith, is, few)))
    (λ e. (e, let is = h ∙ len_more x xs ∙ ap (λ c. cond c (set.len (set.from_list {R = nat_cmp} xs)) (set.len (set.from_list {R = nat_cmp} xs) + 1)) e in omega (arith, is)))

not_twice : (lits : List Literal) → length (variables lits) ≡ set.len (set.from_list {R = nat_cmp} (variables lits)) → (l m : Literal) → has_literal lits l ≡ true → has_literal lits m ≡ true → l.variable ≡ m.variable → l ≡ m
not_twice [] h l m a b same = absurd (true≢false (sym a))
not_twice (x ∷ lits) h l m a b same =
    let p = heads_apart x.variable (variables lits) h in
    elim (has_split x lits l a) [
      | inl e ↦ elim (has_split x lits m b) [
        | inl f ↦ e ∙ sym f
        | inr g ↦ absurd (not_both (list_any (λ y. nat_eq y x.variable) (variables lits)) (ap (λ v. list_any (λ y. nat_eq y v) (variables lits)) (ap (λ z. z.variable) (sym e) ∙ same) ∙ variable_in lits m g) p.0)
      ]
      | inr g ↦ elim (has_split x lits m b) [
        | inl f ↦ absurd (not_both (list_any (λ y. nat_eq y x.variable) (variables lits)) (ap (λ v. list_any (λ y. nat_eq y v) (variables lits)) (ap (λ z. z.variable) (sym f) ∙ sym same) ∙ variable_in lits l g) p.0)
        | inr k ↦ not_twice lits p.1 l m g k same
      ]
    ]

pub one_sign : (form : NormalForm) (lits : List Literal) → HasOneOfEach form.variables lits → (l m : Literal) → has_literal lits l ≡ true → has_literal lits m ≡ true → l.variable ≡ m.variable → same_literal l m ≡ false → ⊥
one_sign form lits each l m a b same apart =
    let one : l ≡ m = not_twice lits (length-variables lits ∙ each.once ∙ ap set.len (sym each.same)) l m a b same in
    true≢false (sym (same_literal-itself l) ∙ ap (same_literal l) one ∙ apart)

all_distinct : (xs : List ℕ) → length xs ≡ set.len (set.from_list {R = nat_cmp} xs) → Distinct xs
all_distinct [] h = tt
all_distinct (x ∷ xs) h = let p = heads_apart x xs h in (p.0, all_distinct xs p.1)

-- and each variable once
pub distinct_of_each : (form : NormalForm) (lits : List Literal) → HasOneOfEach form.variables lits → Distinct (variables lits)
distinct_of_each form lits each = all_distinct (variables lits) (length-variables lits ∙ each.once ∙ ap set.len (sym each.same))
