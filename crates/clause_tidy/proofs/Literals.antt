-- Members of clauses.
use Rattle.std.proofs.Common.{◌≡◌, refl, sym, ap, ◌∙◌, subst, Bool, true, false, ◌||◌, inl, inr, List, [], ◌∷◌, true≢false}
use Rattle.std.specs.List.{list_all}
use Rattle.std.proofs.lemmas.Bool.{and_parts}
use Rattle.cx_base.specs.Literals.{Literal, negate, same_literal}
use Rattle.cx_base.proofs.LiteralLaws.{negate-negate, are_one, same_literal-itself}
use Rattle.cx_semantics.specs.Chain.{has_literal, negations}
use Rattle.cx_semantics.proofs.Members.{has_split}

pub not_both : {A : Type 0} (b : Bool) → b ≡ true → b ≡ false → A
not_both b h k = absurd (true≢false (sym h ∙ k))

pub by_cases : {A : Type 0} (b : Bool) → (b ≡ true → A) → (b ≡ false → A) → A
by_cases true f g = f refl
by_cases false f g = g refl

pub both_ways : (x y : Bool) → (x ≡ true → y ≡ true) → (y ≡ true → x ≡ true) → x ≡ y
both_ways true y f g = sym (f refl)
both_ways false true f g = g refl
both_ways false false f g = refl

pub same_is : (l m : Literal) → l ≡ m → same_literal l m ≡ true
same_is l m e = ap (same_literal l) (sym e) ∙ same_literal-itself l

-- what holds of all members holds at each
pub all_at : (p : Literal → Bool) (lits : List Literal) (l : Literal) → list_all p lits ≡ true → has_literal lits l ≡ true → p l ≡ true
all_at p [] l h k = not_both false k refl
all_at p (x ∷ lits) l h k = let q = and_parts (p x) (list_all p lits) h in elim (has_split x lits l k) [
  | inl e ↦ ap p e ∙ q.0
  | inr g ↦ all_at p lits l q.1 g
]

-- ---- negations
swapped : (l m : Literal) → same_literal l (negate m) ≡ same_literal (negate l) m
swapped l m = both_ways _ _
    (λ h. subst (λ x. same_literal x m ≡ true) (sym (ap negate (are_one l (negate m) h) ∙ negate-negate m)) (same_literal-itself m))
    (λ h. subst (λ x. same_literal x (negate m) ≡ true) (sym (sym (negate-negate l) ∙ ap negate (are_one (negate l) m h))) (same_literal-itself (negate m)))

pub has_negations : (lits : List Literal) (l : Literal) → has_literal (negations lits) l ≡ has_literal lits (negate l)
has_negations [] l = refl
has_negations (m ∷ lits) l = (λ i. swapped l m i || has_negations lits l i)

pub has_negation : (lits : List Literal) (l : Literal) → has_literal (negations lits) (negate l) ≡ has_literal lits l
has_negation lits l = has_negations lits (negate l) ∙ ap (has_literal lits) (negate-negate l)
