-- The literals of a clause, and of two clauses joined.
use Rattle.std.proofs.Common.{◌≡◌, refl, sym, ap, ◌∙◌, ℕ, zero, suc, ◌<◌, Bool, true, ◌||◌, true≢false, List, [], ◌∷◌, ◌++◌, length, get_or, arith, ◌⊎◌, inl, inr}
use Rattle.std.proofs.lemmas.Bool.{or_left, or_right, or_cases, and_from}
use Rattle.std.specs.List.{list_all}
use Rattle.std.proofs.lemmas.List.Folds.{list_any-append}
use Rattle.cx_base.specs.Literals.{Literal, same_literal}
use Rattle.cx_semantics.specs.Chain.{has_literal}
use Rattle.cx_base.proofs.LiteralLaws.{are_one, same_literal-itself}

pub has_at_head : (m : Literal) (ms : List Literal) → has_literal (m ∷ ms) m ≡ true
has_at_head m ms = ap (λ b. b || has_literal ms m) (same_literal-itself m)

pub has_behind : (m : Literal) (ms : List Literal) (l : Literal) → has_literal ms l ≡ true → has_literal (m ∷ ms) l ≡ true
has_behind m ms l h = or_right (same_literal l m) _ h

pub has_split : (m : Literal) (ms : List Literal) (l : Literal) → has_literal (m ∷ ms) l ≡ true → (l ≡ m) ⊎ (has_literal ms l ≡ true)
has_split m ms l h = elim (or_cases (same_literal l m) (has_literal ms l) h) [ inl e ↦ inl (are_one l m e) | inr g ↦ inr g ]

pub has_left : (xs ys : List Literal) (m : Literal) → has_literal xs m ≡ true → has_literal (xs ++ ys) m ≡ true
has_left xs ys m h = list_any-append (same_literal m) xs ys ∙ or_left (has_literal xs m) (has_literal ys m) h

pub has_right : (xs ys : List Literal) (m : Literal) → has_literal ys m ≡ true → has_literal (xs ++ ys) m ≡ true
has_right xs ys m h = list_any-append (same_literal m) xs ys ∙ or_right (has_literal xs m) (has_literal ys m) h

pub has_either : (xs ys : List Literal) (m : Literal) → has_literal (xs ++ ys) m ≡ true → (has_literal xs m ≡ true) ⊎ (has_literal ys m ≡ true)
has_either xs ys m h = or_cases (has_literal xs m) (has_literal ys m) (sym (list_any-append (same_literal m) xs ys) ∙ h)

-- in the list, or the last one
pub has_pushed : (xs : List Literal) (x m : Literal) → has_literal (xs ++ x ∷ []) m ≡ true → (has_literal xs m ≡ true) ⊎ (m ≡ x)
has_pushed xs x m h = elim (has_either xs (x ∷ []) m h) [
  | inl g ↦ inl g
  | inr g ↦ elim (has_split x [] m g) [ inl e ↦ inr e | inr none ↦ absurd (true≢false (sym none)) ]
]

pub has_by_index : (xs : List Literal) (i : ℕ) (d : Literal) → i < length xs → has_literal xs (get_or xs i d) ≡ true
has_by_index [] i d h = absurd (omega (arith, h))
has_by_index (x ∷ xs) zero d h = has_at_head x xs
has_by_index (x ∷ xs) (suc i) d h = has_behind x xs (get_or xs i d) (has_by_index xs i d (omega (arith, h)))

-- what holds of each member holds of all
pub all_by : (p : Literal → Bool) (lits : List Literal) → ((m : Literal) → has_literal lits m ≡ true → p m ≡ true) → list_all p lits ≡ true
all_by p [] h = refl
all_by p (x ∷ lits) h = and_from _ _ (h x (has_at_head x lits)) (all_by p lits (λ m k. h m (has_behind x lits m k)))
