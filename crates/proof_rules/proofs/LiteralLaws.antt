-- Literals by their order, and lists of literals as sets.
use Rattle.std.proofs.Common.{◌≡◌, refl, sym, ap, ◌∙◌, subst, ℕ, true, nat_eq, eqb-true, eq-eqb, List, ◌∷◌, length, get_or, drop, take, ◌<◌, ◌+◌, Result, Ok, Err, OnErr}
use Rattle.std.proofs.lemmas.List.{drop_more}
use Rattle.std.proofs.lemmas.List.Elements.{All-take}
use Rattle.std.proofs.lemmas.List.Sums.{AllPass-from_list_all, list_all-from_AllPass}
use Rattle.std.proofs.lemmas.Slice.Eq.{slice_eq-Decides}
use Rattle.std.specs.Bool.{Decides}
use Rattle.std.specs.Cmp.{both_ways}
use Rattle.std.specs.Cmp.Lexicographic.{pointwise}
use Rattle.cx_base.specs.Literals.{Literal, code_of, literal_of_code, same_literal}
use Rattle.cx_base.specs.Codes.{literal_of_code-code_of}
use Rattle.cx_base.proofs.LiteralLaws.{are_one, same_literal-itself}
use Rattle.cx_semantics.specs.Chain.{has_literal, is_inside}
use Rattle.cx_semantics.proofs.Closure.{inside_itself}

-- literals are those of their codes
pub same_code : (q k : Literal) → nat_eq (code_of q) (code_of k) ≡ same_literal q k
same_code q k = both_ways _ _
    (λ h. let e : q ≡ k = sym (literal_of_code-code_of q) ∙ ap literal_of_code (eqb-true (code_of q) (code_of k) h) ∙ literal_of_code-code_of k in subst (λ x. same_literal q x ≡ true) e (same_literal-itself q))
    (λ h. eq-eqb (code_of q) (code_of k) (ap code_of (are_one q k h)))

-- what `==` says of two lists of literals
decides : (a b : Literal) → Decides (nat_eq (code_of a) (code_of b)) (a ≡ b)
decides a b = (λ h. are_one a b (sym (same_code a b) ∙ h), λ e. eq-eqb (code_of a) (code_of b) (ap code_of e))

pub same_lists : (xs ys : List Literal) → pointwise (λ a b. nat_eq (code_of a) (code_of b)) xs ys ≡ true → xs ≡ ys
same_lists xs ys h = (slice_eq-Decides decides xs ys (pointwise (λ a b. nat_eq (code_of a) (code_of b)) xs ys) refl).0 h

-- what is left of a list at its item x
pub next_item : {X : Type 0} → (xs : List X) (i : ℕ) (x : X) → i < length xs → x ≡ get_or xs i x → drop i xs ≡ x ∷ drop (i + 1) xs
next_item xs i x h e = drop_more xs i x h ∙ ap (λ y. y ∷ drop (i + 1) xs) (sym e)

-- the first literals of a list are among its literals
pub first_inside : (lits : List Literal) (n : ℕ) → is_inside (take n lits) lits ≡ true
first_inside lits n = list_all-from_AllPass (has_literal lits) (take n lits) (All-take (λ l. has_literal lits l ≡ true) n lits (AllPass-from_list_all (has_literal lits) lits (inside_itself lits)))

-- what holds, holds at an error
pub at_err : {T E : Type 0} (r : Result T E) (P : Type 0) → P → OnErr r P
at_err (Ok x) P p = tt
at_err (Err e) P p = p
