-- A list of literals, sorted, and each literal once.
use Rattle.std.proofs.Common.{◌≡◌, sym, ap, ◌∙◌, subst, zero, suc, Bool, true, nat_eq, nat_cmp, eqb-true, List, [], ◌∷◌, arith, true≢false, inl, inr}
use Rattle.std.specs.List.{AllByRecursion, Contains, dedup}
use Rattle.std.specs.List.Sorted.{IsPermutation, IsSorted, IsStrictlySortedBy}
use Rattle.std.specs.Cmp.{IsTotalOrder, nat_cmp_total, on_total, on_equiv, nat_eq_equiv, unsigned_tied, tied_itself}
use Rattle.std.specs.Ordering.{is_lt}
use Rattle.std.specs.declared.cmp.Ordering.{Ordering}
use Rattle.std.specs.declared.cmp.Ordering.TheVariants.{Less}
use Rattle.std.proofs.lemmas.Bool.{false_from_ne_true}
use Rattle.std.proofs.lemmas.List.Kept.{Contains-dedup, Contains-from_dedup, IsStrictlySortedBy-dedup}
use Rattle.std.proofs.lemmas.List.Sorted.{Contains-permutation, IsPermutation-sym}
use Rattle.cx_base.specs.Literals.{Literal, code_of, literal_of_code}
use Rattle.cx_base.specs.Codes.{literal_of_code-code_of}
use Rattle.cx_base.proofs.Elements.{in_tail}
use Rattle.cx_semantics.specs.Chain.{has_literal}
use Rattle.cx_semantics.proofs.Members.{has_at_head, has_behind, has_split}
use Rattle.cdcl_core.specs.Clauses.{AreDifferent}
use Rattle.cdcl_core.proofs.DifferentLiterals.{AreFound}

abbrev code_cmp : Literal → Literal → Ordering
code_cmp x y = nat_cmp (code_of x) (code_of y)

abbrev same_code : Literal → Literal → Bool
same_code x y = nat_eq (code_of x) (code_of y)

code_total : IsTotalOrder code_cmp
code_total = on_total code_of nat_cmp_total

one_code : (x y : Literal) → same_code x y ≡ true → x ≡ y
one_code x y h = sym (literal_of_code-code_of x) ∙ ap literal_of_code (eqb-true (code_of x) (code_of y) h) ∙ literal_of_code-code_of y

contains : (xs : List Literal) (q : Literal) → has_literal xs q ≡ true → Contains xs q
contains [] q h = absurd (true≢false (sym h))
contains (x ∷ xs) q h = elim (has_split x xs q h) [
  | inl e ↦ (zero, omega arith, sym e)
  | inr later ↦ in_tail x xs q (contains xs q later)
]

contained : (xs : List Literal) (q : Literal) → Contains xs q → has_literal xs q ≡ true
contained [] q c = absurd (let lt = c.1 in omega arith)
contained (x ∷ xs) q (zero, lt, e) = subst (λ (y : Literal). has_literal (x ∷ xs) y ≡ true) e (has_at_head x xs)
contained (x ∷ xs) q (suc i, lt, e) = has_behind x xs q (contained xs q (i, omega arith, e))

holds_at : (P : Literal → Type 0) (xs : List Literal) (q : Literal) → AllByRecursion P xs → has_literal xs q ≡ true → P q
holds_at P [] q all h = absurd (true≢false (sym h))
holds_at P (x ∷ xs) q all h = elim (has_split x xs q h) [
  | inl e ↦ subst P (sym e) all.0
  | inr later ↦ holds_at P xs q all.1 later
]

strict_different : (xs : List Literal) → IsStrictlySortedBy code_cmp xs → AreDifferent xs
unfolding IsStrictlySortedBy
strict_different [] s = tt
strict_different (x ∷ xs) s = (
  false_from_ne_true (has_literal xs x) (λ h. true≢false (sym (ap is_lt (holds_at (λ y. code_cmp x y ≡ Less) xs x s.0 h)) ∙ ap is_lt (tied_itself code_total x))),
  strict_different xs s.1,
)

pub sorted_found : (lits sorted found : List Literal) → IsPermutation lits sorted → IsSorted code_cmp sorted → found ≡ dedup same_code sorted → AreFound lits found
sorted_found lits sorted found moved up is = record {
  there = λ l h. contained lits l (Contains-permutation sorted lits l (IsPermutation-sym lits sorted moved) (Contains-from_dedup same_code sorted l (subst (λ (xs : List Literal). Contains xs l) is (contains found l h))));
  back = λ l h. contained found l (subst (λ (xs : List Literal). Contains xs l) (sym is) (Contains-dedup (on_equiv code_of nat_eq_equiv) one_code sorted l (Contains-permutation lits sorted l moved (contains lits l h))));
  once = strict_different found (subst (IsStrictlySortedBy code_cmp) (sym is) (IsStrictlySortedBy-dedup code_total (λ x y. sym (unsigned_tied (code_of x) (code_of y))) sorted up));
}
