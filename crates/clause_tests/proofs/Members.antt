-- Members of a list, by their places.
use Rattle.std.proofs.Common.{◌≡◌, ◌≢◌, ℕ, zero, suc, ◌+◌, ◌<◌, subst, ⊎_elim, true, false, List, [], ◌∷◌, length, get_or, sym, ap, ◌∙◌, true≢false, inl, inr, arith}
use Rattle.std.proofs.lemmas.Bool.{cases_eq}
use Rattle.std.proofs.lemmas.List.{get_or_default}
use Rattle.cx_base.specs.Literals.{Literal, same_literal}
use Rattle.cx_semantics.specs.Chain.{has_literal}
use Rattle.cx_base.proofs.LiteralLaws.{same_literal-itself}
use Rattle.cx_semantics.proofs.Members.{has_split}

pub place_of_member : (xs : List Literal) (m : Literal) → has_literal xs m ≡ true → (k : ℕ) × (k < length xs) × ((d : Literal) → get_or xs k d ≡ m)
place_of_member [] m h = absurd (true≢false (sym h))
place_of_member (x ∷ xs) m h = elim (has_split x xs m h) [
  | inl e ↦ (zero, omega arith, λ d. sym e)
  | inr g ↦ let r = place_of_member xs m g in let less = r.1 in (suc r.0, omega (arith, less), λ d. r.2 d)
]

pub not_same : (l m : Literal) → same_literal l m ≡ false → m ≢ l
not_same l m h e = true≢false (sym (ap (same_literal l) e ∙ same_literal-itself l) ∙ h)

-- what holds of the elements below a place, and of the one there
pub one_more : (P : Literal → Type 0) (lits : List Literal) (i : ℕ) (x : Literal) → x ≡ get_or lits i x → i < length lits → P x → ((k : ℕ) (d : Literal) → k < i → P (get_or lits k d)) → (k : ℕ) (d : Literal) → k < i + 1 → P (get_or lits k d)
one_more P lits i x is h here below k d b = ⊎_elim
    (λ (e : k ≡ i). subst (λ n. P (get_or lits n d)) (sym e) (subst P (is ∙ get_or_default lits i x d h) here))
    (λ (ne : k ≢ i). below k d (omega arith)) (cases_eq k i)
