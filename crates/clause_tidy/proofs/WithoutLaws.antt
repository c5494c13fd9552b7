-- A clause without a literal, literal by literal.
use Rattle.std.proofs.Common.{◌≡◌, refl, sym, ap, ◌∙◌, subst, ℕ, ◌+◌, ◌<◌, ◌≤◌, Bool, true, false, not, ◌&&◌, ◌||◌, List, [], ◌∷◌, ◌++◌, length, take, get_or, ◌⊎◌, inl, inr, arith}
use Rattle.std.proofs.lemmas.Bool.{and_parts, or_cases}
use Rattle.std.proofs.lemmas.List.{take_more, take_all, length-append}
use Rattle.std.proofs.lemmas.List.Folds.{list_any-append}
use Rattle.cx_base.specs.Literals.{Literal, same_literal}
use Rattle.cx_base.proofs.LiteralLaws.{are_one, same_literal-itself}
use Rattle.cx_semantics.specs.Chain.{has_literal}
use Rattle.cx_semantics.proofs.Members.{has_at_head, has_behind, has_pushed}
use Rattle.clause_tidy.specs.Shortened.{AreDifferent, IsWithout}
use Rattle.clause_tidy.proofs.Literals.{not_both, by_cases}

or_nothing : (b : Bool) → (b || false) ≡ b
or_nothing true = refl
or_nothing false = refl

-- one more at the end
has_with : (xs : List Literal) (x m : Literal) → has_literal (xs ++ x ∷ []) m ≡ (has_literal xs m || same_literal m x)
has_with xs x m = list_any-append (same_literal m) xs (x ∷ []) ∙ ap (λ b. has_literal xs m || b) (or_nothing (same_literal m x))

still_different : (xs : List Literal) (y : Literal) → AreDifferent xs → has_literal xs y ≡ false → AreDifferent (xs ++ y ∷ [])
still_different [] y d h = (refl, tt)
still_different (x ∷ xs) y d h = (
  by_cases (has_literal (xs ++ y ∷ []) x)
      (λ e. elim (has_pushed xs y x e) [
        | inl a ↦ not_both (has_literal xs x) a d.0
        | inr b ↦ not_both (has_literal (x ∷ xs) y) (ap (has_literal (x ∷ xs)) (sym b) ∙ has_at_head x xs) h
      ])
      (λ e. e),
  still_different xs y d.1 (by_cases (has_literal xs y) (λ e. not_both (has_literal (x ∷ xs) y) (has_behind x xs y e) h) (λ e. e)),
)

-- what both sides have of a literal that is wanted, or was there, or is the one that goes
wanted : (found before is_x is_lit : Bool) → found ≡ (before && not is_lit) → (is_x ≡ true → is_lit ≡ false) → (found || is_x) ≡ ((before || is_x) && not is_lit)
wanted found true true true h f = absurd (not_both true refl (f refl))
wanted found true true false h f = ap (λ b. b || true) h
wanted found true false true h f = ap (λ b. b || false) h
wanted found true false false h f = ap (λ b. b || false) h
wanted found false true true h f = absurd (not_both true refl (f refl))
wanted found false true false h f = ap (λ b. b || true) h
wanted found false false is_lit h f = ap (λ b. b || false) h

unwanted : (found before is_x is_lit : Bool) → found ≡ (before && not is_lit) → (is_x ≡ true → found ≡ ((true || is_x) && not is_lit)) → found ≡ ((before || is_x) && not is_lit)
unwanted found true is_x is_lit h f = h
unwanted found false true is_lit h f = f refl
unwanted found false false is_lit h f = h

module _ (lits found : List Literal) (lit x : Literal) (i : ℕ) (less : i < length lits) (at : x ≡ get_or lits i x) (h : IsWithout (take i lits) lit found) where
  longer : take (i + 1) lits ≡ take i lits ++ x ∷ []
  longer = take_more lits i x less ∙ ap (λ y. take i lits ++ y ∷ []) (sym at)

  has_longer : (m : Literal) → has_literal (take (i + 1) lits) m ≡ (has_literal (take i lits) m || same_literal m x)
  has_longer m = ap (λ xs. has_literal xs m) longer ∙ has_with (take i lits) x m

  pub without_more : same_literal x lit ≡ false → has_literal found x ≡ false → (now : List Literal) → now ≡ found ++ x ∷ [] → IsWithout (take (i + 1) lits) lit now
  without_more other fresh now e = subst (IsWithout (take (i + 1) lits) lit) (sym e) (record {
    has = λ m.
        has_with found x m
        ∙ wanted (has_literal found m) (has_literal (take i lits) m) (same_literal m x) (same_literal m lit) (h.has m) (λ s. ap (λ (y : Literal). same_literal y lit) (are_one m x s) ∙ other)
        ∙ ap (λ b. b && not (same_literal m lit)) (sym (has_longer m));
    once = still_different found x h.once fresh;
  })

  pub without_that : same_literal x lit ≡ true → IsWithout (take (i + 1) lits) lit found
  without_that that = record {
    has = λ m.
        unwanted (has_literal found m) (has_literal (take i lits) m) (same_literal m x) (same_literal m lit) (h.has m)
        (λ s.
        let gone : same_literal m lit ≡ true = ap (λ (y : Literal). same_literal y lit) (are_one m x s) ∙ that in
        none_of (has_literal found m) (has_literal (take i lits) m) (same_literal m x) (same_literal m lit) (h.has m) gone)
        ∙ ap (λ b. b && not (same_literal m lit)) (sym (has_longer m));
    once = h.once;
  }
    where
      none_of : (f b s l : Bool) → f ≡ (b && not l) → l ≡ true → f ≡ ((true || s) && not l)
      none_of f true s l e t = e
      none_of f false s l e t = e ∙ sym (ap not t)

  pub without_again : has_literal found x ≡ true → IsWithout (take (i + 1) lits) lit found
  without_again there = record {
    has = λ m.
        unwanted (has_literal found m) (has_literal (take i lits) m) (same_literal m x) (same_literal m lit) (h.has m)
        (λ s.
        let is : m ≡ x = are_one m x s in
        let stays : has_literal found m ≡ true = ap (has_literal found) is ∙ there in
        stays ∙ sym (and_parts (has_literal (take i lits) m) (not (same_literal m lit)) (sym (h.has m) ∙ stays)).1)
        ∙ ap (λ b. b && not (same_literal m lit)) (sym (has_longer m));
    once = h.once;
  }

pub without_all : (lits found : List Literal) (lit : Literal) (i : ℕ) → length lits ≤ i → IsWithout (take i lits) lit found → IsWithout lits lit found
without_all lits found lit i past h = subst (λ xs. IsWithout xs lit found) (take_all i lits past) h

-- ---- and how many they are
abbrev pub IsCounted : ℕ → List Literal → Literal → List Literal → Type 0
IsCounted i lits lit found = record {
  so_far : IsWithout (take (i + 1) lits) lit found;
  few : length found ≤ i + 1;
  fewer : has_literal (take (i + 1) lits) lit ≡ true → length found < i + 1;
}

module _ (lits found : List Literal) (lit x : Literal) (i : ℕ) (less : i < length lits) (at : x ≡ get_or lits i x) (h : IsWithout (take i lits) lit found) (few : length found ≤ i) where
  pub counted_more : (has_literal (take i lits) lit ≡ true → length found < i) → same_literal x lit ≡ false → has_literal found x ≡ false → (now : List Literal) → now ≡ found ++ x ∷ [] → IsCounted i lits lit now
  counted_more fewer other fresh now e =
      let long : length now ≡ length found + 1 = ap (λ (xs : List Literal). length xs) e ∙ length-append found (x ∷ []) in
      record {
        so_far = without_more lits found lit x i less at h other fresh now e;
        few = omega (arith, long, few);
        fewer = λ has. elim (or_cases (has_literal (take i lits) lit) (same_literal lit x) (sym (has_longer lits found lit x i less at h lit) ∙ has)) [
          | inl before ↦ let f = fewer before in omega (arith, long, f)
          | inr same ↦ not_both (same_literal x lit) (ap (same_literal x) (are_one lit x same) ∙ same_literal-itself x) other
        ];
      }

  pub counted_past : (same_literal x lit ≡ true) ⊎ (has_literal found x ≡ true) → IsCounted i lits lit found
  counted_past why = record {
    so_far = elim why [ inl that ↦ without_that lits found lit x i less at h that | inr there ↦ without_again lits found lit x i less at h there ];
    few = omega (arith, few);
    fewer = λ _. omega (arith, few);
  }
