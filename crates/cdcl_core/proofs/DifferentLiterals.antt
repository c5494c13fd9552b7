-- Lists of literals without repeats.
use Rattle.std.proofs.Common.{◌≡◌, refl, sym, ap, ◌∙◌, subst, ℕ, ◌+◌, ◌<◌, true, false, List, [], ◌∷◌, ◌++◌, length, take, get_or, inl, inr}
use Rattle.std.proofs.lemmas.List.{take_more}
use Rattle.std.proofs.lemmas.Bool.{and_from}
use Rattle.cx_base.specs.Literals.{Literal}
use Rattle.cx_semantics.specs.Chain.{has_literal, same_literals}
use Rattle.cx_semantics.proofs.Members.{has_at_head, has_behind, has_split, has_pushed}
use Rattle.cx_semantics.proofs.SameSets.{inside_by}
use Rattle.conflict_learn.proofs.ChainOfResolutions.{by_cases}
use Rattle.search_steps.proofs.Sets.{not_both}
use Rattle.cdcl_core.specs.Clauses.{AreDifferent}

-- ---- one more at the end
has_before : (xs : List Literal) (y l : Literal) → has_literal xs l ≡ true → has_literal (xs ++ y ∷ []) l ≡ true
has_before [] y l h = not_both false h refl
has_before (x ∷ xs) y l h = elim (has_split x xs l h) [ inl is ↦ ap (has_literal (x ∷ xs ++ y ∷ [])) is ∙ has_at_head x (xs ++ y ∷ []) | inr g ↦ has_behind x (xs ++ y ∷ []) l (has_before xs y l g) ]

has_last : (xs : List Literal) (y : Literal) → has_literal (xs ++ y ∷ []) y ≡ true
has_last [] y = has_at_head y []
has_last (x ∷ xs) y = has_behind x (xs ++ y ∷ []) y (has_last xs y)

still_different : (xs : List Literal) (y : Literal) → AreDifferent xs → has_literal xs y ≡ false → AreDifferent (xs ++ y ∷ [])
still_different [] y d h = (refl, tt)
still_different (x ∷ xs) y d h = (
  by_cases (has_literal (xs ++ y ∷ []) x)
      (λ e. elim (has_pushed xs y x e) [
        | inl a ↦ not_both (has_literal xs x) a d.0
        | inr b ↦ not_both (has_literal (x ∷ xs) y) (ap (has_literal (x ∷ xs)) (sym b) ∙ has_at_head x xs) h
      ])
      (λ e. e),
  still_different xs y d.1 (by_cases (has_literal xs y) (λ e. not_both (has_literal (x ∷ xs) y) (has_behind x xs y e) h) (λ e. e)),
)

-- ---- what the loop has found among the first literals
pub record AreFound (lits found : List Literal) : Type 0 where
  pub there : (l : Literal) → has_literal found l ≡ true → has_literal lits l ≡ true
  pub back : (l : Literal) → has_literal lits l ≡ true → has_literal found l ≡ true
  pub once : AreDifferent found

pub same_found : (lits found : List Literal) → AreFound lits found → same_literals found lits ≡ true
same_found lits found f = and_from _ _ (inside_by found lits f.there) (inside_by lits found f.back)

module _ (lits found : List Literal) (i : ℕ) (l : Literal) (less : i < length lits) (at : l ≡ get_or lits i l) (f : AreFound (take i lits) found) where
  longer : take (i + 1) lits ≡ take i lits ++ l ∷ []
  longer = take_more lits i l less ∙ ap (λ x. take i lits ++ x ∷ []) (sym at)

  pub found_already : has_literal found l ≡ true → AreFound (take (i + 1) lits) found
  found_already h = subst (λ xs. AreFound xs found) (sym longer) (record {
    there = λ m g. has_before (take i lits) l m (f.there m g);
    back = λ m g. elim (has_pushed (take i lits) l m g) [ inl a ↦ f.back m a | inr b ↦ ap (has_literal found) b ∙ h ];
    once = f.once;
  })

  pub found_more : has_literal found l ≡ false → (now : List Literal) → now ≡ found ++ l ∷ [] → AreFound (take (i + 1) lits) now
  found_more h now are = subst (λ xs. AreFound xs now) (sym longer) (subst (AreFound (take i lits ++ l ∷ [])) (sym are) (record {
    there = λ m g. elim (has_pushed found l m g) [ inl a ↦ has_before (take i lits) l m (f.there m a) | inr b ↦ ap (has_literal (take i lits ++ l ∷ [])) b ∙ has_last (take i lits) l ];
    back = λ m g. elim (has_pushed (take i lits) l m g) [ inl a ↦ has_before found l m (f.back m a) | inr b ↦ ap (has_literal (found ++ l ∷ [])) b ∙ has_last found l ];
    once = still_different found l f.once h;
  }))
