-- The chains that tidying tells.
use Rattle.std.proofs.Common.{◌≡◌, sym, ap, ◌∙◌, true, false, not, ◌&&◌, ◌||◌, inl, inr, List, [], ◌∷◌}
use Rattle.std.proofs.lemmas.Bool.{and_parts, and_from, or_cases}
use Rattle.cx_base.specs.Literals.{Literal, negate, same_literal}
use Rattle.cx_base.proofs.LiteralLaws.{negate-negate, are_one}
use Rattle.cx_semantics.specs.Chain.{has_literal, is_inside, negations, left, Left, one, count_left, go_on, chain, IsChain}
use Rattle.cx_semantics.specs.Fresh.{is_tautology, is_falsified}
use Rattle.cx_semantics.proofs.Closure.{some_are, left_in, left_open, left_has, left_nil}
use Rattle.cx_semantics.proofs.Members.{has_at_head, has_behind, all_by}
use Rattle.tidy_rules.specs.Relations.{is_inside_but, strengthens_at}
use Rattle.clause_tidy.specs.Shortened.{IsWithout}
use Rattle.tidy_rules.proofs.InsideLaws.{tautology_by}
use Rattle.clause_tidy.proofs.Literals.{not_both, by_cases, all_at, same_is, has_negation}

-- ---- the same literals again
-- nothing is left of a clause inside the target
inside_is_falsified : (clause target : List Literal) → is_inside clause target ≡ true → is_falsified (negations target) clause ≡ true
inside_is_falsified clause target h = all_by (λ l. has_literal (negations target) (negate l)) clause (λ l g. has_negation target l ∙ all_at (has_literal target) clause l h g)

pub chain_of_part : (clause target : List Literal) → is_inside clause target ≡ true → IsChain target (clause ∷ [])
chain_of_part clause target h = ap (λ (c : List Literal). go_on (count_left c) (λ l. chain (l ∷ negations target) [])) (left_nil (negations target) clause (inside_is_falsified clause target h))

-- ---- without a literal
-- The first clause strengthens the second at m. What is left of the second has a right chain of the two.
module _ (by clause shorter : List Literal) (m : Literal) (has_m : has_literal by m ≡ true) (at : strengthens_at by clause m ≡ true)
    (by_ok : is_tautology by ≡ false) (clause_ok : is_tautology clause ≡ false) (is : IsWithout clause (negate m) shorter) where
  turned : has_literal clause (negate m) ≡ true
  turned = (and_parts (has_literal clause (negate m)) (is_inside_but by m clause) at).0

  inside_but : is_inside_but by m clause ≡ true
  inside_but = (and_parts (has_literal clause (negate m)) (is_inside_but by m clause) at).1

  not_in_clause : has_literal clause m ≡ false
  not_in_clause = by_cases (has_literal clause m) (λ e. not_both (is_tautology clause) (tautology_by clause m e turned) clause_ok) (λ e. e)

  not_turned : has_literal by (negate m) ≡ false
  not_turned = by_cases (has_literal by (negate m)) (λ e. not_both (is_tautology by) (tautology_by by m has_m e) by_ok) (λ e. e)

  -- a literal of the first but m is in what is left of the second
  other_stays : (l : Literal) → has_literal by l ≡ true → same_literal l m ≡ false → has_literal shorter l ≡ true
  other_stays l h ne =
      let there : has_literal clause l ≡ true = elim (or_cases (same_literal l m) (has_literal clause l) (all_at (λ x. same_literal x m || has_literal clause x) by l inside_but h)) [
        | inl e ↦ not_both (same_literal l m) e ne
        | inr g ↦ g
      ] in
      let apart : same_literal l (negate m) ≡ false = by_cases (same_literal l (negate m))
      (λ e. not_both (has_literal by (negate m)) (ap (has_literal by) (sym (are_one l (negate m) e)) ∙ h) not_turned) (λ e. e) in
      is.has l ∙ and_from (has_literal clause l) (not (same_literal l (negate m))) there (ap not apart)

  m_is_gone : has_literal shorter m ≡ false
  m_is_gone = is.has m ∙ ap (λ b. b && not (same_literal m (negate m))) not_in_clause

  -- just m is left of the first
  m_is_left : has_literal (left (negations shorter) by) m ≡ true
  m_is_left = left_has (negations shorter) by m has_m (has_negation shorter m ∙ m_is_gone)

  only_m : (l : Literal) → has_literal (left (negations shorter) by) l ≡ true → same_literal m l ≡ true
  only_m l h = by_cases (same_literal l m)
      (λ e. same_is m l (sym (are_one l m e)))
      (λ ne. not_both (has_literal shorter l) (other_stays l (left_in (negations shorter) by l h) ne) (sym (has_negation shorter l) ∙ left_open (negations shorter) by l h))

  one_is_left : count_left (left (negations shorter) by) ≡ one m
  one_is_left = some_are (left (negations shorter) by) m (all_by (same_literal m) (left (negations shorter) by) only_m)
      (λ e. not_both (has_literal (left (negations shorter) by) m) m_is_left (ap (λ (x : List Literal). has_literal x m) e))

  -- nothing is left of the second then
  false_there : (l : Literal) → has_literal clause l ≡ true → has_literal (m ∷ negations shorter) (negate l) ≡ true
  false_there l h = by_cases (same_literal l (negate m))
      (λ e. ap (has_literal (m ∷ negations shorter)) (ap negate (are_one l (negate m) e) ∙ negate-negate m) ∙ has_at_head m (negations shorter))
      (λ ne. has_behind m (negations shorter) (negate l) (has_negation shorter l ∙ is.has l ∙ and_from (has_literal clause l) (not (same_literal l (negate m))) h (ap not ne)))

  pub chain_of_two : IsChain shorter (by ∷ clause ∷ [])
  chain_of_two =
      ap (λ (c : Left). go_on c (λ l. chain (l ∷ negations shorter) (clause ∷ []))) one_is_left
      ∙ ap (λ (c : List Literal). go_on (count_left c) (λ l. chain (l ∷ m ∷ negations shorter) [])) (left_nil (m ∷ negations shorter) clause (all_by (λ l. has_literal (m ∷ negations shorter) (negate l)) clause false_there))
