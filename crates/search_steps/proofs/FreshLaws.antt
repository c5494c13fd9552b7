-- A clause that a conflict gives is fresh, and a literal of level 0 is not.
use Rattle.std.proofs.Common.{◌≡◌, refl, sym, ap, ◌∙◌, Bool, true, false, cond, not, List, [], ◌∷◌}
use Rattle.std.specs.List.{list_all}
use Rattle.std.proofs.lemmas.Bool.{not-true}
use Rattle.cx_base.specs.Literals.{Literal, negate, same_literal}
use Rattle.cx_semantics.specs.Chain.{has_literal, is_inside, left}
use Rattle.cx_semantics.specs.Fresh.{Fresh, IsLive, is_falsified, others, KeepsUnits, FalsifiesNone}
use Rattle.cx_semantics.specs.Tables.{Table}
use Rattle.cx_semantics.proofs.Closure.{has_by_inside, falsified-left, some_are}
use Rattle.cx_semantics.proofs.Members.{has_at_head, has_behind}
use Rattle.search_steps.specs.Quiet.{HasNoClash, ClausesQuiet}
use Rattle.conflict_learn.proofs.ChainOfResolutions.{by_cases, negations_by}
use Rattle.search_steps.proofs.Sets.{not_both, others_of, false_is_no_tautology}

module _ (table : Table) (all low : List Literal) (clash : HasNoClash all) (inside : is_inside low all ≡ true) (quiet : ClausesQuiet table low) where
  -- one literal of the clause is false, and the others are so in a part of what is held in which all clauses rest
  pub asserting_is_fresh : (lits : List Literal) (l : Literal) → has_literal lits l ≡ true → has_literal all (negate l) ≡ true
      → ((m : Literal) → has_literal lits m ≡ true → same_literal l m ≡ false → has_literal low (negate m) ≡ true) → Fresh table lits
  asserting_is_fresh lits l h f others_false = record {
    no_tautology = false_is_no_tautology all lits clash (negations_by lits all all_false);
    l = l;
    has_it = h;
    unknown = record {
      closed = low;
      has_given = negations_by (others lits l) low (λ m k. let r = others_of lits l m k in others_false m r.0 r.1);
      units = λ clause m live e. (quiet clause live).unit_held m e;
      no_conflict = λ clause live. (quiet clause live).not_falsified;
      not_in = by_cases (has_literal low l) (λ e. not_both (has_literal all (negate l)) f (clash l (has_by_inside low all l inside e))) (λ e. e);
    };
  }
    where
      all_false : (m : Literal) → has_literal lits m ≡ true → has_literal all (negate m) ≡ true
      all_false m k = by_cases (same_literal l m)
          (λ e. ap (λ x. has_literal all (negate x)) (sym (Rattle.cx_base.proofs.LiteralLaws.are_one l m e)) ∙ f)
          (λ e. has_by_inside low all (negate m) inside (others_false m k e))

-- ---- what closed sets take in
-- a closed set without conflict takes in the literal that a live clause forces from what it has
pub takes_forced : (table : Table) (u clause : List Literal) (l : Literal) → KeepsUnits (IsLive table) u → FalsifiesNone (IsLive table) u → IsLive table clause
    → ((m : Literal) → has_literal clause m ≡ true → same_literal l m ≡ false → has_literal u (negate m) ≡ true) → has_literal u l ≡ true
takes_forced table u clause l units no_conflict live h =
    units clause l live (some_are (left u clause) l (only clause (λ m k. h m k)) (λ e. not_both (is_falsified u clause) (falsified-left u clause e) (no_conflict clause live)))
  where
    step : (b : Bool) (m : Literal) (ms : List Literal) → (b ≡ true → same_literal l m ≡ true) → list_all (same_literal l) ms ≡ true → list_all (same_literal l) (cond b (m ∷ ms) ms) ≡ true
    step true m ms f g = Rattle.std.proofs.lemmas.Bool.and_from _ _ (f refl) g
    step false m ms f g = g

    only : (ms : List Literal) → ((m : Literal) → has_literal ms m ≡ true → same_literal l m ≡ false → has_literal u (negate m) ≡ true) → list_all (same_literal l) (left u ms) ≡ true
    only [] g = refl
    only (m ∷ ms) g = step (not (has_literal u (negate m))) m (left u ms)
        (λ e. by_cases (same_literal l m) (λ f. f) (λ f. not_both (has_literal u (negate m)) (g m (has_at_head m ms) f) (not-true _ e)))
        (only ms (λ x k. g x (has_behind m ms x k)))
