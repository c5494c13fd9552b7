-- Clauses that rest by their literals alone: one that has a resting one inside it, and one that the code stores as another list.
use Rattle.std.proofs.Common.{◌≡◌, refl, sym, ap, ◌∙◌, zero, suc, true, false, List, [], ◌∷◌, Contains, ◌⊎◌, inl, inr, arith}
use Rattle.std.proofs.lemmas.Bool.{and_parts}
use Rattle.cx_base.specs.Literals.{Literal, negate, same_literal}
use Rattle.cx_semantics.specs.Chain.{has_literal, is_inside, same_literals, negations, left}
use Rattle.cx_semantics.specs.Fresh.{is_falsified}
use Rattle.cx_base.proofs.LiteralLaws.{are_one, same_literal-itself}
use Rattle.cx_semantics.proofs.Closure.{has_by_inside, falsified-left, some_are, left_in, left_open, left_has}
use Rattle.cx_semantics.proofs.Members.{has_at_head, has_behind, has_split, all_by}
use Rattle.cx_trail.specs.declared.entry.Entry.{Entry as TrailEntry}
use Rattle.search_steps.specs.Quiet.{RestsOn, HasNoClash, HasTrue, HasTwoOpen}
use Rattle.search_steps.specs.Tied.{IsTied, ForcesOn, IsQuietOn, AreOthersFalseOn, IsFalsifiedOn}
use Rattle.search_steps.specs.Trail.{Entry, all_held}
use Rattle.conflict_learn.proofs.ChainOfResolutions.{by_cases, negations_by}
use Rattle.search_steps.proofs.Sets.{not_both, member_of_all, one_left, true_rests, two_open_rests}
use Rattle.search_steps.proofs.Bridge.{true_is_held, open_is_unassigned}

pub rests_around : (u inner clause : List Literal) → is_inside inner clause ≡ true → RestsOn u inner → RestsOn u clause
rests_around u inner clause inside r = record {
  not_falsified = by_cases (is_falsified u clause)
      (λ e. not_both (is_falsified u inner) (all_by (λ m. has_literal u (negate m)) inner (λ m h. member_of_all (λ x. has_literal u (negate x)) clause m e (has_by_inside inner clause m inside h))) r.not_falsified)
      (λ e. e);
  unit_held = λ l e. r.unit_held l (some_are (left u inner) l
      (all_by (same_literal l) (left u inner) (λ m h.
      let is = one_left (left u clause) l m e (left_has u clause m (has_by_inside inner clause m inside (left_in u inner m h)) (left_open u inner m h)) in
      ap (same_literal l) is ∙ same_literal-itself l))
      (λ none. not_both (is_falsified u inner) (falsified-left u inner none) r.not_falsified));
}

-- ---- literals of a list by places and by test
pub has_of : (lits : List Literal) (l : Literal) → Contains lits l → has_literal lits l ≡ true
has_of [] l (i, less, is) = absurd (omega (arith, less))
has_of (x ∷ lits) l (zero, less, is) = ap (has_literal (x ∷ lits)) (sym is) ∙ has_at_head x lits
has_of (x ∷ lits) l (suc i, less, is) = has_behind x lits l (has_of lits l (i, omega (arith, less), is))

pub of_has : (lits : List Literal) (l : Literal) → has_literal lits l ≡ true → Contains lits l
of_has [] l h = not_both false h refl
of_has (x ∷ lits) l h = elim (has_split x lits l h) [
  | inl is ↦ (0, omega arith, sym is)
  | inr g ↦ let r = of_has lits l g in let less = r.1 in (suc r.0, omega (arith, less), r.2)
]

pub apart_of : (l m : Literal) → (l ≡ m → ⊥) → same_literal l m ≡ false
apart_of l m n = by_cases (same_literal l m) (λ e. absurd (n (are_one l m e))) (λ e. e)

-- ---- a stored list of literals, and the clause with the same ones
module _ (lits clause : List Literal) (same : same_literals lits clause ≡ true) where
  to_clause : (l : Literal) → has_literal lits l ≡ true → has_literal clause l ≡ true
  to_clause l h = has_by_inside lits clause l (and_parts (is_inside lits clause) (is_inside clause lits) same).0 h

  to_stored : (l : Literal) → has_literal clause l ≡ true → has_literal lits l ≡ true
  to_stored l h = has_by_inside clause lits l (and_parts (is_inside lits clause) (is_inside clause lits) same).1 h

  pub true_passes : (known : List Literal) → HasTrue known lits → HasTrue known clause
  true_passes known t = record { l = t.l; has_it = to_clause t.l t.has_it; is_held = t.is_held }

  pub two_open_pass : (known : List Literal) → HasTwoOpen known lits → HasTwoOpen known clause
  two_open_pass known t = record { l = t.l; m = t.m; has_l = to_clause t.l t.has_l; has_m = to_clause t.m t.has_m; apart = t.apart; open_l = t.open_l; open_m = t.open_m }

  -- the stored list has a true literal or two open ones, so the clause rests
  pub stored_rests : (known : List Literal) → HasNoClash known → HasTrue known lits ⊎ HasTwoOpen known lits → RestsOn known clause
  stored_rests known clash (inl t) = true_rests known clause clash (true_passes known t)
  stored_rests known clash (inr t) = two_open_rests known clause (two_open_pass known t)

  module _ (es : List Entry) (entries : List TrailEntry) (tied : IsTied es entries) where
    pub watched_rests : HasNoClash (all_held es) → IsQuietOn entries lits → RestsOn (all_held es) clause
    watched_rests clash (inl (l, has_it, is_true)) = stored_rests (all_held es) clash (inl (record { l = l; has_it = has_of lits l has_it; is_held = true_is_held es entries tied l is_true }))
    watched_rests clash (inr (l, m, has_l, has_m, apart, open_l, open_m)) = stored_rests (all_held es) clash (inr (record {
      l = l;
      m = m;
      has_l = has_of lits l has_l;
      has_m = has_of lits m has_m;
      apart = apart_of l m apart;
      open_l = (open_is_unassigned es entries tied l open_l).1;
      open_m = (open_is_unassigned es entries tied m open_m).1;
    }))

  -- what the stored list forces, the clause forces
  pub stored_forces : (entries : List TrailEntry) (l : Literal) → Contains lits l → AreOthersFalseOn entries lits l → ForcesOn entries clause l
  stored_forces entries l has_it others = record {
    has_it = to_clause l (has_of lits l has_it);
    others_false = λ m h n. others m (of_has lits m (to_stored m h)) (λ is. not_both (same_literal l m) (ap (same_literal l) is ∙ same_literal-itself l) n);
  }

  -- a falsified stored list leaves the clause false
  pub stored_is_false : (es : List Entry) (entries : List TrailEntry) → IsTied es entries → IsFalsifiedOn entries lits → is_inside (negations clause) (all_held es) ≡ true
  stored_is_false es entries tied f = negations_by clause (all_held es) (λ m h. true_is_held es entries tied (negate m) (f m (of_has lits m (to_stored m h))))
