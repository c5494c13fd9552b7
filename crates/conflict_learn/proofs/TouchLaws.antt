-- One more literal whose variable is marked, or that is skipped.
use Rattle.std.proofs.Common.{◌≡◌, refl, sym, ap, ◌∙◌, subst, ℕ, ◌<◌, ◌≤◌, Bool, true, false, List, [], ◌∷◌, ◌++◌, length, set, Option, inl, inr, nat_eq, eqb-true, arith}
use Rattle.std.proofs.lemmas.Bool.{eqb-false}
use Rattle.std.proofs.lemmas.List.{length-set}
use Rattle.cx_base.specs.Literals.{Literal, same_literal}
use Rattle.cx_semantics.specs.Chain.{has_literal}
use Rattle.cx_semantics.proofs.Members.{has_pushed}
use Rattle.cx_trail.specs.Sequence.{TrailState, IsTrail, IsFalseBefore, IsFalseIn}
use Rattle.conflict_learn.specs.Learning.{literal_at, skips, IsAntecedent}
use Rattle.conflict_learn.specs.Marks.{is_marked, StandBetween}
use Rattle.conflict_learn.specs.Touching.{Touched}
use Rattle.conflict_learn.proofs.ChainOfResolutions.{by_cases}
use Rattle.conflict_learn.proofs.MarkLaws.{set_mark, other_mark}

mark_stays : (marks : List Bool) (v w : ℕ) → v < length marks → is_marked marks w ≡ true → is_marked (set marks v true) w ≡ true
mark_stays marks v w wide m = by_cases (nat_eq w v)
    (λ e. ap (is_marked (set marks v true)) (eqb-true w v e) ∙ set_mark marks v true wide)
    (λ e. other_mark marks v w true (eqb-false w v e) ∙ m)

module _ (skip : Option Literal) (old marks : List Bool) (done : List Literal) (x : Literal) (t : Touched skip old marks done) where
  pub touched_more : (skips skip x ≡ false → is_marked marks x.variable ≡ true) → Touched skip old marks (done ++ x ∷ [])
  touched_more h = record {
    size = t.size;
    keeps = t.keeps;
    has = λ m k n. elim (has_pushed done x m k) [
      | inl g ↦ t.has m g n
      | inr e ↦ ap (λ (y : Literal). is_marked marks y.variable) e ∙ h (ap (skips skip) (sym e) ∙ n)
    ];
  }

  pub touched_put : x.variable < length marks → Touched skip old (set marks x.variable true) (done ++ x ∷ [])
  touched_put wide = record {
    size = length-set marks x.variable true ∙ t.size;
    keeps = λ v m. mark_stays marks x.variable v wide (t.keeps v m);
    has = λ m k n. elim (has_pushed done x m k) [
      | inl g ↦ mark_stays marks x.variable m.variable wide (t.has m g n)
      | inr e ↦ ap (λ (y : Literal). is_marked (set marks x.variable true) y.variable) e ∙ set_mark marks x.variable true wide
    ];
  }

module _ (trail : TrailState) where
  pub stand_put : (marks : List Bool) (low below v place new : ℕ) → place < below → (literal_at trail place).variable ≡ v → new ≤ low → new ≤ place → StandBetween trail marks low below → StandBetween trail (set marks v true) new below
  stand_put marks low below v place new less at under_low under_place stand w h = by_cases (nat_eq w v)
      (λ e. (place, under_place, less, at ∙ sym (eqb-true w v e)))
      (λ e. let r = stand w (sym (other_mark marks v w true (eqb-false w v e)) ∙ h) in let up = r.1 in (r.0, omega (arith, up, under_low), r.2, r.3))

  pub false_within : IsTrail trail → (m : Literal) → IsFalseIn trail.entries m → m.variable ≤ trail.variables
  false_within levels m f = subst (λ v. v ≤ trail.variables) (ap (λ (x : Literal). x.variable) f.1.1) (levels.high f.0 f.1.0)

  pub before_is_in : (place : ℕ) (m : Literal) → place ≤ length trail.entries → IsFalseBefore trail.entries place m → IsFalseIn trail.entries m
  before_is_in place m bound f = let less = f.1 in (f.0, (omega (arith, less, bound), f.2))

  -- an antecedent of the literal at a place
  pub antecedent_here : (t : TrailState) (l : Literal) (place : ℕ) (clause : List Literal) → t ≡ trail → l ≡ literal_at trail place → IsAntecedent t l clause → IsAntecedent trail (literal_at trail place) clause
  antecedent_here t l place clause same at a = subst (λ x. IsAntecedent trail x clause) at (subst (λ s. IsAntecedent s l clause) same a)

  pub others_before : (l : Literal) (place : ℕ) (clause : List Literal) → place < length trail.entries → l ≡ literal_at trail place → IsAntecedent trail (literal_at trail place) clause
      → (m : Literal) → has_literal clause m ≡ true → same_literal l m ≡ false → IsFalseBefore trail.entries place m
  others_before l place clause within at a m h n = (a place within refl).others_false m h (ap (λ x. same_literal x m) (sym at) ∙ n)
