-- A clause that is kept as one that was not learned.
use Rattle.std.proofs.Common.{◌≡◌, ◌≢◌, refl, sym, ap, ◌∙◌, ℕ, true, false, inl, inr, ⊎_elim, List, [], length, set, get_or, Option, Some, None, is_some, true≢false, arith}
use Rattle.std.proofs.lemmas.Bool.{cases_eq}
use Rattle.std.proofs.lemmas.List.{get_or-set_same, get_or-set_other, length-set}
use Rattle.cx_base.specs.Literals.{Literal}
use Rattle.cx_base.specs.Problem.{Problem}
use Rattle.cx_semantics.specs.Chain.{is_inside, same_literals}
use Rattle.cx_semantics.specs.Tables.{Table, get}
use Rattle.cx_semantics.proofs.Closure.{inside_itself}
use Rattle.clause_arena.specs.Clauses.{ArenaState, Stored, clause_at, IsLive, literals_at, id_at, learned_at, literals_in, id_in, learned_in, kept}
use Rattle.clause_arena.proofs.PackingLaws.{live_within}
use Rattle.clause_tidy.specs.Derived.{given}
use Rattle.clause_tidy.specs.Agreeing.{Agrees}
use Rattle.clause_tidy.specs.Tidying.{Tidies}
use Rattle.clause_tidy.proofs.Removing.{NoClause}
use Rattle.clause_tidy.proofs.WeightLaws.{same_kept}

kept_literals : (o : Option Stored) → literals_in (kept o) ≡ literals_in o
kept_literals None = refl
kept_literals (Some c) = refl

kept_id : (o : Option Stored) → id_in (kept o) ≡ id_in o
kept_id None = refl
kept_id (Some c) = refl

kept_learned : (o : Option Stored) → learned_in (kept o) ≡ false
kept_learned None = refl
kept_learned (Some c) = refl

kept_lives : (o : Option Stored) → is_some (kept o) ≡ is_some o
kept_lives None = refl
kept_lives (Some c) = refl

module _ (a b : ArenaState) (k : ℕ) (live : IsLive a k) (is : b.clauses ≡ set a.clauses k (kept (clause_at a k))) where
  pub kept_here : clause_at b k ≡ kept (clause_at a k)
  kept_here = ap (λ (cs : List (Option Stored)). get_or cs k NoClause) is ∙ get_or-set_same a.clauses k (kept (clause_at a k)) None (live_within a k live)

  other_stays : (q : ℕ) → q ≢ k → clause_at b q ≡ clause_at a q
  other_stays q ne = ap (λ (cs : List (Option Stored)). get_or cs q NoClause) is ∙ get_or-set_other a.clauses k q (kept (clause_at a k)) None ne

  -- all but whether it was learned
  pub same_part : {X : Type 0} (f : Option Stored → X) → ((o : Option Stored) → f (kept o) ≡ f o) → (q : ℕ) → f (clause_at b q) ≡ f (clause_at a q)
  same_part f g q = ⊎_elim
      (λ (e : q ≡ k). ap (λ x. f (clause_at b x)) e ∙ ap f kept_here ∙ g (clause_at a k) ∙ ap (λ x. f (clause_at a x)) (sym e))
      (λ (ne : q ≢ k). ap f (other_stays q ne)) (cases_eq q k)

  pub same_literals_at : (q : ℕ) → literals_at b q ≡ literals_at a q
  same_literals_at = same_part literals_in kept_literals

  pub same_id_at : (q : ℕ) → id_at b q ≡ id_at a q
  same_id_at = same_part id_in kept_id

  pub was_live : (q : ℕ) → IsLive b q → IsLive a q
  was_live q l = sym (same_part is_some kept_lives q) ∙ l

  pub is_live : (q : ℕ) → IsLive a q → IsLive b q
  is_live q l = same_part is_some kept_lives q ∙ l

  pub not_learned_here : learned_at b k ≡ false
  not_learned_here = ap learned_in kept_here ∙ kept_learned (clause_at a k)

  still_not_learned : (q : ℕ) → learned_at a q ≡ false → learned_at b q ≡ false
  still_not_learned q h = ⊎_elim (λ (e : q ≡ k). ap (learned_at b) e ∙ not_learned_here) (λ (ne : q ≢ k). ap learned_in (other_stays q ne) ∙ h) (cases_eq q k)

  learned_stays : (q : ℕ) → learned_at b q ≡ true → clause_at b q ≡ clause_at a q
  learned_stays q h = ⊎_elim (λ (e : q ≡ k). absurd (true≢false (sym h ∙ ap (learned_at b) e ∙ not_learned_here))) (λ (ne : q ≢ k). other_stays q ne) (cases_eq q k)

  agrees_kept : (spare : ℕ) (table : Table) → Agrees spare table a → Agrees spare table b
  agrees_kept spare table h = record {
    stored = λ q l.
        let s = h.stored q (was_live q l) in
        record { clause = s.clause; live = ap (get table) (same_id_at q) ∙ s.live; same = ap (λ (x : List Literal). same_literals x s.clause) (same_literals_at q) ∙ s.same };
    apart = λ q p lq lp e. h.apart q p (was_live q lq) (was_live p lp) (sym (same_id_at q) ∙ e ∙ same_id_at p);
    held = λ n clause e two. let w = h.held n clause e two in (w.0, is_live w.0 w.1, same_id_at w.0 ∙ w.2);
    free = h.free;
  }

  pub keeping_tidies : (formula : Problem) (spare : ℕ) → Tidies formula spare a b []
  keeping_tidies formula spare = record {
    covers = λ r l. inr (r, is_live r l, ap (λ (x : List Literal). is_inside x (literals_at a r)) (same_literals_at r) ∙ inside_itself (literals_at a r), still_not_learned r);
    derived = λ q l. given (literals_at b q) (q, was_live q l, sym (same_literals_at q));
    parts = λ q l. record { r = q; live = was_live q l; inside = ap (λ (x : List Literal). is_inside x (literals_at a q)) (same_literals_at q) ∙ inside_itself (literals_at a q); same = same_id_at q };
    learned = λ q l e. learned_stays q e;
    grown = let long = ap (λ (cs : List (Option Stored)). length cs) is ∙ length-set a.clauses k (kept (clause_at a k)) in omega (arith, long);
    was = λ q l. inl (was_live q l, same_literals_at q);
    few = let same = same_kept a b k live is in omega (arith, same);
    runs = λ tables h. (tables, refl, agrees_kept spare tables.clauses h, (λ n free. free), (λ q l e. tt), λ r l. inr (r, is_live r l, same_id_at r));
  }
