-- One tidying after another.
use Rattle.std.proofs.Common.{◌≡◌, ◌≢◌, refl, sym, ap, ◌∙◌, subst, ℕ, ℤ, Bool, inl, inr, List, [], ◌++◌, length-append, Option, IsSome, IsTrue, arith}
use Rattle.cx_base.specs.Assumptions.{is_ending}
use Rattle.cx_base.proofs.Elements.{all_append}
use Rattle.cx_base.specs.Literals.{Literal}
use Rattle.cx_base.specs.Problem.{Problem}
use Rattle.cx_base.specs.declared.steps.LogStep.{LogStep}
use Rattle.cx_base.specs.declared.steps.LogStep.TheVariants.{Delete}
use Rattle.cx_semantics.specs.Tables.{Table, get}
use Rattle.cx_semantics.proofs.Closure.{inside_itself}
use Rattle.tidy_rules.specs.Runs.{KeepsFree, NoneDeletes}
use Rattle.clause_arena.specs.Clauses.{ArenaState, Stored, clause_at, IsLive, literals_at, id_at, learned_at, id_in, learned_in}
use Rattle.clause_tidy.specs.Derived.{IsDerived, given, chained}
use Rattle.clause_tidy.specs.Tidying.{IsClauseOf, IsCovered, IsPartOf, LeavesIds, SparesLearned, Tidies, WasOrCame}
use Rattle.clause_tidy.specs.Shortened.{AreDifferent}
use Rattle.tidy_rules.proofs.InsideLaws.{inside_through, tautology_inside}
use Rattle.clause_tidy.proofs.RunLaws.{run_on}

-- what is derived from derived clauses is derived
pub derived_through : (P Q : List Literal → Type 0) → ((c : List Literal) → P c → IsDerived Q c) → (c : List Literal) → IsDerived P c → IsDerived Q c
derived_through P Q f c (given _ h) = f c h
derived_through P Q f c (chained _ hints all right) = chained c hints (λ h k. derived_through P Q f h (all h k)) right

pub nothing_tidied : (formula : Problem) (spare : ℕ) (a : ArenaState) → Tidies formula spare a a []
nothing_tidied formula spare a = record {
  covers = λ r l. inr (r, l, inside_itself (literals_at a r), λ e. e);
  derived = λ q l. given (literals_at a q) (q, l, refl);
  parts = λ q l. record { r = q; live = l; inside = inside_itself (literals_at a q); same = refl };
  learned = λ q l e. refl;
  grown = omega arith;
  was = λ q l. inl (l, refl);
  few = omega arith;
  runs = λ tables h. (tables, refl, h, (λ n free. free), (λ q l e. tt), λ r l. inr (r, l, refl));
}

module _ (formula : Problem) (spare : ℕ) (a b c : ArenaState) (ss ts : List LogStep) (h : Tidies formula spare a b ss) (k : Tidies formula spare b c ts) where
  cover_on : (clause : List Literal) (learned : Bool) → IsCovered b clause learned → IsCovered c clause learned
  cover_on clause learned (inl t) = inl t
  cover_on clause learned (inr (q, live, inside, kept)) = elim (k.covers q live) [
    | inl t ↦ inl (tautology_inside (literals_at b q) clause inside t)
    | inr (p, live_p, inside_p, kept_p) ↦ inr (p, live_p, inside_through (literals_at c p) (literals_at b q) clause inside_p inside, λ e. kept_p (kept e))
  ]

  derive_on : (q : ℕ) → IsLive c q → IsDerived (IsClauseOf a) (literals_at c q)
  derive_on q l = derived_through (IsClauseOf b) (IsClauseOf a) (λ x w. subst (IsDerived (IsClauseOf a)) w.2 (h.derived w.0 w.1)) (literals_at c q) (k.derived q l)

  part_on : (q : ℕ) → IsLive c q → IsPartOf a (literals_at c q) (id_at c q)
  part_on q l =
      let p = k.parts q l in
      let o = h.parts p.r p.live in
      record { r = o.r; live = o.live; inside = inside_through (literals_at c q) (literals_at b p.r) (literals_at a o.r) p.inside o.inside; same = p.same ∙ o.same }

  learn_on : (q : ℕ) → IsLive c q → IsTrue (learned_at c q) → clause_at c q ≡ clause_at a q
  learn_on q l e =
      let same = k.learned q l e in
      same ∙ h.learned q (subst (λ (o : Rattle.std.specs.Prelude.Option Stored). Rattle.std.specs.Prelude.IsSome o) same l) (sym (ap learned_in same) ∙ e)

  spare_on : SparesLearned b ss → SparesLearned c ts → SparesLearned c (ss ++ ts)
  spare_on f g q l e =
      let same = k.learned q l e in
      let old : IsLive b q = subst (λ (o : Option Stored). IsSome o) same l in
      all_append (λ step. (zs : List ℤ) → step ≢ Delete (id_at c q) zs) ss ts (subst (λ n. NoneDeletes n ss) (sym (ap id_in same)) (f q old (sym (ap learned_in same) ∙ e))) (g q l e)

  was_on : (q : ℕ) → IsLive c q → WasOrCame formula a c q
  was_on q l = elim (k.was q l) [
    | inl (old, same) ↦ elim (h.was q old) [
      | inl (older, also) ↦ inl (older, same ∙ also)
      | inr (past, different, going) ↦
          inr (past, subst AreDifferent (sym same) different, ap (is_ending formula.constraints) same ∙ going)
    ]
    | inr (past, different, going) ↦ inr ((let one = h.grown in omega (arith, one, past)), different, going)
  ]

  ids_on : (mid last : Table) → KeepsFree mid last → LeavesIds a b mid → LeavesIds b c last → LeavesIds a c last
  ids_on mid last free f g r l = elim (f r l) [
    | inl none ↦ inl (free (id_at a r) none)
    | inr (q, live, is) ↦ elim (g q live) [
      | inl none ↦ inl (ap (get last) (sym is) ∙ none)
      | inr (p, live_p, is_p) ↦ inr (p, live_p, is_p ∙ is)
    ]
  ]

  pub tidied_on : Tidies formula spare a c (ss ++ ts)
  tidied_on = record {
    covers = λ r l. cover_on (literals_at a r) (learned_at a r) (h.covers r l);
    derived = derive_on;
    parts = part_on;
    learned = learn_on;
    grown = let one = h.grown in let two = k.grown in omega (arith, one, two);
    was = was_on;
    few = let long = length-append ss ts in let one = h.few in let two = k.few in omega (arith, long, one, two);
    runs = λ tables agree.
        let x = h.runs tables agree in
        let y = k.runs x.0 x.2 in (
          y.0,
          run_on formula tables x.0 y.0 ss ts x.1 y.1,
          y.2,
          (λ n free. y.3 n (x.3 n free)),
          spare_on x.4 y.4,
          ids_on x.0.clauses y.0.clauses y.3 x.5 y.5,
        );
  }
