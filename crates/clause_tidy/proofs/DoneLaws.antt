-- A tidied arena, and the units that were taken out of it.
use Rattle.std.proofs.Common.{◌≡◌, ◌≢◌, inl, inr, refl, sym, ap, ◌∙◌, subst, ℕ, zero, suc, ◌<◌, ◌≤◌, Bool, true, List, [], ◌∷◌, length, get_or, Option, Some, arith}
use Rattle.std.specs.List.{Contains}
use Rattle.std.proofs.lemmas.Bool.{and_parts}
use Rattle.cx_base.specs.Assumptions.{is_ending}
use Rattle.cx_base.specs.Literals.{Literal}
use Rattle.cx_base.specs.Problem.{Problem}
use Rattle.cx_base.specs.declared.steps.LogStep.{LogStep}
use Rattle.cx_semantics.specs.Chain.{has_literal, is_inside, same_literals}
use Rattle.cx_semantics.specs.Fresh.{is_tautology}
use Rattle.cx_semantics.specs.Tables.{Table, get}
use Rattle.clause_arena.specs.Clauses.{ArenaState, Stored, IsLive, literals_at, id_at, learned_at, literals_in, id_in, learned_in}
use Rattle.tidy_rules.specs.declared.part.TidyPart.{TidyPart}
use Rattle.tidy_rules.specs.declared.part.TidyPart.TheVariants.{Clause, Unit as AUnit}
use Rattle.tidy_rules.specs.Parts.{IsPart, Tidied, lits_in}
use Rattle.tidy_rules.specs.Relations.{strengthens}
use Rattle.clause_tidy.specs.declared.outcome.TidyOf.{TidyOf}
use Rattle.clause_tidy.specs.declared.outcome.TidyOf.TheVariants.{Done, Ended}
use Rattle.clause_tidy.specs.Agreeing.{IsNamedBy, Agrees}
use Rattle.clause_tidy.specs.Derived.{IsDerived}
use Rattle.clause_tidy.specs.Done.{ArePartsOf, IsCoveredBy, AreNamed, IsTidied, LeavesIdsOr, TidiesTo, TakesUnits}
use Rattle.clause_tidy.specs.Shortened.{AreDifferent}
use Rattle.clause_tidy.specs.Taking.{Lists, IsUnitAt, Takes, IsWide}
use Rattle.clause_tidy.specs.Tidying.{IsClauseOf, IsCovered, IsPartOf, LeavesIds, SparesLearned, Tidies, WasOrCame}
use Rattle.tidy_rules.specs.Runs.{NoneDeletes}
use Rattle.tidy_rules.proofs.OneLaws.{not_two}
use Rattle.clause_tidy.proofs.LeftLaws.{was_there}
use Rattle.clause_tidy.proofs.WeightLaws.{left_weighs}

any_default : {X : Type 0} (xs : List X) (i : ℕ) (d e : X) → i < length xs → get_or xs i d ≡ get_or xs i e
any_default [] i d e h = absurd (omega (arith, h))
any_default (x ∷ xs) zero d e h = refl
any_default (x ∷ xs) (suc i) d e h = any_default xs i d e (omega (arith, h))

same_clause : (x y : List Literal) → Some x ≡ Some y → x ≡ y
same_clause x y e = cc

module _ (formula : Problem) (spare : ℕ) (a m b : ArenaState) (units : List Literal) (ids : List ℕ) (steps : List LogStep) (t : Tidies formula spare a m steps) (tidy : Tidied m []) (k : Takes m b units ids) where
  -- ---- each part is a clause of the arena before
  unit_there : (l : Literal) → Contains units l → (r : ℕ) × (n : ℕ) × IsUnitAt m r l n × (IsLive b r → ⊥)
  unit_there l (i, less, e) =
      let n = get_or ids i 0 in
      let w = k.there l n (i, less, e, any_default ids i n 0 (omega (arith, less, k.each))) in
      (w.0, n, w.1, w.2)

  ref_of : (p : TidyPart) → IsPart b units p → (r : ℕ) × IsLive m r × (lits_in b p ≡ literals_at m r)
  ref_of (Clause r) l = (r, was_there m b k.left r l, ap literals_in (k.left.same r l))
  ref_of (AUnit x) h = let w = unit_there x h in (w.0, w.2.0, sym w.2.1)

  one_part : (p q : TidyPart) (hp : IsPart b units p) (hq : IsPart b units q) → (ref_of p hp).0 ≡ (ref_of q hq).0 → p ≡ q
  unfolding ref_of
  one_part (Clause r) (Clause q) hp hq e = ap Clause e
  one_part (Clause r) (AUnit x) hp hq e = absurd ((unit_there x hq).3 (subst (IsLive b) e hp))
  one_part (AUnit x) (Clause q) hp hq e = absurd ((unit_there x hp).3 (subst (IsLive b) (sym e) hq))
  one_part (AUnit x) (AUnit y) hp hq e = ap AUnit (head (sym (unit_there x hp).2.1 ∙ ap (literals_at m) e ∙ (unit_there y hq).2.1))
    where
      head : x ∷ [] ≡ y ∷ [] → x ≡ y
      head f = cc

  refs_differ : (p q : TidyPart) (hp : IsPart b units p) (hq : IsPart b units q) → p ≢ q → Clause (ref_of p hp).0 ≢ Clause (ref_of q hq).0
  refs_differ p q hp hq ne e = ne (one_part p q hp hq (number (ref_of p hp).0 (ref_of q hq).0 e))
    where
      number : (x y : ℕ) → ◌≡◌ {A = TidyPart} (Clause x) (Clause y) → x ≡ y
      number x y f = cc

  all_tidied : Tidied b units
  all_tidied = record {
    no_tautology = λ p hp. let r = ref_of p hp in ap is_tautology r.2 ∙ tidy.no_tautology (Clause r.0) r.1;
    none_inside = λ p q hp hq ne.
        let r = ref_of p hp in
        let s = ref_of q hq in
        ap (λ x. is_inside x (lits_in b q)) r.2 ∙ ap (is_inside (literals_at m r.0)) s.2 ∙ tidy.none_inside (Clause r.0) (Clause s.0) r.1 s.1 (refs_differ p q hp hq ne);
    none_strengthened = λ p q hp hq ne.
        let r = ref_of p hp in
        let s = ref_of q hq in
        ap (λ x. strengthens x (lits_in b q)) r.2 ∙ ap (strengthens (literals_at m r.0)) s.2 ∙ tidy.none_strengthened (Clause r.0) (Clause s.0) r.1 s.1 (refs_differ p q hp hq ne);
  }

  are_parts : ArePartsOf a b units ids
  are_parts = record {
    each_clause = λ q l. let same = k.left.same q l in subst (λ (o : Option Stored). IsPartOf a (literals_in o) (id_in o)) (sym same) (t.parts q (was_there m b k.left q l));
    each_unit = λ l n w.
        let r = k.there l n w in
        subst (λ x. IsPartOf a (l ∷ []) x) r.1.2 (subst (λ (x : List Literal). IsPartOf a x (id_at m r.0)) r.1.1 (t.parts r.0 r.1.0));
  }

  -- ---- what was there is covered
  covered : (clause : List Literal) (learned : Bool) → IsCovered m clause learned → IsCoveredBy b units clause learned
  covered clause learned (inl taut) = inl (inl taut)
  covered clause learned (inr (q, live, inside, kept)) = elim (k.taken q live) [
    | inl on ↦
        let same = k.left.same q on in
        inl (inr (q, on, ap (λ (o : Option Stored). is_inside (literals_in o) clause) same ∙ inside, λ e. ap learned_in same ∙ kept e))
    | inr (l, n, (i, less, e, f), u) ↦
        let one : is_inside (l ∷ []) clause ≡ true = ap (λ (x : List Literal). is_inside x clause) (sym u.1) ∙ inside in
        inr (l, (i, less, e), (and_parts (has_literal clause l) true one).0)
  ]

  -- ---- the log
  module _ (table : Table) (h : Agrees spare table m) where
    named : AreNamed table units ids
    named l n w =
        let r = k.there l n w in
        subst (λ x. IsNamedBy table (l ∷ []) x) r.1.2 (subst (λ (x : List Literal). IsNamedBy table x (id_at m r.0)) r.1.1 (h.stored r.0 r.1.0))

    agrees_still : Agrees spare table b
    agrees_still = record {
      stored = λ q l.
          let same = k.left.same q l in
          let s = h.stored q (was_there m b k.left q l) in
          record { clause = s.clause; live = ap (get table) (ap id_in same) ∙ s.live; same = ap (λ (o : Option Stored). same_literals (literals_in o) s.clause) same ∙ s.same };
      apart = λ q p lq lp e. h.apart q p (was_there m b k.left q lq) (was_there m b k.left p lp) (sym (ap id_in (k.left.same q lq)) ∙ e ∙ ap id_in (k.left.same p lp));
      held = λ n clause e two.
          let w = h.held n clause e two in
          elim (k.taken w.0 w.1) [
            | inl on ↦ (w.0, on, ap id_in (k.left.same w.0 on) ∙ w.2)
            | inr (l, x, lists, u) ↦
                let s = h.stored w.0 w.1 in
                let is : s.clause ≡ clause = same_clause s.clause clause (sym s.live ∙ ap (get table) w.2 ∙ e) in
                absurd (not_two l clause (subst (λ (y : List Literal). same_literals (l ∷ []) y ≡ true) is (subst (λ (y : List Literal). same_literals y s.clause ≡ true) u.1 s.same)) two)
          ];
      free = h.free;
    }

  spared : SparesLearned m steps → SparesLearned b steps
  spared f q l e = let same = k.left.same q l in subst (λ n. NoneDeletes n steps) (sym (ap id_in same)) (f q (was_there m b k.left q l) (sym (ap learned_in same) ∙ e))

  ids_left : (table : Table) → LeavesIds a m table → LeavesIdsOr a b units ids table
  ids_left table f r l = elim (f r l) [
    | inl none ↦ inl none
    | inr (q, live, is) ↦ elim (k.taken q live) [
      | inl on ↦ inr (inl (q, on, ap id_in (k.left.same q on) ∙ is))
      | inr (u, n, lists, unit) ↦ inr (inr (u, subst (λ x. Lists units ids u x) (sym unit.2 ∙ is) lists))
    ]
  ]

  old_or_new : (q : ℕ) → IsLive b q → WasOrCame formula a b q
  old_or_new q l =
      let same = ap literals_in (k.left.same q l) in
      elim (t.was q (was_there m b k.left q l)) [
        | inl (old, also) ↦ inl (old, same ∙ also)
        | inr (past, different, going) ↦
            inr (past, subst AreDifferent (sym same) different, ap (is_ending formula.constraints) same ∙ going)
      ]

  pub is_done : (first : ℕ) → first ≡ length a.clauses → ((q : ℕ) → first ≤ q → IsWide b q) → IsTidied formula spare a b units ids steps
  is_done first e wide = record {
    tidied = all_tidied;
    each = k.each;
    covers = λ r l. covered (literals_at a r) (learned_at a r) (t.covers r l);
    derived = λ p hp. let r = ref_of p hp in subst (IsDerived (IsClauseOf a)) (sym r.2) (t.derived r.0 r.1);
    parts = are_parts;
    learned = λ q l tr. k.left.same q l ∙ t.learned q (was_there m b k.left q l) (sym (ap learned_in (k.left.same q l)) ∙ tr);
    wide = λ q low. wide q (omega (arith, low, e));
    was = old_or_new;
    runs = (
      (let one = t.few in let two = left_weighs m b k.left in omega (arith, one, two)),
      (λ tables agree. let x = t.runs tables agree in (x.0, x.1, agrees_still x.0.clauses x.2, named x.0.clauses x.2, x.3, spared x.4, ids_left x.0.clauses x.5)),
    );
  }

pub outcome_is : (formula : Problem) (spare : ℕ) (a m b : ArenaState) (steps : List LogStep) (first : ℕ) (o : TidyOf) → Tidies formula spare a m steps → Tidied m [] → first ≡ length a.clauses → TakesUnits m b first o → TidiesTo formula spare a b o steps
outcome_is formula spare a m b steps first (Done units ids) t tidy e h = is_done formula spare a m b units ids steps t tidy h.0 first e h.1
outcome_is formula spare a m b steps first (Ended lits) t tidy e h = absurd h
