-- A shortened clause is tidying.
use Rattle.std.proofs.Common.{◌≡◌, ◌≢◌, refl, sym, ap, ◌∙◌, subst, ℕ, ◌<◌, ◌≤◌, ℤ, nat_abs, true, false, ◌⊎◌, inl, inr, ⊎_elim, List, [], ◌∷◌, ◌++◌, length, set, get_or, Option, Some, None, arith, true≢false}
use Rattle.std.specs.List.{list_any}
use Rattle.std.specs.Prelude.{Contains, nat_lt}
use Rattle.std.proofs.lemmas.Bool.{cases_eq}
use Rattle.std.proofs.lemmas.List.{length-append, length-set}
use Rattle.std.proofs.lemmas.List.Elements.{Contains-append_cases}
use Rattle.cx_base.specs.Assumptions.{is_ending}
use Rattle.cx_base.specs.Literals.{Literal, negate}
use Rattle.cx_base.specs.Problem.{Problem}
use Rattle.cx_base.specs.Integers.{literals}
use Rattle.cx_semantics.specs.Chain.{has_literal, is_inside}
use Rattle.cx_semantics.specs.Fresh.{is_tautology}
use Rattle.cx_semantics.proofs.Closure.{inside_itself}
use Rattle.clause_arena.specs.Clauses.{ArenaState, Stored, clause_at, IsLive, literals_at, id_at, learned_at, literals_in, id_in, learned_in}
use Rattle.clause_arena.proofs.PackingLaws.{live_within}
use Rattle.tidy_rules.specs.Relations.{strengthens_at}
use Rattle.clause_tidy.specs.Derived.{IsDerived, given, chained}
use Rattle.clause_tidy.specs.Shortened.{AreDifferent, IsWithout, Shortens}
use Rattle.clause_tidy.specs.Steps.{shortening}
use Rattle.clause_tidy.specs.Tidying.{IsClauseOf, IsCovered, IsPartOf, Tidies, WasOrCame}
use Rattle.clause_tidy.proofs.ChainsOfTwo.{chain_of_two}
use Rattle.clause_tidy.proofs.Arenas
use Rattle.clause_tidy.proofs.Removing.{NoClause}
use Rattle.clause_tidy.proofs.WeightLaws.{less_shorter}
use Rattle.clause_tidy.proofs.ShorterRuns.{without_inside, runs_shortening, free_again, agrees_shortened, spares_others, leaves_ids}

one_of_one : (x h : List Literal) → Contains (x ∷ []) h → h ≡ x
one_of_one x h (k, less, e) = let first : k ≡ 0 = omega (arith, less) in sym e ∙ ap (λ i. get_or (x ∷ []) i h) first

one_of_two : (x y h : List Literal) → Contains (x ∷ y ∷ []) h → (h ≡ x) ⊎ (h ≡ y)
one_of_two x y h c = elim (Contains-append_cases (x ∷ []) (y ∷ []) h c) [ inl g ↦ inl (one_of_one x h g) | inr g ↦ inr (one_of_one y h g) ]

-- what is left of a shortened clause was derived
pub rest_derived : (a : ArenaState) (k r : ℕ) → IsLive a k → IsLive a r → (rest : List Literal) → Shortens a k r rest → IsDerived (IsClauseOf a) rest
rest_derived a k r live_k live rest s = chained rest (literals_at a k ∷ literals_at a r ∷ [])
    (λ h c. elim (one_of_two (literals_at a k) (literals_at a r) h c) [
      | inl e ↦ given h (k, live_k, sym e)
      | inr e ↦ given h (r, live, sym e)
    ])
    (chain_of_two (literals_at a k) (literals_at a r) rest s.m s.has_m s.at s.by_ok s.ok s.is)

module _ (formula : Problem) (spare : ℕ) (a b : ArenaState) (r k : ℕ) (live : IsLive a r) (live_k : IsLive a k) (short : List Literal) (m : Literal) (zs : List ℤ)
    (has_m : has_literal (literals_at a k) m ≡ true) (at : strengthens_at (literals_at a k) (literals_at a r) m ≡ true)
    (by_ok : is_tautology (literals_at a k) ≡ false) (ok : is_tautology (literals_at a r) ≡ false) (is : IsWithout (literals_at a r) (negate m) short)
    (spells : literals zs ≡ short) (within : list_any (λ z. nat_lt formula.variables (nat_abs z)) zs ≡ false) (no_end : is_ending formula.constraints (literals zs) ≡ false)
    (lbd : ℕ) (grown : b.clauses ≡ set a.clauses r None ++ Some (record { literals = short; id = id_at a r; lbd = lbd; learned = false }) ∷ []) (shorter : length short < length (literals_at a r)) where
  abbrev new : Stored
  new = record { literals = short; id = id_at a r; lbd = lbd; learned = false }

  at_end : clause_at b (length a.clauses) ≡ Some new
  at_end = Arenas.last a b r live new grown

  cover : (p : ℕ) → IsLive a p → IsCovered b (literals_at a p) (learned_at a p)
  cover p l = ⊎_elim
      (λ (same : p ≡ r). subst (λ x. IsCovered b (literals_at a x) (learned_at a x)) (sym same)
      (inr (
        length a.clauses,
        Arenas.new_lives a b r live new grown,
        ap (λ (o : Option Stored). is_inside (literals_in o) (literals_at a r)) at_end ∙ without_inside (literals_at a r) short (negate m) is,
        λ e. ap learned_in at_end,
      )))
      (λ (ne : p ≢ r).
      let stay = Arenas.stays a b r live new grown p (live_within a p l) ne in
      inr (p, Arenas.is_live_on a b r live new grown p ne l, ap (λ (o : Option Stored). is_inside (literals_in o) (literals_at a p)) stay ∙ inside_itself (literals_at a p), λ e. ap learned_in stay ∙ e)) (cases_eq p r)

  short_derived : IsDerived (IsClauseOf a) short
  short_derived = chained short (literals_at a k ∷ literals_at a r ∷ [])
      (λ h c. elim (one_of_two (literals_at a k) (literals_at a r) h c) [
        | inl e ↦ given h (k, live_k, sym e)
        | inr e ↦ given h (r, live, sym e)
      ])
      (chain_of_two (literals_at a k) (literals_at a r) short m has_m at by_ok ok is)

  derive : (q : ℕ) → Arenas.Which a b r live new grown q → IsLive b q → IsDerived (IsClauseOf a) (literals_at b q)
  derive q (Arenas.newest e) l = subst (IsDerived (IsClauseOf a)) (sym (ap (literals_at b) e ∙ ap literals_in at_end)) short_derived
  derive q (Arenas.older low ne) l = given (literals_at b q) (q, Arenas.was_live a b r live new grown q low ne l, sym (ap literals_in (Arenas.stays a b r live new grown q low ne)))

  part : (q : ℕ) → Arenas.Which a b r live new grown q → IsLive b q → IsPartOf a (literals_at b q) (id_at b q)
  part q (Arenas.newest e) l = record {
    r = r;
    live = live;
    inside = ap (λ (x : List Literal). is_inside x (literals_at a r)) (ap (literals_at b) e ∙ ap literals_in at_end) ∙ without_inside (literals_at a r) short (negate m) is;
    same = ap (id_at b) e ∙ ap id_in at_end;
  }
  part q (Arenas.older low ne) l =
      let stay = Arenas.stays a b r live new grown q low ne in
      record { r = q; live = Arenas.was_live a b r live new grown q low ne l; inside = ap (λ (o : Option Stored). is_inside (literals_in o) (literals_at a q)) stay ∙ inside_itself (literals_at a q); same = ap id_in stay }

  learn : (q : ℕ) → Arenas.Which a b r live new grown q → IsLive b q → learned_at b q ≡ true → clause_at b q ≡ clause_at a q
  learn q (Arenas.newest e) l t = absurd (true≢false (sym t ∙ ap (learned_at b) e ∙ ap learned_in at_end))
  learn q (Arenas.older low ne) l t = Arenas.stays a b r live new grown q low ne

  longer : length a.clauses ≤ length b.clauses
  longer =
      let one = length-append (set a.clauses r NoClause) (Some new ∷ []) in
      let two = length-set a.clauses r NoClause in
      let three = ap (λ (cs : List (Option Stored)). length cs) grown in
      omega (arith, one, two, three)

  old_or_new : (q : ℕ) → Arenas.Which a b r live new grown q → IsLive b q → WasOrCame formula a b q
  old_or_new q (Arenas.newest e) l =
      let lits : literals_at b q ≡ short = ap (literals_at b) e ∙ ap literals_in at_end in
      inr (omega (arith, e), subst AreDifferent (sym lits) is.once, ap (is_ending formula.constraints) (lits ∙ sym spells) ∙ no_end)
  old_or_new q (Arenas.older low ne) l = inl (Arenas.was_live a b r live new grown q low ne l, ap literals_in (Arenas.stays a b r live new grown q low ne))

  pub shortening_tidies : Tidies formula spare a b (shortening spare (id_at a k) (id_at a r) zs)
  shortening_tidies = record {
    covers = cover;
    derived = λ q l. derive q (Arenas.which a b r live new grown q l) l;
    parts = λ q l. part q (Arenas.which a b r live new grown q l) l;
    learned = λ q l t. learn q (Arenas.which a b r live new grown q l) l t;
    grown = longer;
    few = let less = less_shorter a b r new live shorter grown in let four : length (shortening spare (id_at a k) (id_at a r) zs) ≡ 4 = refl in omega (arith, less, four);
    was = λ q l. old_or_new q (Arenas.which a b r live new grown q l) l;
    runs = λ tables h. (
      _,
      runs_shortening formula spare tables.clauses tables.parities a r k live live_k short m zs h has_m at by_ok ok is spells within no_end,
      agrees_shortened formula spare tables.clauses tables.parities a r k live live_k short m zs h has_m at by_ok ok is spells within b lbd grown,
      free_again formula spare tables.clauses tables.parities a r k live live_k short m zs h has_m at by_ok ok is spells within,
      spares_others formula spare tables.clauses tables.parities a r k live live_k short m zs h has_m at by_ok ok is spells within b lbd grown,
      leaves_ids formula spare tables.clauses tables.parities a r k live live_k short m zs h has_m at by_ok ok is spells within b lbd grown,
    );
  }
