-- A clause that loses a literal, by another that strengthens it.
use Rattle.std.proofs.Common.{◌≡◌, ◌≢◌, refl, sym, ap, ◌∙◌, subst, ℕ, ℤ, pos, nat_abs, true, false, true≢false, not, inr, ⊎_elim, List, [], ◌∷◌, ◌++◌, length, set, Option, Some, None, is_some}
use Rattle.std.specs.List.{list_any, cons_option}
use Rattle.std.specs.Prelude.{nat_lt}
use Rattle.std.specs.FinMap as map_
use Rattle.std.proofs.lemmas.Bool.{cases_eq, and_parts, and_from}
use Rattle.cx_base.specs.Assumptions.{is_ending}
use Rattle.cx_base.specs.Literals.{Literal, negate, same_literal, HasTwo}
use Rattle.cx_base.specs.Problem.{Problem}
use Rattle.cx_base.specs.Integers.{literals}
use Rattle.cx_base.specs.declared.steps.LogStep.TheVariants.{ClauseWithHints, Delete}
use Rattle.cx_semantics.specs.Chain.{has_literal, is_inside, same_literals, IsChain}
use Rattle.cx_semantics.specs.Fresh.{is_tautology}
use Rattle.cx_semantics.specs.Judging.{IsRight}
use Rattle.cx_semantics.specs.LogRules.{log_calculus}
use Rattle.cx_semantics.specs.Tables.{Table, Tables, get, named}
use Rattle.cx_semantics.proofs.Closure.{inside_itself}
use Rattle.cx_semantics.proofs.SameSets.{HaveSame-by_test, chain_stays_right, inside_by}
use Rattle.clause_arena.specs.Clauses.{ArenaState, Stored, clause_at, IsLive, literals_at, id_at, learned_at, literals_in, id_in, learned_in}
use Rattle.clause_arena.proofs.PackingLaws.{live_within}
use Rattle.tidy_rules.specs.Relations.{strengthens_at}
use Rattle.clause_tidy.specs.Agreeing.{IsNamedBy, Agrees}
use Rattle.tidy_rules.specs.Hints.{AreHintsFor}
use Rattle.tidy_rules.specs.Runs.{IsTidyStep, KeepsFree, NoneDeletes, RunsTidily, EndsTidily}
use Rattle.clause_tidy.specs.Shortened.{IsWithout}
use Rattle.clause_tidy.specs.Steps.{shortening, strengthening}
use Rattle.tidy_rules.proofs.InsideLaws.{inside_through, no_tautology_inside}
use Rattle.clause_tidy.proofs.ChainsOfTwo.{chain_of_part, chain_of_two}
use Rattle.clause_tidy.proofs.Arenas
use Rattle.clause_tidy.specs.Tidying.{LeavesIds, SparesLearned}
use Rattle.clause_tidy.proofs.Removing.{of_table, same_deleted}
use Rattle.clause_tidy.proofs.TableLooks.{put_same, put_other, drop_other, drop_same, no_clause}

-- the shorter clause lies inside the longer one
pub without_inside : (clause shorter : List Literal) (l : Literal) → IsWithout clause l shorter → is_inside shorter clause ≡ true
without_inside clause shorter l is = inside_by shorter clause (λ m h. (and_parts (has_literal clause m) (not (same_literal m l)) (sym (is.has m) ∙ h)).0)

no_deletion : (n m : ℕ) (zs hints ys : List ℤ) → ClauseWithHints n zs hints ≡ Delete m ys → ⊥
no_deletion n m zs hints ys e = cc

-- ---- the log
-- the literals of the step, and of the clause that it makes shorter
module _ (formula : Problem) (spare : ℕ) (table : Table) (parities : Table) (a : ArenaState) (r k : ℕ) (live : IsLive a r) (live_k : IsLive a k)
    (short : List Literal) (m : Literal) (zs : List ℤ) (h : Agrees spare table a)
    (has_m : has_literal (literals_at a k) m ≡ true) (at : strengthens_at (literals_at a k) (literals_at a r) m ≡ true)
    (by_ok : is_tautology (literals_at a k) ≡ false) (ok : is_tautology (literals_at a r) ≡ false) (is : IsWithout (literals_at a r) (negate m) short)
    (spells : literals zs ≡ short) (within : list_any (λ z. nat_lt formula.variables (nat_abs z)) zs ≡ false) where
  abbrev pub n : ℕ
  n = id_at a r

  abbrev pub T0 : Tables
  T0 = record { clauses = table; parities = parities }

  abbrev pub t1 : Table
  t1 = map_.insert table spare (literals zs)

  abbrev pub t2 : Table
  t2 = map_.remove t1 n

  abbrev pub t3 : Table
  t3 = map_.insert t2 n (literals zs)

  abbrev pub t4 : Table
  t4 = map_.remove t3 spare

  mine : IsNamedBy table (literals_at a r) n
  mine = h.stored r live

  its : IsNamedBy table (literals_at a k) (id_at a k)
  its = h.stored k live_k

  apart : n ≢ spare
  apart e = no_clause mine.clause (sym mine.live ∙ ap (get table) e ∙ h.free)

  inside_mine : is_inside (literals zs) mine.clause ≡ true
  inside_mine = ap (λ (x : List Literal). is_inside x mine.clause) spells
      ∙ inside_through short (literals_at a r) mine.clause (without_inside (literals_at a r) short (negate m) is) (and_parts (is_inside (literals_at a r) mine.clause) (is_inside mine.clause (literals_at a r)) mine.same).0

  mine_ok : is_tautology mine.clause ≡ false
  mine_ok = no_tautology_inside mine.clause (literals_at a r) (and_parts (is_inside (literals_at a r) mine.clause) (is_inside mine.clause (literals_at a r)) mine.same).1 ok

  short_ok : is_tautology (literals zs) ≡ false
  short_ok = no_tautology_inside (literals zs) mine.clause inside_mine mine_ok

  -- the chain of the two live clauses
  first_hints : AreHintsFor table (literals zs) (pos (id_at a k) ∷ pos n ∷ [])
  first_hints = record {
    ids = id_at a k ∷ n ∷ [];
    are = refl;
    live = (ap is_some its.live, (ap is_some mine.live, tt));
    chain = subst (λ (x : List Literal). IsChain x (named table (id_at a k ∷ n ∷ []))) (sym spells)
        (subst (λ (cs : List (List Literal)). IsChain short cs) (sym ((λ i. cons_option (its.live i) (cons_option (mine.live i) []))))
        (chain_stays_right short short (literals_at a k ∷ literals_at a r ∷ []) (its.clause ∷ mine.clause ∷ []) (λ l. refl)
        (HaveSame-by_test (literals_at a k) its.clause its.same, (HaveSame-by_test (literals_at a r) mine.clause mine.same, tt))
        (chain_of_two (literals_at a k) (literals_at a r) short m has_m at by_ok ok is)));
  }

  pub first_right : IsRight (log_calculus formula) T0 (strengthening spare (id_at a k) n zs)
  first_right = (within, (ap is_some h.free, ((first_hints.ids, first_hints.live, first_hints.chain), tt)))

  first_tidy : IsTidyStep table (strengthening spare (id_at a k) n zs)
  first_tidy = (first_hints, mine.clause, (n, mine.live), inside_mine, mine_ok)

  -- the old one goes
  spare_there : get t1 spare ≡ Some (literals zs)
  spare_there = put_same table spare (literals zs)

  mine_there : get t1 n ≡ Some mine.clause
  mine_there = put_other table spare n (literals zs) apart ∙ mine.live

  second_tidy : IsTidyStep t1 (Delete n [])
  second_tidy = inr (spare, (λ e. apart (sym e)), literals zs, spare_there, ap (is_inside (literals zs)) (of_table t1 n mine.clause mine_there) ∙ inside_mine)

  -- the shorter one comes under its id
  spare_still : get t2 spare ≡ Some (literals zs)
  spare_still = drop_other t1 n spare (λ e. apart (sym e)) ∙ spare_there

  third_hints : AreHintsFor t2 (literals zs) (pos spare ∷ [])
  third_hints = record {
    ids = spare ∷ [];
    are = refl;
    live = (ap is_some spare_still, tt);
    chain = subst (λ (cs : List (List Literal)). IsChain (literals zs) cs) (sym (λ i. cons_option (spare_still i) [])) (chain_of_part (literals zs) (literals zs) (inside_itself (literals zs)));
  }

  third_right : IsRight (log_calculus formula) (record { clauses = t2; parities = parities }) (ClauseWithHints n zs (pos spare ∷ []))
  third_right = (within, (ap is_some (drop_same t1 n), ((third_hints.ids, third_hints.live, third_hints.chain), tt)))

  third_tidy : IsTidyStep t2 (ClauseWithHints n zs (pos spare ∷ []))
  third_tidy = (third_hints, literals zs, (spare, spare_still), inside_itself (literals zs), short_ok)

  -- and the spare one goes
  named_there : get t3 n ≡ Some (literals zs)
  named_there = put_same t2 n (literals zs)

  spare_again : get t3 spare ≡ Some (literals zs)
  spare_again = put_other t2 n spare (literals zs) (λ e. apart (sym e)) ∙ spare_still

  fourth_tidy : IsTidyStep t3 (Delete spare [])
  fourth_tidy = inr (n, apart, literals zs, named_there, ap (is_inside (literals zs)) (of_table t3 spare (literals zs) spare_again) ∙ inside_itself (literals zs))

  pub runs_shortening : is_ending formula.constraints (literals zs) ≡ false → RunsTidily formula T0 (shortening spare (id_at a k) n zs) (record { clauses = t4; parities = parities })
  runs_shortening no_end = (first_right, no_end, first_tidy, (tt, refl, second_tidy, (third_right, no_end, third_tidy, (tt, refl, fourth_tidy, refl))))

  pub ends_there : is_ending formula.constraints (literals zs) ≡ true → EndsTidily formula T0 short (strengthening spare (id_at a k) n zs ∷ [])
  ends_there all = record {
    before = [];
    step = strengthening spare (id_at a k) n zs;
    split = refl;
    last = T0;
    runs = refl;
    right = first_right;
    ends = all;
    adds = spells;
    by_chain = (spare, zs, pos (id_at a k) ∷ pos n ∷ [], refl, first_hints);
  }

  -- ---- agreement
  pub far_look : (q : ℕ) → q ≢ n → q ≢ spare → get t4 q ≡ get table q
  far_look q ne_n ne_spare = drop_other t3 spare q ne_spare ∙ put_other t2 n q (literals zs) ne_n ∙ drop_other t1 n q ne_n ∙ put_other table spare q (literals zs) ne_spare

  pub near_look : get t4 n ≡ Some (literals zs)
  near_look = drop_other t3 spare n apart ∙ named_there

  pub free_again : KeepsFree table t4
  free_again q free = ⊎_elim
      (λ (same : q ≡ n). absurd (no_clause mine.clause (sym mine.live ∙ ap (get table) (sym same) ∙ free)))
      (λ (ne : q ≢ n). ⊎_elim (λ (same : q ≡ spare). ap (get t4) same ∙ drop_same t3 spare) (λ (ne_spare : q ≢ spare). far_look q ne ne_spare ∙ free) (cases_eq q spare))
      (cases_eq q n)

  module _ (b : ArenaState) (lbd : ℕ) (grown : b.clauses ≡ set a.clauses r None ++ Some (record { literals = short; id = n; lbd = lbd; learned = false }) ∷ []) where
    abbrev new : Stored
    new = record { literals = short; id = n; lbd = lbd; learned = false }

    not_spare : (q : ℕ) → IsLive a q → id_at a q ≢ spare
    not_spare q l e = let s = h.stored q l in no_clause s.clause (sym s.live ∙ ap (get table) e ∙ h.free)

    store_on : (q : ℕ) → Arenas.Which a b r live new grown q → IsLive b q → IsNamedBy t4 (literals_at b q) (id_at b q)
    store_on q (Arenas.newest e) l =
        let last : clause_at b q ≡ Some new = ap (clause_at b) e ∙ Arenas.last a b r live new grown in
        record {
          clause = literals zs;
          live = ap (get t4) (ap id_in last) ∙ near_look;
          same = ap (λ (o : Option Stored). same_literals (literals_in o) (literals zs)) last ∙ ap (λ (x : List Literal). same_literals x (literals zs)) (sym spells) ∙ and_from _ _ (inside_itself (literals zs)) (inside_itself (literals zs));
        }
    store_on q (Arenas.older low ne) l =
        let same = Arenas.stays a b r live new grown q low ne in
        let old = Arenas.was_live a b r live new grown q low ne l in
        let s = h.stored q old in
        record {
          clause = s.clause;
          live = ap (get t4) (ap id_in same) ∙ far_look (id_at a q) (λ e. ne (h.apart q r old live e)) (not_spare q old) ∙ s.live;
          same = ap (λ (o : Option Stored). same_literals (literals_in o) s.clause) same ∙ s.same;
        }

    apart_on : (q p : ℕ) → Arenas.Which a b r live new grown q → Arenas.Which a b r live new grown p → IsLive b q → IsLive b p → id_at b q ≡ id_at b p → q ≡ p
    apart_on q p (Arenas.newest e) (Arenas.newest f) lq lp same = e ∙ sym f
    apart_on q p (Arenas.newest e) (Arenas.older low ne) lq lp same =
        let old = Arenas.was_live a b r live new grown p low ne lp in
        let mine : id_at b q ≡ n = ap (id_at b) e ∙ ap id_in (Arenas.last a b r live new grown) in
        absurd (ne (h.apart p r old live (sym (ap id_in (Arenas.stays a b r live new grown p low ne)) ∙ sym same ∙ mine)))
    apart_on q p (Arenas.older low ne) (Arenas.newest e) lq lp same =
        let old = Arenas.was_live a b r live new grown q low ne lq in
        let mine : id_at b p ≡ n = ap (id_at b) e ∙ ap id_in (Arenas.last a b r live new grown) in
        absurd (ne (h.apart q r old live (sym (ap id_in (Arenas.stays a b r live new grown q low ne)) ∙ same ∙ mine)))
    apart_on q p (Arenas.older low ne) (Arenas.older low_p ne_p) lq lp same =
        h.apart q p (Arenas.was_live a b r live new grown q low ne lq) (Arenas.was_live a b r live new grown p low_p ne_p lp)
        (sym (ap id_in (Arenas.stays a b r live new grown q low ne)) ∙ same ∙ ap id_in (Arenas.stays a b r live new grown p low_p ne_p))

    hold_on : (q : ℕ) (clause : List Literal) → get t4 q ≡ Some clause → HasTwo clause → (p : ℕ) × IsLive b p × (id_at b p ≡ q)
    hold_on q clause e two = ⊎_elim
        (λ (same : q ≡ n). (length a.clauses, Arenas.new_lives a b r live new grown, ap id_in (Arenas.last a b r live new grown) ∙ sym same))
        (λ (ne : q ≢ n). ⊎_elim
        (λ (same : q ≡ spare). absurd (no_clause clause (sym e ∙ ap (get t4) same ∙ drop_same t3 spare)))
        (λ (ne_spare : q ≢ spare).
        let w = h.held q clause (sym (far_look q ne ne_spare) ∙ e) two in
        let ne_r : w.0 ≢ r = λ same. ne (sym w.2 ∙ ap (id_at a) same) in
        (w.0, Arenas.is_live_on a b r live new grown w.0 ne_r w.1, ap id_in (Arenas.stays a b r live new grown w.0 (live_within a w.0 w.1) ne_r) ∙ w.2)) (cases_eq q spare)) (cases_eq q n)

    pub agrees_shortened : Agrees spare t4 b
    agrees_shortened = record {
      stored = λ q l. store_on q (Arenas.which a b r live new grown q l) l;
      apart = λ q p lq lp e. apart_on q p (Arenas.which a b r live new grown q lq) (Arenas.which a b r live new grown p lp) lq lp e;
      held = hold_on;
      free = drop_same t3 spare;
    }

    -- the learned clauses that are left are others
    spare_old : (q : ℕ) → Arenas.Which a b r live new grown q → IsLive b q → learned_at b q ≡ true → NoneDeletes (id_at b q) (shortening spare (id_at a k) n zs)
    spare_old q (Arenas.newest e) l t = absurd (true≢false (sym t ∙ ap (learned_at b) e ∙ ap learned_in (Arenas.last a b r live new grown)))
    spare_old q (Arenas.older low ne) l t =
        let same = Arenas.stays a b r live new grown q low ne in
        let old = Arenas.was_live a b r live new grown q low ne l in (
          (λ ys e. no_deletion spare (id_at b q) zs (pos (id_at a k) ∷ pos n ∷ []) ys e),
          (
            (λ ys e. ne (h.apart q r old live (sym (ap id_in same) ∙ sym (same_deleted n (id_at b q) [] ys e)))),
            (
              (λ ys e. no_deletion n (id_at b q) zs (pos spare ∷ []) ys e),
              ((λ ys e. not_spare q old (sym (ap id_in same) ∙ sym (same_deleted spare (id_at b q) [] ys e))), tt),
            ),
          ),
        )

    pub spares_others : SparesLearned b (shortening spare (id_at a k) n zs)
    spares_others q l t = spare_old q (Arenas.which a b r live new grown q l) l t

    pub leaves_ids : LeavesIds a b t4
    leaves_ids p l = inr (⊎_elim (λ (same : p ≡ r). (length a.clauses, Arenas.new_lives a b r live new grown, ap id_in (Arenas.last a b r live new grown) ∙ ap (id_at a) (sym same)))
        (λ (ne : p ≢ r). (p, Arenas.is_live_on a b r live new grown p ne l, ap id_in (Arenas.stays a b r live new grown p (live_within a p l) ne))) (cases_eq p r))
