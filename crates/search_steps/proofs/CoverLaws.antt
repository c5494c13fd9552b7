-- Each step leaves the formula's clauses covered.
use Rattle.std.proofs.Common.{◌≡◌, ◌≢◌, refl, sym, ap, ◌∙◌, ℕ, Bool, true, false, cond, not, ◌||◌, nat_eq, eqb-true, List, [], ◌∷◌, ◌++◌, Some, None, inl, inr, true≢false}
use Rattle.std.proofs.lemmas.Bool.{or_parts}
use Rattle.std.specs.FinMap as map_
use Rattle.cx_base.specs.Literals.{Literal}
use Rattle.cx_base.specs.Problem.{Problem}
use Rattle.cx_base.specs.declared.steps.LogStep.TheVariants.{Delete}
use Rattle.cx_base.specs.declared.steps.LogEvent.TheVariants.{Step}
use Rattle.cx_semantics.specs.Marked.{Moment, after_event, is_among, without}
use Rattle.cx_semantics.specs.Tables.{Table, get}
use Rattle.cx_semantics.proofs.Lookups.{Looks-remove}
use Rattle.search_steps.specs.Covers.{IsCover, AreCovered, IsSpared, CoversNone, rows_in}
use Rattle.conflict_learn.proofs.ChainOfResolutions.{by_cases}
use Rattle.search_steps.proofs.Sets.{not_both}
use Rattle.search_steps.proofs.ServesLaws.{not_live_stays}

-- ---- lists of ids
pub still_not : (xs : List ℕ) (n m : ℕ) → is_among xs m ≡ false → is_among (without xs n) m ≡ false
still_not [] n m h = refl
still_not (x ∷ xs) n m h = go (nat_eq m x) refl h (still_not xs n m)
  where
    go : (b : Bool) → nat_eq m x ≡ b → (b || is_among xs m) ≡ false → (is_among xs m ≡ false → is_among (without xs n) m ≡ false) → is_among (cond (not (nat_eq n x)) (x ∷ without xs n) (without xs n)) m ≡ false
    go true e h rec = absurd (true≢false h)
    go false e h rec = elim (not (nat_eq n x)) as (λ c. is_among (cond c (x ∷ without xs n) (without xs n)) m ≡ false) [ true ↦ ap (λ b. b || is_among (without xs n) m) e ∙ rec h | false ↦ rec h ]

-- what is not among the others and is not n was not among all
pub not_before : (xs : List ℕ) (n m : ℕ) → nat_eq m n ≡ false → is_among (without xs n) m ≡ false → is_among xs m ≡ false
not_before [] n m d h = refl
not_before (x ∷ xs) n m d h = go (nat_eq n x) refl h (not_before xs n m d)
  where
    go : (b : Bool) → nat_eq n x ≡ b → is_among (cond (not b) (x ∷ without xs n) (without xs n)) m ≡ false → (is_among (without xs n) m ≡ false → is_among xs m ≡ false) → is_among (x ∷ xs) m ≡ false
    go true e g rec = ap (λ b. b || is_among xs m) (ap (nat_eq m) (sym (eqb-true n x e)) ∙ d) ∙ rec g
    go false e g rec = let p = or_parts (nat_eq m x) (is_among (without xs n) m) g in ap (λ b. b || is_among xs m) p.0 ∙ rec p.1

pub not_in_parts : (xs ys : List ℕ) (m : ℕ) → is_among (xs ++ ys) m ≡ false → (is_among xs m ≡ false) × (is_among ys m ≡ false)
not_in_parts [] ys m h = (refl, h)
not_in_parts (x ∷ xs) ys m h =
    let p = or_parts (nat_eq m x) (is_among (xs ++ ys) m) h in
    let r = not_in_parts xs ys m p.1 in
    (ap (λ b. b || is_among xs m) p.0 ∙ r.0, r.1)

pub not_in_both : (xs ys : List ℕ) (m : ℕ) → is_among xs m ≡ false → is_among ys m ≡ false → is_among (xs ++ ys) m ≡ false
not_in_both [] ys m h k = k
not_in_both (x ∷ xs) ys m h k =
    let p = or_parts (nat_eq m x) (is_among xs m) h in
    ap (λ b. b || is_among (xs ++ ys) m) p.0 ∙ not_in_both xs ys m p.1 k

-- ---- tables
gone : (table : Table) (n m : ℕ) → (nat_eq m n ≡ false → get table m ≡ None) → get (map_.remove table n) m ≡ None
gone table n m free = Looks-remove table (get table) n (λ _. refl) m ∙ by_cases (nat_eq m n) (λ e. ap (λ b. cond b None (get table m)) e) (λ e. ap (λ b. cond b None (get table m)) e ∙ free e)

pub other_stays : (table : Table) (n m : ℕ) → m ≢ n → get (map_.remove table n) m ≡ get table m
other_stays table n m h = Looks-remove table (get table) n (λ _. refl) m ∙ by_cases (nat_eq m n) (λ e. absurd (h (eqb-true m n e))) (λ e. ap (λ b. cond b None (get table m)) e)

-- ---- one clause more
module _ (formula : Problem) (table : Table) (rows : List ℕ) (n : ℕ) (lits : List Literal) (free : get table n ≡ None) (covered : AreCovered formula table rows) where
  other : (k : ℕ) (inner : List Literal) → get table k ≡ Some inner → nat_eq k n ≡ false
  other k inner live = by_cases (nat_eq k n) (λ e. let none : None ≡ Some inner = sym free ∙ ap (get table) (sym (eqb-true k n e)) ∙ live in cc) (λ e. e)

  pub put_covered : AreCovered formula (map_.insert table n lits) rows
  put_covered clause c = elim (covered clause c) [
    | inl both ↦ inl both
    | inr (k, cover) ↦ inr (k, record { inner = cover.inner; live = not_live_stays table n lits free k cover.inner cover.live; inside = cover.inside; no_row = cover.no_row })
  ]

  -- that of a row covers nothing
  pub put_row_covered : AreCovered formula (map_.insert table n lits) (n ∷ rows)
  put_row_covered clause c = elim (covered clause c) [
    | inl both ↦ inl both
    | inr (k, cover) ↦ inr (
      k,
      record {
        inner = cover.inner;
        live = not_live_stays table n lits free k cover.inner cover.live;
        inside = cover.inside;
        no_row = ap (λ b. b || is_among rows k) (other k cover.inner cover.live) ∙ cover.no_row;
      },
    )
  ]

-- ---- one clause less
module _ (formula : Problem) (m : Moment) (n : ℕ) where
  pub drop_covered : IsSpared formula m n → AreCovered formula (map_.remove m.tables.clauses n) (without m.new_clauses n ++ without m.old_clauses n)
  drop_covered spared clause c = elim (spared clause c) [
    | inl both ↦ inl both
    | inr (k, apart, cover) ↦
        let p = not_in_parts m.new_clauses m.old_clauses k cover.no_row in
        inr (
          k,
          record {
            inner = cover.inner;
            live = other_stays m.tables.clauses n k apart ∙ cover.live;
            inside = cover.inside;
            no_row = not_in_both (without m.new_clauses n) (without m.old_clauses n) k (still_not m.new_clauses n k p.0) (still_not m.old_clauses n k p.1);
          },
        )
  ]

  -- what covers nothing may go
  pub spared_where_none : CoversNone m n → AreCovered formula m.tables.clauses (rows_in m) → IsSpared formula m n
  spared_where_none none covered clause c = elim (covered clause c) [
    | inl both ↦ inl both
    | inr (k, cover) ↦ inr (k, apart k cover none, cover)
  ]
    where
      apart : (k : ℕ) → IsCover m.tables.clauses (rows_in m) clause k → CoversNone m n → k ≢ n
      apart k cover (inl among) same = not_both (is_among (rows_in m) n) among (ap (is_among (rows_in m)) (sym same) ∙ cover.no_row)
      apart k cover (inr free) same = let none : None ≡ Some cover.inner = sym free ∙ ap (get m.tables.clauses) (sym same) ∙ cover.live in cc (none)

-- and what covers nothing does so after the deletion of another
pub covers_none_still : (m : Moment) (n k : ℕ) → CoversNone m k → CoversNone (after_event m (Step (Delete n []))) k
covers_none_still m n k (inr free) = inr (gone m.tables.clauses n k (λ _. free))
covers_none_still m n k (inl among) = by_cases (nat_eq k n)
    (λ e. inr (gone m.tables.clauses n k (λ d. not_both (nat_eq k n) e d)))
    (λ d. by_cases (is_among (without m.new_clauses n ++ without m.old_clauses n) k)
    (λ e. inl e)
    (λ e.
    let p = not_in_parts (without m.new_clauses n) (without m.old_clauses n) k e in
    not_both (is_among (rows_in m) k) among (not_in_both m.new_clauses m.old_clauses k (not_before m.new_clauses n k d p.0) (not_before m.old_clauses n k d p.1))))
