-- The reason that a row gave, turned into a clause of the log.
use Rattle.std.proofs.Common.{◌≡◌, refl, sym, ap, ◌∙◌, subst, ℕ, ℤ, Bool, true, false, cond, not, ◌||◌, nat_eq, eq-eqb, eqb-true, List, [], ◌∷◌, Some, fold}
use Rattle.cx_base.specs.Literals.{Literal}
use Rattle.cx_base.specs.Problem.{Problem}
use Rattle.cx_base.specs.declared.steps.LogStep.TheVariants.{Parity, ClauseOfParity}
use Rattle.cx_base.specs.declared.steps.LogEvent.{LogEvent}
use Rattle.cx_base.specs.declared.steps.LogEvent.TheVariants.{Step}
use Rattle.cx_base.specs.Integers.{literals}
use Rattle.cx_semantics.specs.Marked.{without, is_among}
use Rattle.cx_semantics.specs.Tables.{get}
use Rattle.cx_semantics.proofs.Lookups.{Looks-insert}
use Rattle.search_steps.specs.Search.{Search, IsSearchIn, told}
use Rattle.search_steps.specs.LogSteps.{IsRowOf, IsRowReason, row_events, sum_events, all_told}
use Rattle.conflict_learn.proofs.ChainOfResolutions.{by_cases}
use Rattle.search_steps.proofs.Sets.{not_both}
use Rattle.search_steps.proofs.LogLaws.{sum_keeps, row_clause_keeps, delete_sum_keeps}
use Rattle.search_steps.proofs.RowLaws.{row_is_of_parities, clause_of_source, live_is}

same_id : (k : ℕ) → nat_eq k k ≡ true
same_id k = eq-eqb k k refl

-- what holds of the steps of a row: those of one parity, and those of a sum
pub row_cases : (P : List LogEvent → Type 0) (k : ℕ) (rs : List ℤ) (ids : List ℕ) (n : ℕ) (zs : List ℤ) → ((source : ℕ) → ids ≡ source ∷ [] → P (Step (ClauseOfParity n zs source) ∷ [])) → P (sum_events k rs ids n zs)
    → P (row_events k rs ids n zs)
row_cases P k rs [] n zs one more = more
row_cases P k rs (source ∷ []) n zs one more = one source refl
row_cases P k rs (source ∷ other ∷ ids) n zs one more = more

module _ (formula : Problem) (parities : List (List Literal)) (s : Search) (k : ℕ) (rs : List ℤ) (ids : List ℕ) (n : ℕ) (zs : List ℤ) (r : IsRowReason formula parities s k rs ids n zs) {tidies : Bool} (ok : IsSearchIn tidies formula parities s) where
  pub source_keeps : (source : ℕ) → ids ≡ source ∷ [] → IsSearchIn tidies formula parities (told s (Step (ClauseOfParity n zs source)))
  source_keeps source is =
      let row : IsRowOf parities s.moment.tables (source ∷ []) (literals rs) = subst (λ xs. IsRowOf parities s.moment.tables xs (literals rs)) is r.row in
      let found = live_is (get s.moment.tables.parities source) row.live.0 in
      row_clause_keeps formula parities s ok n zs source found.0 r.clause_step found.1
      (row_is_of_parities formula.variables parities s.moment.tables ids (literals rs) (literals zs) r.row r.clause)
      (clause_of_source formula.variables parities s.moment.tables source (literals rs) (literals zs) found.0 found.1 row r.clause) r.goes_on

  pub summed_keeps : IsSearchIn tidies formula parities (all_told s (sum_events k rs ids n zs))
  summed_keeps =
      let s1 = told s (Step (Parity k rs ids)) in
      let s2 = told s1 (Step (ClauseOfParity n zs k)) in
      let ok1 : IsSearchIn tidies formula parities s1 = sum_keeps formula parities s ok k rs ids r.row_step r.row in
      let found : get s1.moment.tables.parities k ≡ Some (literals rs) =
      Looks-insert s.moment.tables.parities (get s.moment.tables.parities) k (literals rs) (λ _. refl) k ∙ ap (λ b. cond b (Some (literals rs)) (get s.moment.tables.parities k)) (same_id k) in
      let ok2 : IsSearchIn tidies formula parities s2 =
      row_clause_keeps formula parities s1 ok1 n zs k (literals rs) r.clause_step found
      (row_is_of_parities formula.variables parities s.moment.tables ids (literals rs) (literals zs) r.row r.clause) r.clause r.goes_on in
      delete_sum_keeps formula parities s2 ok2 k [] r.high

  pub row_reason_keeps : IsSearchIn tidies formula parities (all_told s (row_events k rs ids n zs))
  row_reason_keeps = row_cases (λ es. IsSearchIn tidies formula parities (all_told s es)) k rs ids n zs source_keeps summed_keeps

-- a sum that was told and deleted leaves the sums as before
module _ (s : Search) (k : ℕ) (rs : List ℤ) (ids : List ℕ) (n : ℕ) (zs : List ℤ) where
  pub sum_leaves_none : s.moment.new_sums ≡ [] → (all_told s (sum_events k rs ids n zs)).moment.new_sums ≡ []
  sum_leaves_none none = ap (λ xs. without (k ∷ xs) k) none ∙ ap (λ b. cond (not b) (k ∷ []) []) (same_id k)

  pub sum_leaves_no_old : s.moment.old_sums ≡ [] → (all_told s (sum_events k rs ids n zs)).moment.old_sums ≡ []
  sum_leaves_no_old none = ap (λ xs. without xs k) none

-- ---- deleting all that is temporary
lost : (xs : List ℕ) (n m : ℕ) → is_among (without xs n) m ≡ true → (is_among xs m ≡ true) × (nat_eq n m ≡ false)
lost [] n m h = not_both false h refl
lost (x ∷ xs) n m h = go (nat_eq n x) refl h (lost xs n m)
  where
    behind : is_among xs m ≡ true → is_among (x ∷ xs) m ≡ true
    behind g = or_true (nat_eq m x) _ g
      where
        or_true : (a b : Bool) → b ≡ true → (a || b) ≡ true
        or_true true b h = refl
        or_true false b h = h

    go : (b : Bool) → nat_eq n x ≡ b → is_among (cond (not b) (x ∷ without xs n) (without xs n)) m ≡ true → (is_among (without xs n) m ≡ true → (is_among xs m ≡ true) × (nat_eq n m ≡ false)) → (is_among (x ∷ xs) m ≡ true) × (nat_eq n m ≡ false)
    go true e h rec = let r = rec h in (behind r.0, r.1)
    go false e h rec = by_cases (nat_eq m x)
        (λ same. (ap (λ b. b || is_among xs m) same, ap (nat_eq n) (eqb-true m x same) ∙ e))
        (λ apart. let r = rec (sym (ap (λ b. b || is_among (without xs n) m) apart) ∙ h) in (behind r.0, r.1))

-- a list of ids all of which are deleted one after another
pub all_deleted : (ids xs : List ℕ) → ((m : ℕ) → is_among xs m ≡ true → is_among ids m ≡ true) → fold without xs ids ≡ []
all_deleted [] [] h = refl
all_deleted [] (x ∷ xs) h = not_both false (h x (ap (λ b. b || is_among xs x) (same_id x))) refl
all_deleted (n ∷ ids) xs h = all_deleted ids (without xs n) (λ m g. let r = lost xs n m g in
    by_cases (nat_eq m n)
    (λ e. not_both (nat_eq n m) (ap (nat_eq n) (eqb-true m n e) ∙ same_id n) r.1)
    (λ e. sym (ap (λ b. b || is_among ids m) e) ∙ h m r.0))
