-- The constraints of the formula, told one by one, and the search that begins after them.
use Rattle.std.proofs.Common.{◌≡◌, refl, sym, ap, ◌∙◌, subst, ℕ, zero, suc, ◌+◌, ◌≤◌, ℤ, pos, neg_ℤ, nat_abs, nat_lt, Bool, true, false, cond, not, ◌||◌, nat_eq, eq-eqb, eqb-true, List, [], ◌∷◌, ◌++◌, length, Some, None, is_some, Contains, filter_map, ◌⊎◌, inl, inr, arith, length-append, append-nil}
use Rattle.std.proofs.lemmas.Bool.{ltb-true, and_from, or_right}
use Rattle.std.proofs.lemmas.List.Elements.{filter_map-append}
use Rattle.std.specs.List.{list_any}
use Rattle.std.specs.FinMap as map_
use Rattle.cx_base.specs.Literals.{Literal}
use Rattle.cx_base.specs.Assumptions.{clashes}
use Rattle.cx_base.specs.Problem.{Problem, clauses_of, parities_of, AreWithin}
use Rattle.cx_base.specs.declared.constraint.Constraint.{Constraint}
use Rattle.cx_base.specs.declared.constraint.Constraint.TheVariants as constraint
use Rattle.cx_base.specs.declared.steps.LogStep.TheVariants.{Original, OriginalParity, ParityOfClauses}
use Rattle.cx_base.specs.declared.steps.LogEvent.TheVariants.{Step}
use Rattle.cx_semantics.specs.Chain.{same_literals}
use Rattle.cx_base.specs.Integers.{integer_of, literals, integers_of, is_negative}
use Rattle.cx_semantics.specs.LogRules.{log_calculus, IsOriginalParity, is_original}
use Rattle.cx_base.specs.Events.{steps_of, step_of}
use Rattle.cx_semantics.specs.Marked.{is_among, first_moment, mark_of, original_events}
use Rattle.cx_semantics.specs.Tables.{Table, get}
use Rattle.cx_semantics.proofs.Closure.{inside_itself}
use Rattle.cx_semantics.proofs.JudgingLaws.{runs_push}
use Rattle.cx_semantics.proofs.Lookups.{Looks-insert, Looks-empty}
use Rattle.cx_semantics.proofs.MarkedLaws.{events_go_on}
use Rattle.search_steps.proofs.HintLaws.{originals_are_hinted}
use Rattle.search_steps.proofs.ScheduleLaws.{originals_are_scheduled_in}
use Rattle.search_steps.specs.Covers.{ArePlain, rows_in}
use Rattle.search_steps.specs.Search.{Search, IsSearchIn, told}
use Rattle.search_steps.specs.Start.{start, HasFirst, IsBegun}
use Rattle.conflict_learn.proofs.ChainOfResolutions.{by_cases}
use Rattle.search_steps.proofs.LogLaws.{step_goes_on}
use Rattle.search_steps.proofs.ServesLaws.{not_live_stays}

-- ---- literals as integers
abs_is : (l : Literal) → nat_abs (integer_of l) ≡ l.variable
abs_is l = go l.negative l.variable
  where
    go : (b : Bool) (v : ℕ) → nat_abs (cond b (neg_ℤ (pos v)) (pos v)) ≡ v
    go true zero = refl
    go true (suc n) = refl
    go false v = refl

sign_is : (l : Literal) → 1 ≤ l.variable → is_negative (integer_of l) ≡ l.negative
sign_is l h = go l.negative l.variable h
  where
    go : (b : Bool) (v : ℕ) → 1 ≤ v → is_negative (cond b (neg_ℤ (pos v)) (pos v)) ≡ b
    go true zero h = absurd (omega (arith, h))
    go true (suc n) h = refl
    go false v h = refl

pub literals_are : (n : ℕ) (lits : List Literal) → AreWithin n lits → literals (integers_of lits) ≡ lits
literals_are n [] w = refl
literals_are n (l ∷ lits) w = (λ i. record { variable = abs_is l i; negative = sign_is l w.0.0 i } ∷ literals_are n lits w.1 i)

pub variables_are_within : (n : ℕ) (lits : List Literal) → AreWithin n lits → list_any (λ z. nat_lt n (nat_abs z)) (integers_of lits) ≡ false
variables_are_within n [] w = refl
variables_are_within n (l ∷ lits) w =
    ap (λ b. b || list_any (λ z. nat_lt n (nat_abs z)) (integers_of lits)) (by_cases (nat_lt n (nat_abs (integer_of l)))
    (λ e. let less = ltb-true n (nat_abs (integer_of l)) e in let is = abs_is l in let high = w.0.1 in absurd (omega (arith, less, is, high)))
    (λ e. e))
    ∙ variables_are_within n lits w.1

-- ---- lists that grow at the end
contains_pushed : {X : Type 0} (xs : List X) (x y : X) → Contains (xs ++ x ∷ []) y → Contains xs y ⊎ (y ≡ x)
contains_pushed [] x y (zero, less, e) = inr (sym e)
contains_pushed [] x y (suc k, less, e) = absurd (omega (arith, less))
contains_pushed (z ∷ xs) x y (zero, less, e) = inl (zero, omega arith, e)
contains_pushed (z ∷ xs) x y (suc k, less, e) = elim (contains_pushed xs x y (k, omega (arith, less), e)) [
  | inl c ↦ inl (suc c.0, let low = c.1 in omega (arith, low), c.2)
  | inr f ↦ inr f
]

pub first_more : (table : Table) (lists : List (List Literal)) (lits : List Literal) → HasFirst table lists → HasFirst (map_.insert table (length lists + 1) lits) (lists ++ lits ∷ [])
first_more table lists lits f = record {
  live = λ x c. elim (contains_pushed lists lits x c) [
    | inl old ↦
        let r = f.live x old in
        let low = r.1 in
        let long = length-append lists (lits ∷ []) in
        (r.0, omega (arith, low, long), at r.0 (λ e. let same : r.0 ≡ length lists + 1 = eqb-true r.0 (length lists + 1) e in omega (arith, same, low)) ∙ r.2)
    | inr same ↦
        let long = length-append lists (lits ∷ []) in (
          length lists + 1,
          omega (arith, long),
          Looks-insert table (get table) (length lists + 1) lits (λ _. refl) (length lists + 1)
              ∙ ap (λ b. cond b (Some lits) (get table (length lists + 1))) (eq-eqb (length lists + 1) (length lists + 1) refl) ∙ ap Some (sym same),
        )
  ];
  free = λ n h.
      let long = length-append lists (lits ∷ []) in
      at n (λ e. let same : n ≡ length lists + 1 = eqb-true n (length lists + 1) e in omega (arith, same, h, long)) ∙ f.free n (omega (arith, h, long));
}
  where
    at : (n : ℕ) → (nat_eq n (length lists + 1) ≡ true → ⊥) → get (map_.insert table (length lists + 1) lits) n ≡ get table n
    at n apart = Looks-insert table (get table) (length lists + 1) lits (λ _. refl) n ∙ ap (λ b. cond b (Some lits) (get table n)) (by_cases (nat_eq n (length lists + 1)) (λ e. absurd (apart e)) (λ e. e))

clause_told : (n k : ℕ) (taken : List Constraint) (lits : List Literal)
    → original_events n k (taken ++ constraint.Clause lits ∷ []) ≡ original_events n k taken ++ Step (Original (n + length (clauses_of taken)) (integers_of lits)) ∷ []
unfolding clauses_of
clause_told n k [] lits = ap (λ id. Step (Original id (integers_of lits)) ∷ []) (let e : n ≡ n + 0 = omega arith in e)
clause_told n k (constraint.Clause x ∷ taken) lits =
    ap (λ es. Step (Original n (integers_of x)) ∷ es) (clause_told (n + 1) k taken lits ∙ ap (λ id. original_events (n + 1) k taken ++ Step (Original id (integers_of lits)) ∷ []) (let e : n + 1 + length (clauses_of taken) ≡ n + (suc (length (clauses_of taken))) = omega arith in e))
clause_told n k (constraint.Parity x ∷ taken) lits = ap (λ es. Step (OriginalParity k (integers_of x)) ∷ es) (clause_told n (k + 1) taken lits)
clause_told n k (constraint.Assume x ∷ taken) lits = clause_told n k taken lits

parity_told : (n k : ℕ) (taken : List Constraint) (lits : List Literal)
    → original_events n k (taken ++ constraint.Parity lits ∷ []) ≡ original_events n k taken ++ Step (OriginalParity (k + length (parities_of taken)) (integers_of lits)) ∷ []
unfolding parities_of
parity_told n k [] lits = ap (λ id. Step (OriginalParity id (integers_of lits)) ∷ []) (let e : k ≡ k + 0 = omega arith in e)
parity_told n k (constraint.Clause x ∷ taken) lits = ap (λ es. Step (Original n (integers_of x)) ∷ es) (parity_told (n + 1) k taken lits)
parity_told n k (constraint.Parity x ∷ taken) lits =
    ap (λ es. Step (OriginalParity k (integers_of x)) ∷ es) (parity_told n (k + 1) taken lits ∙ ap (λ id. original_events n (k + 1) taken ++ Step (OriginalParity id (integers_of lits)) ∷ []) (let e : k + 1 + length (parities_of taken) ≡ k + (suc (length (parities_of taken))) = omega arith in e))
parity_told n k (constraint.Assume x ∷ taken) lits = parity_told n k taken lits

none_told : (n k : ℕ) (taken : List Constraint) (lits : List Literal) → original_events n k (taken ++ constraint.Assume lits ∷ []) ≡ original_events n k taken
none_told n k [] lits = refl
none_told n k (constraint.Clause x ∷ taken) lits = ap (λ es. Step (Original n (integers_of x)) ∷ es) (none_told (n + 1) k taken lits)
none_told n k (constraint.Parity x ∷ taken) lits = ap (λ es. Step (OriginalParity k (integers_of x)) ∷ es) (none_told n (k + 1) taken lits)
none_told n k (constraint.Assume x ∷ taken) lits = none_told n k taken lits

clauses_push : (taken : List Constraint) (lits : List Literal) → clauses_of (taken ++ constraint.Clause lits ∷ []) ≡ clauses_of taken ++ lits ∷ []
unfolding clauses_of
clauses_push [] lits = refl
clauses_push (constraint.Clause x ∷ taken) lits = ap (λ xs. x ∷ xs) (clauses_push taken lits)
clauses_push (constraint.Parity x ∷ taken) lits = clauses_push taken lits
clauses_push (constraint.Assume x ∷ taken) lits = clauses_push taken lits

parities_same : (taken : List Constraint) (lits : List Literal) → parities_of (taken ++ constraint.Clause lits ∷ []) ≡ parities_of taken
unfolding parities_of
parities_same [] lits = refl
parities_same (constraint.Clause x ∷ taken) lits = parities_same taken lits
parities_same (constraint.Parity x ∷ taken) lits = ap (λ xs. x ∷ xs) (parities_same taken lits)
parities_same (constraint.Assume x ∷ taken) lits = parities_same taken lits

clauses_same : (taken : List Constraint) (lits : List Literal) → clauses_of (taken ++ constraint.Parity lits ∷ []) ≡ clauses_of taken
unfolding clauses_of
clauses_same [] lits = refl
clauses_same (constraint.Clause x ∷ taken) lits = ap (λ xs. x ∷ xs) (clauses_same taken lits)
clauses_same (constraint.Parity x ∷ taken) lits = clauses_same taken lits
clauses_same (constraint.Assume x ∷ taken) lits = clauses_same taken lits

parities_push : (taken : List Constraint) (lits : List Literal) → parities_of (taken ++ constraint.Parity lits ∷ []) ≡ parities_of taken ++ lits ∷ []
unfolding parities_of
parities_push [] lits = refl
parities_push (constraint.Clause x ∷ taken) lits = parities_push taken lits
parities_push (constraint.Parity x ∷ taken) lits = ap (λ xs. x ∷ xs) (parities_push taken lits)
parities_push (constraint.Assume x ∷ taken) lits = parities_push taken lits

clauses_stay : (taken : List Constraint) (lits : List Literal) → clauses_of (taken ++ constraint.Assume lits ∷ []) ≡ clauses_of taken
unfolding clauses_of
clauses_stay [] lits = refl
clauses_stay (constraint.Clause x ∷ taken) lits = ap (λ xs. x ∷ xs) (clauses_stay taken lits)
clauses_stay (constraint.Parity x ∷ taken) lits = clauses_stay taken lits
clauses_stay (constraint.Assume x ∷ taken) lits = clauses_stay taken lits

parities_stay : (taken : List Constraint) (lits : List Literal) → parities_of (taken ++ constraint.Assume lits ∷ []) ≡ parities_of taken
unfolding parities_of
parities_stay [] lits = refl
parities_stay (constraint.Clause x ∷ taken) lits = parities_stay taken lits
parities_stay (constraint.Parity x ∷ taken) lits = ap (λ xs. x ∷ xs) (parities_stay taken lits)
parities_stay (constraint.Assume x ∷ taken) lits = parities_stay taken lits

same_one : (formula : Problem) (lits : List Literal) → Contains (clauses_of formula.constraints) lits → is_original formula lits ≡ true
same_one formula lits c = go (clauses_of formula.constraints) c
  where
    go : (lists : List (List Literal)) → Contains lists lits → list_any (same_literals lits) lists ≡ true
    go [] (k, less, e) = absurd (omega (arith, less))
    go (x ∷ xs) (zero, less, e) = ap (λ y. same_literals lits y || list_any (same_literals lits) xs) e ∙ ap (λ b. b || list_any (same_literals lits) xs) (and_from _ _ (inside_itself lits) (inside_itself lits))
    go (x ∷ xs) (suc k, less, e) = or_right (same_literals lits x) _ (go xs (k, omega (arith, less), e))

module _ (formula : Problem) (taken : List Constraint) (s : Search) (b : IsBegun formula taken s) where
  -- a clause of the formula is told under the next id
  pub clause_begins : (lits : List Literal) → AreWithin formula.variables lits → Contains (clauses_of formula.constraints) lits
      → IsBegun formula (taken ++ constraint.Clause lits ∷ []) (told s (Step (Original (length (clauses_of taken) + 1) (integers_of lits))))
  clause_begins lits w c =
      let n = length (clauses_of taken) + 1 in
      let step = Original n (integers_of lits) in
      let is = literals_are formula.variables lits w in
      record {
        runs = subst (λ steps. Rattle.cx_semantics.specs.Judging.Runs (log_calculus formula) (log_calculus formula).start steps (Rattle.cx_semantics.specs.LogRules.after_log_step s.moment.tables step)) (sym (filter_map-append step_of s.events (Step step ∷ [])))
            (runs_push (log_calculus formula) (log_calculus formula).start (steps_of s.events) step s.moment.tables b.runs
            (variables_are_within formula.variables lits w, (ap is_some (b.clauses.free n (omega arith)), (ap (λ xs. not (is_original formula xs)) is ∙ ap not (same_one formula lits c), tt))) refl);
        fits = events_go_on formula first_moment s.moment s.events (Step step) b.fits tt;
        marks = filter_map-append mark_of s.events (Step step ∷ []) ∙ append-nil (filter_map mark_of s.events) ∙ b.marks;
        originals = ap (λ es. es ++ Step step ∷ []) b.originals ∙ ap (λ id. original_events 1 1 taken ++ Step (Original id (integers_of lits)) ∷ []) (let e : n ≡ 1 + length (clauses_of taken) = omega arith in e) ∙ sym (clause_told 1 1 taken lits);
        clauses = subst (HasFirst (map_.insert s.moment.tables.clauses n (literals (integers_of lits)))) (sym (clauses_push taken lits))
            (subst (λ xs. HasFirst (map_.insert s.moment.tables.clauses n xs) (clauses_of taken ++ lits ∷ [])) (sym is) (first_more s.moment.tables.clauses (clauses_of taken) lits b.clauses));
        parities = subst (HasFirst s.moment.tables.parities) (sym (parities_same taken lits)) b.parities;
        no_trail = b.no_trail;
        no_level = b.no_level;
        no_conflict = b.no_conflict;
        no_learned = b.no_learned;
        no_reduction = b.no_reduction;
        not_reducing = b.not_reducing;
        tidy = record { served = b.tidy.served; no_old_clauses = b.tidy.no_old_clauses; no_new_clauses = b.tidy.no_new_clauses; no_old_sums = b.tidy.no_old_sums; no_new_sums = b.tidy.no_new_sums; levels = b.tidy.levels };
      }

  -- a parity of the formula is told under the next id of its own
  pub parity_begins : (lits : List Literal) → AreWithin formula.variables lits → IsOriginalParity formula lits
      → IsBegun formula (taken ++ constraint.Parity lits ∷ []) (told s (Step (OriginalParity (length (parities_of taken) + 1) (integers_of lits))))
  parity_begins lits w c =
      let n = length (parities_of taken) + 1 in
      let step = OriginalParity n (integers_of lits) in
      let is = literals_are formula.variables lits w in
      record {
        runs = subst (λ steps. Rattle.cx_semantics.specs.Judging.Runs (log_calculus formula) (log_calculus formula).start steps (Rattle.cx_semantics.specs.LogRules.after_log_step s.moment.tables step)) (sym (filter_map-append step_of s.events (Step step ∷ [])))
            (runs_push (log_calculus formula) (log_calculus formula).start (steps_of s.events) step s.moment.tables b.runs
            (variables_are_within formula.variables lits w, (ap is_some (b.parities.free n (omega arith)), (subst (IsOriginalParity formula) (sym is) c, tt))) refl);
        fits = events_go_on formula first_moment s.moment s.events (Step step) b.fits tt;
        marks = filter_map-append mark_of s.events (Step step ∷ []) ∙ append-nil (filter_map mark_of s.events) ∙ b.marks;
        originals = ap (λ es. es ++ Step step ∷ []) b.originals ∙ ap (λ id. original_events 1 1 taken ++ Step (OriginalParity id (integers_of lits)) ∷ []) (let e : n ≡ 1 + length (parities_of taken) = omega arith in e) ∙ sym (parity_told 1 1 taken lits);
        clauses = subst (HasFirst s.moment.tables.clauses) (sym (clauses_same taken lits)) b.clauses;
        parities = subst (HasFirst (map_.insert s.moment.tables.parities n (literals (integers_of lits)))) (sym (parities_push taken lits))
            (subst (λ xs. HasFirst (map_.insert s.moment.tables.parities n xs) (parities_of taken ++ lits ∷ [])) (sym is) (first_more s.moment.tables.parities (parities_of taken) lits b.parities));
        no_trail = b.no_trail;
        no_level = b.no_level;
        no_conflict = b.no_conflict;
        no_learned = b.no_learned;
        no_reduction = b.no_reduction;
        not_reducing = b.not_reducing;
        tidy = record { served = b.tidy.served; no_old_clauses = b.tidy.no_old_clauses; no_new_clauses = b.tidy.no_new_clauses; no_old_sums = b.tidy.no_old_sums; no_new_sums = b.tidy.no_new_sums; levels = b.tidy.levels };
      }

-- an assumption constraint is not told
pub assumption_begins : (formula : Problem) (taken : List Constraint) (s : Search) → IsBegun formula taken s → (lits : List Literal) → IsBegun formula (taken ++ constraint.Assume lits ∷ []) s
assumption_begins formula taken s b lits = record {
  runs = b.runs;
  fits = b.fits;
  marks = b.marks;
  no_trail = b.no_trail;
  no_level = b.no_level;
  no_conflict = b.no_conflict;
  no_learned = b.no_learned;
  no_reduction = b.no_reduction;
  not_reducing = b.not_reducing;
  tidy = b.tidy;
  originals = b.originals ∙ sym (none_told 1 1 taken lits);
  clauses = subst (HasFirst s.moment.tables.clauses) (sym (clauses_stay taken lits)) b.clauses;
  parities = subst (HasFirst s.moment.tables.parities) (sym (parities_stay taken lits)) b.parities;
}

pub nothing_is_begun : (formula : Problem) → IsBegun formula [] start
unfolding clauses_of parities_of
nothing_is_begun formula = record {
  runs = refl;
  fits = refl;
  marks = refl;
  originals = refl;
  clauses = record { live = λ lits c. absurd (let low = c.1 in omega (arith, low)); free = λ n h. Looks-empty n };
  parities = record { live = λ lits c. absurd (let low = c.1 in omega (arith, low)); free = λ n h. Looks-empty n };
  no_trail = refl;
  no_level = refl;
  no_conflict = refl;
  no_learned = refl;
  no_reduction = refl;
  not_reducing = refl;
  tidy = record { served = refl; no_old_clauses = refl; no_new_clauses = refl; no_old_sums = refl; no_new_sums = refl; levels = refl };
}

-- after the last constraint the search holds
pub begun_is_search : {tidies : Bool} (formula : Problem) (s : Search) → clashes formula.constraints ≡ false → IsBegun formula formula.constraints s → IsSearchIn tidies formula (parities_of formula.constraints) s
begun_is_search {tidies} formula s apart b = record {
  log = record { apart = apart; runs = b.runs; fits = b.fits; marks = b.marks ∙ ap (Rattle.std.specs.List.range_with_len 1) (sym b.no_conflict); originals = ([], b.originals ∙ sym (append-nil (original_events 1 1 formula.constraints))); scheduled = originals_are_scheduled_in tidies formula.constraints s.events b.originals; hinted = originals_are_hinted formula.constraints s.events b.originals };
  serves = record {
    stands = subst (Rattle.search_steps.specs.Trail.IsTrail s.moment.tables.clauses (Rattle.search_steps.specs.Quiet.IsOfParities formula.variables (parities_of formula.constraints))) (sym b.no_trail) tt;
    quiet = λ k h. let none = b.no_level in absurd (omega (arith, h, none));
    keeps_parities = λ parity c. b.parities.live parity c;
  };
  covered = λ clause c.
      let kept = b.clauses.live clause c in
      inr (kept.0, record { inner = clause; live = kept.2; inside = inside_itself clause; no_row = ap (λ ids. is_among ids kept.0) no_rows });
  plain = subst (ArePlain s.moment.tables.clauses) (sym b.no_learned) tt;
}
  where
    no_rows : rows_in s.moment ≡ []
    no_rows = ap (λ ids. ids ++ s.moment.old_clauses) b.tidy.no_new_clauses ∙ b.tidy.no_old_clauses

-- ---- a recovered parity joins the engine's, before the first decision
pub recovered_joins : {tidies : Bool} (formula : Problem) (parities : List (List Literal)) (s : Search) → IsSearchIn tidies formula parities s → s.trail ≡ [] → s.quiet_levels ≡ 0 → (n : ℕ) (zs : List ℤ) (ids : List ℕ) → n ≤ length parities + 1
    → get s.moment.tables.parities n ≡ None → Rattle.cx_semantics.specs.Judging.IsRight (log_calculus formula) s.moment.tables (ParityOfClauses n zs ids)
    → IsSearchIn tidies formula (parities ++ literals zs ∷ []) (told s (Step (ParityOfClauses n zs ids)))
recovered_joins formula parities s ok no_trail no_level n zs ids low free is_right = record {
  log = step_goes_on formula s.events s.moment s.conflicts ok.log (ParityOfClauses n zs ids) is_right refl tt (λ k ys is among. cc) tt;
  serves = record {
    stands = subst (Rattle.search_steps.specs.Trail.IsTrail s.moment.tables.clauses (Rattle.search_steps.specs.Quiet.IsOfParities formula.variables (parities ++ literals zs ∷ []))) (sym no_trail) tt;
    quiet = λ k h. absurd (omega (arith, h, no_level));
    keeps_parities = λ parity c. elim (contains_pushed parities (literals zs) parity c) [
      | inl old ↦
          let kept = ok.serves.keeps_parities parity old in
          let few = kept.1 in
          let long = length-append parities (literals zs ∷ []) in
          (kept.0, omega (arith, few, long), not_live_stays s.moment.tables.parities n (literals zs) free kept.0 parity kept.2)
      | inr same ↦
          let long = length-append parities (literals zs ∷ []) in (
            n,
            omega (arith, low, long),
            Looks-insert s.moment.tables.parities (get s.moment.tables.parities) n (literals zs) (λ _. refl) n
                ∙ ap (λ b. cond b (Some (literals zs)) (get s.moment.tables.parities n)) (eq-eqb n n refl) ∙ ap Some (sym same),
          )
    ];
  };
  covered = ok.covered;
  plain = ok.plain;
}
