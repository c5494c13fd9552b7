-- Telling the formula's constraints one after another.
use Rattle.std.proofs.Common.{◌≡◌, ◌≢◌, refl, sym, ap, ◌∙◌, subst, ℕ, zero, suc, ◌+◌, ◌-◌, nat_eq, eqb-true, ◌<◌, ◌≤◌, List, [], ◌∷◌, ◌++◌, length, take, get_or, Option, Some, None, Contains, arith, inl, inr, length-append, append-nil, length-take}
use Rattle.std.proofs.lemmas.Bool.{eqb-false}
use Rattle.std.proofs.lemmas.List.{take_more}
use Rattle.std.proofs.lemmas.List.Elements.{filter_map-append}
use Rattle.std.proofs.Math.ListN.{get_or-append}
use Rattle.std.proofs.Math.Seq.{get_or-append_seam}
use Rattle.std.specs.FinMap as map_
use Rattle.std.specs.List.{AllByRecursion}
use Rattle.cx_base.specs.Literals.{Literal}
use Rattle.cx_base.specs.Problem.{Problem, clauses_of, parities_of, clause_in, parity_in, AreWithin, literals_of}
use Rattle.cx_base.specs.declared.constraint.Constraint.{Constraint}
use Rattle.cx_base.specs.declared.constraint.Constraint.TheVariants as constraint
use Rattle.cx_base.specs.declared.steps.LogStep.{LogStep}
use Rattle.cx_base.specs.declared.steps.LogStep.TheVariants.{Original, OriginalParity}
use Rattle.cx_base.specs.declared.steps.LogEvent.{LogEvent}
use Rattle.cx_base.specs.declared.steps.LogEvent.TheVariants.{Step}
use Rattle.cx_base.specs.Integers.{integers_of, literals}
use Rattle.cx_base.specs.Assumptions.{clashes}
use Rattle.cx_base.specs.Events.{steps_of}
use Rattle.cx_semantics.specs.Judging.{Runs}
use Rattle.cx_semantics.specs.LogRules.{IsOriginalParity, log_calculus}
use Rattle.cx_semantics.specs.Tables.{Table, Tables, get, no_tables}
use Rattle.cx_semantics.proofs.Lookups.{Looks-empty}
use Rattle.conflict_learn.proofs.ChainOfResolutions.{by_cases}
use Rattle.search_steps.specs.Holding.{AreTold}
use Rattle.search_steps.specs.Search.{Search, told}
use Rattle.search_steps.specs.Start.{IsBegun, start}
use Rattle.search_steps.proofs.StartLaws.{nothing_is_begun, clause_begins, parity_begins, assumption_begins, literals_are}
use Rattle.cdcl_search.specs.Tells.{IsLeft, with_events}
use Rattle.cdcl_search.proofs.TableLaws.{put_same, put_other}
use Rattle.cdcl_search.proofs.RowSteps.{few_parities}
use Rattle.cdcl_core.specs.Originals.{AreListedFromOne, HasBegun, AreCounted}
use Rattle.cdcl_core.specs.Results.{IsFresh}

-- ---- constraints by their places
clause_there : (cs : List Constraint) (i : ℕ) (lits : List Literal) (d : Constraint) → i < length cs → get_or cs i d ≡ constraint.Clause lits → Contains (clauses_of cs) lits
unfolding clauses_of
clause_there [] i lits d less is = absurd (omega (arith, less))
clause_there (c ∷ cs) zero lits d less is = subst (λ x. Contains (clauses_of (x ∷ cs)) lits) (sym is) (0, omega arith, refl)
clause_there (constraint.Clause x ∷ cs) (suc i) lits d less is = let r = clause_there cs i lits d (omega (arith, less)) is in let low = r.1 in (suc r.0, omega (arith, low), r.2)
clause_there (constraint.Parity x ∷ cs) (suc i) lits d less is = clause_there cs i lits d (omega (arith, less)) is
clause_there (constraint.Assume x ∷ cs) (suc i) lits d less is = clause_there cs i lits d (omega (arith, less)) is

parity_there : (cs : List Constraint) (i : ℕ) (lits : List Literal) (d : Constraint) → i < length cs → get_or cs i d ≡ constraint.Parity lits → Contains (parities_of cs) lits
unfolding parities_of
parity_there [] i lits d less is = absurd (omega (arith, less))
parity_there (c ∷ cs) zero lits d less is = subst (λ x. Contains (parities_of (x ∷ cs)) lits) (sym is) (0, omega arith, refl)
parity_there (constraint.Parity x ∷ cs) (suc i) lits d less is = let r = parity_there cs i lits d (omega (arith, less)) is in let low = r.1 in (suc r.0, omega (arith, low), r.2)
parity_there (constraint.Clause x ∷ cs) (suc i) lits d less is = parity_there cs i lits d (omega (arith, less)) is
parity_there (constraint.Assume x ∷ cs) (suc i) lits d less is = parity_there cs i lits d (omega (arith, less)) is

pub few_clauses : (cs : List Constraint) → length (clauses_of cs) ≤ length cs
unfolding clauses_of
few_clauses [] = omega arith
few_clauses (constraint.Clause lits ∷ cs) = let rec = few_clauses cs in omega (arith, rec)
few_clauses (constraint.Parity lits ∷ cs) = let rec = few_clauses cs in omega (arith, rec)
few_clauses (constraint.Assume lits ∷ cs) = let rec = few_clauses cs in omega (arith, rec)

pub both_kinds : (cs : List Constraint) → length (clauses_of cs) + length (parities_of cs) ≤ length cs
unfolding clauses_of parities_of
both_kinds [] = omega arith
both_kinds (constraint.Clause lits ∷ cs) = let rec = both_kinds cs in omega (arith, rec)
both_kinds (constraint.Parity lits ∷ cs) = let rec = both_kinds cs in omega (arith, rec)
both_kinds (constraint.Assume lits ∷ cs) = let rec = both_kinds cs in omega (arith, rec)

count_clause : (cs : List Constraint) (clauses parities : ℕ) (lits : List Literal) → AreCounted cs clauses parities → AreCounted (cs ++ constraint.Clause lits ∷ []) (clauses + 1) parities
unfolding clauses_of parities_of
count_clause cs clauses parities lits a = record {
  clauses = let long = ap length (filter_map-append clause_in cs (constraint.Clause lits ∷ [])) in let both = length-append (clauses_of cs) (lits ∷ []) in let was = a.clauses in omega (arith, long, both, was);
  parities = let long = ap length (filter_map-append parity_in cs (constraint.Clause lits ∷ [])) in let both = length-append (parities_of cs) [] in let was = a.parities in omega (arith, long, both, was);
}

count_parity : (cs : List Constraint) (clauses parities : ℕ) (lits : List Literal) → AreCounted cs clauses parities → AreCounted (cs ++ constraint.Parity lits ∷ []) clauses (parities + 1)
unfolding clauses_of parities_of
count_parity cs clauses parities lits a = record {
  clauses = let long = ap length (filter_map-append clause_in cs (constraint.Parity lits ∷ [])) in let both = length-append (clauses_of cs) [] in let was = a.clauses in omega (arith, long, both, was);
  parities = let long = ap length (filter_map-append parity_in cs (constraint.Parity lits ∷ [])) in let both = length-append (parities_of cs) (lits ∷ []) in let was = a.parities in omega (arith, long, both, was);
}

pub none_counted : AreCounted [] 0 0
unfolding clauses_of parities_of
none_counted = record { clauses = refl; parities = refl }

-- ---- lists under their numbers
nothing_listed : AreListedFromOne map_.empty []
nothing_listed = record { numbered = λ k low high. absurd (omega (arith, low, high)); none_before = Looks-empty 0 }

pub listed_more : (table : Table) (lists : List (List Literal)) (lits : List Literal) → AreListedFromOne table lists → AreListedFromOne (map_.insert table (length lists + 1) lits) (lists ++ lits ∷ [])
listed_more table lists lits a = record {
  numbered = λ k low high.
      let long = length-append lists (lits ∷ []) in
      by_cases (nat_eq k (length lists + 1))
      (λ is.
      let same : k ≡ length lists + 1 = eqb-true k (length lists + 1) is in
      let at : k - 1 ≡ length lists = omega (arith, same) in
      ap (get (map_.insert table (length lists + 1) lits)) same ∙ put_same table (length lists + 1) lits
      ∙ ap Some (sym (ap (λ j. get_or (lists ++ lits ∷ []) j []) at ∙ get_or-append_seam lists lits [] [])))
      (λ is.
      let apart : k ≢ length lists + 1 = eqb-false k (length lists + 1) is in
      put_other table (length lists + 1) k lits apart ∙ a.numbered k low (omega (arith, high, long, apart))
      ∙ ap Some (sym (get_or-append lists (lits ∷ []) [] (k - 1) (omega (arith, low, high, long, apart)))));
  none_before = put_other table (length lists + 1) 0 lits (λ e. omega (arith, e)) ∙ a.none_before;
}

count_assumption : (cs : List Constraint) (clauses parities : ℕ) (lits : List Literal) → AreCounted cs clauses parities → AreCounted (cs ++ constraint.Assume lits ∷ []) clauses parities
unfolding clauses_of parities_of
count_assumption cs clauses parities lits a = record {
  clauses = let long = ap length (filter_map-append clause_in cs (constraint.Assume lits ∷ [])) in let both = length-append (clauses_of cs) [] in let was = a.clauses in omega (arith, long, both, was);
  parities = let long = ap length (filter_map-append parity_in cs (constraint.Assume lits ∷ [])) in let both = length-append (parities_of cs) [] in let was = a.parities in omega (arith, long, both, was);
}

module _ (n : ℕ) (taken : List Constraint) (lits : List Literal) where
  pub clauses_rest : clauses_of (taken ++ constraint.Assume lits ∷ []) ≡ clauses_of taken
  unfolding clauses_of
  clauses_rest = filter_map-append clause_in taken (constraint.Assume lits ∷ []) ∙ append-nil (clauses_of taken)

  pub parities_rest : parities_of (taken ++ constraint.Assume lits ∷ []) ≡ parities_of taken
  unfolding parities_of
  parities_rest = filter_map-append parity_in taken (constraint.Assume lits ∷ []) ∙ append-nil (parities_of taken)

  clause_joins : clauses_of (taken ++ constraint.Clause lits ∷ []) ≡ clauses_of taken ++ lits ∷ []
  unfolding clauses_of
  clause_joins = filter_map-append clause_in taken (constraint.Clause lits ∷ [])

  parity_joins : parities_of (taken ++ constraint.Parity lits ∷ []) ≡ parities_of taken ++ lits ∷ []
  unfolding parities_of
  parity_joins = filter_map-append parity_in taken (constraint.Parity lits ∷ [])

  parities_stay : parities_of (taken ++ constraint.Clause lits ∷ []) ≡ parities_of taken
  unfolding parities_of
  parities_stay = filter_map-append parity_in taken (constraint.Clause lits ∷ []) ∙ append-nil (parities_of taken)

  clauses_stay : clauses_of (taken ++ constraint.Parity lits ∷ []) ≡ clauses_of taken
  unfolding clauses_of
  clauses_stay = filter_map-append clause_in taken (constraint.Parity lits ∷ []) ∙ append-nil (clauses_of taken)

  module _ (w : AreWithin n lits) (table : Table) where
    clause_listed : AreListedFromOne table (clauses_of taken) → AreListedFromOne (map_.insert table (length (clauses_of taken) + 1) (literals (integers_of lits))) (clauses_of (taken ++ constraint.Clause lits ∷ []))
    clause_listed a = subst (AreListedFromOne (map_.insert table (length (clauses_of taken) + 1) (literals (integers_of lits)))) (sym clause_joins)
        (subst (λ xs. AreListedFromOne (map_.insert table (length (clauses_of taken) + 1) xs) (clauses_of taken ++ lits ∷ [])) (sym (literals_are n lits w)) (listed_more table (clauses_of taken) lits a))

    parity_listed : AreListedFromOne table (parities_of taken) → AreListedFromOne (map_.insert table (length (parities_of taken) + 1) (literals (integers_of lits))) (parities_of (taken ++ constraint.Parity lits ∷ []))
    parity_listed a = subst (AreListedFromOne (map_.insert table (length (parities_of taken) + 1) (literals (integers_of lits)))) (sym parity_joins)
        (subst (λ xs. AreListedFromOne (map_.insert table (length (parities_of taken) + 1) xs) (parities_of taken ++ lits ∷ [])) (sym (literals_are n lits w)) (listed_more table (parities_of taken) lits a))

-- ---- the parities of the first constraints
pub no_parity : (cs : List Constraint) → [] ≡ parities_of (take 0 cs)
unfolding parities_of
no_parity cs = refl

module _ (cs : List Constraint) (place : ℕ) (d : Constraint) (lits : List Literal) (less : place < length cs) where
  pub clause_passes : get_or cs place d ≡ constraint.Clause lits → parities_of (take (place + 1) cs) ≡ parities_of (take place cs)
  clause_passes is = ap parities_of (take_more cs place d less ∙ ap (λ c. take place cs ++ c ∷ []) is) ∙ parities_stay 0 (take place cs) lits

  pub assumption_passes : get_or cs place d ≡ constraint.Assume lits → parities_of (take (place + 1) cs) ≡ parities_of (take place cs)
  assumption_passes is = ap parities_of (take_more cs place d less ∙ ap (λ c. take place cs ++ c ∷ []) is) ∙ parities_rest 0 (take place cs) lits

  pub parity_comes : get_or cs place d ≡ constraint.Parity lits → parities_of (take (place + 1) cs) ≡ parities_of (take place cs) ++ lits ∷ []
  parity_comes is = ap parities_of (take_more cs place d less ∙ ap (λ c. take place cs ++ c ∷ []) is) ∙ parity_joins 0 (take place cs) lits

pub parities_are_within : (n : ℕ) (cs : List Constraint) → AllByRecursion (λ c. AreWithin n (literals_of c)) cs → AllByRecursion (AreWithin n) (parities_of cs)
unfolding parities_of
parities_are_within n [] w = tt
parities_are_within n (constraint.Clause lits ∷ cs) w = parities_are_within n cs w.1
parities_are_within n (constraint.Parity lits ∷ cs) w = (w.0, parities_are_within n cs w.1)
parities_are_within n (constraint.Assume lits ∷ cs) w = parities_are_within n cs w.1

-- the log has begun, with a constraint more
module _ (formula : Problem) (taken : List Constraint) (s : Search) (lits : List Literal) (w : AreWithin formula.variables lits) (begun : IsBegun formula taken s)
    (clauses : AreListedFromOne s.moment.tables.clauses (clauses_of taken)) (parities : AreListedFromOne s.moment.tables.parities (parities_of taken)) (o : Option (List LogEvent)) where
  clause_has_begun : Contains (clauses_of formula.constraints) lits → AreTold o (s.events ++ Step (Original (length (clauses_of taken) + 1) (integers_of lits)) ∷ []) → HasBegun formula (taken ++ constraint.Clause lits ∷ []) o
  clause_has_begun has a = (
    told s (Step (Original (length (clauses_of taken) + 1) (integers_of lits))),
    clause_begins formula taken s begun lits w has,
    clause_listed formula.variables taken lits w s.moment.tables.clauses clauses,
    subst (AreListedFromOne s.moment.tables.parities) (sym (parities_stay formula.variables taken lits)) parities,
    a,
  )

  parity_has_begun : IsOriginalParity formula lits → AreTold o (s.events ++ Step (OriginalParity (length (parities_of taken) + 1) (integers_of lits)) ∷ []) → HasBegun formula (taken ++ constraint.Parity lits ∷ []) o
  parity_has_begun has a = (
    told s (Step (OriginalParity (length (parities_of taken) + 1) (integers_of lits))),
    parity_begins formula taken s begun lits w has,
    subst (AreListedFromOne s.moment.tables.clauses) (sym (clauses_stay formula.variables taken lits)) clauses,
    parity_listed formula.variables taken lits w s.moment.tables.parities parities,
    a,
  )

assumption_has_begun : (formula : Problem) (taken : List Constraint) (lits : List Literal) (o : Option (List LogEvent)) → HasBegun formula taken o → HasBegun formula (taken ++ constraint.Assume lits ∷ []) o
assumption_has_begun formula taken lits o (s, begun, clauses, parities, a) = (
  s,
  assumption_begins formula taken s begun lits,
  subst (AreListedFromOne s.moment.tables.clauses) (sym (clauses_rest formula.variables taken lits)) clauses,
  subst (AreListedFromOne s.moment.tables.parities) (sym (parities_rest formula.variables taken lits)) parities,
  a,
)

pub told_more : (events : List LogEvent) (step : LogStep) (o : Option (List LogEvent)) → AreTold o events → AreTold (with_events (Step step ∷ []) o) (events ++ Step step ∷ [])
told_more events step None a = tt
told_more events step (Some es) a = ap (λ xs. xs ++ Step step ∷ []) a

-- ---- what holds before the first
pub fresh_has_begun : (formula : Problem) (old : Option (List LogEvent)) → IsFresh old → HasBegun formula [] old
unfolding clauses_of parities_of
fresh_has_begun formula None fresh = (start, nothing_is_begun formula, nothing_listed, nothing_listed, tt)
fresh_has_begun formula (Some es) fresh = (start, nothing_is_begun formula, nothing_listed, nothing_listed, fresh)

-- a log whose steps are right is right so far, also where assumptions clash
pub left_by : (formula : Problem) (events : List LogEvent) (tables : Tables) → Runs (log_calculus formula) no_tables (steps_of events) tables → IsLeft formula (Some events)
left_by formula events tables runs = by_cases (clashes formula.constraints)
    (λ clash. inr (inl clash))
    (λ apart. inl (apart, (tables, runs)))

pub begun_is_left : (formula : Problem) (taken : List Constraint) (old : Option (List LogEvent)) → HasBegun formula taken old → IsLeft formula old
begun_is_left formula taken None b = tt
begun_is_left formula taken (Some es) b = subst (λ xs. IsLeft formula (Some xs)) (sym b.4) (left_by formula b.0.events b.0.moment.tables b.1.runs)

-- ---- one more
module _ (formula : Problem) (place : ℕ) (d : Constraint) (less : place < length formula.constraints) (few : length formula.constraints ≤ 4294967295) (clauses parities : ℕ)
    (counted : AreCounted (take place formula.constraints) clauses parities) (old : Option (List LogEvent)) (begun : HasBegun formula (take place formula.constraints) old) where
  abbrev taken : List Constraint
  taken = take place formula.constraints

  pub clause_is_id : (1 ≤ clauses + 1) × (clauses + 1 ≤ 2000000000000000000)
  clause_is_id = let a = few_clauses taken in let b = length-take place formula.constraints in let was = counted.clauses in (omega arith, omega (arith, a, b, was, less, few))

  pub parity_is_id : (1 ≤ parities + 1) × (parities + 1 ≤ 2000000000000000000)
  parity_is_id = let a = few_parities taken in let b = length-take place formula.constraints in let was = counted.parities in (omega arith, omega (arith, a, b, was, less, few))

  module _ (lits : List Literal) (w : AreWithin formula.variables lits) where
    pub clause_counted : get_or formula.constraints place d ≡ constraint.Clause lits → AreCounted (take (place + 1) formula.constraints) (clauses + 1) parities
    clause_counted is = subst (λ cs. AreCounted cs (clauses + 1) parities) (sym (take_more formula.constraints place d less ∙ ap (λ c. taken ++ c ∷ []) is)) (count_clause taken clauses parities lits counted)

    pub parity_counted : get_or formula.constraints place d ≡ constraint.Parity lits → AreCounted (take (place + 1) formula.constraints) clauses (parities + 1)
    parity_counted is = subst (λ cs. AreCounted cs clauses (parities + 1)) (sym (take_more formula.constraints place d less ∙ ap (λ c. taken ++ c ∷ []) is)) (count_parity taken clauses parities lits counted)

    pub clause_begun : get_or formula.constraints place d ≡ constraint.Clause lits → HasBegun formula (take (place + 1) formula.constraints) (with_events (Step (Original (clauses + 1) (integers_of lits)) ∷ []) old)
    clause_begun is =
        let step = Original (clauses + 1) (integers_of lits) in
        subst (λ cs. HasBegun formula cs (with_events (Step step ∷ []) old)) (sym (take_more formula.constraints place d less ∙ ap (λ c. taken ++ c ∷ []) is))
        (clause_has_begun formula taken begun.0 lits w begun.1 begun.2 begun.3 (with_events (Step step ∷ []) old) (clause_there formula.constraints place lits d less is)
        (subst (λ n. AreTold (with_events (Step step ∷ []) old) (begun.0.events ++ Step (Original (n + 1) (integers_of lits)) ∷ [])) counted.clauses (told_more begun.0.events step old begun.4)))

    pub parity_begun : get_or formula.constraints place d ≡ constraint.Parity lits → HasBegun formula (take (place + 1) formula.constraints) (with_events (Step (OriginalParity (parities + 1) (integers_of lits)) ∷ []) old)
    parity_begun is =
        let step = OriginalParity (parities + 1) (integers_of lits) in
        let has = parity_there formula.constraints place lits d less is in
        subst (λ cs. HasBegun formula cs (with_events (Step step ∷ []) old)) (sym (take_more formula.constraints place d less ∙ ap (λ c. taken ++ c ∷ []) is))
        (parity_has_begun formula taken begun.0 lits w begun.1 begun.2 begun.3 (with_events (Step step ∷ []) old) (has.0, lits, has.1, has.2, refl)
        (subst (λ n. AreTold (with_events (Step step ∷ []) old) (begun.0.events ++ Step (OriginalParity (n + 1) (integers_of lits)) ∷ [])) counted.parities (told_more begun.0.events step old begun.4)))

    pub assumption_counted : get_or formula.constraints place d ≡ constraint.Assume lits → AreCounted (take (place + 1) formula.constraints) clauses parities
    assumption_counted is = subst (λ cs. AreCounted cs clauses parities) (sym (take_more formula.constraints place d less ∙ ap (λ c. taken ++ c ∷ []) is)) (count_assumption taken clauses parities lits counted)

    pub assumption_begun : get_or formula.constraints place d ≡ constraint.Assume lits → HasBegun formula (take (place + 1) formula.constraints) old
    assumption_begun is = subst (λ cs. HasBegun formula cs old) (sym (take_more formula.constraints place d less ∙ ap (λ c. taken ++ c ∷ []) is)) (assumption_has_begun formula taken lits old begun)
