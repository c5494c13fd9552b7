-- The formula's parities and the recovered ones are given one after another.
use Rattle.std.proofs.Common.{◌≡◌, refl, sym, ap, ◌∙◌, subst, ℕ, zero, suc, ◌+◌, ◌-◌, ◌<◌, ◌≤◌, nat_lt, Bool, true, false, cond, not, ◌||◌, List, [], ◌∷◌, ◌++◌, length, map, take, get_or, Option, Some, None, is_some, Contains, arith, length-append, append_assoc, true≢false}
use Rattle.std.proofs.lemmas.Bool.{eq-eqb, ne_eqb, ltb-true, ltb-false}
use Rattle.std.proofs.lemmas.List.{length-map, take_more}
use Rattle.std.specs.FinMap.{same_map, nat_cmp-IsAntisymmetric}
use Rattle.std.specs.Cmp.{nat_cmp_total}
use Rattle.std.specs.List.{AllByRecursion, list_any}
use Rattle.cx_base.specs.Literals.{Literal}
use Rattle.cx_base.specs.Parity.{NormalForm, normal_form}
use Rattle.cx_base.specs.Assumptions.{clashes}
use Rattle.cx_base.specs.Problem.{Problem, clauses_of, parities_of, AreWithin, IsWithinVariables}
use Rattle.cx_base.proofs.Elements.{all_append, in_head, in_tail}
use Rattle.cx_base.specs.declared.steps.LogStep.TheVariants.{ParityOfClauses}
use Rattle.cx_base.specs.declared.steps.LogEvent.{LogEvent}
use Rattle.cx_base.specs.declared.steps.LogEvent.TheVariants.{Step}
use Rattle.cx_base.specs.Integers.{integers_of, literals}
use Rattle.cx_semantics.specs.Judging.{AllHold, IsRight}
use Rattle.cx_semantics.specs.LogRules.{log_calculus, naming}
use Rattle.cx_semantics.specs.ProofRules.{parity_of_clauses}
use Rattle.cx_semantics.specs.Recovered.{Recovered}
use Rattle.cx_semantics.specs.Tables.{Table, get, is_live, named, numbered_from}
use Rattle.cx_semantics.proofs.Lookups.{lookup, Looks-numbered_from}
use Rattle.conflict_learn.proofs.ChainOfResolutions.{by_cases}
use Rattle.xor_recover.specs.declared.found.FoundParity.{FoundParity}
use Rattle.xor_recover.specs.Finds.{IsJudgedRight}
use Rattle.search_steps.specs.Ids.{HasFreeSums}
use Rattle.search_steps.specs.Search.{Search, IsSearchIn, told}
use Rattle.search_steps.proofs.IdLaws.{begun_has_free_sums, recovered_has_free_sums}
use Rattle.search_steps.proofs.OverSearch.{theirs_are_had}
use Rattle.search_steps.specs.Size.{additions}
use Rattle.search_steps.proofs.SizeLaws.{additions_join, originals_add}
use Rattle.search_steps.proofs.StartLaws.{begun_is_search, recovered_joins, literals_are, variables_are_within}
use Rattle.cdcl_search.specs.Tells.{IsId, IsLeft, with_events}
use Rattle.cdcl_core.specs.Given.{IsGiven, HasGiven, AreEngines}
use Rattle.cdcl_core.specs.Originals.{HasBegun, AreListedFromOne}
use Rattle.cdcl_core.proofs.OriginalLaws.{both_kinds, few_clauses, listed_more, parities_are_within, told_more}

-- ---- lists under their numbers are one table
lookup_below : (n q : ℕ) (C : List (List Literal)) → q < n → lookup n C q ≡ None
lookup_below n q [] h = refl
lookup_below n q (c ∷ C) h = ap (λ b. cond b (Some c) (lookup (suc n) C q)) (ne_eqb q n (λ e. omega (arith, e, h))) ∙ lookup_below (suc n) q C (omega (arith, h))

lookup_above : (n q : ℕ) (C : List (List Literal)) → n + length C ≤ q → lookup n C q ≡ None
lookup_above n q [] h = refl
lookup_above n q (c ∷ C) h = ap (λ b. cond b (Some c) (lookup (suc n) C q)) (ne_eqb q n (λ e. omega (arith, e, h))) ∙ lookup_above (suc n) q C (omega (arith, h))

lookup_at : (n i : ℕ) (C : List (List Literal)) → i < length C → lookup n C (n + i) ≡ Some (get_or C i [])
lookup_at n i [] less = absurd (omega (arith, less))
lookup_at n zero (c ∷ C) less = ap (λ b. cond b (Some c) (lookup (suc n) C (n + 0))) (eq-eqb (n + 0) n (omega arith))
lookup_at n (suc i) (c ∷ C) less =
    let next : n + suc i ≡ suc n + i = omega arith in
    ap (λ b. cond b (Some c) (lookup (suc n) C (n + suc i))) (ne_eqb (n + suc i) n (λ e. omega (arith, e)))
    ∙ ap (lookup (suc n) C) next ∙ lookup_at (suc n) i C (omega (arith, less))

listed_is_table : (table : Table) (C : List (List Literal)) → AreListedFromOne table C → ((n : ℕ) → length C < n → get table n ≡ None) → table ≡ numbered_from 1 C
listed_is_table table C listed free = same_map nat_cmp_total nat_cmp-IsAntisymmetric table (numbered_from 1 C) at
  where
    at : (q : ℕ) → get table q ≡ get (numbered_from 1 C) q
    at zero = listed.none_before ∙ sym (Looks-numbered_from 1 C 0 ∙ lookup_below 1 0 C (omega arith))
    at (suc i) = by_cases (nat_lt i (length C))
        (λ e.
        let less = ltb-true i (length C) e in
        let place : suc i - 1 ≡ i = omega arith in
        let number : suc i ≡ 1 + i = omega arith in
        listed.numbered (suc i) (omega arith) (omega (arith, less)) ∙ ap (λ k. Some (get_or C k [])) place
        ∙ sym (Looks-numbered_from 1 C (suc i) ∙ ap (lookup 1 C) number ∙ lookup_at 1 i C less))
        (λ e.
        let far = ltb-false i (length C) e in
        free (suc i) (omega (arith, far)) ∙ sym (Looks-numbered_from 1 C (suc i) ∙ lookup_above 1 (suc i) C (omega (arith, far))))

-- ---- live clauses of the formula have its numbers
none_live : (b : Bool) (o : Option (List Literal)) → is_some o ≡ b → b ≡ true → o ≡ None → ⊥
none_live b o is h none = true≢false (sym h ∙ sym is ∙ ap is_some none)

number_of_live : (C : List (List Literal)) (n : ℕ) → is_live (numbered_from 1 C) n ≡ true → (1 ≤ n) × (n ≤ length C)
number_of_live C zero live = absurd (none_live _ _ refl live (Looks-numbered_from 1 C 0 ∙ lookup_below 1 0 C (omega arith)))
number_of_live C (suc i) live = (
  omega arith,
  by_cases (nat_lt i (length C))
      (λ e. let less = ltb-true i (length C) e in omega (arith, less))
      (λ e. let far = ltb-false i (length C) e in absurd (none_live _ _ refl live (Looks-numbered_from 1 C (suc i) ∙ lookup_above 1 (suc i) C (omega (arith, far))))),
)

live_are_ids : (C : List (List Literal)) (ids : List ℕ) → length C ≤ 4294967295 → list_any (λ n. not (is_live (numbered_from 1 C) n)) ids ≡ false → AllByRecursion IsId ids
live_are_ids C [] few h = tt
live_are_ids C (n ∷ ids) few h = go (λ rest. live_are_ids C ids few rest) (is_live (numbered_from 1 C) n) refl h
  where
    go : (list_any (λ n. not (is_live (numbered_from 1 C) n)) ids ≡ false → AllByRecursion IsId ids)
        → (b : Bool) → is_live (numbered_from 1 C) n ≡ b → (not b || list_any (λ n. not (is_live (numbered_from 1 C) n)) ids) ≡ false → AllByRecursion IsId (n ∷ ids)
    go more true live rest = let is = number_of_live C n live in ((is.0, let high = is.1 in omega (arith, high, few)), more rest)
    go more false dead rest = absurd (true≢false rest)

pub judged_are_ids : (formula : Problem) (find : FoundParity) → length formula.constraints ≤ 4294967295 → IsJudgedRight formula find → AllByRecursion IsId find.clauses
judged_are_ids formula find few judged = live_are_ids (clauses_of formula.constraints) find.clauses (let c = few_clauses formula.constraints in omega (arith, c, few)) judged.0

-- ---- the formula's own
pub begun_has_given : (formula : Problem) (o : Option (List LogEvent)) → clashes formula.constraints ≡ false → HasBegun formula formula.constraints o → HasGiven formula (parities_of formula.constraints) o
begun_has_given formula o apart b = (
  b.0,
  record {
    search = λ tidies. begun_is_search {tidies = tidies} formula b.0 apart b.1;
    clauses = b.2;
    no_more = b.1.clauses.free;
    listed = b.3;
    sums = begun_has_free_sums formula b.0 b.1;
    no_trail = b.1.no_trail;
    no_level = b.1.no_level;
    no_conflict = b.1.no_conflict;
    no_learned = b.1.no_learned;
    no_reduction = b.1.no_reduction;
    not_reducing = b.1.not_reducing;
    tidy = b.1.tidy;
    few_additions = let told = ap additions b.1.originals in let all = originals_add 1 1 formula.constraints in omega (arith, told, all);
  },
  b.4,
)

pub given_is_left : (formula : Problem) (parities : List (List Literal)) (o : Option (List LogEvent)) → HasGiven formula parities o → IsLeft formula o
given_is_left formula parities None g = tt
given_is_left formula parities (Some es) g = subst (λ xs. IsLeft formula (Some xs)) (sym g.2) (Rattle.std.proofs.Common.inl ((g.1.search false).log.apart, (g.0.moment.tables, (g.1.search false).log.runs)))

-- ---- one more
module _ (formula : Problem) (parities : List (List Literal)) (s : Search) (g : IsGiven formula parities s) (find : FoundParity) (w : AreWithin formula.variables find.parity) (judged : IsJudgedRight formula find) where
  abbrev id : ℕ
  id = length parities + 1

  abbrev zs : List Rattle.std.proofs.Common.ℤ
  zs = integers_of find.parity

  abbrev after : Search
  after = told s (Step (ParityOfClauses id zs find.clauses))

  lits_are : literals zs ≡ find.parity
  lits_are = literals_are formula.variables find.parity w

  is_right : IsRight (log_calculus formula) s.moment.tables (ParityOfClauses id zs find.clauses)
  is_right = (
    variables_are_within formula.variables find.parity w,
    (
      ap is_some (g.sums id (omega arith)),
      subst (λ xs. AllHold (naming s.moment.tables.clauses find.clauses ++ parity_of_clauses xs (named s.moment.tables.clauses find.clauses))) (sym lits_are)
          (subst (λ t. AllHold (naming t find.clauses ++ parity_of_clauses find.parity (named t find.clauses)))
          (sym (listed_is_table s.moment.tables.clauses (clauses_of formula.constraints) g.clauses g.no_more)) judged),
    ),
  )

  longer : length (parities ++ find.parity ∷ []) ≡ length parities + 1
  longer = length-append parities (find.parity ∷ [])

  find_is_given : IsGiven formula (parities ++ find.parity ∷ []) after
  find_is_given = record {
    search = λ tidies. subst (λ xs. IsSearchIn tidies formula (parities ++ xs ∷ []) after) lits_are
        (recovered_joins formula parities s (g.search tidies) g.no_trail g.no_level id zs find.clauses (omega arith) (g.sums id (omega arith)) is_right);
    clauses = g.clauses;
    no_more = g.no_more;
    listed = subst (λ xs. AreListedFromOne after.moment.tables.parities (parities ++ xs ∷ [])) lits_are (listed_more s.moment.tables.parities parities (literals zs) g.listed);
    sums = subst (λ n. HasFreeSums n after.moment) (sym longer) (recovered_has_free_sums (length parities) s zs find.clauses g.sums);
    no_trail = g.no_trail;
    no_level = g.no_level;
    no_conflict = g.no_conflict;
    no_learned = g.no_learned;
    no_reduction = g.no_reduction;
    not_reducing = g.not_reducing;
    tidy = record { served = g.tidy.served; no_old_clauses = g.tidy.no_old_clauses; no_new_clauses = g.tidy.no_new_clauses; no_old_sums = g.tidy.no_old_sums; no_new_sums = g.tidy.no_new_sums; levels = g.tidy.levels };
    few_additions = let was = g.few_additions in let one = additions_join s.events (Step (ParityOfClauses id zs find.clauses) ∷ []) in let long = longer in omega (arith, was, one, long);
  }

pub find_has_given : (formula : Problem) (parities : List (List Literal)) (o : Option (List LogEvent)) → HasGiven formula parities o → (find : FoundParity) → AreWithin formula.variables find.parity → IsJudgedRight formula find
    → HasGiven formula (parities ++ find.parity ∷ []) (with_events (Step (ParityOfClauses (length parities + 1) (integers_of find.parity) find.clauses) ∷ []) o)
find_has_given formula parities o g find w judged = (
  after formula parities g.0 g.1 find w judged,
  find_is_given formula parities g.0 g.1 find w judged,
  told_more g.0.events (ParityOfClauses (length parities + 1) (integers_of find.parity) find.clauses) o g.2,
)

-- ---- all of them
abbrev pub parities_found : List FoundParity → List (List Literal)
parities_found finds = map (λ f. f.parity) finds

found_within : (n : ℕ) (finds : List FoundParity) → AllByRecursion (λ (f : FoundParity). AreWithin n f.parity) finds → AllByRecursion (AreWithin n) (parities_found finds)
found_within n [] h = tt
found_within n (f ∷ finds) h = (h.0, found_within n finds h.1)

found_is_there : (finds : List FoundParity) (f : FoundParity) → Contains finds f → Contains (parities_found finds) f.parity
found_is_there [] f c = absurd (let low = c.1 in omega (arith, low))
found_is_there (x ∷ finds) f (zero, less, is) = subst (Contains (x.parity ∷ parities_found finds)) (ap (λ (g : FoundParity). g.parity) is) (in_head x.parity (parities_found finds))
found_is_there (x ∷ finds) f (suc i, less, is) = in_tail x.parity (parities_found finds) f.parity (found_is_there finds f (i, omega (arith, less), is))

pub engines_are : (formula : Problem) (finds : List FoundParity) → IsWithinVariables formula.variables formula.constraints → AllByRecursion (λ (f : FoundParity). AreWithin formula.variables f.parity) finds
    → length finds ≤ length (clauses_of formula.constraints)
    → ((form : NormalForm) → Recovered formula form → (find : FoundParity) × Contains finds find × (normal_form find.parity ≡ form)) → AreEngines formula (parities_of formula.constraints ++ parities_found finds)
engines_are formula finds known within few complete = record {
  within = all_append (AreWithin formula.variables) (parities_of formula.constraints) (parities_found finds) (parities_are_within formula.variables formula.constraints known.1) (found_within formula.variables finds within);
  few = let both = both_kinds formula.constraints in let long = length-append (parities_of formula.constraints) (parities_found finds) in let same = length-map finds (λ (f : FoundParity). f.parity) in omega (arith, both, long, same, few);
  theirs = theirs_are_had formula (parities_found finds) (λ form r. let f = complete form r in (f.0.parity, found_is_there finds f.0 f.1, f.2));
}

-- the parities of one find more
pub one_find_more : (own : List (List Literal)) (finds : List FoundParity) (place : ℕ) (d : FoundParity) → place < length finds → (own ++ parities_found (take place finds)) ++ (get_or finds place d).parity ∷ [] ≡ own ++ parities_found (take (place + 1) finds)
one_find_more own finds place d less =
    append_assoc own (parities_found (take place finds)) ((get_or finds place d).parity ∷ [])
    ∙ ap (λ xs. own ++ xs) (sym (ap parities_found (take_more finds place d less) ∙ map_push (take place finds) (get_or finds place d)))
  where
    map_push : (xs : List FoundParity) (f : FoundParity) → parities_found (xs ++ f ∷ []) ≡ parities_found xs ++ f.parity ∷ []
    map_push [] f = refl
    map_push (x ∷ xs) f = ap (λ ys. x.parity ∷ ys) (map_push xs f)
