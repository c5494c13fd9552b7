-- A learned clause is entered: the ties of the search after a whole conflict.
use Rattle.std.proofs.Common.{◌≡◌, ◌≢◌, refl, sym, ap, ◌∙◌, subst, ℕ, ◌+◌, ◌-◌, ◌<◌, ℤ, false, cond, nat_eq, eq-eqb, List, [], ◌∷◌, length, Some, ◌⊎◌, inl, inr, arith}
use Rattle.std.proofs.lemmas.Bool.{eqb-false}
use Rattle.cx_base.specs.Literals.{Literal}
use Rattle.cx_base.specs.Assumptions.{is_ending}
use Rattle.cx_base.specs.Problem.{Problem, AreWithin}
use Rattle.cx_base.specs.declared.steps.LogStep.TheVariants.{ClauseWithHints}
use Rattle.cx_base.specs.Integers.{literals, integers_of}
use Rattle.cx_semantics.specs.LogRules.{derives_ending_clause}
use Rattle.cx_semantics.specs.Tables.{get}
use Rattle.cx_semantics.proofs.Lookups.{Looks-insert}
use Rattle.cx_trail.specs.declared.entry.Reason.{Reason}
use Rattle.cx_trail.specs.Sequence.{TrailState, TakesBack, pushed, IsOpenIn}
use Rattle.search_steps.specs.Hints.{AreHintsFor}
use Rattle.search_steps.specs.Trail.{Entry, by_clause, back_to, level_of}
use Rattle.search_steps.specs.Quiet.{IsOfParities}
use Rattle.search_steps.specs.Search.{Search, IsSearchIn, IsServed as Served, IsTidy, IsLearnedOf, marked}
use Rattle.search_steps.specs.LogSteps.{IsAddition, AreTemporary, after_learned, after_round}
use Rattle.search_steps.specs.Tied.{IsTied}
use Rattle.search_steps.specs.Ids.{IsRanged}
use Rattle.search_steps.proofs.TrailLaws.{back_level}
use Rattle.search_steps.proofs.Rounds.{deleted_trail, deleted_get, deleted_parities, deleted_conflicts}
use Rattle.search_steps.proofs.RoundEnds.{round_is_tidy, round_stays_tied}
use Rattle.search_steps.proofs.IdLaws.{ranged_round_keeps, round_ranged, risen_ranged, next_is_free, low_is_no_row, row_ids_are_temporary, clause_ranged, mark_ranged}
use Rattle.search_steps.proofs.StartLaws.{variables_are_within}
use Rattle.conflict_learn.specs.Learning.{negated_at}
use Rattle.conflict_learn.proofs.ChainOfResolutions.{by_cases}
use Rattle.parity_engine.specs.State.{State}
use Rattle.cdcl_search.specs.declared.state.SearchState.{SearchState}
use Rattle.cdcl_search.specs.Ties.{first_row_id, IsNamedBy, stretches}
use Rattle.cdcl_search.proofs.TableLaws.{no_clause}
use Rattle.cdcl_search.proofs.DeletedRows.{temporary_learned, temporary_stretches}
use Rattle.cdcl_core.specs.Learning.{IsTaught}

-- literals of the trail are within the variables
pub negated_within : (formula : Problem) (t : TrailState) → t.variables ≡ formula.variables → Rattle.cx_trail.specs.Sequence.IsTrail t → (ps : List ℕ) → Rattle.std.specs.List.AllByRecursion (λ p. p < length t.entries) ps → AreWithin formula.variables (negated_at t ps)
negated_within formula t vars sound [] a = tt
negated_within formula t vars sound (p ∷ ps) a = (
  (sound.low p a.0, let high = sound.high p a.0 in omega (arith, high, vars)),
  negated_within formula t vars sound ps a.1,
)

pub below_first : (t : TrailState) (first : ℕ) (rest : List ℕ) → first < length t.entries → Rattle.std.specs.List.AllByRecursion (λ q. q < first) rest → Rattle.std.specs.List.AllByRecursion (λ p. p < length t.entries) rest
below_first t first [] h a = tt
below_first t first (q ∷ rest) h a = (let less = a.0 in omega (arith, less, h), below_first t first rest h a.1)

module _ (formula : Problem) (c : SearchState) (e : State) (lits : List Literal) (back : ℕ) (s : Search) (taught : IsTaught formula c e lits back s) (hints : List ℤ) where
  abbrev IsRow : List Literal → Type 0
  IsRow = IsOfParities formula.variables e.parities

  abbrev n : ℕ
  n = c.next

  abbrev zs : List ℤ
  zs = integers_of lits

  abbrev l : Literal
  l = taught.first

  abbrev after : Search
  after = after_round s c.next (integers_of lits) hints back taught.first

  pub within : AreWithin formula.variables lits
  within = subst (AreWithin formula.variables) (sym taught.placed.are)
      (negated_within formula c.trail taught.ties.trail.variables taught.ties.trail.follows.sound (taught.placed.first ∷ taught.placed.rest)
      (taught.placed.within, below_first c.trail taught.placed.first taught.placed.rest taught.placed.within taught.placed.falling.0))

  pub addition : IsAddition formula s.moment.tables.clauses n zs
  addition = record { within = variables_are_within formula.variables lits within; free = next_is_free formula (first_row_id c.next) c.next (first_row_id c.next + length taught.rows) s taught.ties.log.ranged (omega arith) }

  pub goes_on : derives_ending_clause formula (ClauseWithHints n zs hints) ≡ false
  goes_on = ap (is_ending formula.constraints) taught.integers ∙ taught.goes_on

  learned : IsLearnedOf s.trail back (literals zs) l
  learned = subst (λ xs. IsLearnedOf s.trail back xs l) (sym taught.integers) taught.learned

  served : Served s
  served = record { served = taught.ties.log.served.served; no_old_clauses = taught.ties.log.served.old_clauses; no_old_sums = taught.ties.log.served.old_sums }

  pub round_is_search : AreHintsFor s.moment.tables.clauses lits hints → IsSearchIn c.tidies formula e.parities after
  round_is_search right = ranged_round_keeps formula (first_row_id c.next) c.next (first_row_id c.next + length taught.rows) s taught.ties.log.ranged n zs hints back (omega arith) (omega arith) e.parities taught.search l served taught.ties.levels
      addition goes_on (subst (λ xs. AreHintsFor s.moment.tables.clauses xs hints) (sym taught.integers) right) learned

  pub tidy : IsTidy after
  tidy = round_is_tidy formula e.parities s taught.search n zs hints back l learned served taught.ties.log.served.new_sums

  round_leaves : IsRanged formula (first_row_id c.next) (n + 1) (first_row_id c.next) after.trail after.moment
  round_leaves = round_ranged formula (first_row_id c.next) c.next (first_row_id c.next + length taught.rows) s taught.ties.log.ranged n zs hints back (omega arith) (omega arith) l taught.ties.log.served.old_clauses

  -- no clause of a row is left, so their ids begin after the next one
  pub ranged_then : IsRanged formula (first_row_id (n + 1)) (n + 1) (first_row_id (n + 1)) after.trail after.moment
  ranged_then = risen_ranged formula (first_row_id c.next) (n + 1) (first_row_id c.next) after round_leaves (first_row_id (n + 1)) (omega arith) tidy.no_new_clauses tidy.no_old_clauses

  pub tied_then : (u : TrailState) → TakesBack back c.trail u → (reason : Reason) → IsOpenIn u.entries l.variable × IsTied after.trail (pushed u back l reason).entries
  tied_then u takes reason = round_stays_tied formula e.parities s taught.search n zs hints back l learned c.trail u taught.ties.trail.follows.tied takes reason

  -- ---- the trail
  abbrev the_entry : Entry
  the_entry = record { literal = taught.first; level = level_of (back_to back s.trail); why = by_clause c.next }

  pub level_then : level_of (back_to back s.trail) ≡ back
  level_then = let low = taught.learned.lower in back_level s.moment.tables.clauses IsRow back s.trail taught.search.serves.stands (omega (arith, low))

  pub trail_is : after.trail ≡ the_entry ∷ back_to back s.trail
  trail_is =
      let then : List Entry → List Entry = λ es. record { literal = l; level = level_of (back_to back es); why = by_clause n } ∷ back_to back es in
      ap then (deleted_trail (after_learned s n zs hints back) s.moment.new_clauses)

  -- ---- the tables
  pub parities_then : after.moment.tables.parities ≡ s.moment.tables.parities
  parities_then = deleted_parities (after_learned s n zs hints back) s.moment.new_clauses

  temporary : AreTemporary (after_learned s n zs hints back) s.moment.new_clauses
  temporary = row_ids_are_temporary formula (first_row_id c.next) (c.next + 1) (first_row_id c.next + length taught.rows) (after_learned s n zs hints back)
      (clause_ranged formula (first_row_id c.next) c.next (first_row_id c.next + length taught.rows) (marked s) (mark_ranged formula (first_row_id c.next) c.next (first_row_id c.next + length taught.rows) s taught.ties.log.ranged) n zs hints (omega arith) (omega arith))
      s.moment.new_clauses taught.ties.log.ranged.new_rows

  -- the clause is one of the learned ones, and the mark ends a stretch
  pub learned_then : after.moment.learned ≡ c.next ∷ s.moment.learned
  learned_then = temporary_learned (after_learned s n zs hints back) s.moment.new_clauses temporary

  pub stretches_then : stretches after.moment ≡ stretches s.moment
  stretches_then = temporary_stretches (after_learned s n zs hints back) s.moment.new_clauses temporary

  pub conflicts_then : after.conflicts ≡ c.conflicts + 1
  conflicts_then = deleted_conflicts (after_learned s n zs hints back) s.moment.new_clauses ∙ ap (λ k. k + 1) taught.ties.counts.marked

  got : (m : ℕ) → m < first_row_id c.next → get after.moment.tables.clauses m ≡ cond (nat_eq m n) (Some (literals zs)) (get s.moment.tables.clauses m)
  got m low = deleted_get (after_learned s n zs hints back) s.moment.new_clauses m (low_is_no_row formula (first_row_id c.next) c.next (first_row_id c.next + length taught.rows) s taught.ties.log.ranged m low)
      ∙ Looks-insert s.moment.tables.clauses (get s.moment.tables.clauses) n (literals zs) (λ _. refl) m

  pub get_new : get after.moment.tables.clauses n ≡ Some lits
  get_new = got n (omega arith) ∙ ap (λ b. cond b (Some (literals zs)) (get s.moment.tables.clauses n)) (eq-eqb n n refl) ∙ ap Some taught.integers

  pub get_old : (m : ℕ) → m < first_row_id c.next → m ≢ n → get after.moment.tables.clauses m ≡ get s.moment.tables.clauses m
  get_old m low apart = got m low ∙ ap (λ b. cond b (Some (literals zs)) (get s.moment.tables.clauses m)) (apart_is m n apart)
    where
      apart_is : (a b : ℕ) → a ≢ b → nat_eq a b ≡ false
      apart_is a b apart = by_cases (nat_eq a b) (λ q. absurd (apart (Rattle.std.proofs.Common.eqb-true a b q))) (λ q. q)

  -- a live clause with a low id has another id, and stays
  pub stays : (m : ℕ) (clause : List Literal) → m < first_row_id c.next → get s.moment.tables.clauses m ≡ Some clause → get after.moment.tables.clauses m ≡ Some clause
  stays m clause low live = get_old m low (λ same. no_clause clause (sym live ∙ ap (get s.moment.tables.clauses) same ∙ addition.free)) ∙ live

  pub named_then : (lits : List Literal) (m : ℕ) → m < first_row_id c.next → IsNamedBy s.moment.tables.clauses lits m → IsNamedBy after.moment.tables.clauses lits m
  named_then lits m low named = record { clause = named.clause; live = stays m named.clause low named.live; same = named.same }

  -- and each other one was there
  pub was : (m : ℕ) (clause : List Literal) → m < first_row_id c.next → get after.moment.tables.clauses m ≡ Some clause → ((clause ≡ lits) × (m ≡ c.next)) ⊎ ((m < c.next) × (get s.moment.tables.clauses m ≡ Some clause))
  was m clause low live = by_cases (nat_eq m n)
      (λ q. inl (let at : Some clause ≡ Some lits = sym live ∙ ap (get after.moment.tables.clauses) (Rattle.std.proofs.Common.eqb-true m n q) ∙ get_new in (let is : clause ≡ lits = cc (at) in is, Rattle.std.proofs.Common.eqb-true m n q)))
      (λ q. let apart = eqb-false m n q in inr (omega (arith, low, apart), sym (get_old m low (eqb-false m n q)) ∙ live))
