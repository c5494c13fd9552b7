-- The laws of the search's steps.
use Rattle.std.specs.Prelude.{◌≡◌, ℕ, ◌+◌, ◌*◌, ◌≤◌, ◌<◌, ℤ, pos, Bool, true, not, List, [], ◌∷◌, ◌++◌, length, Option, Some, None, IsTrue, IsFalse, Contains, map}
use Rattle.std.specs.List.{list_all, AllByRecursion}
use Rattle.cx_base.specs.Literals.{Literal, literal_true, negate}
use Rattle.cx_base.specs.Assumptions.{assumes, clashes, IsFailed}
use Rattle.cx_base.specs.Problem.{Problem, Meets, Unmet, clauses_of, parities_of, literals_of, parity_met, AreWithin}
use Rattle.cx_base.specs.declared.constraint.Constraint.{Constraint}
use Rattle.cx_base.specs.declared.constraint.Constraint.TheVariants as constraint
use Rattle.cx_base.specs.declared.steps.LogStep.{LogStep}
use Rattle.cx_base.specs.declared.steps.LogStep.TheVariants.{Original, OriginalParity, ClauseWithHints, Parity, ClauseOfParity, ParityOfClauses, Delete, DeleteParity}
use Rattle.cx_base.specs.declared.steps.LogEvent.{LogEvent}
use Rattle.cx_base.specs.declared.steps.LogEvent.TheVariants.{Step}
use Rattle.cx_semantics.specs.Chain.{has_literal, is_inside, negations, same_literals, chain, right}
use Rattle.cx_semantics.specs.Fresh.{IsLive}
use Rattle.cx_base.specs.Integers.{literal, literals, integers_of}
use Rattle.cx_semantics.specs.Judging.{IsRight, IsOpen}
use Rattle.cx_semantics.specs.LogRules.{log_calculus, derived_clause, derives_ending_clause, HasChain, AreLive, IsOriginalParity}
use Rattle.cx_semantics.specs.ProofRules.{IsSum}
use Rattle.cx_base.specs.Events.{steps_of}
use Rattle.cx_semantics.specs.Marked.{Marked, after_event, is_among, without}
use Rattle.cx_semantics.specs.Settled.{Decides}
use Rattle.cx_semantics.specs.Tables.{Table, Tables, get, named}
use Rattle.cx_trail.specs.declared.entry.Entry.{Entry as TrailEntry}
use Rattle.cx_trail.specs.declared.entry.Reason.{Reason}
use Rattle.cx_trail.specs.Sequence.{TrailState, TakesBack, pushed, IsTrueIn, IsOpenIn}
use Rattle.conflict_learn.specs.declared.learning.Resolved.{Resolved}
use Rattle.conflict_learn.specs.Final.{IsFinal}
use Rattle.conflict_learn.specs.Learning.{IsAntecedent, IsLearned, IsOfLevel}
use Rattle.conflict_learn.specs.Levels.{Teaches}
use Rattle.parity_engine.specs.declared.event.ParityEvent.{ParityEvent}
use Rattle.parity_engine.specs.declared.state.Held.{Held}
use Rattle.parity_engine.specs.State.{State, IsSilent, Reports, assigned, back, fresh, known, held_at, pushed as opened}
use Rattle.search_steps.specs.Engine.{HoldsValues}
use Rattle.search_steps.specs.Hints.{AreHintsFor, IsNamedBy, hints_from}
use Rattle.search_steps.specs.Ids.{ReasonsBelow, AreRowIds, HasFreeSums, IsRanged}
use Rattle.search_steps.specs.LogSteps.{IsAddition, RestOnClauses, IsRowOf, IsClauseOfRow, IsRowReason, IsNoReason, IsEnded, AreTemporary, row_events, all_told, deleted, unit_told, after_round}
use Rattle.search_steps.specs.Propagated.{IsPropagated}
use Rattle.search_steps.specs.Quiet.{HasNoClash, RestsOn, IsOfParities, IsWatchedWell, ParitiesQuiet, ClausesQuiet, Quiet}
use Rattle.search_steps.specs.Schedule.{IsInReduction}
use Rattle.search_steps.specs.Recovering.{IsParityOf, HasRecovered, SettledWithRecovered}
use Rattle.search_steps.specs.Search.{Search, IsSearchIn, IsServed, IsTidy, IsLearnedOf, told, decided_on, forced_on, jumped, marked}
use Rattle.search_steps.specs.Start.{IsBegun, start}
use Rattle.search_steps.specs.Tied.{IsTied, AreForcedBehind, IsLiveSet, IsLiveOr, Mirrors, ForcesOn, IsQuietOn, AreOthersFalseOn, IsFalsifiedOn}
use Rattle.cx_base.specs.Lines.{Line}
use Rattle.tidy_rules.specs.Runs.{KeepsFree, NoneDeletes, RunsTidily, EndsTidily}
use Rattle.search_steps.specs.Covers.{IsCover, IsSpared, rows_in}
use Rattle.search_steps.specs.TidySteps.{IsAtStart, SpareReasons, IsEndedTidily, steps_told}
use Rattle.search_steps.specs.TidyLines.{TidiedInTime, LineFits, marks_in, tidy_lines_in}
use Rattle.search_steps.specs.Size.{additions, row_additions}
use Rattle.search_steps.specs.Trail.{Entry, by_clause, by_row, rests_on, held, all_held, back_to, level_of, IsUnassigned, Forces}

-- a law of each search that holds, one that tidies or one that does not
abbrev pub OfSearch : (Bool → Problem → List (List Literal) → Search → Type 0) → Type 0
OfSearch Law = (tidies : Bool) (formula : Problem) (parities : List (List Literal)) (s : Search) → IsSearchIn tidies formula parities s → Law tidies formula parities s

-- a law of each search that holds, tied to the code's trail, and a literal that is open there and is put on it for a reason
abbrev pub OfTrail : (Bool → Problem → List (List Literal) → Search → TrailState → Literal → Reason → Type 0) → Type 0
OfTrail Law = OfSearch (λ tidies formula parities s. (t : TrailState) → Mirrors s.trail t → (l : Literal) (reason : Reason) → IsOpenIn t.entries l.variable → Law tidies formula parities s t l reason)

-- a law of each search whose ids keep to their ranges
abbrev pub OfRanges : (Problem → ℕ → ℕ → ℕ → Search → Type 0) → Type 0
OfRanges Law = (formula : Problem) (bound next row_next : ℕ) (s : Search) → IsRanged formula bound next row_next s.trail s.moment → Law formula bound next row_next s

-- the engine's parities say what the formula's do, and what those that are recovered from its clauses do
abbrev pub HaveTheirs : Problem → List (List Literal) → Type 0
HaveTheirs formula parities = (values : List Bool) → IsTrue (list_all (parity_met values) parities) → (parity : List Literal) → IsParityOf formula parity → IsTrue (parity_met values parity)

-- ---- the beginning
-- at the start nothing is told
abbrev pub NothingIsBegun : Type 0
NothingIsBegun = (formula : Problem) → IsBegun formula [] start

-- the next clause of the formula is told under the next id
abbrev pub OriginalClausesAreTold : Type 0
OriginalClausesAreTold =
    (formula : Problem) (taken : List Constraint) (s : Search) → IsBegun formula taken s → (lits : List Literal) → AreWithin formula.variables lits → Contains (clauses_of formula.constraints) lits
    → IsBegun formula (taken ++ constraint.Clause lits ∷ []) (told s (Step (Original (length (clauses_of taken) + 1) (integers_of lits))))

-- the next parity of the formula is told under the next id of its own
abbrev pub OriginalParitiesAreTold : Type 0
OriginalParitiesAreTold =
    (formula : Problem) (taken : List Constraint) (s : Search) → IsBegun formula taken s → (lits : List Literal) → AreWithin formula.variables lits → IsOriginalParity formula lits
    → IsBegun formula (taken ++ constraint.Parity lits ∷ []) (told s (Step (OriginalParity (length (parities_of taken) + 1) (integers_of lits))))

-- an assumption constraint is not told
abbrev pub AssumptionsAreNotTold : Type 0
AssumptionsAreNotTold = (formula : Problem) (taken : List Constraint) (s : Search) → IsBegun formula taken s → (lits : List Literal) → IsBegun formula (taken ++ constraint.Assume lits ∷ []) s

-- after the last constraint the search holds, with the parities of the formula, where its assumptions don't clash
abbrev pub BegunIsSearch : Type 0
BegunIsSearch = (tidies : Bool) (formula : Problem) (s : Search) → IsFalse (clashes formula.constraints) → IsBegun formula formula.constraints s → IsSearchIn tidies formula (parities_of formula.constraints) s

-- a recovered parity joins the engine's, before the first decision
abbrev pub RecoveredParitiesJoin : Type 0
RecoveredParitiesJoin = OfSearch (λ tidies formula parities s.
    s.trail ≡ [] → s.quiet_levels ≡ 0 → (n : ℕ) (zs : List ℤ) (ids : List ℕ) → n ≤ length parities + 1 → get s.moment.tables.parities n ≡ None
    → IsRight (log_calculus formula) s.moment.tables (ParityOfClauses n zs ids) → IsSearchIn tidies formula (parities ++ literals zs ∷ []) (told s (Step (ParityOfClauses n zs ids))))

-- ---- the steps of the trail, over the code's
-- a literal that a live clause forces keeps the search, and the code's trail with that literal put on it is tied to the longer one
abbrev pub ClauseStepsKeep : Type 0
ClauseStepsKeep = OfTrail (λ tidies formula parities s t l reason.
    (n : ℕ) (clause : List Literal) → s.quiet_levels ≤ t.level → get s.moment.tables.clauses n ≡ Some clause → ForcesOn t.entries clause l
    → IsSearchIn tidies formula parities (forced_on s l (by_clause n)) × IsTied (forced_on s l (by_clause n)).trail (pushed t t.level l reason).entries)

-- a whole propagation keeps the search: entries that live clauses force one after another
abbrev pub PropagationsKeep : Type 0
PropagationsKeep = OfSearch (λ tidies formula parities s.
    (t : TrailState) → Mirrors s.trail t → s.quiet_levels ≤ t.level → (bound : ℕ) (more : List TrailEntry) → AreForcedBehind s.moment.tables.clauses bound t.level t.entries more
    → IsPropagated tidies formula parities bound s (t.entries ++ more))

-- a literal that a clause of the parities forces keeps the search
abbrev pub RowStepsKeep : Type 0
RowStepsKeep = OfTrail (λ tidies formula parities s t l reason.
    (clause : List Literal) → s.quiet_levels ≤ t.level → IsOfParities formula.variables parities clause → ForcesOn t.entries clause l
    → IsSearchIn tidies formula parities (forced_on s l (by_row clause)) × IsTied (forced_on s l (by_row clause)).trail (pushed t t.level l reason).entries)

-- a decision keeps the search, where both engines are quiet
abbrev pub DecisionsKeep : Type 0
DecisionsKeep = OfTrail (λ tidies formula parities s t l reason.
    s.quiet_levels ≡ t.level → Quiet formula.variables parities s.moment.tables.clauses (all_held s.trail)
    → IsSearchIn tidies formula parities (decided_on s l) × IsTied (decided_on s l).trail (pushed t (t.level + 1) l reason).entries)

-- a jump back keeps the search, to a level up to which all levels are quiet
abbrev pub JumpsKeep : Type 0
JumpsKeep = OfSearch (λ tidies formula parities s.
    (back : ℕ) → back ≤ s.quiet_levels → IsSearchIn tidies formula parities (jumped s back))

-- after a jump back the code's trail is that of the calculus
abbrev pub JumpsStayTied : Type 0
JumpsStayTied = (k : ℕ) (es : List Entry) (old new : TrailState) → TakesBack k old new → IsTied es old.entries → IsTied (back_to k es) new.entries

-- ---- what is told
-- the steps of the reason that a row gave keep the search
abbrev pub RowReasonsKeep : Type 0
RowReasonsKeep =
    (tidies : Bool) (formula : Problem) (parities : List (List Literal)) (s : Search) (k : ℕ) (rs : List ℤ) (ids : List ℕ) (n : ℕ) (zs : List ℤ) → IsRowReason formula parities s k rs ids n zs
    → IsSearchIn tidies formula parities s → IsSearchIn tidies formula parities (all_told s (row_events k rs ids n zs))

-- telling the sum of live parities keeps the search
abbrev pub SumsKeep : Type 0
SumsKeep = OfSearch (λ tidies formula parities s.
    (n : ℕ) (zs : List ℤ) (ids : List ℕ) → IsAddition formula s.moment.tables.parities n zs → AreLive s.moment.tables.parities ids → IsSum (literals zs) (named s.moment.tables.parities ids) → IsSearchIn tidies formula parities (told s (Step (Parity n zs ids))))

-- telling the parity of a live unit clause keeps the search
abbrev pub UnitParitiesKeep : Type 0
UnitParitiesKeep = OfSearch (λ tidies formula parities s.
    (n : ℕ) (z : ℤ) (unit : ℕ) (clause : List Literal) → IsAddition formula s.moment.tables.parities n (z ∷ []) → get s.moment.tables.clauses unit ≡ Some clause → IsTrue (same_literals (literal z ∷ []) clause)
    → IsSearchIn tidies formula parities (told s (Step (ParityOfClauses n (z ∷ []) (unit ∷ [])))))

-- telling the clause of a row keeps the search, where the row's sum is live
abbrev pub RowClausesKeep : Type 0
RowClausesKeep = OfSearch (λ tidies formula parities s.
    (n : ℕ) (zs : List ℤ) (source : ℕ) (row : List Literal) → IsAddition formula s.moment.tables.clauses n zs → get s.moment.tables.parities source ≡ Some row → IsOfParities formula.variables parities (literals zs)
    → IsClauseOfRow formula.variables row (literals zs) → IsFalse (derives_ending_clause formula (ClauseOfParity n zs source)) → IsSearchIn tidies formula parities (told s (Step (ClauseOfParity n zs source))))

-- deleting a sum keeps the search, where its id is above the engine's parities
abbrev pub SumDeletionsKeep : Type 0
SumDeletionsKeep = OfSearch (λ tidies formula parities s.
    (n : ℕ) (zs : List ℤ) → length parities < n → IsSearchIn tidies formula parities (told s (Step (DeleteParity n zs))))

-- telling the unit clause of a literal of level 0 with right hints keeps the search, and the literal rests on it from then on
abbrev pub UnitsKeep : Type 0
UnitsKeep = OfSearch (λ tidies formula parities s.
    (n : ℕ) (z : ℤ) (hints : List ℤ) (newer older : List Entry) (e : Entry) → s.trail ≡ newer ++ e ∷ older → e.level ≡ 0 → literal z ≡ e.literal → IsAddition formula s.moment.tables.clauses n (z ∷ [])
    → AreHintsFor s.moment.tables.clauses (literal z ∷ []) hints → IsFalse (derives_ending_clause formula (ClauseWithHints n (z ∷ []) hints)) → IsFalse s.moment.awaits → RestOnClauses older → (clause : List Literal) → IsLive s.moment.tables.clauses clause → Forces clause (all_held older) e.literal
    → IsSearchIn tidies formula parities (unit_told s n z hints newer e older))

-- and at level 0 that of a literal whose negation is in a clause that is not told, with right hints, where a chain by that clause and live ones is right
abbrev pub UnitsBesideKeep : Type 0
UnitsBesideKeep = OfSearch (λ tidies formula parities s.
    s.quiet_levels ≡ 0 → (n : ℕ) (z : ℤ) (hints : List ℤ) → IsAddition formula s.moment.tables.clauses n (z ∷ []) → AreHintsFor s.moment.tables.clauses (literal z ∷ []) hints → IsFalse (derives_ending_clause formula (ClauseWithHints n (z ∷ []) hints)) → IsFalse s.moment.awaits
    → (clause : List Literal) (clauses : List (List Literal)) → AllByRecursion (IsLiveOr s.moment.tables.clauses clause) clauses → ((assumed : List Literal) → chain assumed clauses ≡ right) → IsTrue (has_literal clause (negate (literal z)))
    → IsSearchIn tidies formula parities (told s (Step (ClauseWithHints n (z ∷ []) hints))))

-- the mark of a counted conflict keeps the search
abbrev pub MarksKeep : Type 0
MarksKeep = OfSearch (λ tidies formula parities s.
    IsServed s → IsSearchIn tidies formula parities (marked s))

-- telling the learned clause with right hints keeps the search, where one is owed
abbrev pub LearnedClausesKeep : Type 0
LearnedClausesKeep = OfSearch (λ tidies formula parities s.
    (n : ℕ) (zs hints : List ℤ) (back : ℕ) (l : Literal) → IsAddition formula s.moment.tables.clauses n zs → IsFalse (derives_ending_clause formula (ClauseWithHints n zs hints)) → IsTrue s.moment.awaits → s.quiet_levels ≡ level_of s.trail
    → AreHintsFor s.moment.tables.clauses (literals zs) hints → IsLearnedOf s.trail back (literals zs) l → IsSearchIn tidies formula parities (record (told s (Step (ClauseWithHints n zs hints))) { quiet_levels = back }))

-- deleting temporary clauses one after another keeps the search
abbrev pub DeletionsKeep : Type 0
DeletionsKeep = OfSearch (λ tidies formula parities s.
    (ids : List ℕ) → AreTemporary s ids → IsSearchIn tidies formula parities (deleted s ids))

-- deleting a learned clause that is no reason keeps the search, where the formula's clauses are covered without it and enough are left, in a reduction
abbrev pub LearnedDeletionsKeep : Type 0
LearnedDeletionsKeep = OfSearch (λ tidies formula parities s.
    (n : ℕ) (zs : List ℤ) → IsSpared formula s.moment n → IsNoReason n s.trail → 1000 + 250 * s.moment.reductions ≤ length (without s.moment.learned n)
    → IsInReduction s.events → IsSearchIn tidies formula parities (told s (Step (Delete n zs))))

-- a whole conflict keeps the search: the mark, the learned clause with right hints, the deletions, the jump back, and the literal that the clause forces
abbrev pub RoundsKeep : Type 0
RoundsKeep =
    (formula : Problem) (bound next row_next : ℕ) (s : Search) → IsRanged formula bound next row_next s.trail s.moment → (n : ℕ) (zs hints : List ℤ) (back : ℕ) → next ≤ n → n < bound
    → (tidies : Bool) (parities : List (List Literal)) → IsSearchIn tidies formula parities s → (l : Literal) → IsServed s → s.quiet_levels ≡ level_of s.trail → IsAddition formula s.moment.tables.clauses n zs
    → IsFalse (derives_ending_clause formula (ClauseWithHints n zs hints)) → AreHintsFor s.moment.tables.clauses (literals zs) hints → IsLearnedOf s.trail back (literals zs) l → IsSearchIn tidies formula parities (after_round s n zs hints back l)

-- the reason of a row leaves no sum, and a search that may be marked stays so
abbrev pub RowReasonsServe : Type 0
RowReasonsServe =
    (formula : Problem) (parities : List (List Literal)) (s : Search) (k : ℕ) (rs : List ℤ) (ids : List ℕ) (n : ℕ) (zs : List ℤ) → IsRowReason formula parities s k rs ids n zs
    → IsServed s → s.moment.new_sums ≡ [] → IsServed (all_told s (row_events k rs ids n zs)) × ((all_told s (row_events k rs ids n zs)).moment.new_sums ≡ [])

-- after a whole conflict the search is tidy
abbrev pub RoundsAreTidy : Type 0
RoundsAreTidy = OfSearch (λ tidies formula parities s.
    (n : ℕ) (zs hints : List ℤ) (back : ℕ) (l : Literal) → IsLearnedOf s.trail back (literals zs) l → IsServed s → s.moment.new_sums ≡ [] → IsTidy (after_round s n zs hints back l))

-- the literal that the learned clause forces is open on the code's trail after the jump, and is added to it
abbrev pub RoundsStayTied : Type 0
RoundsStayTied = OfSearch (λ tidies formula parities s.
    (n : ℕ) (zs hints : List ℤ) (back : ℕ) (l : Literal) → IsLearnedOf s.trail back (literals zs) l → (t u : TrailState) → IsTied s.trail t.entries → TakesBack back t u → (reason : Reason)
    → IsOpenIn u.entries l.variable × IsTied (after_round s n zs hints back l).trail (pushed u back l reason).entries)

-- ---- conflicts and what they teach
-- the clause that an analysis answers is learned, asserting by its first literal
abbrev pub TaughtIsLearned : Type 0
TaughtIsLearned = OfSearch (λ tidies formula parities s.
    (t : TrailState) → Mirrors s.trail t → 0 < t.level → (conflict : List Literal) (resolved : List Resolved) (lits : List Literal) (back lbd : ℕ) → Teaches t conflict (IsNamedBy s.moment.tables.clauses) resolved lits back lbd
    → (l : Literal) × (more : List Literal) × (lits ≡ l ∷ more) × IsLearnedOf s.trail back lits l)

-- the hints of a learned clause are right: the ids of the clauses that were resolved, the last one's first, and then the conflict's
abbrev pub LearnedIsHinted : Type 0
LearnedIsHinted =
    (table : Table) (trail : TrailState) (conflict : List Literal) (n : ℕ) (resolved : List Resolved) (lits : List Literal) → IsNamedBy table conflict n → IsLearned trail conflict (IsNamedBy table) resolved lits
    → AreHintsFor table lits (hints_from resolved ++ pos n ∷ [])

-- and those of what is left of a clause whose literals were traced to decisions
abbrev pub FinalIsHinted : Type 0
FinalIsHinted =
    (table : Table) (trail : TrailState) (below : ℕ) (kept : Option Literal) (clause : List Literal) (n : ℕ) (resolved : List Resolved) (lits : List Literal) → IsNamedBy table clause n → IsFinal trail below kept clause (IsNamedBy table) resolved lits
    → AreHintsFor table lits (hints_from resolved ++ pos n ∷ [])

-- a clause that forced an entry in the calculus is one that implied its literal on the code's trail
abbrev pub ForcedIsImplied : Type 0
ForcedIsImplied =
    (t : TrailState) (newer older : List Entry) (e : Entry) → Mirrors (newer ++ e ∷ older) t → (clause : List Literal) → Forces clause (all_held older) e.literal → IsAntecedent t e.literal clause

-- above level 0 a clause with the literals of a live one has a literal that is false at the current level or not at all
abbrev pub ClauseConflictsAreNow : Type 0
ClauseConflictsAreNow = OfSearch (λ tidies formula parities s.
    (t : TrailState) → Mirrors s.trail t → 0 < t.level → s.quiet_levels ≡ t.level → (lits : List Literal) → IsLiveSet s.moment.tables.clauses lits
    → (m : Literal) × IsTrue (has_literal lits m) × IsOfLevel t m t.level)

-- above level 0 a clause that the parities imply has such a literal
abbrev pub RowConflictsAreNow : Type 0
RowConflictsAreNow = OfSearch (λ tidies formula parities s.
    (t : TrailState) → Mirrors s.trail t → 0 < t.level → s.quiet_levels ≡ t.level → (clause : List Literal) → IsOfParities formula.variables parities clause
    → (m : Literal) × IsTrue (has_literal clause m) × IsOfLevel t m t.level)

-- the clause of a row of the engine is one that the parities imply
abbrev pub RowsAreOfParities : Type 0
RowsAreOfParities =
    (n : ℕ) (parities : List (List Literal)) (tables : Tables) (ids : List ℕ) (row clause : List Literal) → IsRowOf parities tables ids row → IsClauseOfRow n row clause → IsOfParities n parities clause

-- ---- the end
-- where the steps are right and the last one ends the log, no values meet the formula
abbrev pub EndedIsUnmet : Type 0
EndedIsUnmet = (formula : Problem) (events : List LogEvent) → IsEnded formula events → Unmet formula

-- a right step that ends a log makes it one that is right to its end; the negations of its clause's literals are assumed, and no values meet the clauses and parities with them
abbrev pub LastStepsEnd : Type 0
LastStepsEnd = OfSearch (λ tidies formula parities s.
    (step : LogStep) → IsRight (log_calculus formula) s.moment.tables step → IsTrue (derives_ending_clause formula step) → IsEnded formula (s.events ++ Step step ∷ []) × IsFailed formula (negations (derived_clause step)))

-- a clause with right hints ends a log in this way, and the marks are as before where no clause is owed
abbrev pub ChainedClausesEnd : Type 0
ChainedClausesEnd = OfSearch (λ tidies formula parities s.
    (n : ℕ) (zs hints : List ℤ) → IsAddition formula s.moment.tables.clauses n zs → AreHintsFor s.moment.tables.clauses (literals zs) hints → IsTrue (derives_ending_clause formula (ClauseWithHints n zs hints)) → IsFalse s.moment.awaits
    → IsEnded formula (s.events ++ Step (ClauseWithHints n zs hints) ∷ []) × Marked formula (s.events ++ Step (ClauseWithHints n zs hints) ∷ []) s.conflicts)

-- the clause of a row ends a log in this way, where its sum is live
abbrev pub RowClausesEnd : Type 0
RowClausesEnd = OfSearch (λ tidies formula parities s.
    (n : ℕ) (zs : List ℤ) (source : ℕ) (row : List Literal) → IsAddition formula s.moment.tables.clauses n zs → get s.moment.tables.parities source ≡ Some row → IsClauseOfRow formula.variables row (literals zs)
    → IsTrue (derives_ending_clause formula (ClauseOfParity n zs source)) → IsFalse s.moment.awaits
    → IsEnded formula (s.events ++ Step (ClauseOfParity n zs source) ∷ []) × Marked formula (s.events ++ Step (ClauseOfParity n zs source) ∷ []) s.conflicts)

-- a live clause that is false by older entries, which all rest on live clauses, gives the empty clause a right chain
abbrev pub FalsifiedHasChain : Type 0
FalsifiedHasChain = OfSearch (λ tidies formula parities s.
    (newer older : List Entry) → s.trail ≡ newer ++ older → RestOnClauses older → (clause : List Literal) → IsLive s.moment.tables.clauses clause
    → IsTrue (is_inside (negations clause) (all_held older)) → HasChain s.moment.tables.clauses [])

-- while no clause is owed the log is open, and marked once for each conflict
abbrev pub SearchesAreOpen : Type 0
SearchesAreOpen = OfSearch (λ tidies formula parities s.
    IsFalse s.moment.awaits → IsOpen (log_calculus formula) (steps_of s.events) × Marked formula s.events s.conflicts)

-- where both engines are quiet, all is decided and each assumed literal is held, the values of the trail meet the formula
abbrev pub FullIsMet : Type 0
FullIsMet = OfSearch (λ tidies formula parities s.
    Quiet formula.variables parities s.moment.tables.clauses (all_held s.trail) → HaveTheirs formula parities → ((l : Literal) → IsTrue (assumes formula.constraints l) → IsTrue (has_literal (all_held s.trail) l)) → (values : List Bool) → AllByRecursion (λ c. AreWithin formula.variables (literals_of c)) formula.constraints
    → Decides formula.variables (all_held s.trail) → length values ≡ formula.variables → IsTrue (list_all (literal_true values) (all_held s.trail)) → Meets formula values)

-- the engine's parities say what the formula's do, where these come first among them and then the recovered ones
abbrev pub TheirsAreHad : Type 0
TheirsAreHad = (formula : Problem) (more : List (List Literal)) → HasRecovered formula more → HaveTheirs formula (parities_of formula.constraints ++ more)

-- where both engines are quiet over a formula that is settled with the recovered parities, all is decided
abbrev pub SettledWantsNoDecision : Type 0
SettledWantsNoDecision = OfSearch (λ tidies formula parities s.
    Quiet formula.variables parities s.moment.tables.clauses (all_held s.trail) → HaveTheirs formula parities → SettledWithRecovered formula → Decides formula.variables (all_held s.trail))

-- ---- quiet, from what the watches and the engine answer
-- live clauses that each have a true literal, two open ones or a literal with its negation are quiet
abbrev pub WatchedIsQuiet : Type 0
WatchedIsQuiet =
    (table : Table) (known : List Literal) → HasNoClash known → ((clause : List Literal) → IsLive table clause → IsWatchedWell known clause) → ClausesQuiet table known

-- the trail has no literal together with its negation
abbrev pub TrailsHaveNoClash : Type 0
TrailsHaveNoClash = OfSearch (λ tidies formula parities s.
    HasNoClash (all_held s.trail))

-- a clause rests where a stored list with the same literals has a true one or two open ones
abbrev pub StoredRests : Type 0
StoredRests =
    (lits clause : List Literal) → IsTrue (same_literals lits clause) → (es : List Entry) (entries : List TrailEntry) → IsTied es entries → HasNoClash (all_held es) → IsQuietOn entries lits → RestsOn (all_held es) clause

-- a clause forces what a stored list with the same literals forces
abbrev pub StoredForces : Type 0
StoredForces =
    (lits clause : List Literal) → IsTrue (same_literals lits clause) → (entries : List TrailEntry) (l : Literal) → Contains lits l → AreOthersFalseOn entries lits l → ForcesOn entries clause l

-- a clause is false where each literal of a stored list with the same literals is
abbrev pub StoredIsFalse : Type 0
StoredIsFalse =
    (lits clause : List Literal) → IsTrue (same_literals lits clause) → (es : List Entry) (entries : List TrailEntry) → IsTied es entries → IsFalsifiedOn entries lits → IsTrue (is_inside (negations clause) (all_held es))

-- a clause rests where one inside it does
abbrev pub LargerClausesRest : Type 0
LargerClausesRest = (known inner clause : List Literal) → IsTrue (is_inside inner clause) → RestsOn known inner → RestsOn known clause

-- each clause that quiet parities imply rests
abbrev pub ImpliedClausesRest : Type 0
ImpliedClausesRest = (n : ℕ) (parities : List (List Literal)) (known clause : List Literal) → ParitiesQuiet n parities known → IsOfParities n parities clause → RestsOn known clause

-- where the engine is silent, the parities are quiet over the trail
abbrev pub SilentIsQuiet : Type 0
SilentIsQuiet = (s : State) (es : List Entry) → HoldsValues es s.values → IsSilent s → ParitiesQuiet s.vars s.parities (all_held es)

-- ---- the engine's values
-- a fresh engine holds the values of an empty trail
abbrev pub FreshEnginesHold : Type 0
FreshEnginesHold = (vars : ℕ) (parities : List (List Literal)) (rows : ℕ) → HoldsValues [] (fresh vars parities rows).values

-- an engine that is assigned the literal of the next entry holds the values of the longer trail
abbrev pub AssignedValuesHold : Type 0
AssignedValuesHold =
    (s : State) (es : List Entry) → HoldsValues es s.values → (e : Entry) → e.level ≡ s.level → 1 ≤ e.literal.variable → e.literal.variable ≤ length s.values → IsUnassigned (all_held es) e.literal
    → HoldsValues (e ∷ es) (assigned s e.literal.variable (not e.literal.negative)).values

-- an engine that opens a level holds what it held
abbrev pub NewLevelsHold : Type 0
NewLevelsHold = (s : State) (es : List Entry) → HoldsValues es s.values → HoldsValues es (opened s).values

-- an engine that answers an event holds what it held
abbrev pub AnswersHold : Type 0
AnswersHold = (s : State) (es : List Entry) → HoldsValues es s.values → (event : ParityEvent) (new : State) → Reports s event new → HoldsValues es new.values

-- an engine that takes levels back holds the values of the trail that is left
abbrev pub ValuesTakenBackHold : Type 0
ValuesTakenBackHold = OfSearch (λ tidies formula parities s.
    (newer older : List Entry) → s.trail ≡ newer ++ older → (engine : State) → HoldsValues older engine.values → (k : ℕ) → HoldsValues (back_to k older) (back k engine).values)

-- newer entries above a level do not count in a jump back to it
abbrev pub LaterEntriesGo : Type 0
LaterEntriesGo = (k : ℕ) (newer older : List Entry) → ((e : Entry) → Contains newer e → k < e.level) → back_to k (newer ++ older) ≡ back_to k older

-- what the engine knows is true on the code's trail, which may have newer entries
abbrev pub KnownIsTrue : Type 0
KnownIsTrue =
    (s : State) (es : List Entry) → HoldsValues es s.values → (newer : List Entry) (entries : List TrailEntry) → IsTied (newer ++ es) entries → (l : Literal) → IsTrue (has_literal (known s) l) → IsTrueIn entries l

-- an unassigned literal has no value
abbrev pub OpenHasNoValue : Type 0
OpenHasNoValue = (es : List Entry) (values : List (Option Held)) → HoldsValues es values → (l : Literal) → 1 ≤ l.variable → IsUnassigned (all_held es) l → held_at values l.variable ≡ None

-- a variable without a value is open on the code's trail
abbrev pub NoValueIsOpen : Type 0
NoValueIsOpen =
    (es : List Entry) (values : List (Option Held)) → HoldsValues es values → (entries : List TrailEntry) → IsTied es entries → (v : ℕ) → held_at values v ≡ None → IsOpenIn entries v

-- ---- the ranges of ids
-- the ranges of ids hold at the start
abbrev pub BegunIsRanged : Type 0
BegunIsRanged =
    (formula : Problem) (bound : ℕ) (s : Search) → length (clauses_of formula.constraints) < bound → IsBegun formula formula.constraints s
    → IsRanged formula bound (length (clauses_of formula.constraints) + 1) bound s.trail s.moment

-- steps of the trail keep the ranges: a decision, a literal that a row or a clause forces, a jump back, and a literal that rests on its unit
abbrev pub TrailStepsKeepRanges : Type 0
TrailStepsKeepRanges = OfRanges (λ formula bound next row_next s.
    ((l : Literal) → IsRanged formula bound next row_next (decided_on s l).trail s.moment)
    × ((l : Literal) (clause : List Literal) → IsRanged formula bound next row_next (forced_on s l (by_row clause)).trail s.moment)
    × ((l : Literal) (n : ℕ) → n < bound → IsRanged formula bound next row_next (forced_on s l (by_clause n)).trail s.moment)
    × ((k : ℕ) → IsRanged formula bound next row_next (jumped s k).trail s.moment)
    × ((n : ℕ) (newer older : List Entry) (e : Entry) → s.trail ≡ newer ++ e ∷ older → n < bound → IsRanged formula bound next row_next (newer ++ rests_on e n ∷ older) s.moment))

-- steps that are told keep the ranges: a clause for good, the reason of a row, deletions, a recovered parity, a mark
abbrev pub ToldStepsKeepRanges : Type 0
ToldStepsKeepRanges = OfRanges (λ formula bound next row_next s.
    ((n : ℕ) (zs hints : List ℤ) → next ≤ n → n < bound → IsRanged formula bound (n + 1) row_next s.trail (after_event s.moment (Step (ClauseWithHints n zs hints))))
    × ((k : ℕ) (rs : List ℤ) (ids : List ℕ) (n : ℕ) (zs : List ℤ) → bound ≤ n → row_next ≤ n → IsRanged formula bound next (n + 1) s.trail (all_told s (row_events k rs ids n zs)).moment)
    × ((ids : List ℕ) → IsRanged formula bound next row_next (deleted s ids).trail (deleted s ids).moment)
    × ((n : ℕ) (zs : List ℤ) (ids : List ℕ) → IsRanged formula bound next row_next s.trail (after_event s.moment (Step (ParityOfClauses n zs ids))))
    × IsRanged formula bound next row_next (marked s).trail (marked s).moment)

-- any other trail whose reasons are below the bound keeps the ranges
abbrev pub OtherTrailsKeepRanges : Type 0
OtherTrailsKeepRanges = OfRanges (λ formula bound next row_next s. (es : List Entry) → ReasonsBelow bound es → IsRanged formula bound next row_next es s.moment)

-- a whole conflict keeps the ranges, and the ids of rows begin anew
abbrev pub RoundsKeepRanges : Type 0
RoundsKeepRanges = OfRanges (λ formula bound next row_next s.
    (n : ℕ) (zs hints : List ℤ) (back : ℕ) → next ≤ n → n < bound → (l : Literal) → s.moment.old_clauses ≡ [] → IsRanged formula bound (n + 1) bound (after_round s n zs hints back l).trail (after_round s n zs hints back l).moment)

-- once no clause of a row is left, the bound may rise, and their ids begin there
abbrev pub BoundsRise : Type 0
BoundsRise = OfRanges (λ formula bound next row_next s. (high : ℕ) → bound ≤ high → s.moment.new_clauses ≡ [] → s.moment.old_clauses ≡ [] → IsRanged formula high next high s.trail s.moment)

-- the next ids are free
abbrev pub NextIdsAreFree : Type 0
NextIdsAreFree = OfRanges (λ formula bound next row_next s.
    (next < bound → get s.moment.tables.clauses next ≡ None) × (bound ≤ row_next → get s.moment.tables.clauses row_next ≡ None))

-- clauses of rows may go: none is a reason, and none is learned
abbrev pub RowIdsAreTemporary : Type 0
RowIdsAreTemporary = OfRanges (λ formula bound next row_next s. (ids : List ℕ) → AreRowIds bound row_next ids → AreTemporary s ids)

-- without a clause from the bound on each clause of the formula is covered still
abbrev pub HighIsSpared : Type 0
HighIsSpared = OfRanges (λ formula bound next row_next s. (tidies : Bool) (parities : List (List Literal)) → IsSearchIn tidies formula parities s → (n : ℕ) → bound ≤ n → IsSpared formula s.moment n)

-- a clause below the bound covers each that it lies inside
abbrev pub LowIsCover : Type 0
LowIsCover = OfRanges (λ formula bound next row_next s.
    (n : ℕ) (inner clause : List Literal) → n < bound → get s.moment.tables.clauses n ≡ Some inner → IsTrue (is_inside inner clause) → IsCover s.moment.tables.clauses (rows_in s.moment) clause n)

-- no clause from the bound on is a reason where reasons are below it
abbrev pub HighIsNoReason : Type 0
HighIsNoReason = (bound n : ℕ) (es : List Entry) → bound ≤ n → ReasonsBelow bound es → IsNoReason n es

-- no id from the bound on is among ids below it
abbrev pub HighIsNotAmong : Type 0
HighIsNotAmong = (bound n : ℕ) (ids : List ℕ) → bound ≤ n → AllByRecursion (λ i. i < bound) ids → IsFalse (is_among ids n)

-- at the start the ids above the formula's parities are free for sums
abbrev pub SumsAreFreeAtFirst : Type 0
SumsAreFreeAtFirst = (formula : Problem) (s : Search) → IsBegun formula formula.constraints s → HasFreeSums (length (parities_of formula.constraints)) s.moment

-- a recovered parity takes the next of them
abbrev pub RecoveredTakesOne : Type 0
RecoveredTakesOne =
    (count : ℕ) (s : Search) (zs : List ℤ) (ids : List ℕ) → HasFreeSums count s.moment → HasFreeSums (count + 1) (told s (Step (ParityOfClauses (count + 1) zs ids))).moment

-- after the reason of a row the id of its sum is free again
abbrev pub SumsAreFreeAgain : Type 0
SumsAreFreeAgain =
    (count : ℕ) (s : Search) (k : ℕ) (rs : List ℤ) (ids : List ℕ) (n : ℕ) (zs : List ℤ) → HasFreeSums count s.moment → HasFreeSums count (all_told s (row_events k rs ids n zs)).moment

-- ---- the length of a log
-- the reason of a row adds its clause, and a sum unless it has one source; deletions add nothing, and a counted conflict adds its clause
abbrev pub StepsAddFew : Type 0
StepsAddFew = (s : Search) →
    ((k : ℕ) (rs : List ℤ) (ids : List ℕ) (n : ℕ) (zs : List ℤ) → additions (all_told s (row_events k rs ids n zs)).events ≡ additions s.events + row_additions ids)
    × ((ids : List ℕ) → additions (deleted s ids).events ≡ additions s.events)
    × ((n : ℕ) (zs hints : List ℤ) (back : ℕ) (l : Literal) → additions (after_round s n zs hints back l).events ≡ additions s.events + 1)

-- any steps add at most one each
abbrev pub ToldStepsAddFew : Type 0
ToldStepsAddFew = (s : Search) (steps : List LogStep) → additions (steps_told s steps).events ≤ additions s.events + length steps

-- ---- tidyings
-- a law of each search that tidies and holds
abbrev pub OfTidying : (Problem → List (List Literal) → Search → Type 0) → Type 0
OfTidying Law = (formula : Problem) (parities : List (List Literal)) (s : Search) → IsSearchIn true formula parities s → Law formula parities s

-- At a restart the steps of a tidying keep the search, where they delete no reason. The tables are those that the steps lead to.
abbrev pub TidyStepsKeep : Type 0
TidyStepsKeep = OfTidying (λ formula parities s.
    IsAtStart s → (steps : List LogStep) (last : Tables) → RunsTidily formula s.moment.tables steps last → SpareReasons s.trail steps
    → IsSearchIn true formula parities (steps_told s steps) × IsAtStart (steps_told s steps) × ((steps_told s steps).moment.tables ≡ last))

-- Where the last of them ends the log, it is right to its end, marked as before, on schedule and hinted, and the negations of the last clause's literals are assumed.
abbrev pub TidyStepsEnd : Type 0
TidyStepsEnd = OfTidying (λ formula parities s.
    IsAtStart s → (lits : List Literal) (steps : List LogStep) → EndsTidily formula s.moment.tables lits steps → SpareReasons s.trail steps
    → IsEndedTidily formula (s.events ++ map Step steps) s.conflicts lits)

-- A learned clause that none of them deletes is learned still, and no reduction begins.
abbrev pub TidyStepsKeepCounts : Type 0
TidyStepsKeepCounts = OfTidying (λ formula parities s.
    IsAtStart s → (steps : List LogStep) (last : Tables) → RunsTidily formula s.moment.tables steps last → SpareReasons s.trail steps
    → ((n : ℕ) → NoneDeletes n steps → IsTrue (is_among s.moment.learned n) → IsTrue (is_among (steps_told s steps).moment.learned n))
    × ((steps_told s steps).moment.reductions ≡ s.moment.reductions) × ((steps_told s steps).moment.reduces ≡ s.moment.reduces))

-- They keep the ranges of ids, where what was free is free in the end.
abbrev pub TidyStepsKeepRanges : Type 0
TidyStepsKeepRanges = OfRanges (λ formula bound next row_next s.
    IsAtStart s → (steps : List LogStep) (last : Tables) → RunsTidily formula s.moment.tables steps last → KeepsFree s.moment.tables.clauses last.clauses
    → IsRanged formula bound next row_next s.trail (steps_told s steps).moment)

-- and the ids of sums
abbrev pub TidyStepsKeepSums : Type 0
TidyStepsKeepSums =
    (formula : Problem) (count : ℕ) (s : Search) → HasFreeSums count s.moment → (steps : List LogStep) (last : Tables) → RunsTidily formula s.moment.tables steps last → HasFreeSums count (steps_told s steps).moment

-- ---- tidy lines
-- one more line that fits
abbrev pub TidyLinesGoOn : Type 0
TidyLinesGoOn = (lines : List (Line LogEvent)) (l : Line LogEvent) → TidiedInTime lines → LineFits lines l → TidiedInTime (lines ++ l ∷ [])

-- before the hundredth mark there is no tidy line
abbrev pub TidyLinesComeLate : Type 0
TidyLinesComeLate = (lines : List (Line LogEvent)) → TidiedInTime lines → marks_in lines < 100 → tidy_lines_in lines ≡ 0
