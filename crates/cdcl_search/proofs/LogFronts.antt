-- A log that is right so far: each prefix of it is.
use Rattle.std.proofs.Common.{◌≡◌, refl, sym, ap, ◌∙◌, subst, ℕ, zero, suc, ◌+◌, ◌<◌, Bool, true, false, List, [], ◌∷◌, ◌++◌, length, take, drop, get_or, filter_map, Option, Some, None, arith, inl, inr, ◌⊎◌, is_some, true≢false, length-append, append_assoc, append-nil}
use Rattle.std.specs.Prelude.{Result, Ok, Err, OnOk}
use Rattle.std.proofs.lemmas.List.{take-append-drop}
use Rattle.std.proofs.Math.Seq.{take-suc}
use Rattle.std.proofs.lemmas.List.Elements.{filter_map-append}
use Rattle.std.specs.List.{AllByRecursion, cons_option}
use Rattle.cx_base.specs.Problem.{Problem}
use Rattle.cx_base.proofs.Elements.{all_append}
use Rattle.cx_base.specs.declared.steps.LogStep.{LogStep}
use Rattle.cx_semantics.specs.Ids.{HasLowId}
use Rattle.cx_base.specs.declared.steps.LogEvent.{LogEvent}
use Rattle.cx_base.specs.declared.steps.LogEvent.TheVariants.{Conflict}
use Rattle.cx_semantics.specs.Judging.{Calculus, Runs, EndsAt}
use Rattle.cx_semantics.specs.LogRules.{log_calculus}
use Rattle.cx_base.specs.Events.{steps_of, step_of}
use Rattle.cx_semantics.specs.Marked.{mark_of}
use Rattle.cx_semantics.specs.Tables.{Tables}
use Rattle.cx_texts.specs.Printed.{HasText}
use Rattle.conflict_learn.specs.declared.fault.CoreFault.{CoreFault}
use Rattle.conflict_learn.specs.declared.fault.CoreFault.TheVariants.{Memory, Write}
use Rattle.conflict_learn.specs.Faults.{CountsAs, fault_in}
use Rattle.step_text.specs.declared.sink.Sink as sink
use Rattle.search_steps.specs.Recovering.{SettledWithRecovered}
use Rattle.cdcl_search.specs.declared.logs.SearchLog.{SearchLog}
use Rattle.cdcl_search.specs.Calls.{TellsIn, Tells, TellsUnmade}
use Rattle.cdcl_search.specs.Logs.{GoesOn, IsRightBehind}
use Rattle.cdcl_search.specs.Tells.{TellsAll, FaultsAs, HasFailedBy, IsLeft, IsTellable, HaveLowIds, HasNoMark, IsTorn, as_events, with_events, AreTellable}
use Rattle.cdcl_search.proofs.Events.{no_more, more_and_more}

-- ---- prefixes
runs_front : {S : Type 0} (c : Calculus S) (tables : Tables) (front more : List S) (last : Tables) → Runs c tables (front ++ more) last → (t : Tables) × Runs c tables front t
runs_front c tables [] more last r = (tables, refl)
runs_front c tables (s ∷ front) more last r =
    let rec = runs_front c (c.after tables s) front more last r.2 in
    (rec.0, (r.0, r.1, rec.1))

begins_with : {S : Type 0} (front : List S) (b : S) (more before : List S) (step : S) → front ++ b ∷ more ≡ before ++ step ∷ [] → (rest : List S) × (before ≡ front ++ rest)
begins_with [] b more before step e = (before, refl)
begins_with (a ∷ front) b more [] step e = absurd (let long = ap length e in let parts = length-append front (b ∷ more) in omega (arith, long, parts))
begins_with (a ∷ front) b more (x ∷ before) step e =
    let rec = begins_with front b more before step (ap (drop 1) e) in
    let head : x ≡ a = cc (e) in
    (rec.0, ap (λ y. y ∷ before) head ∙ ap (λ xs. a ∷ xs) rec.1)

ends_there : {S : Type 0} (before later : List S) (step : S) (steps : List S) → steps ≡ before ++ step ∷ later → length steps ≡ length before + 1 → steps ≡ before ++ step ∷ []
ends_there before [] step steps split number = split
ends_there before (x ∷ later) step steps split number = absurd (let long = ap length split in let parts = length-append before (step ∷ x ∷ later) in omega (arith, long, parts, number))

ended_front : {S : Type 0} (c : Calculus S) (front more : List S) → EndsAt c (front ++ more) (length (front ++ more)) → ((t : Tables) × Runs c c.start front t) ⊎ EndsAt c front (length front)
ended_front c front [] a = inr (subst (λ xs. EndsAt c xs (length xs)) (append-nil front) a)
ended_front c front (b ∷ more) a =
    let parts = begins_with front b more a.before a.step (ends_there a.before a.later a.step (front ++ b ∷ more) a.split a.number) in
    inl (runs_front c c.start front parts.0 a.tables (subst (λ xs. Runs c c.start xs a.tables) parts.1 a.runs))

front_is_left : (formula : Problem) (front more : List LogEvent) → IsLeft formula (Some (front ++ more)) → IsLeft formula (Some front)
front_is_left formula front more (inl (apart, runs)) =
    inl (
      apart,
      runs_front (log_calculus formula) (log_calculus formula).start (steps_of front) (steps_of more) runs.0
          (subst (λ xs. Runs (log_calculus formula) (log_calculus formula).start xs runs.0) (filter_map-append step_of front more) runs.1),
    )
front_is_left formula front more (inr (inl clash)) = inr (inl clash)
front_is_left formula front more (inr (inr (apart, ended))) =
    elim (ended_front (log_calculus formula) (steps_of front) (steps_of more)
    (subst (λ xs. EndsAt (log_calculus formula) xs (length xs)) (filter_map-append step_of front more) ended)) [
      | inl open_so_far ↦ inl (apart, open_so_far)
      | inr there ↦ inr (inr (apart, there))
    ]

fronts_are_left : (formula : Problem) (told : Option (List LogEvent)) (events : List LogEvent) (i : ℕ) → IsLeft formula (with_events events told) → IsLeft formula (with_events (take i events) told)
fronts_are_left formula None events i left = tt
fronts_are_left formula (Some es) events i left = front_is_left formula (es ++ take i events) (drop i events)
    (subst (λ xs. IsLeft formula (Some xs)) (ap (λ xs. es ++ xs) (sym (take-append-drop i events)) ∙ sym (append_assoc es (take i events) (drop i events))) left)

-- ---- what a telling leaves
all_front : {X : Type 0} (P : X → Type 0) (i : ℕ) (xs : List X) → AllByRecursion P xs → AllByRecursion P (take i xs)
all_front P zero xs a = tt
all_front P (suc i) [] a = tt
all_front P (suc i) (x ∷ xs) a = (a.0, all_front P i xs a.1)

stays_right : {T : Type 0} (formula : Problem) (torn : LogEvent → Type 0) (events : List LogEvent) (old : Option (List LogEvent)) (r : Result T CoreFault) (new : Option (List LogEvent))
    → TellsAll torn events old r new → IsLeft formula (with_events events old) → IsLeft formula new
stays_right formula torn events old (Ok x) new tells left = subst (IsLeft formula) (sym tells) left
stays_right formula torn events old (Err fault) new (i, less, is, t) left = subst (IsLeft formula) (sym is) (fronts_are_left formula old events i left)

-- no mark is among the events, where the formula is settled with its recovered parities
abbrev pub AreUnmarked : Problem → List LogEvent → Type 0
AreUnmarked formula events = SettledWithRecovered formula → AllByRecursion (λ e. mark_of e ≡ None) events

all_at : {X : Type 0} (P : X → Type 0) (xs : List X) (i : ℕ) (other : X) → i < length xs → AllByRecursion P xs → P (get_or xs i other)
all_at P [] i other less a = absurd (omega (arith, less))
all_at P (x ∷ xs) zero other less a = a.0
all_at P (x ∷ xs) (suc i) other less a = all_at P xs i other (omega (arith, less)) a.1

-- where a telling stopped in the midst of an event, the log is right with it too
torn_is_left : (formula : Problem) (events : List LogEvent) (i : ℕ) (old new : Option (List LogEvent)) → i < length events → new ≡ with_events (take i events) old → IsLeft formula (with_events events old)
    → IsLeft formula (with_events (get_or events i (Conflict 0) ∷ []) new)
torn_is_left formula events i old new less is left =
    let one_more : with_events (get_or events i (Conflict 0) ∷ []) new ≡ with_events (take (suc i) events) old =
    ap (with_events (get_or events i (Conflict 0) ∷ [])) is ∙ more_and_more (take i events) (get_or events i (Conflict 0) ∷ []) old ∙ ap (λ es. with_events es old) (sym (take-suc events i (Conflict 0) less)) in
    subst (IsLeft formula) (sym one_more) (fronts_are_left formula old events (suc i) left)

is_torn : {T : Type 0} (formula : Problem) (torn : LogEvent → Type 0) (events : List LogEvent) (old : Option (List LogEvent)) (r : Result T CoreFault) (new : Option (List LogEvent))
    → TellsAll torn events old r new → IsLeft formula (with_events events old) → AllByRecursion HasText events → AllByRecursion HasLowId events → AreUnmarked formula events → fault_in r ≡ Some Write → IsTorn formula torn new
is_torn formula torn events old (Ok x) new tells left texts low unmarked w = absurd (true≢false (sym (ap is_some w)))
is_torn formula torn events old (Err fault) new (i, less, is, t) left texts low unmarked w = (
  get_or events i (Conflict 0),
  t (let f : fault ≡ Write = cc (w) in f),
  record {
    text = all_at HasText events i (Conflict 0) less texts;
    id = all_at HasLowId events i (Conflict 0) less low;
    right = torn_is_left formula events i old new less is left;
    unmarked = λ s. all_at (λ e. mark_of e ≡ None) events i (Conflict 0) less (unmarked s);
  },
)

-- ---- marks
none_marked : (events : List LogEvent) → AllByRecursion (λ e. mark_of e ≡ None) events → filter_map mark_of events ≡ []
none_marked [] a = refl
none_marked (e ∷ events) a = ap (λ o. cons_option o (filter_map mark_of events)) a.0 ∙ none_marked events a.1

pub with_no_mark : (told : Option (List LogEvent)) (events : List LogEvent) → AllByRecursion (λ e. mark_of e ≡ None) events → HasNoMark told → HasNoMark (with_events events told)
with_no_mark None events a h = tt
with_no_mark (Some es) events a h = filter_map-append mark_of es events ∙ ap (λ xs. xs ++ filter_map mark_of events) h ∙ none_marked events a

stay_unmarked : {T : Type 0} (torn : LogEvent → Type 0) (events : List LogEvent) (old : Option (List LogEvent)) (r : Result T CoreFault) (new : Option (List LogEvent))
    → TellsAll torn events old r new → AllByRecursion (λ e. mark_of e ≡ None) events → HasNoMark old → HasNoMark new
stay_unmarked torn events old (Ok x) new tells a h = subst HasNoMark (sym tells) (with_no_mark old events a h)
stay_unmarked torn events old (Err fault) new (i, less, is, t) a h = subst HasNoMark (sym is) (with_no_mark old (take i events) (all_front (λ e. mark_of e ≡ None) i events a) h)

-- a step is no mark
pub steps_are_unmarked : (steps : List LogStep) → AllByRecursion (λ e. mark_of e ≡ None) (as_events steps)
steps_are_unmarked [] = tt
steps_are_unmarked (s ∷ steps) = (refl, steps_are_unmarked steps)

counts_as : {T : Type 0} (r : Result T CoreFault) (before now : ℕ) → FaultsAs r before now → CountsAs (fault_in r) before now
counts_as (Ok x) before now h = h
counts_as (Err Memory) before now h = h
counts_as (Err Write) before now h = h

pub with_low : (told : Option (List LogEvent)) (events : List LogEvent) → AllByRecursion HasLowId events → HaveLowIds told → HaveLowIds (with_events events told)
with_low None events low h = tt
with_low (Some es) events low h = all_append HasLowId es events h low

stay_low : {T : Type 0} (torn : LogEvent → Type 0) (events : List LogEvent) (old : Option (List LogEvent)) (r : Result T CoreFault) (new : Option (List LogEvent))
    → TellsAll torn events old r new → AllByRecursion HasLowId events → HaveLowIds old → HaveLowIds new
stay_low torn events old (Ok x) new tells low h = subst HaveLowIds (sym tells) (with_low old events low h)
stay_low torn events old (Err fault) new (i, less, is, t) low h = subst HaveLowIds (sym is) (with_low old (take i events) (all_front HasLowId i events low) h)

-- steps that may be told have low ids
pub tellable_are_low : (steps : List LogStep) → AllByRecursion IsTellable steps → AllByRecursion HasLowId (as_events steps)
tellable_are_low [] a = tt
tellable_are_low (s ∷ steps) a = (a.0.1, tellable_are_low steps a.1)

pub tellable_have_texts : (steps : List LogStep) → AllByRecursion IsTellable steps → AllByRecursion HasText (as_events steps)
tellable_have_texts [] a = tt
tellable_have_texts (s ∷ steps) a = (a.0.0, tellable_have_texts steps a.1)

-- a log goes on by a telling of events after which it is right
goes_on_by : {L T : Type 0} (m : sink.Ghosts L LogEvent) (old new : SearchLog L) (events : List LogEvent) (r : Result T CoreFault) → TellsAll (m.torn new.sink.now) events (m.items old.sink.now) r (m.items new.sink.now)
    → FaultsAs r (m.faults old.sink.now) (m.faults new.sink.now) → HasFailedBy (fault_in r) (m.has_failed old.sink.now) (m.has_failed new.sink.now) → m.keeps old.sink.now new.sink.now → IsRightBehind m old events → AllByRecursion HasText events → AllByRecursion HasLowId events → AreUnmarked old.formula.now events
    → new.formula.now ≡ old.formula.now → new.sink.ghost_name ≡ old.sink.ghost_name → GoesOn m old (fault_in r) new
goes_on_by m old new events r tells counts failed keeps right texts low unmarked formula name = record {
  right = λ _. subst (λ f. IsLeft f (m.items new.sink.now)) (sym formula) (stays_right old.formula.now (m.torn new.sink.now) events (m.items old.sink.now) r (m.items new.sink.now) tells right);
  ids = stay_low (m.torn new.sink.now) events (m.items old.sink.now) r (m.items new.sink.now) tells low;
  counts = counts_as r (m.faults old.sink.now) (m.faults new.sink.now) counts;
  failed = failed;
  marks = λ s. stay_unmarked (m.torn new.sink.now) events (m.items old.sink.now) r (m.items new.sink.now) tells (unmarked (subst SettledWithRecovered formula s));
  tears = λ w. subst (λ f. IsTorn f (m.torn new.sink.now) (m.items new.sink.now)) (sym formula) (is_torn old.formula.now (m.torn new.sink.now) events (m.items old.sink.now) r (m.items new.sink.now) tells right texts low unmarked w);
  formula = formula;
  sink = name;
  frame = keeps;
}

-- what is told up to an answer
told_where : {T : Type 0} (torn : LogEvent → Type 0) (events : List LogEvent) (old : Option (List LogEvent)) (r : Result T CoreFault) (new : Option (List LogEvent)) → TellsAll torn events old r new → OnOk r (new ≡ with_events events old)
told_where torn events old (Ok x) new tells = tells
told_where torn events old (Err fault) new tells = tt

pub tells_by : {L T : Type 0} (m : sink.Ghosts L LogEvent) (old new : SearchLog L) (events : List LogEvent) (r : Result T CoreFault) → TellsIn m events old.sink.now r new.sink.now
    → IsRightBehind m old events → AllByRecursion HasText events → AllByRecursion HasLowId events → AreUnmarked old.formula.now events → new.formula.now ≡ old.formula.now → new.sink.ghost_name ≡ old.sink.ghost_name → Tells m old events r new
tells_by m old new events r tells right texts low unmarked formula name = record {
  told = told_where (m.torn new.sink.now) events (m.items old.sink.now) r (m.items new.sink.now) tells.told;
  log = goes_on_by m old new events r tells.told tells.faults tells.failed tells.frame right texts low unmarked formula name;
}

-- steps that were not made: they are told, or none is
pub tells_unmade : {L : Type 0} (m : sink.Ghosts L LogEvent) (old new : SearchLog L) (events : List LogEvent) (taken : Bool) → AreTellable old.formula.now events → IsRightBehind m old events
    → (taken ≡ true → m.items new.sink.now ≡ with_events events (m.items old.sink.now)) → (taken ≡ false → m.items new.sink.now ≡ m.items old.sink.now) → m.faults new.sink.now ≡ m.faults old.sink.now
    → m.has_failed new.sink.now ≡ m.has_failed old.sink.now → m.keeps old.sink.now new.sink.now → new.formula.now ≡ old.formula.now → new.sink.ghost_name ≡ old.sink.ghost_name → TellsUnmade m old events taken new
tells_unmade m old new events true are right told untold faults failed keeps formula name =
    tells_by {T = Unit {0}} m old new events (Ok tt) (record { told = told refl; faults = faults; failed = failed; frame = keeps }) right are.texts are.ids are.unmarked formula name
tells_unmade m old new events false are right told untold faults failed keeps formula name =
    tells_by {T = Unit {0}} m old new [] (Ok tt) (record { told = untold refl ∙ sym (no_more (m.items old.sink.now)); faults = faults; failed = failed; frame = keeps })
    (fronts_are_left old.formula.now (m.items old.sink.now) events 0 right) tt tt (λ s. tt) formula name
