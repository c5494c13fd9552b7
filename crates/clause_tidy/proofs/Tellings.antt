-- Steps of a tidying that a sink is told.
use Rattle.std.proofs.Common.{◌≡◌, refl, sym, ap, ◌∙◌, subst, ℕ, zero, suc, ◌<◌, inl, inr, List, [], ◌∷◌, ◌++◌, length, take, get_or, Result, Ok, Err, arith}
use Rattle.std.specs.Prelude.{IfOk, OnErr}
use Rattle.std.specs.List.{AllByRecursion}
use Rattle.std.proofs.lemmas.List.{length-map, take-map, get_or-map}
use Rattle.cx_base.proofs.Elements.{all_append}
use Rattle.cx_base.specs.Problem.{Problem}
use Rattle.cx_base.specs.declared.steps.LogEvent.{LogEvent}
use Rattle.cx_base.specs.declared.steps.LogEvent.TheVariants.{Step, Conflict}
use Rattle.cx_base.specs.declared.steps.LogStep.{LogStep}
use Rattle.cx_base.specs.declared.steps.LogStep.TheVariants.{Delete}
use Rattle.cx_semantics.specs.Judging.{IsRight}
use Rattle.cx_semantics.specs.LogRules.{log_calculus, after_log_step}
use Rattle.cx_semantics.specs.Tables.{Tables}
use Rattle.clause_arena.specs.Clauses.{ArenaState}
use Rattle.step_text.specs.declared.sink.Sink as sink
use Rattle.step_text.specs.declared.sink.SinkFault.{SinkFault}
use Rattle.step_text.specs.declared.sink.SinkFault.TheVariants.{Memory, Failed}
use Rattle.step_text.specs.Sinks.{SinkFaultsAs, HasFailedAs, OnFailed}
use Rattle.clause_tidy.specs.Agreeing.{Agrees}
use Rattle.clause_tidy.specs.Answers.{HasOwnId, IsRightFrom, IsTornAfter, MayFollow, TidiesOn}
use Rattle.tidy_rules.specs.Runs.{RunsTidily}
use Rattle.clause_tidy.specs.Telling.{IsTornIn, TellsIn, as_events, with_events}
use Rattle.clause_tidy.specs.Tidying.{Tidies}
use Rattle.clause_tidy.proofs.Events.{more_and_more}
use Rattle.clause_tidy.proofs.RunLaws.{run_on}

abbrev pub no_step : LogStep
no_step = Delete 0 []

-- ---- prefixes of runs
-- each step is right after those before it
abbrev pub AreRight : Problem → ℕ → ArenaState → List LogStep → Type 0
AreRight formula spare a steps = (k : ℕ) → k < length steps → MayFollow formula spare a (take k steps) (get_or steps k no_step)

front : (formula : Problem) (tables last : Tables) (steps : List LogStep) → RunsTidily formula tables steps last → (k : ℕ) → k < length steps
    → (mid : Tables) × RunsTidily formula tables (take k steps) mid × IsRight (log_calculus formula) mid (get_or steps k no_step)
front formula tables last [] h k less = absurd (omega (arith, less))
front formula tables last (s ∷ steps) h zero less = (tables, refl, h.0)
front formula tables last (s ∷ steps) h (suc k) less =
    let w = front formula (after_log_step tables s) last steps h.3 k (omega (arith, less)) in
    (w.0, (h.0, h.1, h.2, w.1), w.2)

pub run_is_right : (formula : Problem) (spare : ℕ) (a : ArenaState) (steps : List LogStep) → IsRightFrom formula spare a steps → AreRight formula spare a steps
run_is_right formula spare a steps h k less tables agree = let w = h tables agree in front formula tables w.0 steps w.1 k less

pub one_is_right : (formula : Problem) (spare : ℕ) (a : ArenaState) (step : LogStep) → ((tables : Tables) → Agrees spare tables.clauses a → IsRight (log_calculus formula) tables step) → AreRight formula spare a (step ∷ [])
one_is_right formula spare a step h zero less tables agree = (tables, refl, h tables agree)
one_is_right formula spare a step h (suc k) less tables agree = absurd (omega (arith, less))

-- ---- prefixes of lists
all_first : {X : Type 0} (P : X → Type 0) (xs : List X) (k : ℕ) → AllByRecursion P xs → AllByRecursion P (take k xs)
all_first P xs zero h = tt
all_first P [] (suc k) h = tt
all_first P (x ∷ xs) (suc k) h = (h.0, all_first P xs k h.1)

one_of_all : {X : Type 0} (P : X → Type 0) (xs : List X) (k : ℕ) (d : X) → k < length xs → AllByRecursion P xs → P (get_or xs k d)
one_of_all P [] k d less h = absurd (omega (arith, less))
one_of_all P (x ∷ xs) zero d less h = h.0
one_of_all P (x ∷ xs) (suc k) d less h = one_of_all P xs k d (omega (arith, less)) h.1

-- ---- tellings
module _ {L T : Type 0} (m : sink.Ghosts L LogEvent) (formula : Problem) (spare : ℕ) (a : ArenaState) (steps : List LogStep) (Done : T → List LogStep → Type 0) (old new : L) (right : AreRight formula spare a steps) (own : AllByRecursion (HasOwnId spare a) steps) where
  stopped : (fault : SinkFault) (k : ℕ) → k < length (as_events steps) → m.items new ≡ with_events (take k (as_events steps)) (m.items old) → m.items new ≡ with_events (as_events (take k steps)) (m.items old)
  stopped fault k less e = e ∙ ap (λ es. with_events es (m.items old)) (take-map Step k steps)

  fewer : (k : ℕ) → k < length (as_events steps) → k < length steps
  fewer k less = let long = length-map steps Step in omega (arith, long, less)

  right_front : (k : ℕ) → k < length steps → IsRightFrom formula spare a (take k steps)
  right_front k less tables agree = let w = right k less tables agree in (w.0, w.1)

  pub tells_tidily : (result : Result T SinkFault) → TellsIn m (as_events steps) old result new → ((t : T) → result ≡ Ok t → Done t steps) → TidiesOn m formula spare a old result Done new
  tells_tidily (Ok t) h done = record { steps = steps; told = h.told; own = own; done = done t refl; left = tt; torn = tt; faults = h.faults; failed = h.failed; frame = h.frame }
  tells_tidily (Err Memory) h done =
      let k = h.told.0 in
      record { steps = take k steps; told = stopped Memory k h.told.1 h.told.2; own = all_first (HasOwnId spare a) steps k own; done = tt; left = right_front k (fewer k h.told.1); torn = tt; faults = h.faults; failed = h.failed; frame = h.frame }
  tells_tidily (Err Failed) h done =
      let k = h.told.0 in
      let less = fewer k h.told.1 in
      let torn = subst (IsTornIn m new) (get_or-map Step steps k no_step (Conflict 0) less) (h.told.3 refl) in
      record {
        steps = take k steps;
        told = stopped Failed k h.told.1 h.told.2;
        own = all_first (HasOwnId spare a) steps k own;
        done = tt;
        left = right_front k less;
        torn = (get_or steps k no_step, torn.0, torn.1, one_of_all (HasOwnId spare a) steps k no_step less own, right k less);
        faults = h.faults;
        failed = h.failed;
        frame = h.frame;
      }

-- ---- one after another
as_events-append : (ss ts : List LogStep) → as_events (ss ++ ts) ≡ as_events ss ++ as_events ts
as_events-append [] ts = refl
as_events-append (s ∷ ss) ts = ap (λ es. Step s ∷ es) (as_events-append ss ts)

module _ (formula : Problem) (spare : ℕ) (a b : ArenaState) (ss : List LogStep) (h : Tidies formula spare a b ss) where
  pub right_behind : (ts : List LogStep) → IsRightFrom formula spare b ts → IsRightFrom formula spare a (ss ++ ts)
  right_behind ts k tables agree = let x = h.runs tables agree in let y = k x.0 x.2 in (y.0, run_on formula tables x.0 y.0 ss ts x.1 y.1)

  pub follows_behind : (ts : List LogStep) (step : LogStep) → MayFollow formula spare b ts step → MayFollow formula spare a (ss ++ ts) step
  follows_behind ts step k tables agree = let x = h.runs tables agree in let y = k x.0 x.2 in (y.0, run_on formula tables x.0 y.0 ss ts x.1 y.1, y.2)

  own_before : (step : LogStep) → HasOwnId spare b step → HasOwnId spare a step
  own_before step (inl same) = inl same
  own_before step (inr (q, live, is)) = let p = h.parts q live in inr (p.r, p.live, sym p.same ∙ is)

  all_own_before : (ts : List LogStep) → AllByRecursion (HasOwnId spare b) ts → AllByRecursion (HasOwnId spare a) ts
  all_own_before [] own = tt
  all_own_before (t ∷ ts) own = (own_before t own.0, all_own_before ts own.1)

  on_err : {T : Type 0} (result : Result T SinkFault) (P Q : Type 0) → (P → Q) → OnErr result P → OnErr result Q
  on_err (Ok t) P Q f h = h
  on_err (Err e) P Q f h = f h

  on_failed : {T : Type 0} (result : Result T SinkFault) (P Q : Type 0) → (P → Q) → OnFailed result P → OnFailed result Q
  on_failed (Ok t) P Q f h = h
  on_failed (Err Memory) P Q f h = h
  on_failed (Err Failed) P Q f h = f h

  if_ok : {T : Type 0} (result : Result T SinkFault) (P Q : T → Type 0) → ((t : T) → P t → Q t) → IfOk result P → IfOk result Q
  if_ok (Ok t) P Q f h = f t h
  if_ok (Err e) P Q f h = h

  -- what was told before goes on
  pub goes_on : {L T : Type 0} (m : sink.Ghosts L LogEvent) (Done End : T → List LogStep → Type 0) (first old new : L) (result : Result T SinkFault) → AllByRecursion (HasOwnId spare a) ss
      → m.items old ≡ with_events (as_events ss) (m.items first) → m.faults old ≡ m.faults first → m.has_failed old ≡ m.has_failed first → (m.keeps old new → m.keeps first new)
      → ((t : T) (ts : List LogStep) → Done t ts → End t (ss ++ ts)) → TidiesOn m formula spare b old result Done new → TidiesOn m formula spare a first result End new
  goes_on m Done End first old new result own was faults failed frame end k = record {
    steps = ss ++ k.steps;
    told = k.told ∙ ap (with_events (as_events k.steps)) was ∙ more_and_more (as_events ss) (as_events k.steps) (m.items first) ∙ ap (λ es. with_events es (m.items first)) (sym (as_events-append ss k.steps));
    own = all_append (HasOwnId spare a) ss k.steps own (all_own_before k.steps k.own);
    done = if_ok result (λ t. Done t k.steps) (λ t. End t (ss ++ k.steps)) (λ t d. end t k.steps d) k.done;
    left = on_err result (IsRightFrom formula spare b k.steps) (IsRightFrom formula spare a (ss ++ k.steps)) (right_behind k.steps) k.left;
    torn = on_failed result (IsTornAfter m formula spare b new k.steps) (IsTornAfter m formula spare a new (ss ++ k.steps)) (λ w. (w.0, w.1, w.2, own_before w.0 w.3, follows_behind k.steps w.0 w.4)) k.torn;
    faults = subst (λ n. SinkFaultsAs result n (m.faults new)) faults k.faults;
    failed = subst (λ b. HasFailedAs result b (m.has_failed new)) failed k.failed;
    frame = frame k.frame;
  }

-- ---- the same with another answer
pub other_answer : {L T U : Type 0} (m : sink.Ghosts L LogEvent) (formula : Problem) (spare : ℕ) (a : ArenaState) (Done : T → List LogStep → Type 0) (End : U → List LogStep → Type 0) (old new : L) (t : T) (u : U)
    → ((ss : List LogStep) → Done t ss → End u ss) → TidiesOn m formula spare a old (Ok t) Done new → TidiesOn m formula spare a old (Ok u) End new
other_answer m formula spare a Done End old new t u f h = record { steps = h.steps; told = h.told; own = h.own; done = f h.steps h.done; left = tt; torn = tt; faults = h.faults; failed = h.failed; frame = h.frame }

pub same_fault : {L T U : Type 0} (m : sink.Ghosts L LogEvent) (formula : Problem) (spare : ℕ) (a : ArenaState) (Done : T → List LogStep → Type 0) (End : U → List LogStep → Type 0) (old new : L) (fault : SinkFault)
    → TidiesOn m formula spare a old (Err fault) Done new → TidiesOn m formula spare a old (Err fault) End new
same_fault m formula spare a Done End old new Memory h = record { steps = h.steps; told = h.told; own = h.own; done = tt; left = h.left; torn = tt; faults = h.faults; failed = h.failed; frame = h.frame }
same_fault m formula spare a Done End old new Failed h = record { steps = h.steps; told = h.told; own = h.own; done = tt; left = h.left; torn = h.torn; faults = h.faults; failed = h.failed; frame = h.frame }

-- out of memory after an answer
pub out_of_memory : {L T U : Type 0} (m : sink.Ghosts L LogEvent) (formula : Problem) (spare : ℕ) (a : ArenaState) (Done : T → List LogStep → Type 0) (End : U → List LogStep → Type 0) (old new : L) (t : T)
    → ((ss : List LogStep) → Done t ss → IsRightFrom formula spare a ss) → TidiesOn m formula spare a old (Ok t) Done new → TidiesOn m formula spare a old (Err Memory) End new
out_of_memory m formula spare a Done End old new t f h = record { steps = h.steps; told = h.told; own = h.own; done = tt; left = f h.steps h.done; torn = tt; faults = h.faults; failed = h.failed; frame = h.frame }
