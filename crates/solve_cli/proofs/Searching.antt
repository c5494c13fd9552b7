-- From a search to what `solve` does.
use Rattle.std.proofs.Common.{◌≡◌, ◌⊎◌, ◌≢◌, ℕ, ℤ, List, [], Option, Some, None, IfSome, Result, Ok, Err, IfOk, inl, inr, refl, ap, sym, subst, ◌∙◌, arith}
use Rattle.cx_base.specs.Literals.{Literal}
use Rattle.cx_base.specs.Problem.{Problem, Meets, Unmet}
use Rattle.cx_base.specs.declared.steps.LogEvent.{LogEvent}
use Rattle.cx_judgements.specs.LogTexts.{LogOpen}
use Rattle.search_steps.specs.Recovering.{SettledWithRecovered}
use Rattle.conflict_learn.specs.declared.fault.CoreFault.{CoreFault}
use Rattle.conflict_learn.specs.declared.fault.CoreFault.TheVariants as fault
use Rattle.cdcl_core.specs.Results.{SatisfiesIn, RefutesIn, UsesUpIn, IsRightOutcomeIn}
use Rattle.cdcl_core.specs.declared.solving.SearchOutcome.{SearchOutcome as Answer}
use Rattle.cdcl_core.specs.declared.solving.SearchOutcome.TheVariants as answer
use Rattle.cx_desk.specs.declared.desk.Port.TheVariants as port
use Rattle.cx_desk.specs.Outside.{Bytes, Files}
use Rattle.cx_words.specs.declared.plans.Plan.TheVariants as plan
use Rattle.cx_words.specs.declared.plans.SearchOptions.{SearchOptions}
use Rattle.solve_cli.specs.declared.ending.Ending.{Ending}
use Rattle.solve_cli.specs.declared.ending.Ending.TheVariants as ending
use Rattle.solve_cli.specs.declared.ending.Outcome.{Outcome}
use Rattle.solve_cli.specs.declared.ending.Outcome.TheVariants as outcome
use Rattle.solve_cli.specs.Seen.{Seen, says, text_named}
use Rattle.solve_cli.specs.Commands.{proof_created, asked_to}
use Rattle.solve_cli.specs.Happens.{FormulaRead, IsFormula, Judged, Gains, Ends, Stops, Works}
use Rattle.solve_cli.specs.Logs.{IsOpenLog, IsClosedLog, IsSpentLog, IsLogSoFar, HasOnlyLowIds, IsRefutation, HasNoMark}
use Rattle.solve_cli.specs.Solving.{ComesTo, SearchesOn, AnswersAs}
use Rattle.solve_cli.specs.Failed.{AreInOrder, FailsAs, NegatesLastStep}
use Rattle.solve_cli.specs.Steps.{PutsAnswer}
use Rattle.solve_cli.proofs.Failing.{fails_as, negates_last}
use Rattle.solve_cli.proofs.Logging.{IsLogOf, open_log, refutation, spent, few_marks, unmarked}
use Rattle.solve_cli.proofs.Works.{files_at, if_some_both, formula_in, judged_ends, answered}

-- ---- what the search answers

pub finds_values : (f : Problem) (options : SearchOptions) (log : Bytes) (events : List LogEvent) (v : _) → IsLogOf f options log events → SatisfiesIn options.inprocess f options.conflicts (Some events) v
    → ComesTo f options log (ending.Satisfiable v)
finds_values f options log events v is h = (
  h.meets,
  record { is_open = open_log f log events is.read h.log.2.0; marks = few_marks f options log events h.log.0 is h.log.1 h.log.2.1 h.log.2.2 h.log.2.3 h.log.2.4 },
)

pub finds_none : (f : Problem) (options : SearchOptions) (log : Bytes) (events : List LogEvent) (failed : List Literal) (told : Option (List ℤ)) → AreInOrder f failed told → IsLogOf f options log events
    → RefutesIn options.inprocess f options.conflicts (Some events) failed → ComesTo f options log (ending.Unsatisfiable told)
finds_none f options log events failed told order is h = (
  h.unmet,
  fails_as options.inprocess f options.conflicts failed told (Some events) h order,
  record { refutes = refutation f log events is.read h.log.0.ended; marks = few_marks f options log events h.log.1.0 is h.log.1.1 h.log.1.2 h.log.2 h.log.3 h.log.1.3 },
  negates_last options.inprocess f options.conflicts failed told log events is.read h.log.0 order,
)

pub finds_nothing : (f : Problem) (options : SearchOptions) (log : Bytes) (events : List LogEvent) (k : ℕ) → IsLogOf f options log events → UsesUpIn options.inprocess f options.conflicts (Some events) k
    → (SettledWithRecovered f → (n : ℕ) → answer.Unknown k ≢ answer.Unknown n) → ComesTo f options log (ending.Unknown k)
finds_nothing f options log events k is h never = (h.count, λ s. never s k refl, spent f options log events is h.log)

-- what an answer of the search ends in is what it came to
pub finds : (f : Problem) (options : SearchOptions) (log : Bytes) (events : List LogEvent) (r : Result Answer CoreFault) (x : Result Ending Outcome) → AnswersAs f r x → IsLogOf f options log events
    → IfOk r (λ a. IsRightOutcomeIn options.inprocess f options.conflicts (Some events) a) → (SettledWithRecovered f → IfOk r (λ a. (k : ℕ) → a ≢ answer.Unknown k)) → IfOk x (ComesTo f options log)
finds f options log events (Ok (answer.Sat v)) x a is h known = subst (λ (y : Result Ending Outcome). IfOk y (ComesTo f options log)) (sym a) (finds_values f options log events v is h)
finds f options log events (Ok (answer.Unsat failed)) (Ok e) a is h known = subst (ComesTo f options log) (sym a.1) (finds_none f options log events failed a.0 a.2 is h)
finds f options log events (Ok (answer.Unsat failed)) (Err o) a is h known = tt
finds f options log events (Ok (answer.Unknown k)) x a is h known = subst (λ (y : Result Ending Outcome). IfOk y (ComesTo f options log)) (sym a) (finds_nothing f options log events k is h known)
finds f options log events (Err fault.Memory) x a is h known = subst (λ (y : Result Ending Outcome). IfOk y (ComesTo f options log)) (sym a) tt
finds f options log events (Err fault.Write) x a is h known = subst (λ (y : Result Ending Outcome). IfOk y (ComesTo f options log)) (sym a) tt

-- ---- the ending

pub data Found (f : Problem) (options : SearchOptions) (log : Bytes) : Ending → Type 0 where
  values : (v : _) → Meets f v → IsOpenLog f options log → Found f options log (ending.Satisfiable v)
  none : (failed : Option (List ℤ)) → Unmet f → FailsAs f failed → IsClosedLog f options log → NegatesLastStep f log failed → Found f options log (ending.Unsatisfiable failed)
  nothing : (k : ℕ) → k ≡ options.conflicts → ¬ SettledWithRecovered f → IsSpentLog f options log → Found f options log (ending.Unknown k)

pub found : (f : Problem) (options : SearchOptions) (log : Bytes) (e : Ending) → ComesTo f options log e → Found f options log e
found f options log (ending.Satisfiable v) h = values v h.0 h.1
found f options log (ending.Unsatisfiable failed) h = none failed h.0 h.1 h.2 h.3
found f options log (ending.Unknown k) h = nothing k h.0 h.1 h.2
found f options log e h = absurd h

judged : (n : Bytes) (l : Option Bytes) (options : SearchOptions) (f : Problem) (log : Bytes) (e : Ending) → Found f options log e → Judged e (plan.Solve n l options) f []
judged n l options f log _ (values v meets log_open) = meets
judged n l options f log _ (none failed unmet fails closed last) = (unmet, fails)
judged n l options f log _ (nothing k spent open_ marked) = (spent, open_)

gains : (n : Bytes) (l : Option Bytes) (options : SearchOptions) (limit : ℕ) (files : Files) (f : Problem) (log : Bytes) (e : Ending) → FormulaRead limit (text_named n files) f → Found f options log e
    → Gains (plan.Solve n l options) limit files e log
gains n l options limit files f log _ read (values v meets log_open) = (f, read, log_open)
gains n l options limit files f log _ read (none failed unmet fails closed last) = (f, read, closed, last)
gains n l options limit files f log _ read (nothing k spent open_ marked) = (f, read, marked)

pub is_right : (f : Problem) (options : SearchOptions) (log : Bytes) (e : Ending) → Found f options log e → LogOpen f log ⊎ IsRefutation f log
is_right f options log _ (values v meets log_open) = inl log_open.is_open
is_right f options log _ (none failed unmet fails closed last) = inr closed.refutes
is_right f options log _ (nothing k spent open_ marked) = inl marked.marked.is_open

pub has_no_mark : (f : Problem) (options : SearchOptions) (log : Bytes) (e : Ending) → Found f options log e → SettledWithRecovered f → HasNoMark log
has_no_mark f options log _ (values v meets log_open) s = unmarked f options log log_open.marks s
has_no_mark f options log _ (none failed unmet fails closed last) s = unmarked f options log closed.marks s
has_no_mark f options log _ (nothing k spent open_ marked) s = absurd (open_ s)

pub has_low_ids : (f : Problem) (options : SearchOptions) (log : Bytes) (e : Ending) → Found f options log e → HasOnlyLowIds log
has_low_ids f options log _ (values v meets log_open) = (log_open.marks.events, log_open.marks.read, log_open.marks.ids)
has_low_ids f options log _ (none failed unmet fails closed last) = (closed.marks.events, closed.marks.read, closed.marks.ids)
has_low_ids f options log _ (nothing k spent open_ marked) = marked.ids

-- ---- the writes

module _ (n : Bytes) (l : Option Bytes) (options : SearchOptions) (limit : ℕ) (old : Seen) (f : Problem) (mid : Seen)
    (begun : mid ≡ asked_to proof_created (plan.Solve n l options) old) (read : IfSome old.files (λ files. IsFormula (plan.Solve n l options) limit files f)) where
  of_old : (P : Files → Type 0) → IfSome mid.files P → IfSome old.files P
  of_old P h = subst (λ (w : Option Files). IfSome w P) (ap (λ (s : Seen). s.files) begun ∙ files_at proof_created (plan.Solve n l options) old) h

  -- the log was printed, and the answer or a prefix of it
  pub search_answered : (e : Ending) (at : Seen) (o : Outcome) (new : Seen) → SearchesOn f options mid (Ok e) at → PutsAnswer e at o new → Works (plan.Solve n l options) limit old o new
  search_answered e at o new h answers =
      let p = plan.Solve n l options in
      let own = h.0 n l in
      let log = h.1.0 in
      let finds = of_old (λ _. ComesTo f options log e) h.1.2 in
      answered p limit old e at o new
      (subst (Ends p limit old e) (sym h.1.1)
      (judged_ends p limit old f mid e log begun read own.0 own.1
      (if_some_both old.files read finds (λ files r c. (omega arith, judged n l options f log e (found f options log e c))))
      (if_some_both old.files read finds (λ files r c. gains n l options limit files f log e r (found f options log e c)))))
      answers

  -- the search gave up: a prefix of a right log was printed
  pub search_gave_up : (o : Outcome) (new : Seen) → SearchesOn f options mid (Err o) new → Works (plan.Solve n l options) limit old o new
  search_gave_up outcome.Memory new h = so_far h.0 new h.1 h.2
    where
      so_far : (log : Bytes) (at : Seen) → at ≡ says port.Proof log mid → IfSome mid.files (λ _. IsLogSoFar f log) → Stops (plan.Solve n l options) limit old at
      so_far log at is right = record {
        stage = proof_created;
        reaches = formula_in (plan.Solve n l options) limit old f read;
        proof = log;
        so_far = if_some_both old.files read (of_old (λ _. IsLogSoFar f log) right) (λ files r s. (f, r, s));
        at_is = is ∙ ap (says port.Proof log) begun;
      }
  search_gave_up outcome.WriteFault new h = inr (inr (record {
    writes = refl;
    may_write = tt;
    at = says port.Proof h.0 mid;
    stops = record {
      stage = proof_created;
      reaches = formula_in (plan.Solve n l options) limit old f read;
      proof = h.0;
      so_far = if_some_both old.files read (of_old (λ _. IsLogSoFar f h.0) h.2) (λ files r s. (f, r, s));
      at_is = ap (says port.Proof h.0) begun;
    };
    created = refl;
    fault = h.1;
  }))
  search_gave_up o new h = absurd h

-- nothing is on the Proof port once the formula was read and the port given its file, if nothing was there
pub none_begun : (n : Bytes) (l : Option Bytes) (options : SearchOptions) (old : Seen) → old.written.proof ≡ [] → (asked_to proof_created (plan.Solve n l options) old).written.proof ≡ []
none_begun n None options old h = h
none_begun n (Some name) options old h = refl
