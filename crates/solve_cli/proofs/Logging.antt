-- From the events of a search to the text of its log.
use Rattle.std.proofs.Common.{◌≡◌, ◌<◌, ◌⊎◌, ℕ, zero, suc, List, [], filter_map, length, take, drop, Some, inl, inr, refl, ap, sym, ◌∙◌, true≢false}
use Rattle.std.specs.List.{AllByRecursion, range_with_len}
use Rattle.std.proofs.lemmas.List.{take-append-drop}
use Rattle.cx_base.specs.Assumptions.{clashes}
use Rattle.cx_base.specs.Problem.{Problem}
use Rattle.conflict_learn.proofs.ChainOfResolutions.{by_cases}
use Rattle.cx_base.specs.declared.steps.LogEvent.{LogEvent}
use Rattle.cx_base.specs.Endings.{finished}
use Rattle.cx_semantics.specs.Ids.{HasLowId}
use Rattle.cx_semantics.specs.Judging.{IsOpen}
use Rattle.cx_semantics.specs.LogRules.{log_calculus}
use Rattle.cx_judgements.specs.LogTexts.{LogOpen}
use Rattle.cx_texts.specs.LogText.{EventsRead}
use Rattle.cx_base.specs.Events.{steps_of}
use Rattle.cx_semantics.specs.Marked.{Marked, mark_of}
use Rattle.cx_texts.specs.Printed.{HasText, printed_log}
use Rattle.search_steps.specs.Recovering.{SettledWithRecovered}
use Rattle.cx_semantics.specs.Tables.{no_tables}
use Rattle.cx_texts.proofs.EventSteps.{events_give_steps}
use Rattle.cx_texts.proofs.PrintedLogs.{printed_log_reads}
use Rattle.search_steps.specs.LogSteps.{IsEnded}
use Rattle.search_steps.specs.Hints.{AreHinted}
use Rattle.search_steps.specs.Schedule.{IsScheduledIn}
use Rattle.cdcl_core.specs.Results.{IsBoundedIn, IsOpenWith}
use Rattle.cx_desk.specs.Outside.{Bytes}
use Rattle.cx_words.specs.declared.plans.SearchOptions.{SearchOptions}
use Rattle.solve_cli.specs.Solving.{plain_options}
use Rattle.solve_cli.specs.Logs.{HasFewMarks, HasOnlyLowIds, IsRefutation, IsSpentLog, IsTidiedIn, HasNoMark, IsLogSoFar}

-- The bytes are read as these events, whose ids are low, and which have no mark where propagation settles the formula. Where the search tidied, they tell its tidy lines.
pub record IsLogOf (f : Problem) (options : SearchOptions) (log : Bytes) (events : List LogEvent) : Type 0 where
  pub read : EventsRead log events finished
  pub ids : AllByRecursion HasLowId events
  pub unmarked : SettledWithRecovered f → filter_map mark_of events ≡ []
  pub tidied : IsTidiedIn options.inprocess log

-- the log of a list's events
pub list_log : (f : Problem) (conflicts : ℕ) (events : List LogEvent) → AllByRecursion HasText events → AllByRecursion HasLowId events → (SettledWithRecovered f → filter_map mark_of events ≡ [])
    → IsLogOf f (plain_options conflicts) (printed_log events) events
list_log f conflicts events texts low none = record { read = printed_log_reads events texts; ids = low; unmarked = none; tidied = tt }

pub open_log : (f : Problem) (log : Bytes) (events : List LogEvent) → EventsRead log events finished → IsOpen (log_calculus f) (steps_of events) → LogOpen f log
open_log f log events read runs = record { steps = steps_of events; reads = events_give_steps log events read; open_run = runs }

pub refutation : (f : Problem) (log : Bytes) (events : List LogEvent) → EventsRead log events finished → IsEnded f events → IsRefutation f log
refutation f log events read (inl c) = record {
  steps = steps_of events;
  reads = events_give_steps log events read;
  step = 0;
  right = record { steps = steps_of events; ending = finished; reads = events_give_steps log events read; judged = inl (c, refl) };
  last = λ apart. absurd (true≢false (sym c ∙ apart));
}
refutation f log events read (inr ended) = record {
  steps = steps_of events;
  reads = events_give_steps log events read;
  step = length (steps_of events);
  right = record { steps = steps_of events; ending = finished; reads = events_give_steps log events read; judged = inr ended };
  last = λ apart. refl;
}

pub spent : (f : Problem) (options : SearchOptions) (log : Bytes) (events : List LogEvent) → IsLogOf f options log events → IsOpenWith options.inprocess f options.conflicts (Some events) → IsSpentLog f options log
spent f options log events is h = record {
  marked = record { is_open = open_log f log events is.read h.0; events = events; read = is.read; marked = h.1 };
  ids = (events, is.read, is.ids);
  scheduled = (events, is.read, h.2);
  hinted = (events, is.read, h.3);
  bounded = (events, is.read, h.4);
  tidied = is.tidied;
}

no_marks : (n : ℕ) → range_with_len 1 n ≡ [] → n ≡ 0
no_marks zero e = refl
no_marks (suc n) e = cc

pub few_marks : (f : Problem) (options : SearchOptions) (log : Bytes) (events : List LogEvent) (n : ℕ) → IsLogOf f options log events → n < options.conflicts → Marked f events n
    → IsScheduledIn options.inprocess events → AreHinted events → IsBoundedIn options.inprocess f n events → HasFewMarks f options log
few_marks f options log events n is low marked scheduled hinted bounded = record {
  events = events;
  read = is.read;
  count = n;
  marked = marked;
  ids = is.ids;
  scheduled = scheduled;
  hinted = hinted;
  bounded = bounded;
  few = low;
  settled = λ s. no_marks n (sym marked.marks ∙ is.unmarked s);
  tidied = is.tidied;
}

-- a log with as many marks as this has none where that is none
pub unmarked : (f : Problem) (options : SearchOptions) (log : Bytes) → HasFewMarks f options log → SettledWithRecovered f → HasNoMark log
unmarked f options log h s = (h.events, h.read, h.marked.marks ∙ ap (range_with_len 1) (h.settled s))

-- the empty text is a prefix of a log
pub nothing_logged : (f : Problem) → IsLogSoFar f []
nothing_logged f = record {
  log = [];
  right = by_cases (clashes f.constraints) (λ c. inr (refutation f [] [] (printed_log_reads [] tt) (inl c))) (λ apart. inl (open_log f [] [] (printed_log_reads [] tt) (apart, (no_tables, refl))));
  ids = ([], printed_log_reads [] tt, tt);
  settled = λ s. ([], printed_log_reads [] tt, refl);
  rest = [];
  front = refl;
}

-- a prefix of a right log
pub front_so_far : (f : Problem) (log : Bytes) (k : ℕ) → LogOpen f log ⊎ IsRefutation f log → HasOnlyLowIds log → (SettledWithRecovered f → HasNoMark log) → IsLogSoFar f (take k log)
front_so_far f log k right ids settled = record { log = log; right = right; ids = ids; settled = settled; rest = drop k log; front = take-append-drop k log }
