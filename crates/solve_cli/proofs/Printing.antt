-- What a search leaves on the Proof port, where it prints its log line by line.
use Rattle.std.proofs.Common.{◌≡◌, ◌<◌, ◌⊎◌, ℕ, List, [], ◌∷◌, ◌++◌, Bool, true, false, filter_map, length, take, drop, Option, Some, None, IfSome, IfOk, IfErr, Result, Ok, Err, ◌≢◌, inl, inr, refl, ap, sym, subst, ◌∙◌, append-nil, append_assoc, arith}
use Rattle.std.specs.Prelude.{OnOk}
use Rattle.std.proofs.lemmas.Grind.{flat_map-append}
use Rattle.std.proofs.lemmas.List.{take-append-drop}
use Rattle.std.proofs.lemmas.List.Elements.{filter_map-append}
use Rattle.std.specs.List.{AllByRecursion, cons_option}
use Rattle.cx_base.proofs.Elements.{all_push}
use Rattle.cx_base.specs.Counts.{Rose}
use Rattle.cx_base.specs.Lines.{Line, item, tidy, items_of}
use Rattle.cx_base.specs.Literals.{Literal}
use Rattle.cx_base.specs.Problem.{Problem}
use Rattle.cx_base.specs.Endings.{finished}
use Rattle.cx_base.specs.declared.steps.LogEvent.{LogEvent}
use Rattle.cx_semantics.specs.Ids.{HasLowId}
use Rattle.cx_semantics.specs.Marked.{mark_of}
use Rattle.cx_judgements.specs.LogTexts.{LogOpen}
use Rattle.cx_texts.specs.LogText.{EventsRead}
use Rattle.cx_texts.specs.Printed.{LineHasText, printed_lines, printed_log_line}
use Rattle.cx_texts.proofs.LogLines.{printed_lines_read, lines_give_events, items_of_both}
use Rattle.search_steps.specs.Recovering.{SettledWithRecovered}
use Rattle.search_steps.specs.TidyLines.{TidiedInTime}
use Rattle.step_text.specs.declared.sink.Sink as sink
use Rattle.cx_desk.specs.declared.desk.Port.TheVariants as port
use Rattle.cx_desk.specs.Outside.{Bytes, Files, Outside}
use Rattle.cx_desk.specs.Calls.{gained}
use Rattle.proof_text.specs.Told.{begun_line, fault_of}
use Rattle.proof_text.proofs.ToldLaws.{none_left}
use Rattle.log_text.specs.Told.{told_events, events_told, TornOn}
use Rattle.log_text.specs.Lines.{lines_told, told_lines, TornTidyOn, PrintsLines, TearsLine, GoesByLines}
use Rattle.log_text.specs.LineLaws.{begun_lines, begun_part, told_all, told_line_front}
use Rattle.log_text.specs.ToldLines.{are_items}
use Rattle.conflict_learn.specs.declared.fault.CoreFault.{CoreFault}
use Rattle.conflict_learn.specs.declared.fault.CoreFault.TheVariants as fault
use Rattle.conflict_learn.specs.Faults.{CountsAs, fault_in}
use Rattle.cdcl_search.specs.Tells.{IsLeft, IsTorn, GivesUp, HaveLowIds, HasNoMark as HasNoMarkTold, MayStandBehind}
use Rattle.cdcl_core.specs.LogLines.{AreInTime, GivesUpIn, HasNoLine, KeepsIn}
use Rattle.cdcl_core.specs.Narrowing.{SearchedIn}
use Rattle.cdcl_core.specs.Results.{IsFresh, IsRightOutcomeIn, RefutesIn}
use Rattle.cdcl_core.specs.declared.solving.SearchOutcome.{SearchOutcome as Answer}
use Rattle.cdcl_core.specs.declared.solving.SearchOutcome.TheVariants as answer
use Rattle.cx_words.specs.declared.plans.SearchOptions.{SearchOptions}
use Rattle.solve_cli.specs.declared.ending.Ending.{Ending}
use Rattle.solve_cli.specs.declared.ending.Outcome.{Outcome}
use Rattle.solve_cli.specs.Solving.{SearchesOn, AnswersAs}
use Rattle.solve_cli.specs.Seen.{seen, says, WriteFault}
use Rattle.solve_cli.specs.Logs.{HasTidyLines, IsLogSoFar, IsRefutation, IsTidiedIn}
use Rattle.solve_cli.specs.Steps.{HasNoProof}
use Rattle.solve_cli.proofs.Acting.{StillRead, still_as, still_gained, still_faulted}
use Rattle.solve_cli.proofs.Gaining.{whole_port, write_fault}
use Rattle.solve_cli.proofs.Logging.{IsLogOf, open_log, refutation}
use Rattle.solve_cli.proofs.Searching.{finds_values, finds_none, finds_nothing}
use Rattle.solve_cli.proofs.Works.{all_files}

-- ---- right lines are a right log

read_of : (lines : List (Line LogEvent)) → AllByRecursion LineHasText lines → EventsRead (printed_lines lines) (items_of lines) finished
read_of lines texts = lines_give_events (printed_lines lines) lines (printed_lines_read lines texts)

-- the events of lines, one of which came last
items-push : (lines : List (Line LogEvent)) (event : LogEvent) → items_of (lines ++ item event ∷ []) ≡ items_of lines ++ event ∷ []
items-push lines event = items_of_both lines (item event ∷ [])

items-tidy : (lines : List (Line LogEvent)) (r : ℕ) → items_of (lines ++ tidy r ∷ []) ≡ items_of lines
items-tidy lines r = items_of_both lines (tidy r ∷ []) ∙ append-nil (items_of lines)

log_of : (f : Problem) (log : Bytes) (events : List LogEvent) → EventsRead log events finished → IsLeft f (Some events) → LogOpen f log ⊎ IsRefutation f log
log_of f log events read (inl runs) = inl (open_log f log events read runs)
log_of f log events read (inr ended) = inr (refutation f log events read ended)

-- a prefix of the text of right lines
front_of : (f : Problem) (lines : List (Line LogEvent)) (events : List LogEvent) (bytes rest : Bytes) → AllByRecursion LineHasText lines → items_of lines ≡ events → AllByRecursion HasLowId events → IsLeft f (Some events)
    → (SettledWithRecovered f → filter_map mark_of events ≡ []) → bytes ++ rest ≡ printed_lines lines → IsLogSoFar f bytes
front_of f lines events bytes rest texts are low left none front =
    let read = subst (λ (es : List LogEvent). EventsRead (printed_lines lines) es finished) are (read_of lines texts) in
    record {
      log = printed_lines lines;
      right = log_of f (printed_lines lines) events read left;
      ids = (events, read, low);
      settled = λ s. (events, read, none s);
      rest = rest;
      front = front;
    }

-- ---- what the port tells

-- an empty port that gained lines tells these
lines_printed : (o n : Outside) (h : PrintsLines o n) → HasNoProof o → told_lines n.written.proof ≡ h.lines
lines_printed o n h empty =
    ap (λ (x : Outside). told_lines x.written.proof) h.moved ∙ told_all o.written.proof h.lines (none_left _ (whole_port o empty)) h.texts
    ∙ ap (λ (x : Bytes). told_lines x ++ h.lines) empty

events_printed : (o n : Outside) (h : PrintsLines o n) → HasNoProof o → events_told n ≡ Some (items_of h.lines)
events_printed o n h empty = are_items n ∙ ap (λ (ls : List (Line LogEvent)). Some (items_of ls)) (lines_printed o n h empty)

tidied_in : (tidies : Bool) (log : Bytes) → (tidies ≡ true → HasTidyLines log) → IsTidiedIn tidies log
tidied_in false log h = tt
tidied_in true log h = h refl

-- what was printed is the log of its events
is_log : (f : Problem) (options : SearchOptions) (o n : Outside) (h : PrintsLines o n) → HasNoProof o → HaveLowIds (events_told n) → (SettledWithRecovered f → HasNoMarkTold (events_told n))
    → (options.inprocess ≡ true → AreInTime (lines_told n)) → IsLogOf f options (printed_lines h.lines) (items_of h.lines)
is_log f options o n h empty low none timely =
    let is = events_printed o n h empty in
    record {
      read = read_of h.lines h.texts;
      ids = subst HaveLowIds is low;
      unmarked = λ s. subst HasNoMarkTold is (none s);
      tidied = tidied_in options.inprocess (printed_lines h.lines) (λ tidies. record {
        lines = h.lines;
        read = printed_lines_read h.lines h.texts;
        in_time = subst TidiedInTime (lines_printed o n h empty) (timely tidies);
      });
    }

-- out of memory: what was printed is a right log
logged_so_far : (f : Problem) (o n : Outside) (h : PrintsLines o n) → HasNoProof o → IsLeft f (events_told n) → HaveLowIds (events_told n) → (SettledWithRecovered f → HasNoMarkTold (events_told n))
    → IsLogSoFar f (printed_lines h.lines)
logged_so_far f o n h empty left low none =
    let is = events_printed o n h empty in
    front_of f h.lines (items_of h.lines) (printed_lines h.lines) [] h.texts refl (subst HaveLowIds is low) (subst (IsLeft f) is left) (λ s. subst HasNoMarkTold is (none s)) (append-nil (printed_lines h.lines))

-- ---- a torn line

torn_lines : (lines : List (Line LogEvent)) (part : Line LogEvent) (kept : ℕ) → AllByRecursion LineHasText lines → LineHasText part → kept < length (printed_log_line part)
    → told_lines (printed_lines lines ++ take kept (printed_log_line part)) ≡ lines
torn_lines lines part kept texts text low = told_line_front (printed_lines lines) part kept text low ∙ told_all [] lines refl texts

torn_line : (lines : List (Line LogEvent)) (part : Line LogEvent) (kept : ℕ) → AllByRecursion LineHasText lines → LineHasText part → kept < length (printed_log_line part)
    → begun_line [] (printed_lines lines ++ take kept (printed_log_line part)) ≡ take kept (printed_log_line part)
torn_line lines part kept texts text low = begun_part (printed_lines lines) part kept (begun_lines [] lines refl texts) text low

-- a prefix of a line after whole lines, and the rest of it, are these lines and that one
front_text : (lines : List (Line LogEvent)) (line part : Line LogEvent) (k kept : ℕ) → take kept (printed_log_line part) ≡ take k (printed_log_line line)
    → (printed_lines lines ++ take kept (printed_log_line part)) ++ drop k (printed_log_line line) ≡ printed_lines (lines ++ line ∷ [])
front_text lines line part k kept same =
    append_assoc (printed_lines lines) (take kept (printed_log_line part)) (drop k (printed_log_line line))
    ∙ ap (λ (x : Bytes). printed_lines lines ++ (x ++ drop k (printed_log_line line))) same
    ∙ ap (λ (x : Bytes). printed_lines lines ++ x) (take-append-drop k (printed_log_line line) ∙ sym (append-nil (printed_log_line line)))
    ∙ sym (flat_map-append printed_log_line lines (line ∷ []))

-- after right lines comes a prefix of this line
record IsTornAt (lines : List (Line LogEvent)) (bytes : Bytes) (line : Line LogEvent) : Type 0 where
  part : Line LogEvent
  k : ℕ
  kept : ℕ
  same : take kept (printed_log_line part) ≡ take k (printed_log_line line)
  bytes_are : bytes ≡ printed_lines lines ++ take kept (printed_log_line part)

front_in : (lines : List (Line LogEvent)) (bytes : Bytes) (line : Line LogEvent) (t : IsTornAt lines bytes line) → bytes ++ drop t.k (printed_log_line line) ≡ printed_lines (lines ++ line ∷ [])
front_in lines bytes line t = ap (λ (x : Bytes). x ++ drop t.k (printed_log_line line)) t.bytes_are ∙ front_text lines line t.part t.k t.kept t.same

-- the line of an event that may follow
event_front : (f : Problem) (lines : List (Line LogEvent)) (bytes : Bytes) (event : LogEvent) → IsTornAt lines bytes (item event) → AllByRecursion LineHasText lines → AllByRecursion HasLowId (items_of lines)
    → (SettledWithRecovered f → filter_map mark_of (items_of lines) ≡ []) → MayStandBehind f (Some (items_of lines)) event → IsLogSoFar f bytes
event_front f lines bytes event t texts low none next =
    front_of f (lines ++ item event ∷ []) (items_of lines ++ event ∷ []) bytes (drop t.k (printed_log_line (item event))) (all_push LineHasText lines (item event) texts next.text) (items-push lines event)
    (all_push HasLowId (items_of lines) event low next.id) next.right
    (λ s. filter_map-append mark_of (items_of lines) (event ∷ []) ∙ ap (λ xs. xs ++ filter_map mark_of (event ∷ [])) (none s) ∙ ap (λ o. cons_option o []) (next.unmarked s))
    (front_in lines bytes (item event) t)

-- a tidy line
tidy_front : (f : Problem) (lines : List (Line LogEvent)) (bytes : Bytes) (r : ℕ) → IsTornAt lines bytes (tidy r) → AllByRecursion LineHasText lines → LineHasText (tidy r) → AllByRecursion HasLowId (items_of lines)
    → (SettledWithRecovered f → filter_map mark_of (items_of lines) ≡ []) → IsLeft f (Some (items_of lines)) → IsLogSoFar f bytes
tidy_front f lines bytes r t texts text low none left =
    front_of f (lines ++ tidy r ∷ []) (items_of lines) bytes (drop t.k (printed_log_line (tidy r))) (all_push LineHasText lines (tidy r) texts text) (items-tidy lines r) low left none
    (front_in lines bytes (tidy r) t)

-- an event that may follow is torn, or a tidy line
abbrev IsTornIn : Problem → Outside → Type 0
IsTornIn f n = IsTorn f (λ event. TornOn event n) (events_told n) ⊎ ((r : ℕ) × TornTidyOn r n)

module _ (f : Problem) (o n : Outside) (h : TearsLine o n) (empty : HasNoProof o) where
  bytes : Bytes
  bytes = printed_lines h.lines ++ take h.kept (printed_log_line h.part)

  now : n.written.proof ≡ bytes
  unfolding bytes
  now = ap (λ (x : Outside). x.written.proof) h.moved.else_same ∙ ap (λ (x : Bytes). x ++ (printed_lines h.lines ++ take h.kept (printed_log_line h.part))) empty

  are : told_lines n.written.proof ≡ h.lines
  unfolding bytes
  are = ap told_lines now ∙ torn_lines h.lines h.part h.kept h.texts h.text h.front

  told : events_told n ≡ Some (items_of h.lines)
  told = are_items n ∙ ap (λ (ls : List (Line LogEvent)). Some (items_of ls)) are

  torn_at : (line : Line LogEvent) (before : Bytes) (k : ℕ) → LineHasText line → begun_line [] before ≡ [] → k < length (printed_log_line line) → n.written.proof ≡ before ++ take k (printed_log_line line)
      → IsTornAt h.lines bytes line
  unfolding bytes
  torn_at line before k text whole low split = record {
    part = h.part;
    k = k;
    kept = h.kept;
    same = sym (torn_line h.lines h.part h.kept h.texts h.text h.front) ∙ ap (begun_line []) (sym now ∙ split) ∙ begun_part before line k whole text low;
    bytes_are = refl;
  }

  -- a fault of writing: what was printed is a prefix of a right log
  torn_right : HaveLowIds (events_told n) → (SettledWithRecovered f → HasNoMarkTold (events_told n)) → IsLeft f (events_told n) → IsTornIn f n → IsLogSoFar f bytes
  torn_right low none left (inl (event, torn, next)) =
      let text = torn.0 in
      let at = torn.1 in
      event_front f h.lines bytes event (torn_at (item event) at.0 at.1 text at.2 at.3 at.4) h.texts (subst HaveLowIds told low) (λ s. subst HasNoMarkTold told (none s))
      (subst (λ (x : Option (List LogEvent)). MayStandBehind f x event) told next)
  torn_right low none left (inr (r, torn)) =
      let text = torn.0 in
      let at = torn.1 in
      tidy_front f h.lines bytes r (torn_at (tidy r) at.0 at.1 text at.2 at.3 at.4) h.texts text (subst HaveLowIds told low) (λ s. subst HasNoMarkTold told (none s)) (subst (IsLeft f) told left)

  torn_log_so_far : (w : Option Files) → HaveLowIds (events_told n) → (SettledWithRecovered f → HasNoMarkTold (events_told n)) → IsLeft f (events_told n) → IsTornIn f n
      → (log : Bytes) × WriteFault (says port.Proof log (seen w o)) (seen w n) × IfSome w (λ _. IsLogSoFar f log)
  unfolding bytes
  torn_log_so_far w low none left torn = (
    printed_lines h.lines ++ take h.kept (printed_log_line h.part),
    write_fault w (printed_lines h.lines ++ take h.kept (printed_log_line h.part)) o n h.moved,
    all_files w (λ _. torn_right low none left torn),
  )

-- ---- whether the sink failed

pub has_logged : (last : Bool) (o n : Outside) → GoesByLines false o last n → fault_of last ≡ 0 → PrintsLines o n
has_logged false o n h same = h
has_logged true o n h same = absurd (omega (arith, same))

pub has_torn_log : (last : Bool) (o n : Outside) → GoesByLines false o last n → Rose 0 (fault_of last) → TearsLine o n
has_torn_log true o n h rose = h
has_torn_log false o n h rose = absurd (omega (arith, rose))

pub still_logged : (last : Bool) (o n : Outside) → GoesByLines false o last n → StillRead o n
still_logged false o n h = still_as o n (gained port.Proof (printed_lines h.lines) o) h.moved (still_gained port.Proof (printed_lines h.lines) o)
still_logged true o n h = still_faulted port.Proof (printed_lines h.lines ++ take h.kept (printed_log_line h.part)) o n h.moved

-- ---- the whole search

-- an empty port tells no event and no line
pub fresh_port : (o : Outside) → HasNoProof o → IsFresh (events_told o)
fresh_port o h = ap told_events h

pub no_lines : (o : Outside) → HasNoProof o → HasNoLine (lines_told o)
no_lines o h = ap told_lines h

-- where a search gave up
abbrev pub GaveUp : Problem → Outside → CoreFault → Type 0
GaveUp f n fault.Memory = IsLeft f (events_told n)
GaveUp f n fault.Write = IsLeft f (events_told n) × IsTornIn f n

keeps_by : {L : Type 0} (tidies : Bool) (m : sink.Ghosts L LogEvent) (old new : L) → KeepsIn tidies m old new → (m.keeps old new → m.keeps_else old new) → m.keeps_else old new
keeps_by false m old new h by = by h
keeps_by true m old new h by = h

gave_up_by : {L : Type 0} (tidies : Bool) (m : sink.Ghosts L LogEvent) (f : Problem) (s : L) (n : Outside) (r : Result Answer CoreFault) → IfErr r (λ e. GivesUpIn tidies m f s e)
    → (IsLeft f (m.items s) → IsLeft f (events_told n)) → (IsTorn f (m.torn s) (m.items s) → IsTorn f (λ event. TornOn event n) (events_told n)) → ((k : ℕ) → m.torn_tidy s k → TornTidyOn k n)
    → IfErr r (λ e. GaveUp f n e)
gave_up_by tidies m f s n (Ok a) h left torn tidied = tt
gave_up_by tidies m f s n (Err fault.Memory) h left torn tidied = left h
gave_up_by false m f s n (Err fault.Write) h left torn tidied = (left h.0, inl (torn h.1))
gave_up_by true m f s n (Err fault.Write) (h, inl e) left torn tidied = (left h, inl (torn e))
gave_up_by true m f s n (Err fault.Write) (h, inr (k, t)) left torn tidied = (left h, inr (k, tidied k t))

pub gave_up_plainly : {L : Type 0} (m : sink.Ghosts L LogEvent) (f : Problem) (s : L) (r : Result Answer CoreFault) → IfErr r (λ e. GivesUp f (m.torn s) (m.items s) e) → IfErr r (λ e. GivesUpIn false m f s e)
gave_up_plainly m f s (Ok a) h = tt
gave_up_plainly m f s (Err fault.Memory) h = h
gave_up_plainly m f s (Err fault.Write) h = h

-- what a search keeps that does not tidy, one that does keeps too
pub searched_keeps : {L : Type 0} {tidies : Bool} {m : sink.Ghosts L LogEvent} {f : Problem} {budget : ℕ} {old new : L} {r : Result Answer CoreFault} → SearchedIn tidies m f budget old new r
    → (m.keeps old new → m.keeps_else old new) → m.keeps_else old new
searched_keeps {tidies = tidies} {m = m} {old = old} {new = new} h by = keeps_by tidies m old new h.frame by

pub searched_gave_up : {L : Type 0} {tidies : Bool} {m : sink.Ghosts L LogEvent} {f : Problem} {budget : ℕ} {old new : L} {r : Result Answer CoreFault} → SearchedIn tidies m f budget old new r → (n : Outside)
    → (IsLeft f (m.items new) → IsLeft f (events_told n)) → (IsTorn f (m.torn new) (m.items new) → IsTorn f (λ event. TornOn event n) (events_told n)) → ((k : ℕ) → m.torn_tidy new k → TornTidyOn k n)
    → IfErr r (λ e. GaveUp f n e)
searched_gave_up {tidies = tidies} {m = m} {f = f} {new = new} {r = r} h n left torn tidied = gave_up_by tidies m f new n r h.gave_up left torn tidied

-- a log that is ended is right so far
ended_is_left : (tidies : Bool) (f : Problem) (budget : ℕ) (failed : List Literal) (told : Option (List LogEvent)) → RefutesIn tidies f budget told failed → IsLeft f told
ended_is_left tidies f budget failed None r = tt
ended_is_left tidies f budget failed (Some events) r = inr r.log.0.ended

module _ (f : Problem) (options : SearchOptions) (o n : Outside) (last : Bool) (empty : HasNoProof o) (goes : GoesByLines false o last n) (w : Option Files)
    (none : SettledWithRecovered f → HasNoMarkTold (events_told n)) (low : HaveLowIds (events_told n)) where
  -- no values meet the formula; memory may be wanted for the literals that fail
  refuted_on : (failed : List Literal) (x : Result Ending Outcome) → AnswersAs f (Ok (answer.Unsat failed)) x → fault_of last ≡ 0 → RefutesIn options.inprocess f options.conflicts (events_told n) failed
      → (options.inprocess ≡ true → AreInTime (lines_told n)) → SearchesOn f options (seen w o) x (seen w n)
  refuted_on failed (Ok e) a same right timely =
      let h = has_logged last o n goes same in
      let is = is_log f options o n h empty low none timely in
      let holds = subst (λ (told : Option (List LogEvent)). RefutesIn options.inprocess f options.conflicts told failed) (events_printed o n h empty) right in
      subst (λ (x : Ending). SearchesOn f options (seen w o) (Ok x) (seen w n)) (sym a.1)
      ((λ m l. (tt, refl)), (printed_lines h.lines, ap (seen w) h.moved, all_files w (λ files. finds_none f options (printed_lines h.lines) (items_of h.lines) failed a.0 a.2 is holds)))
  refuted_on failed (Err why) a same right timely =
      let h = has_logged last o n goes same in
      subst (λ (x : Outcome). SearchesOn f options (seen w o) (Err x) (seen w n)) (sym a)
      (printed_lines h.lines, ap (seen w) h.moved, all_files w (λ _. logged_so_far f o n h empty (ended_is_left options.inprocess f options.conflicts failed (events_told n) right) low none))

  pub searched_on : (r : Result Answer CoreFault) (x : Result Ending Outcome) → AnswersAs f r x → CountsAs (fault_in r) 0 (fault_of last)
      → IfOk r (λ a. IsRightOutcomeIn options.inprocess f options.conflicts (events_told n) a) → (SettledWithRecovered f → IfOk r (λ a. (k : ℕ) → a ≢ answer.Unknown k))
      → (options.inprocess ≡ true → OnOk r (AreInTime (lines_told n))) → IfErr r (λ e. GaveUp f n e) → SearchesOn f options (seen w o) x (seen w n)
  searched_on (Ok (answer.Sat v)) x a same right known timely gave_up =
      let h = has_logged last o n goes same in
      let is = is_log f options o n h empty low none timely in
      let holds = subst (λ (told : Option (List LogEvent)). IsRightOutcomeIn options.inprocess f options.conflicts told (answer.Sat v)) (events_printed o n h empty) right in
      subst (λ (y : Result Ending Outcome). SearchesOn f options (seen w o) y (seen w n)) (sym a)
      ((λ m l. (tt, refl)), (printed_lines h.lines, ap (seen w) h.moved, all_files w (λ files. finds_values f options (printed_lines h.lines) (items_of h.lines) v is holds)))
  searched_on (Ok (answer.Unsat failed)) x a same right known timely gave_up = refuted_on failed x a same right timely
  searched_on (Ok (answer.Unknown k)) x a same right known timely gave_up =
      let h = has_logged last o n goes same in
      let is = is_log f options o n h empty low none timely in
      let holds = subst (λ (told : Option (List LogEvent)). IsRightOutcomeIn options.inprocess f options.conflicts told (answer.Unknown k)) (events_printed o n h empty) right in
      subst (λ (y : Result Ending Outcome). SearchesOn f options (seen w o) y (seen w n)) (sym a)
      ((λ m l. (tt, refl)), (printed_lines h.lines, ap (seen w) h.moved, all_files w (λ files. finds_nothing f options (printed_lines h.lines) (items_of h.lines) k is holds known)))
  searched_on (Err fault.Memory) x a same right known timely left =
      let h = has_logged last o n goes same in
      subst (λ (y : Result Ending Outcome). SearchesOn f options (seen w o) y (seen w n)) (sym a) (printed_lines h.lines, ap (seen w) h.moved, all_files w (λ _. logged_so_far f o n h empty left low none))
  searched_on (Err fault.Write) x a rose right known timely gave_up =
      subst (λ (y : Result Ending Outcome). SearchesOn f options (seen w o) y (seen w n)) (sym a) (torn_log_so_far f o n (has_torn_log last o n goes rose) empty w low none gave_up.0 gave_up.1)
