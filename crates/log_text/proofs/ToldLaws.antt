-- What a port that was given lines of events tells.
use Rattle.std.proofs.Common.{◌≡◌, sym, ap, subst, ◌∙◌, ℕ, ◌+◌, ◌<◌, ◌≤◌, Bool, true, false, true≢false, List, [], ◌∷◌, ◌++◌, flat_map, length, take, append_assoc, append-nil, length-append, arith, Some, option_map}
use Rattle.std.specs.List.{AllByRecursion}
use Rattle.std.proofs.lemmas.Grind.{flat_map-append}
use Rattle.std.proofs.lemmas.List.{take-append-le}
use Rattle.cx_desk.specs.declared.desk.Port.TheVariants.{Proof}
use Rattle.cx_desk.specs.Outside.{Bytes, Outside}
use Rattle.cx_desk.specs.Calls.{gained, TakesUnwritten}
use Rattle.cx_base.specs.declared.steps.LogEvent.{LogEvent}
use Rattle.cx_texts.specs.Printed.{printed_log, HasText}
use Rattle.cx_texts.proofs.PrintedLogs.{line_text, no_feed_event}
use Rattle.proof_text.specs.Told.{whole_lines, begun_line, is_none, is_whole}
use Rattle.proof_text.proofs.ToldLaws.{no_feed_front, lines-append, begun-append, no_line, all_begun, one_line, line_ends, none_left}
use Rattle.log_text.specs.LineLaws.{event_is_read}
use Rattle.log_text.specs.Told.{event_line, events_read, told_events, events_told, Goes}
use Rattle.log_text.specs.ToldEvents.{goes_itself}
use Rattle.step_text.specs.Sinks.{with_all, with_next}
use Rattle.step_text.proofs.Puts.{Fails}

-- ---- events

pub told_event : (b : Bytes) (s : LogEvent) → begun_line [] b ≡ [] → HasText s → told_events (b ++ event_line s) ≡ told_events b ++ s ∷ []
told_event b s e h =
    ap (flat_map events_read) (lines-append [] b (event_line s) ∙ ap (λ x. whole_lines [] b ++ whole_lines x (event_line s)) e ∙ ap (λ ls. whole_lines [] b ++ ls) (one_line (line_text s) (no_feed_event s h)))
    ∙ flat_map-append events_read (whole_lines [] b) (event_line s ∷ [])
    ∙ ap (λ x. told_events b ++ x) (append-nil (events_read (event_line s)) ∙ event_is_read s h)

pub event_ends : (b : Bytes) (s : LogEvent) → begun_line [] b ≡ [] → HasText s → begun_line [] (b ++ event_line s) ≡ []
event_ends b s e h = begun-append [] b (event_line s) ∙ ap (λ x. begun_line x (event_line s)) e ∙ line_ends (line_text s) (no_feed_event s h)

pub told_front : (b : Bytes) (s : LogEvent) (k : ℕ) → HasText s → k < length (event_line s) → told_events (b ++ take k (event_line s)) ≡ told_events b
told_front b s k h low =
    let l : length (event_line s) ≡ length (line_text s) + 1 = length-append (line_text s) (10 ∷ []) in
    let within : k ≤ length (line_text s) = omega arith in
    let front : take k (event_line s) ≡ take k (line_text s) = take-append-le k (line_text s) (10 ∷ []) within in
    ap (λ x. told_events (b ++ x)) front
    ∙ ap (flat_map events_read) (lines-append [] b (take k (line_text s)) ∙ ap (λ ls. whole_lines [] b ++ ls) (no_line (begun_line [] b) (take k (line_text s)) (no_feed_front k (line_text s) (no_feed_event s h))) ∙ append-nil (whole_lines [] b))

-- a port of whole lines that was given the lines of a log tells its events besides
pub told_log : (b : Bytes) (events : List LogEvent) → begun_line [] b ≡ [] → AllByRecursion HasText events → told_events (b ++ printed_log events) ≡ told_events b ++ events
told_log b [] e h = ap told_events (append-nil b) ∙ sym (append-nil (told_events b))
told_log b (s ∷ events) e h =
    ap told_events (sym (append_assoc b (event_line s) (printed_log events)))
    ∙ told_log (b ++ event_line s) events (event_ends b s e h.0) h.1
    ∙ ap (λ x. x ++ events) (told_event b s e h.0) ∙ append_assoc (told_events b) (s ∷ []) events

-- the lines of a log leave no line begun
pub begun_log : (b : Bytes) (events : List LogEvent) → begun_line [] b ≡ [] → AllByRecursion HasText events → begun_line [] (b ++ printed_log events) ≡ []
begun_log b [] e h = ap (begun_line []) (append-nil b) ∙ e
begun_log b (s ∷ events) e h = ap (begun_line []) (sym (append_assoc b (event_line s) (printed_log events))) ∙ begun_log (b ++ event_line s) events (event_ends b s e h.0) h.1

-- a prefix of an event's line after whole lines is the line that is begun
pub begun_front : (b : Bytes) (s : LogEvent) (k : ℕ) → begun_line [] b ≡ [] → HasText s → k < length (event_line s) → begun_line [] (b ++ take k (event_line s)) ≡ take k (event_line s)
begun_front b s k e h low =
    let l : length (event_line s) ≡ length (line_text s) + 1 = length-append (line_text s) (10 ∷ []) in
    let within : k ≤ length (line_text s) = omega arith in
    let front : take k (event_line s) ≡ take k (line_text s) = take-append-le k (line_text s) (10 ∷ []) within in
    begun-append [] b (take k (event_line s)) ∙ ap (λ x. begun_line x (take k (event_line s))) e ∙ ap (begun_line []) front ∙ all_begun [] (take k (line_text s)) (no_feed_front k (line_text s) (no_feed_event s h)) ∙ sym front

-- ---- the outside

pub gained_event : (o : Outside) (s : LogEvent) → is_whole o ≡ true → HasText s → events_told (gained Proof (event_line s) o) ≡ with_next s (events_told o)
gained_event o s w h = ap Some (told_event o.written.proof s (none_left _ w) h)

pub gained_whole : (o : Outside) (s : LogEvent) → is_whole o ≡ true → HasText s → is_whole (gained Proof (event_line s) o) ≡ true
gained_whole o s w h = ap is_none (event_ends o.written.proof s (none_left _ w) h)

gained_front : (o : Outside) (s : LogEvent) (k : ℕ) → HasText s → k < length (event_line s) → events_told (gained Proof (take k (event_line s)) o) ≡ events_told o
gained_front o s k h low = ap Some (told_front o.written.proof s k h low)

pub torn_told : (old new : Outside) (s : LogEvent) → HasText s → Fails Proof (event_line s) old new → events_told new ≡ events_told old
torn_told old new s h (k, low, fault) = ap events_told fault.else_same ∙ gained_front old s k h low

pub gained_log : (o : Outside) (events : List LogEvent) → is_whole o ≡ true → AllByRecursion HasText events → events_told (gained Proof (printed_log events) o) ≡ option_map (λ all. all ++ events) (events_told o)
gained_log o events w h = ap Some (told_log o.written.proof events (none_left _ w) h)

-- ---- lines that are not laid out
module _ (o : Outside) (events : List LogEvent) (w : is_whole o ≡ true) (h : AllByRecursion HasText events) where
  pub taken_whole : (taken : Bool) (now : Outside) → TakesUnwritten Proof (printed_log events) o taken now → is_whole now ≡ true
  taken_whole true now is = ap is_whole is ∙ ap is_none (begun_log o.written.proof events (none_left _ w) h)
  taken_whole false now is = ap is_whole is ∙ w

  pub taken_told : (taken : Bool) (now : Outside) → TakesUnwritten Proof (printed_log events) o taken now → taken ≡ true → events_told now ≡ with_all events (events_told o)
  taken_told true now is e = ap events_told is ∙ gained_log o events w h
  taken_told false now is e = absurd (true≢false (sym e))

  pub taken_goes : (taken : Bool) (now : Outside) → TakesUnwritten Proof (printed_log events) o taken now → Goes false o false now
  taken_goes true now is = record { events = events; texts = h; moved = is }
  taken_goes false now is = subst (Goes false o false) (sym is) (goes_itself false o)

pub untold_same : (o : Outside) (lines : Bytes) (taken : Bool) (now : Outside) → TakesUnwritten Proof lines o taken now → taken ≡ false → events_told now ≡ events_told o
untold_same o lines true now is e = absurd (true≢false e)
untold_same o lines false now is e = ap events_told is
