-- States of a sink that prints lines, one after another.
use Rattle.std.specs.Prelude.{◌≡◌, refl, Bool, true, false, List, [], ◌∷◌, ◌++◌, map, take, Some}
use Rattle.std.specs.List.{AllByRecursion}
use Rattle.std.proofs.Common.{sym, ap, ◌∙◌, subst, append_assoc, append-nil}
use Rattle.std.proofs.lemmas.Grind.{flat_map-append}
use Rattle.cx_desk.specs.declared.desk.Port.TheVariants.{Proof}
use Rattle.cx_desk.specs.Outside.{Bytes, Outside}
use Rattle.cx_desk.specs.Calls.{gained, WriteFaulted}
use Rattle.cx_desk.proofs.Moves.{gained-twice}
use Rattle.cx_base.specs.Lines.{Line, item}
use Rattle.cx_base.specs.declared.steps.LogEvent.{LogEvent}
use Rattle.cx_base.proofs.Elements.{all_append}
use Rattle.cx_texts.specs.Printed.{printed_log_line, printed_lines, printed_log, HasText, LineHasText}
use Rattle.proof_text.specs.Told.{is_whole}
use Rattle.proof_text.proofs.ToldLaws.{none_left}
use Rattle.step_text.specs.Sinks.{AreItemsOf, GainsItems}
use Rattle.log_text.specs.Told.{event_line, events_told, Goes}
use Rattle.log_text.specs.Lines.{lines_told, told_lines, PrintsLines, TearsLine, GoesByLines}
use Rattle.log_text.specs.LineLaws.{items_told, told_all, told_line_front}

pub are_items : (o : Outside) → AreItemsOf (lines_told o) (events_told o)
are_items o = ap Some (items_told o.written.proof)

-- ---- events are lines

pub printed_items : (events : List LogEvent) → printed_lines (map item events) ≡ printed_log events
printed_items [] = refl
printed_items (e ∷ events) = ap (λ (x : Bytes). event_line e ++ x) (printed_items events)

pub items_have_text : (events : List LogEvent) → AllByRecursion HasText events → AllByRecursion LineHasText (map item events)
items_have_text [] h = tt
items_have_text (e ∷ events) h = (h.0, items_have_text events h.1)

pub goes_by_lines : (f : Bool) (a : Outside) (g : Bool) (b : Outside) → Goes f a g b → GoesByLines f a g b
goes_by_lines true a true b h = h
goes_by_lines true a false b h = absurd h
goes_by_lines false a false b h = record { lines = map item h.events; texts = items_have_text h.events h.texts; moved = h.moved ∙ ap (λ (x : Bytes). gained Proof x a) (sym (printed_items h.events)) }
goes_by_lines false a true b h = record {
  lines = map item h.events;
  texts = items_have_text h.events h.texts;
  part = item h.part;
  text = h.text;
  kept = h.kept;
  front = h.front;
  moved = subst (λ (x : Bytes). WriteFaulted (gained Proof (x ++ take h.kept (event_line h.part)) a) b) (sym (printed_items h.events)) h.moved;
}

-- what gains events gains no tidy line
told_items : (o : Outside) (events : List LogEvent) → is_whole o ≡ true → AllByRecursion HasText events → told_lines (o.written.proof ++ printed_log events) ≡ told_lines o.written.proof ++ map item events
told_items o events w h =
    ap (λ (x : Bytes). told_lines (o.written.proof ++ x)) (sym (printed_items events)) ∙ told_all o.written.proof (map item events) (none_left _ w) (items_have_text events h)

pub gains_items : (f : Bool) (a : Outside) (g : Bool) (b : Outside) → (f ≡ false → is_whole a ≡ true) → Goes f a g b → GainsItems (lines_told a) (lines_told b)
gains_items true a true b w h = ([], ap lines_told h ∙ ap Some (sym (append-nil (told_lines a.written.proof))))
gains_items true a false b w h = absurd h
gains_items false a false b w h = (h.events, ap lines_told h.moved ∙ ap Some (told_items a h.events (w refl) h.texts))
gains_items false a true b w h = (
  h.events,
  ap lines_told h.moved.else_same
      ∙ ap (λ (x : Bytes). Some (told_lines x)) (sym (append_assoc a.written.proof (printed_log h.events) (take h.kept (event_line h.part))))
      ∙ ap Some (told_line_front (a.written.proof ++ printed_log h.events) (item h.part) h.kept h.text h.front)
      ∙ ap Some (told_items a h.events (w refl) h.texts),
)

-- ---- one after another

printed-append : (xs ys : List (Line LogEvent)) → printed_lines (xs ++ ys) ≡ printed_lines xs ++ printed_lines ys
printed-append xs ys = flat_map-append printed_log_line xs ys

prints_on : (a b c : Outside) → PrintsLines a b → PrintsLines b c → PrintsLines a c
prints_on a b c h k = record {
  lines = h.lines ++ k.lines;
  texts = all_append LineHasText h.lines k.lines h.texts k.texts;
  moved = k.moved ∙ ap (gained Proof (printed_lines k.lines)) h.moved ∙ gained-twice Proof (printed_lines h.lines) (printed_lines k.lines) a ∙ ap (λ (x : Bytes). gained Proof x a) (sym (printed-append h.lines k.lines));
}

tears_on : (a b c : Outside) → PrintsLines a b → TearsLine b c → TearsLine a c
tears_on a b c h k =
    let front = take k.kept (printed_log_line k.part) in
    let same : gained Proof (printed_lines k.lines ++ front) b ≡ gained Proof (printed_lines (h.lines ++ k.lines) ++ front) a =
    ap (gained Proof (printed_lines k.lines ++ front)) h.moved ∙ gained-twice Proof (printed_lines h.lines) (printed_lines k.lines ++ front) a
    ∙ ap (λ (x : Bytes). gained Proof x a) (sym (append_assoc (printed_lines h.lines) (printed_lines k.lines) front) ∙ ap (λ (x : Bytes). x ++ front) (sym (printed-append h.lines k.lines))) in
    record {
      lines = h.lines ++ k.lines;
      texts = all_append LineHasText h.lines k.lines h.texts k.texts;
      part = k.part;
      text = k.text;
      kept = k.kept;
      front = k.front;
      moved = subst (λ (o : Outside). WriteFaulted o c) same k.moved;
    }

pub goes_on_by_lines : (f : Bool) (a : Outside) (g : Bool) (b : Outside) (i : Bool) (c : Outside) → GoesByLines f a g b → GoesByLines g b i c → GoesByLines f a i c
goes_on_by_lines true a true b true c h k = k ∙ h
goes_on_by_lines true a true b false c h k = k
goes_on_by_lines true a false b i c h k = absurd h
goes_on_by_lines false a true b true c h k = subst (TearsLine a) (sym k) h
goes_on_by_lines false a true b false c h k = absurd k
goes_on_by_lines false a false b true c h k = tears_on a b c h k
goes_on_by_lines false a false b false c h k = prints_on a b c h k
