-- States of a sink that prints, one after another.
use Rattle.std.specs.Prelude.{◌≡◌, refl, Bool, true, false, List, [], ◌++◌, take}
use Rattle.std.proofs.Common.{sym, ap, ◌∙◌, subst, append_assoc}
use Rattle.std.proofs.lemmas.Grind.{flat_map-append}
use Rattle.cx_desk.specs.declared.desk.Port.TheVariants.{Proof}
use Rattle.cx_desk.specs.Outside.{Bytes, Outside}
use Rattle.cx_desk.specs.Calls.{gained, WriteFaulted}
use Rattle.cx_desk.proofs.Moves.{gained-twice, gained-none}
use Rattle.cx_base.specs.declared.steps.LogEvent.{LogEvent}
use Rattle.cx_texts.specs.Printed.{printed_log, HasText}
use Rattle.cx_base.proofs.Elements.{all_append}
use Rattle.log_text.specs.Told.{event_line, Prints, Tears, Goes}

prints_nothing : (o : Outside) → Prints o o
prints_nothing o = record { events = []; texts = tt; moved = sym (gained-none Proof o) }

pub goes_itself : (failed : Bool) (o : Outside) → Goes failed o failed o
goes_itself true o = refl
goes_itself false o = prints_nothing o

printed-append : (xs ys : List LogEvent) → printed_log (xs ++ ys) ≡ printed_log xs ++ printed_log ys
printed-append xs ys = flat_map-append event_line xs ys

prints_on : (a b c : Outside) → Prints a b → Prints b c → Prints a c
prints_on a b c h k = record {
  events = h.events ++ k.events;
  texts = all_append HasText h.events k.events h.texts k.texts;
  moved = k.moved ∙ ap (gained Proof (printed_log k.events)) h.moved ∙ gained-twice Proof (printed_log h.events) (printed_log k.events) a ∙ ap (λ (x : Bytes). gained Proof x a) (sym (printed-append h.events k.events));
}

tears_on : (a b c : Outside) → Prints a b → Tears b c → Tears a c
tears_on a b c h k =
    let front = take k.kept (event_line k.part) in
    let same : gained Proof (printed_log k.events ++ front) b ≡ gained Proof (printed_log (h.events ++ k.events) ++ front) a =
    ap (gained Proof (printed_log k.events ++ front)) h.moved ∙ gained-twice Proof (printed_log h.events) (printed_log k.events ++ front) a
    ∙ ap (λ (x : Bytes). gained Proof x a) (sym (append_assoc (printed_log h.events) (printed_log k.events) front) ∙ ap (λ (x : Bytes). x ++ front) (sym (printed-append h.events k.events))) in
    record {
      events = h.events ++ k.events;
      texts = all_append HasText h.events k.events h.texts k.texts;
      part = k.part;
      text = k.text;
      kept = k.kept;
      front = k.front;
      moved = subst (λ (o : Outside). WriteFaulted o c) same k.moved;
    }

pub goes_on : (f : Bool) (a : Outside) (g : Bool) (b : Outside) (i : Bool) (c : Outside) → Goes f a g b → Goes g b i c → Goes f a i c
goes_on true a true b true c h k = k ∙ h
goes_on true a true b false c h k = k
goes_on true a false b i c h k = absurd h
goes_on false a true b true c h k = subst (Tears a) (sym k) h
goes_on false a true b false c h k = absurd k
goes_on false a false b true c h k = tears_on a b c h k
goes_on false a false b false c h k = prints_on a b c h k
