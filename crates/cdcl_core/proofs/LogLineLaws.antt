-- The log of a search that may tidy goes on, call after call.
use Rattle.std.proofs.Common.{◌≡◌, refl, sym, ap, ◌∙◌, subst, ℕ, Bool, true, false, true≢false, List, [], ◌∷◌, ◌++◌, map, Option, None, Some, is_some, Ok, Err, ◌⊎◌, inl, inr}
use Rattle.std.specs.Prelude.{option_map}
use Rattle.std.proofs.lemmas.List.{append_cancel_left}
use Rattle.std.proofs.lemmas.List.Elements.{filter_map-append}
use Rattle.cx_base.specs.Counts.{Rose}
use Rattle.cx_base.specs.Lines.{Line, item, item_of, items_of}
use Rattle.cx_base.specs.Problem.{Problem}
use Rattle.cx_base.specs.declared.steps.LogEvent.{LogEvent}
use Rattle.conflict_learn.specs.declared.fault.CoreFault.{CoreFault}
use Rattle.conflict_learn.specs.declared.fault.CoreFault.TheVariants.{Memory, Write}
use Rattle.conflict_learn.specs.Faults.{CountsAs}
use Rattle.search_steps.specs.Recovering.{SettledWithRecovered}
use Rattle.step_text.specs.Sinks.{AreItemsOf, GainsItems, HasFailedAs, OnFailed, SinkFaultsAs}
use Rattle.step_text.specs.declared.sink.Sink as sink
use Rattle.step_text.specs.declared.sink.SinkFault.{SinkFault}
use Rattle.step_text.specs.declared.sink.SinkFault.TheVariants as fault_of_sink
use Rattle.cdcl_search.specs.GoingOn.{failed_then, log_rests, log_stops}
use Rattle.cdcl_search.specs.Logs.{GoesOn}
use Rattle.cdcl_search.specs.Tells.{HasFailedBy, HaveLowIds, HasNoMark, IsLeft, IsTorn, fault_as, with_events}
use Rattle.cdcl_search.specs.declared.logs.SearchLog.{SearchLog}
use Rattle.cdcl_core.specs.LogLines.{GoesOnIn, IsTornIn, KeepsIn}

counts_then : (a b c : ℕ) (why : Option CoreFault) → b ≡ a → CountsAs why b c → CountsAs why a c
counts_then a b c None e h = h ∙ e
counts_then a b c (Some Memory) e h = h ∙ e
counts_then a b c (Some Write) e h = subst (λ n. Rose n c) e h

none_torn : {X : Type 0} → (let none : Option CoreFault = None in none) ≡ Some Write → X
none_torn e = absurd (true≢false (sym (ap is_some e)))

module _ {L : Type 0} (m : sink.Ghosts L LogEvent) where
  torn_in : (t : Bool) (formula : Problem) (s : L) → IsTorn formula (m.torn s) (m.items s) → IsTornIn t m formula s
  torn_in true formula s h = inl h
  torn_in false formula s h = h

  pub keeps_in : ((a b : L) → m.keeps a b → m.keeps_else a b) → (t : Bool) (a b : L) → m.keeps a b → KeepsIn t m a b
  keeps_in else_too true a b h = else_too a b h
  keeps_in else_too false a b h = h

  keeps_then : ((a b c : L) → m.keeps a b → m.keeps b c → m.keeps a c) → ((a b c : L) → m.keeps_else a b → m.keeps_else b c → m.keeps_else a c) → (t : Bool) (a b c : L) → KeepsIn t m a b → KeepsIn t m b c → KeepsIn t m a c
  keeps_then on else_on true a b c h k = else_on a b c h k
  keeps_then on else_on false a b c h k = on a b c h k

  -- what a search that does not tidy does, one that may tidy does too
  pub goes_on_in : ((a b : L) → m.keeps a b → m.keeps_else a b) → (t : Bool) (a b : SearchLog L) (why : Option CoreFault) → GoesOn m a why b → GoesOnIn t m a why b
  goes_on_in else_too t a b why h = record {
    right = h.right;
    ids = h.ids;
    counts = h.counts;
    failed = h.failed;
    marks = h.marks;
    tears = λ e. torn_in t b.formula.now b.sink.now (h.tears e);
    formula = h.formula;
    sink = h.sink;
    frame = keeps_in else_too t a.sink.now b.sink.now h.frame;
  }

  pub rests_in : ((a : L) → m.keeps a a) → ((a b : L) → m.keeps a b → m.keeps_else a b) → (t : Bool) (a : SearchLog L) → GoesOnIn t m a None a
  rests_in itself else_too t a = goes_on_in else_too t a a None (log_rests m itself a)

  pub stops_in : ((a : L) → m.keeps a a) → ((a b : L) → m.keeps a b → m.keeps_else a b) → (t : Bool) (a : SearchLog L) → GoesOnIn t m a (Some Memory) a
  stops_in itself else_too t a = goes_on_in else_too t a a (Some Memory) (log_stops m itself a)

  pub then_in : ((a b c : L) → m.keeps a b → m.keeps b c → m.keeps a c) → ((a b c : L) → m.keeps_else a b → m.keeps_else b c → m.keeps_else a c) → (t : Bool) (a b c : SearchLog L) (why : Option CoreFault) → GoesOnIn t m a None b → GoesOnIn t m b why c → GoesOnIn t m a why c
  then_in on else_on t a b c why h k = record {
    right = λ left. k.right (h.right left);
    ids = λ low. k.ids (h.ids low);
    counts = counts_then (m.faults a.sink.now) (m.faults b.sink.now) (m.faults c.sink.now) why h.counts k.counts;
    failed = failed_then (m.has_failed a.sink.now) (m.has_failed b.sink.now) (m.has_failed c.sink.now) why h.failed k.failed;
    marks = λ s none. k.marks s (h.marks (subst SettledWithRecovered k.formula s) none);
    tears = k.tears;
    formula = k.formula ∙ h.formula;
    sink = k.sink ∙ h.sink;
    frame = keeps_then on else_on t a.sink.now b.sink.now c.sink.now h.frame k.frame;
  }

  -- ---- a tidy line
  module _ (old new : SearchLog L) (formula_is : new.formula.now ≡ old.formula.now) (name_is : new.sink.ghost_name ≡ old.sink.ghost_name) (same : m.items new.sink.now ≡ m.items old.sink.now) (frame : m.keeps_else old.sink.now new.sink.now) where
    tells_no_event : (why : Option CoreFault) → CountsAs why (m.faults old.sink.now) (m.faults new.sink.now) → HasFailedBy why (m.has_failed old.sink.now) (m.has_failed new.sink.now)
        → (why ≡ Some Write → IsTornIn true m new.formula.now new.sink.now) → GoesOnIn true m old why new
    tells_no_event why counts failed tears = record {
      right = λ left. subst (λ f. IsLeft f (m.items new.sink.now)) (sym formula_is) (subst (IsLeft old.formula.now) (sym same) left);
      ids = λ low. subst HaveLowIds (sym same) low;
      counts = counts;
      failed = failed;
      marks = λ s none. subst HasNoMark (sym same) none;
      tears = tears;
      formula = formula_is;
      sink = name_is;
      frame = frame;
    }

    -- it was told
    pub tidied_in : (T : Type 0) (x : T) → SinkFaultsAs {T = T} (Ok x) (m.faults old.sink.now) (m.faults new.sink.now) → HasFailedAs {T = T} (Ok x) (m.has_failed old.sink.now) (m.has_failed new.sink.now) → GoesOnIn true m old None new
    tidied_in T x counts failed = tells_no_event None counts failed (λ e. none_torn e)

    -- it was not
    pub not_tidied_in : (T : Type 0) (fault : SinkFault) (r : ℕ) → OnFailed {T = T} (Err fault) (m.torn_tidy new.sink.now r) → SinkFaultsAs {T = T} (Err fault) (m.faults old.sink.now) (m.faults new.sink.now)
        → HasFailedAs {T = T} (Err fault) (m.has_failed old.sink.now) (m.has_failed new.sink.now) → GoesOnIn true m old (Some (fault_as fault)) new
    not_tidied_in T fault_of_sink.Memory r torn counts failed = tells_no_event (Some Memory) counts failed (λ e. absurd (let f : Memory ≡ Write = cc (e) in cc (f)))
    not_tidied_in T fault_of_sink.Failed r torn counts failed = tells_no_event (Some Write) counts failed (λ e. inr (r, torn))

-- ---- the lines

-- where the lines are told, these events came after them
abbrev pub with_items : List LogEvent → Option (List (Line LogEvent)) → Option (List (Line LogEvent))
with_items events told = option_map (λ lines. lines ++ map item events) told

-- Events were told where the lines are.
pub record Gained (old : Option (List (Line LogEvent))) (old_items : Option (List LogEvent)) (new : Option (List (Line LogEvent))) (new_items : Option (List LogEvent)) : Type 0 where
  pub before : List (Line LogEvent)
  pub events : List LogEvent
  pub were : old ≡ Some before
  pub are : new ≡ Some (before ++ map item events)
  pub items_were : old_items ≡ Some (items_of before)
  pub items_are : new_items ≡ Some (items_of before ++ events)

pub items_alone : (events : List LogEvent) → items_of (map item events) ≡ events
items_alone [] = refl
items_alone (e ∷ events) = ap (λ (xs : List LogEvent). e ∷ xs) (items_alone events)

pub items_then : (before : List (Line LogEvent)) (events : List LogEvent) → items_of (before ++ map item events) ≡ items_of before ++ events
items_then before events = filter_map-append item_of before (map item events) ∙ ap (λ (xs : List LogEvent). items_of before ++ xs) (items_alone events)

same_inside : {A : Type 0} (x y : A) → Some x ≡ Some y → x ≡ y
same_inside x y e = cc (e)

-- a call that keeps what items keep: it tells events and no tidy line
pub gained : (old : Option (List (Line LogEvent))) (old_items : Option (List LogEvent)) (new : Option (List (Line LogEvent))) (new_items : Option (List LogEvent)) → AreItemsOf old old_items → AreItemsOf new new_items → GainsItems old new
    → ((old ≡ None) × (new ≡ None)) ⊎ Gained old old_items new new_items
gained None old_items new new_items were are gains = inl (refl, gains)
gained (Some before) old_items None new_items were are (events, is) = absurd (true≢false (sym (ap is_some is)))
gained (Some before) old_items (Some now) new_items were are (events, is) = inr (record {
  before = before;
  events = events;
  were = refl;
  are = is;
  items_were = were;
  items_are = are ∙ ap (λ (xs : List (Line LogEvent)). Some (items_of xs)) (same_inside now (before ++ map item events) is) ∙ ap Some (items_then before events);
})

-- the lines are those before it, and the events that it told
pub lines_then : (old : Option (List (Line LogEvent))) (old_items : Option (List LogEvent)) (new : Option (List (Line LogEvent))) (new_items : Option (List LogEvent)) → AreItemsOf old old_items → AreItemsOf new new_items → GainsItems old new
    → (events : List LogEvent) → new_items ≡ with_events events old_items → new ≡ with_items events old
lines_then old old_items new new_items were are gains events told = elim (gained old old_items new new_items were are gains) [
  | inl none ↦ none.1 ∙ sym (ap (with_items events) none.0)
  | inr g ↦
      let all : Some (items_of g.before ++ g.events) ≡ Some (items_of g.before ++ events) = sym g.items_are ∙ told ∙ ap (with_events events) g.items_were in
      let same : g.events ≡ events = append_cancel_left (items_of g.before) g.events events (same_inside (items_of g.before ++ g.events) (items_of g.before ++ events) all) in
      g.are ∙ ap (λ (xs : List LogEvent). Some (g.before ++ map item xs)) same ∙ sym (ap (with_items events) g.were)
]
