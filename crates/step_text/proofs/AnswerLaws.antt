-- What a reader of a slot answers.
use Rattle.std.proofs.Common.{◌≡◌, ◌≢◌, refl, sym, ap, ◌∙◌, subst, ℕ, ◌+◌, ◌-◌, ◌<◌, ◌≤◌, ◌||◌, Bool, true, false, List, [], ◌∷◌, ◌++◌, length, drop, Option, Some, None, Ok, Err, Result, nat_lt, true≢false, arith, append_assoc, append-nil, length-append, length-drop}
use Rattle.cx_desk.specs.declared.desk.Slot.{Slot}
use Rattle.cx_desk.specs.Gave.{Gave, nothing}
use Rattle.cx_desk.specs.Outside.{Outside, given_in}
use Rattle.cx_desk.specs.Calls.{taken}
use Rattle.cx_desk.specs.SlotBytes.{BytesState, taken_by, BytesKept, ReadingStops}
use Rattle.cx_desk.specs.declared.calls.ReadErr.{ReadErr}
use Rattle.cx_desk.specs.declared.calls.ReadErr.TheVariants as why
use Rattle.cx_desk.proofs.Moves.{taken-none}
use Rattle.cx_texts.specs.Tokens.{tokens_within}
use Rattle.cx_texts.specs.Pieces.{tokens_in}
use Rattle.cx_texts.specs.Words.{placed_words}
use Rattle.cx_texts.specs.Grammar.{Grammar, Reading}
use Rattle.cx_texts.specs.declared.line_state.LineState.{LineState}
use Rattle.cx_texts.specs.declared.line_state.LineState.TheVariants.{Kept}
use Rattle.cx_texts.proofs.PieceLaws.{tokens_in-nothing}
use Rattle.cx_base.specs.Endings.{Ending, finished, bad_token, too_big, unterminated}
use Rattle.step_text.specs.declared.source.TextRefusal.{TextRefusal}
use Rattle.step_text.specs.declared.source.TextRefusal.TheVariants.{BadToken, Unterminated, TooBig, TooLong, Memory, Failed}
use Rattle.step_text.specs.Found.{FoundStep}
use Rattle.step_text.specs.ReadRefusals.{refusal_of_read}
use Rattle.step_text.specs.Reading.{IsRefusal}
use Rattle.step_text.specs.Sources.{Gives, GivesNone, FaultsAs, IsTooLongOnly, PlaceRises}
use Rattle.step_text.specs.Texts.{LeftOf, IsEnding, is_spent_by}
use Rattle.step_text.specs.SlotAnswers.{PairLeaves, IsPastLimit, IsAnswer}
use Rattle.step_text.specs.Slots.{SlotState, IsToCome, IsPossible, is_too_long, OnlyGave, SlotLeaves, Took, TookBytes, Counts, CountsTaken, SlotKept, SlotFrame, ReadsOn, ReadingFails}
use Rattle.step_text.specs.SlotLeft.{counts_itself}
use Rattle.step_text.proofs.SlotLaws.{kept_then, kept_itself, still_kept, counts_then, read_counts, given_after}

-- ---- what a call took of its desk

pub took_faults : {T : Type 0} (slot : Slot) (r : Result T TextRefusal) (o p : Outside) → Took slot r o p → FaultsAs r o.faults.reads p.faults.reads
took_faults slot (Ok answer) o p (n, h) = ap (λ (x : Outside). x.faults.reads) h
took_faults slot (Err (BadToken place)) o p (n, h) = ap (λ (x : Outside). x.faults.reads) h
took_faults slot (Err (Unterminated place)) o p (n, h) = ap (λ (x : Outside). x.faults.reads) h
took_faults slot (Err (TooBig place)) o p (n, h) = ap (λ (x : Outside). x.faults.reads) h
took_faults slot (Err TooLong) o p (n, h) = ap (λ (x : Outside). x.faults.reads) h
took_faults slot (Err Memory) o p (n, h) = ap (λ (x : Outside). x.faults.reads) h
took_faults slot (Err Failed) o p (n, h) = h.rose

pub only_gave : {T : Type 0} (slot : Slot) (r : Result T TextRefusal) (g : Gave) (o p : Outside) → TookBytes slot g r o p → OnlyGave slot g o p
only_gave slot (Ok answer) g o p h = (o.faults.reads, h)
only_gave slot (Err (BadToken place)) g o p h = (o.faults.reads, h)
only_gave slot (Err (Unterminated place)) g o p h = (o.faults.reads, h)
only_gave slot (Err (TooBig place)) g o p h = (o.faults.reads, h)
only_gave slot (Err TooLong) g o p h = (o.faults.reads, h)
only_gave slot (Err Memory) g o p h = (o.faults.reads, h)
only_gave slot (Err Failed) g o p h = (p.faults.reads, h.else_same)

-- what a call keeps, by what it took
pub frame_of : {T : Type 0} (s : BytesState) (o : Outside) (r : Result T TextRefusal) (t : BytesState) (p : Outside) → SlotKept s o t p → CountsTaken s r o t p → taken_by t ≤ t.limit + 1 → SlotFrame s o t p
frame_of s o r t p kept (g, counts, took) past = record {
  slot = kept.slot;
  limit = kept.limit;
  got = g;
  counts = counts;
  read = only_gave s.slot r g o p took;
  few = λ h. past;
}

pub took_of : {T : Type 0} (s : BytesState) (o : Outside) (r : Result T TextRefusal) (t : BytesState) (p : Outside) → CountsTaken s r o t p → Took s.slot r o p
took_of s o r t p (g, counts, took) = (g, took)

-- so it is with states that show what the relation speaks of
pub gives_as : {X Y S : Type 0} (leaves : X → List S → Ending → Type 0) (shows : Y → X) (old new : Y) (r : Result (Option S) TextRefusal) → Gives leaves (shows old) r (shows new) → Gives (λ y. leaves (shows y)) old r new
gives_as leaves shows old new (Ok (Some step)) h = h
gives_as leaves shows old new (Ok None) h = h
gives_as leaves shows old new (Err (BadToken place)) h = h
gives_as leaves shows old new (Err (Unterminated place)) h = h
gives_as leaves shows old new (Err (TooBig place)) h = h
gives_as leaves shows old new (Err TooLong) h = tt
gives_as leaves shows old new (Err Memory) h = tt
gives_as leaves shows old new (Err Failed) h = tt

module _ {S : Type 0} (g : Grammar S) where
  -- ---- one call after another

  moved : (a : SlotState) (o : Outside) (b : SlotState) (p : Outside) → ReadsOn a o b p → (text : List ℕ) (steps : List S) (ending : Ending) → SlotLeaves g b p text steps ending → SlotLeaves g a o text steps ending
  moved a o b p h text steps ending (more, come, left) =
      let t = h.text text more come in (
        t.0,
        t.1,
        subst (λ (x : ℕ). LeftOf g (tokens_in a.line a.bytes.place (a.bytes.bytes ++ t.0)) x a.refused steps ending) (sym t.3)
            (subst (λ ts. LeftOf g ts (taken_by b.bytes + length more) a.refused steps ending) (sym t.2) (subst (λ r. LeftOf g (tokens_in b.line b.bytes.place (b.bytes.bytes ++ more)) (taken_by b.bytes + length more) r steps ending) h.refused left)),
      )

  gives_then : (text : List ℕ) (a : SlotState) (o : Outside) (b : SlotState) (p : Outside) (r : Result (Option S) TextRefusal) (c : SlotState) (q : Outside) → ReadsOn a o b p → Gives (PairLeaves g text) (b, p) r (c, q) → Gives (PairLeaves g text) (a, o) r (c, q)
  gives_then text a o b p (Ok (Some step)) c q h k = λ steps ending left. moved a o b p h text (step ∷ steps) ending (k steps ending left)
  gives_then text a o b p (Ok None) c q h k = (moved a o b p h text [] finished k.0, k.1)
  gives_then text a o b p (Err (BadToken place)) c q h k = (moved a o b p h text [] (bad_token place) k.0, k.1)
  gives_then text a o b p (Err (Unterminated place)) c q h k = (moved a o b p h text [] (unterminated place) k.0, k.1)
  gives_then text a o b p (Err (TooBig place)) c q h k = (moved a o b p h text [] (too_big place) k.0, k.1)
  gives_then text a o b p (Err TooLong) c q h k = k
  gives_then text a o b p (Err Memory) c q h k = k
  gives_then text a o b p (Err Failed) c q h k = k

  -- a text that may be the slot's might have been it before, and is as long
  narrowed : (a : SlotState) (o : Outside) (b : SlotState) (p : Outside) → ReadsOn a o b p → (text : List ℕ) → IsPossible b.bytes p text → IsPossible a.bytes o text × (is_too_long b.bytes p text ≡ is_too_long a.bytes o text)
  narrowed a o b p h text (more, come) =
      let t = h.text text more come in
      let now : length text ≡ length (given_in b.bytes.slot p.given).bytes + length more = ap length come.1 ∙ length-append (given_in b.bytes.slot p.given).bytes more in
      let old : length text ≡ length (given_in a.bytes.slot o.given).bytes + length t.0 = ap length t.1.1 ∙ length-append (given_in a.bytes.slot o.given).bytes t.0 in
      let same : taken_by b.bytes + (length text - length (given_in b.bytes.slot p.given).bytes) ≡ taken_by a.bytes + (length text - length (given_in a.bytes.slot o.given).bytes) = omega (arith, now, old, t.3) in
      ((t.0, t.1), (λ i. Some (nat_lt (h.kept.limit i) (same i))))

  rises_then : (low mid high : ℕ) (r : Result (Option S) TextRefusal) → low ≤ mid → PlaceRises r mid high → PlaceRises r low high
  rises_then low mid high (Ok (Some step)) h k = omega (arith, h, k)
  rises_then low mid high (Ok None) h k = omega (arith, h, k)
  rises_then low mid high (Err e) h k = omega (arith, h, k)

  pub answer_then : (a : SlotState) (o : Outside) (b : SlotState) (p : Outside) (r : Result (Option S) TextRefusal) (c : SlotState) (q : Outside) → ReadsOn a o b p → IsAnswer g b p r c q → IsAnswer g a o r c q
  answer_then a o b p r c q h k = record {
    gives = λ text may. gives_then text a o b p r c q h (k.gives text may);
    narrows = λ text may.
        let later = k.narrows text may in
        let before = narrowed a o b p h text later.0 in
        (before.0, later.1 ∙ before.1, subst (λ (l : Option Bool). IsTooLongOnly l r) before.1 later.2);
    kept = kept_then a.bytes o b.bytes p c.bytes q h.kept k.kept;
    took = counts_then a o b p r c.bytes q h k.took;
    past = k.past;
    rises = rises_then a.bytes.place b.bytes.place c.bytes.place r h.kept.rises k.rises;
    fresh = k.fresh;
  }

  -- reading stopped after these bytes
  stop_narrows : (a : SlotState) (o : Outside) (b : SlotState) (p : Outside) (got : Gave) → a.bytes.ended ≡ false → BytesKept a.bytes b.bytes → taken_by b.bytes ≡ taken_by a.bytes + length got.bytes
      → p.given ≡ (taken a.bytes.slot got o).given → (text : List ℕ) → IsPossible b.bytes p text → IsPossible a.bytes o text × (is_too_long b.bytes p text ≡ is_too_long a.bytes o text)
  stop_narrows a o b p got still kept count same text (more, come) =
      let given : (given_in b.bytes.slot p.given).bytes ≡ (given_in a.bytes.slot o.given).bytes ++ got.bytes = (λ i. (given_in (kept.slot i) (same i)).bytes) ∙ given_after a.bytes.slot got o (taken a.bytes.slot got o) refl in
      let split : text ≡ (given_in a.bytes.slot o.given).bytes ++ (got.bytes ++ more) = come.1 ∙ ap (λ x. x ++ more) given ∙ append_assoc (given_in a.bytes.slot o.given).bytes got.bytes more in
      let size : taken_by b.bytes + (length text - length (given_in b.bytes.slot p.given).bytes) ≡ taken_by a.bytes + (length text - length (given_in a.bytes.slot o.given).bytes) =
      omega (arith, count, ap length given, length-append (given_in a.bytes.slot o.given).bytes got.bytes, ap length come.1, length-append (given_in b.bytes.slot p.given).bytes more) in
      ((got.bytes ++ more, ((λ e. absurd (true≢false (sym e ∙ still))), split)), (λ i. Some (nat_lt (kept.limit i) (size i))))

  long_past : (a : SlotState) (o : Outside) (b : SlotState) (p : Outside) (text : List ℕ) → b.bytes.limit < taken_by b.bytes → is_too_long b.bytes p text ≡ is_too_long a.bytes o text → ¬ (is_too_long a.bytes o text ≡ Some false)
  long_past a o b p text past same e =
      let n = taken_by b.bytes + (length text - length (given_in b.bytes.slot p.given).bytes) in
      let k : nat_lt b.bytes.limit n ≡ false = cc (same ∙ e) in
      let l = Rattle.std.proofs.Common.ltb-false b.bytes.limit n k in
      omega (arith, l, past)

  stop_counts : (a b : SlotState) (got : Gave) → a.bytes.ended ≡ false → taken_by b.bytes ≡ taken_by a.bytes + length got.bytes → b.bytes.ended ≡ (a.bytes.ended || got.ended) → Counts a.bytes got b.bytes
  stop_counts a b got still count ends = record { count = count; ends = ends; none = λ e. absurd (true≢false (sym e ∙ still)) }

  stopped_answer : (a : SlotState) (o : Outside) (e : ReadErr) (b : SlotState) (p : Outside) → a.bytes.ended ≡ false → ReadingStops a.bytes o e b.bytes p → IsAnswer g a o (Err (refusal_of_read e)) b p
  stopped_answer a o why.Memory b p still h =
      let kept = still_kept a.bytes o b.bytes p h.kept in
      let (got, count, took, ends) = h.why.1 in
      record {
        gives = λ text may. tt;
        narrows = λ text may. let n = stop_narrows a o b p got still h.kept count (ap (λ (x : Outside). x.given) took) text may in (n.0, n.1, tt);
        kept = kept;
        took = (got, stop_counts a b got still count ends, took);
        past = h.why.0;
        rises = kept.rises;
        fresh = tt;
      }
  stopped_answer a o why.Failed b p still h =
      let kept = still_kept a.bytes o b.bytes p h.kept in
      let (got, count, took, ends) = h.why.1 in
      record {
        gives = λ text may. tt;
        narrows = λ text may. let n = stop_narrows a o b p got still h.kept count (ap (λ (x : Outside). x.given) took.else_same) text may in (n.0, n.1, tt);
        kept = kept;
        took = (got, stop_counts a b got still count ends, took);
        past = h.why.0;
        rises = kept.rises;
        fresh = tt;
      }
  stopped_answer a o why.TooLong b p still h =
      let kept = still_kept a.bytes o b.bytes p h.kept in
      let r = h.why.2 in
      let past : b.bytes.limit < taken_by b.bytes = omega (arith, h.why.0) in
      let counts = read_counts a.bytes o b.bytes p still r in
      record {
        gives = λ text may. tt;
        narrows = λ text may. let n = stop_narrows a o b p r.got still h.kept counts.count (ap (λ (x : Outside). x.given) r.took) text may in (n.0, n.1, long_past a o b p text past n.1);
        kept = kept;
        took = (r.got, counts, r.took);
        past = past;
        rises = kept.rises;
        fresh = tt;
      }

  pub failed_answer : (a : SlotState) (o : Outside) (e : TextRefusal) (b : SlotState) (p : Outside) → a.bytes.ended ≡ false → ReadingFails a.bytes o e b.bytes p → IsAnswer g a o (Err e) b p
  failed_answer a o e b p still (cause, is, h) = subst (λ (x : TextRefusal). IsAnswer g a o (Err x) b p) (sym is) (stopped_answer a o cause b p still h)

  -- ---- a refusal that was answered

  stuck_left : (s : SlotState) (o : Outside) (text : List ℕ) → IsPossible s.bytes o text → (r : TextRefusal) (ending : Ending) → s.refused ≡ Some r → IsEnding r ending → SlotLeaves g s o text [] ending
  stuck_left s o text c r ending e is =
      (c.0, c.1, subst (λ (q : Option TextRefusal). LeftOf g (tokens_in s.line s.bytes.place (s.bytes.bytes ++ c.0)) (taken_by s.bytes + length c.0) q [] ending) (sym e) (refl, is))

  pub stuck_gives : (s : SlotState) (o : Outside) (text : List ℕ) → IsPossible s.bytes o text → (r : TextRefusal) → s.refused ≡ Some r → GivesNone (PairLeaves g text) r (s, o) (s, o)
  stuck_gives s o text c (BadToken place) e = let left = stuck_left s o text c (BadToken place) (bad_token place) e refl in (left, left)
  stuck_gives s o text c (Unterminated place) e = let left = stuck_left s o text c (Unterminated place) (unterminated place) e refl in (left, left)
  stuck_gives s o text c (TooBig place) e = let left = stuck_left s o text c (TooBig place) (too_big place) e refl in (left, left)
  stuck_gives s o text c TooLong e = tt
  stuck_gives s o text c Memory e = tt
  stuck_gives s o text c Failed e = tt

  pub refused_gives : (a : SlotState) (o : Outside) (b : SlotState) (p : Outside) (text : List ℕ) (r : TextRefusal) (t : SlotState) → GivesNone (PairLeaves g text) r (a, o) (b, p) → IsPossible t.bytes p text → t.refused ≡ Some r → GivesNone (PairLeaves g text) r (a, o) (t, p)
  refused_gives a o b p text (BadToken place) t h c e = (h.0, stuck_left t p text c (BadToken place) (bad_token place) e refl)
  refused_gives a o b p text (Unterminated place) t h c e = (h.0, stuck_left t p text c (Unterminated place) (unterminated place) e refl)
  refused_gives a o b p text (TooBig place) t h c e = (h.0, stuck_left t p text c (TooBig place) (too_big place) e refl)
  refused_gives a o b p text TooLong t h c e = tt
  refused_gives a o b p text Memory t h c e = tt
  refused_gives a o b p text Failed t h c e = tt

  pub stuck_counts : (s : BytesState) (o : Outside) (r : TextRefusal) → is_spent_by (Some r) ≡ false → CountsTaken {T = Option S} s (Err r) o s o
  stuck_counts s o (BadToken place) h = (nothing, counts_itself s, sym (taken-none s.slot o))
  stuck_counts s o (Unterminated place) h = (nothing, counts_itself s, sym (taken-none s.slot o))
  stuck_counts s o (TooBig place) h = (nothing, counts_itself s, sym (taken-none s.slot o))
  stuck_counts s o TooLong h = (nothing, counts_itself s, sym (taken-none s.slot o))
  stuck_counts s o Memory h = (nothing, counts_itself s, sym (taken-none s.slot o))
  stuck_counts s o Failed h = absurd (true≢false h)

  -- a text over its limit is told so again
  pub stuck_long : (s : SlotState) (o : Outside) (text : List ℕ) (r : TextRefusal) → (r ≡ TooLong → s.bytes.limit < taken_by s.bytes) → IsTooLongOnly {S = S} (is_too_long s.bytes o text) (Err r)
  stuck_long s o text (BadToken place) h = tt
  stuck_long s o text (Unterminated place) h = tt
  stuck_long s o text (TooBig place) h = tt
  stuck_long s o text TooLong h = long_past s o s o text (h refl) refl
  stuck_long s o text Memory h = tt
  stuck_long s o text Failed h = tt

  -- ---- what the bytes at hand tell

  module _ (s : SlotState) (fresh : s.refused ≡ None) (line : s.bytes.bytes ≢ [] → s.line ≡ Kept) where
    is_kept : 0 < length s.bytes.bytes → s.line ≡ Kept
    is_kept h = line (λ e. let k : length s.bytes.bytes ≡ 0 = ap length e in omega (arith, h, k))

    abbrev behind_step : ℕ → LineState → SlotState
    behind_step next line = record s { bytes = record s.bytes { bytes = drop (next - s.bytes.place) s.bytes.bytes; place = next }; line = line }

    pub step_answer : (o : Outside) (step : S) (next : ℕ) (line : LineState) → FoundStep g s.bytes.ended s.bytes.place s.bytes.bytes step next line → IsAnswer g s o (Ok (Some step)) (behind_step next line) o
    step_answer o step next line f =
        let kept : s.line ≡ Kept = is_kept (omega (arith, f.some, f.inside)) in
        let k : next - s.bytes.place ≡ f.behind = omega (arith, f.at) in
        let sum : next + length (drop (next - s.bytes.place) s.bytes.bytes) ≡ s.bytes.place + length s.bytes.bytes = omega (arith, f.at, f.inside, k, ap (λ n. length (drop n s.bytes.bytes)) k, length-drop f.behind s.bytes.bytes) in
        record {
          gives = λ text may steps ending (more, come, left). (
            more,
            come,
            let size : (next + length (drop (next - s.bytes.place) s.bytes.bytes)) + length more ≡ taken_by s.bytes + length more = ap (λ n. n + length more) sum in
                let reading : Reading g (taken_by s.bytes + length more) (placed_words (tokens_in line next (drop (next - s.bytes.place) s.bytes.bytes ++ more))) steps ending =
                subst (λ (n : ℕ). Reading g n (placed_words (tokens_in line next (drop (next - s.bytes.place) s.bytes.bytes ++ more))) steps ending) size
                (subst (λ (r : Option TextRefusal). LeftOf g (tokens_in line next (drop (next - s.bytes.place) s.bytes.bytes ++ more)) ((next + length (drop (next - s.bytes.place) s.bytes.bytes)) + length more) r steps ending) fresh left) in
                let rest : Reading g (taken_by s.bytes + length more) (placed_words (tokens_in line next (drop f.behind s.bytes.bytes ++ more))) steps ending =
                subst (λ (n : ℕ). Reading g (taken_by s.bytes + length more) (placed_words (tokens_in line next (drop n s.bytes.bytes ++ more))) steps ending) k reading in
                subst (λ (r : Option TextRefusal). LeftOf g (tokens_in s.line s.bytes.place (s.bytes.bytes ++ more)) (taken_by s.bytes + length more) r (step ∷ steps) ending) (sym fresh)
                (subst (λ l. Reading g (taken_by s.bytes + length more) (placed_words (tokens_in l s.bytes.place (s.bytes.bytes ++ more))) (step ∷ steps) ending) (sym kept)
                (placed_words (tokens_in line next (drop f.behind s.bytes.bytes ++ more)), f.spells more come.0, rest)),
          );
          kept = record {
            slot = refl;
            limit = refl;
            rises = omega (arith, f.at);
          };
          narrows = λ text may. (may, ap (λ n. Some (nat_lt s.bytes.limit (n + (length text - length (given_in s.bytes.slot o.given).bytes)))) sum, tt);
          took = (nothing, record { count = omega (arith, sum); ends = (counts_itself s.bytes).ends; none = λ e. refl }, sym (taken-none s.bytes.slot o));
          past = tt;
          rises = omega (arith, f.at, f.some);
          fresh = fresh;
        }

    -- an ending of the text from here on
    ends_here : (ending : Ending) (more : List ℕ) → Rattle.cx_texts.specs.Grammar.EndsAs g (taken_by s.bytes + length more) ending (placed_words (tokens_in s.line s.bytes.place (s.bytes.bytes ++ more)))
        → LeftOf g (tokens_in s.line s.bytes.place (s.bytes.bytes ++ more)) (taken_by s.bytes + length more) s.refused [] ending
    ends_here ending more h = subst (λ (r : Option TextRefusal). LeftOf g (tokens_in s.line s.bytes.place (s.bytes.bytes ++ more)) (taken_by s.bytes + length more) r [] ending) (sym fresh) h

    nothing_left : (bs : List ℕ) → s.bytes.bytes ≡ bs → tokens_within s.bytes.place s.bytes.bytes ≡ [] → tokens_in s.line s.bytes.place (s.bytes.bytes ++ []) ≡ []
    nothing_left [] e h = ap (λ bs. tokens_in s.line s.bytes.place (bs ++ [])) e ∙ tokens_in-nothing s.line s.bytes.place
    nothing_left (b ∷ bs) e h =
        (λ i. tokens_in (is_kept (omega (arith, ap length e)) i) s.bytes.place (append-nil s.bytes.bytes i)) ∙ h

    end_long : (o : Outside) (text : List ℕ) → text ≡ (given_in s.bytes.slot o.given).bytes → taken_by s.bytes ≤ s.bytes.limit → ¬ (is_too_long s.bytes o text ≡ Some true)
    end_long o text all l h =
        let n = taken_by s.bytes + (length text - length (given_in s.bytes.slot o.given).bytes) in
        let k : nat_lt s.bytes.limit n ≡ true = cc (h) in
        let m = Rattle.std.proofs.Common.ltb-true s.bytes.limit n k in
        omega (arith, m, ap length all, l)

    pub end_answer : (o : Outside) → taken_by s.bytes ≤ s.bytes.limit → (s.bytes.ended ≡ true) × (tokens_within s.bytes.place s.bytes.bytes ≡ []) → IsAnswer g s o (Ok None) s o
    end_answer o within (end, none) = record {
      gives = λ text (more, come). let left = left_none text more come in (left, left);
      narrows = λ text (more, come). ((more, come), refl, end_long o text (all text more come) within);
      kept = kept_itself s.bytes o;
      took = (nothing, counts_itself s.bytes, sym (taken-none s.bytes.slot o));
      past = tt;
      rises = omega arith;
      fresh = fresh;
    }
      where
        all : (text more : List ℕ) → IsToCome s.bytes text o more → text ≡ (given_in s.bytes.slot o.given).bytes
        all text more come = come.1 ∙ ap (λ m. (given_in s.bytes.slot o.given).bytes ++ m) (come.0 end) ∙ append-nil (given_in s.bytes.slot o.given).bytes

        left_none : (text more : List ℕ) → IsToCome s.bytes text o more → SlotLeaves g s o text [] finished
        left_none text more come = ([], ((λ k. refl), come.1 ∙ ap (λ m. (given_in s.bytes.slot o.given).bytes ++ m) (come.0 end)), ends_here finished [] (ap placed_words (nothing_left s.bytes.bytes refl none)))

    abbrev IsRefusedFor : TextRefusal → Type 0
    IsRefusedFor r = (more : List ℕ) → (s.bytes.ended ≡ true → more ≡ []) → IsRefusal g (taken_by s.bytes + length more) r (placed_words (tokens_within s.bytes.place (s.bytes.bytes ++ more)))

    refused_left : (o : Outside) (text : List ℕ) → IsPossible s.bytes o text → (ending : Ending) → 0 < length s.bytes.bytes
        → ((more : List ℕ) → (s.bytes.ended ≡ true → more ≡ []) → Rattle.cx_texts.specs.Grammar.EndsAs g (taken_by s.bytes + length more) ending (placed_words (tokens_within s.bytes.place (s.bytes.bytes ++ more)))) → SlotLeaves g s o text [] ending
    refused_left o text c ending some h =
        (c.0, c.1, ends_here ending c.0 (subst (λ l. Rattle.cx_texts.specs.Grammar.EndsAs g (taken_by s.bytes + length c.0) ending (placed_words (tokens_in l s.bytes.place (s.bytes.bytes ++ c.0)))) (sym (is_kept some)) (h c.0 c.1.0)))

    same_state : (o : Outside) (r : TextRefusal) → ((text : List ℕ) → IsPossible s.bytes o text → Gives (PairLeaves g text) (s, o) (Err r) (s, o)) → CountsTaken {T = Option S} s.bytes (Err r) o s.bytes o
        → ((text : List ℕ) → IsTooLongOnly {S = S} (is_too_long s.bytes o text) (Err r)) → IsPastLimit r s.bytes → IsAnswer g s o (Err r) s o
    same_state o r gives took long past = record { gives = gives; narrows = λ text may. (may, refl, long text); kept = kept_itself s.bytes o; took = took; past = past; rises = omega arith; fresh = tt }

    pub refusal_answer : (o : Outside) (r : TextRefusal) → taken_by s.bytes ≤ s.bytes.limit → (0 < length s.bytes.bytes) × IsRefusedFor r → IsAnswer g s o (Err r) s o
    refusal_answer o (BadToken place) within (some, h) = same_state o (BadToken place) (λ text c. let left = refused_left o text c (bad_token place) some h in (left, left)) (stuck_counts s.bytes o (BadToken place) refl) (λ text. tt) within
    refusal_answer o (Unterminated place) within (some, h) = same_state o (Unterminated place) (λ text c. let left = refused_left o text c (unterminated place) some h in (left, left)) (stuck_counts s.bytes o (Unterminated place) refl) (λ text. tt) within
    refusal_answer o (TooBig place) within (some, h) = same_state o (TooBig place) (λ text c. let left = refused_left o text c (too_big place) some h in (left, left)) (stuck_counts s.bytes o (TooBig place) refl) (λ text. tt) within
    refusal_answer o TooLong within (some, h) = absurd (h [] (λ e. refl))
    refusal_answer o Memory within (some, h) = same_state o Memory (λ text c. tt) (nothing, counts_itself s.bytes, sym (taken-none s.bytes.slot o)) (λ text. tt) within
    refusal_answer o Failed within (some, h) = absurd (h [] (λ e. refl))
