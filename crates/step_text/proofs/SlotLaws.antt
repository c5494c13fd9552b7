-- A text that is read from a slot piece by piece stays the same text.
use Rattle.std.proofs.Common.{◌≡◌, ◌≢◌, refl, sym, ap, ◌∙◌, subst, ℕ, ◌+◌, ◌-◌, ◌<◌, ◌≤◌, true, false, List, [], ◌++◌, length, drop, Some, Ok, Err, Result, true≢false, arith, append_assoc, length-append, length-drop}
use Rattle.cx_desk.specs.declared.desk.Slot.{Slot}
use Rattle.cx_desk.specs.declared.desk.Slot.TheVariants.{Formula, Second}
use Rattle.cx_desk.specs.Gave.{Gave, nothing, joined}
use Rattle.cx_desk.specs.Outside.{Outside, given_in, started_in}
use Rattle.cx_desk.specs.Calls.{taken, ReadFaulted, FaultedAfter, TookSome}
use Rattle.cx_desk.specs.SlotBytes.{BytesState, taken_by, BytesKept, BytesRead, ReadingStops, RestRead}
use Rattle.cx_desk.specs.declared.calls.ReadErr.{ReadErr}
use Rattle.cx_desk.specs.declared.calls.ReadErr.TheVariants as why
use Rattle.cx_desk.specs.declared.draining.DrainErr.TheVariants as drained
use Rattle.cx_desk.proofs.Moves.{taken-twice, taken-none}
use Rattle.cx_texts.specs.Pieces.{tokens_in}
use Rattle.cx_texts.specs.declared.line_state.LineState.{LineState}
use Rattle.step_text.specs.ReadRefusals.{refusal_of_read}
use Rattle.step_text.specs.declared.source.TextRefusal.{TextRefusal}
use Rattle.step_text.specs.declared.source.TextRefusal.TheVariants.{BadToken, Unterminated, TooBig, TooLong, Memory, Failed}
use Rattle.step_text.specs.Slots.{SlotState, IsToCome, TookBytes, Counts, CountsTaken, SlotKept, ReadsOn, DrainsRest}
use Rattle.step_text.specs.SlotLeft.{counts_itself, counts_on}

-- ---- one call after another

took_on : (slot other : Slot) (n m : Gave) (o p q : Outside) → other ≡ slot → p ≡ taken slot n o → q ≡ taken other m p → q ≡ taken slot (joined n m) o
took_on slot other n m o p q same h k = k ∙ (λ i. taken (same i) m (h i)) ∙ taken-twice slot n m o

bytes_then : {T : Type 0} (slot other : Slot) (r : Result T TextRefusal) (n m : Gave) (o p q : Outside) → other ≡ slot → p ≡ taken slot n o → TookBytes other m r p q → TookBytes slot (joined n m) r o q
bytes_then slot other (Ok answer) n m o p q same h k = took_on slot other n m o p q same h k
bytes_then slot other (Err (BadToken place)) n m o p q same h k = took_on slot other n m o p q same h k
bytes_then slot other (Err (Unterminated place)) n m o p q same h k = took_on slot other n m o p q same h k
bytes_then slot other (Err (TooBig place)) n m o p q same h k = took_on slot other n m o p q same h k
bytes_then slot other (Err TooLong) n m o p q same h k = took_on slot other n m o p q same h k
bytes_then slot other (Err Memory) n m o p q same h k = took_on slot other n m o p q same h k
bytes_then slot other (Err Failed) n m o p q same h k = subst (λ x. ReadFaulted x q) ((λ i. taken (same i) m (h i)) ∙ taken-twice slot n m o) k

pub counts_then : {T : Type 0} (a : SlotState) (o : Outside) (b : SlotState) (p : Outside) (r : Result T TextRefusal) (c : BytesState) (q : Outside) → ReadsOn a o b p → CountsTaken b.bytes r p c q → CountsTaken a.bytes r o c q
counts_then a o b p r c q h (m, counts, k) = (
  joined h.took.0 m,
  counts_on a.bytes b.bytes c h.took.0 m h.took.1 counts,
  bytes_then a.bytes.slot b.bytes.slot r h.took.0 m o p q h.kept.slot h.took.2 k,
)

pub kept_then : (a : BytesState) (o : Outside) (b : BytesState) (p : Outside) (c : BytesState) (q : Outside) → SlotKept a o b p → SlotKept b p c q → SlotKept a o c q
kept_then a o b p c q h k = record {
  slot = k.slot ∙ h.slot;
  limit = k.limit ∙ h.limit;
  rises = let x = h.rises in let y = k.rises in omega arith;
}

pub kept_itself : (s : BytesState) (o : Outside) → SlotKept s o s o
kept_itself s o = record { slot = refl; limit = refl; rises = omega arith }

pub reads_itself : (s : SlotState) (o : Outside) → ReadsOn s o s o
reads_itself s o = record { kept = kept_itself s.bytes o; refused = refl; took = (nothing, counts_itself s.bytes, sym (taken-none s.bytes.slot o)); text = λ text more come. (more, come, refl, refl) }

pub reads_then : (a : SlotState) (o : Outside) (b : SlotState) (p : Outside) (c : SlotState) (q : Outside) → ReadsOn a o b p → ReadsOn b p c q → ReadsOn a o c q
reads_then a o b p c q h k = record {
  kept = kept_then a.bytes o b.bytes p c.bytes q h.kept k.kept;
  refused = k.refused ∙ h.refused;
  took = (
    joined h.took.0 k.took.0,
    counts_on a.bytes b.bytes c.bytes h.took.0 k.took.0 h.took.1 k.took.1,
    took_on a.bytes.slot b.bytes.slot h.took.0 k.took.0 o p q h.kept.slot h.took.2 k.took.2,
  );
  text = λ text more come.
      let y = k.text text more come in
      let x = h.text text y.0 y.1 in
      (x.0, x.1, x.2 ∙ y.2, x.3 ∙ y.3);
}

-- ---- blanks are passed

abbrev passed : ℕ → BytesState → BytesState
passed at b = record b { bytes = drop at b.bytes; place = b.place + at }

pub passes_on : (s : SlotState) (at : ℕ) (line : LineState) → at ≤ length s.bytes.bytes
    → ((place : ℕ) (more : List ℕ) → tokens_in s.line place (s.bytes.bytes ++ more) ≡ tokens_in line (place + at) (drop at s.bytes.bytes ++ more))
    → (o : Outside) → ReadsOn s o (record s { bytes = passed at s.bytes; line = line }) o
passes_on s at line high left o =
    let same : taken_by (passed at s.bytes) ≡ taken_by s.bytes = omega (arith, length-drop at s.bytes.bytes) in
    record {
      kept = record {
        slot = refl;
        limit = refl;
        rises = omega arith;
      };
      refused = refl;
      took = (nothing, record { count = omega (arith, same); ends = (counts_itself s.bytes).ends; none = λ e. refl }, sym (taken-none s.bytes.slot o));
      text = λ text more come. (more, come, left s.bytes.place more, ap (λ k. k + length more) (sym same));
    }

-- ---- more is read

pub still_kept : (b : BytesState) (o : Outside) (c : BytesState) (p : Outside) → BytesKept b c → SlotKept b o c p
still_kept b o c p k = record { slot = k.slot; limit = k.limit; rises = omega (arith, k.place) }

pub given_after : (slot : Slot) (g : Gave) (o p : Outside) → p ≡ taken slot g o → (given_in slot p.given).bytes ≡ (given_in slot o.given).bytes ++ g.bytes
given_after slot g o p h = ap (λ (x : Outside). (given_in slot x.given).bytes) h ∙ elim slot as (λ k. (given_in k (taken k g o).given).bytes ≡ (given_in k o.given).bytes ++ g.bytes) [ Formula ↦ refl | Second ↦ refl ]

-- what is to come of a text was to come after what was read
came_before : (b : BytesState) (o : Outside) (c : BytesState) (p : Outside) (still : b.ended ≡ false) (r : BytesRead b o c p) (text more : List ℕ) → IsToCome c text p more → IsToCome b text o (r.got.bytes ++ more)
came_before b o c p still r text more (empty, split) = (
  (λ e. absurd (true≢false (sym e ∙ still))),
  split ∙ ap (λ x. x ++ more) (ap (λ k. (given_in k p.given).bytes) r.kept.slot ∙ given_after b.slot r.got o p r.took) ∙ append_assoc (given_in b.slot o.given).bytes r.got.bytes more,
)

-- what came is counted
pub read_counts : (b : BytesState) (o : Outside) (c : BytesState) (p : Outside) → b.ended ≡ false → (r : BytesRead b o c p) → Counts b r.got c
read_counts b o c p still r = record {
  count = omega (arith, ap length r.after, length-append b.bytes r.got.bytes, r.kept.place);
  ends = r.ends;
  none = λ e. absurd (true≢false (sym e ∙ still));
}

pub reads_on : (s : SlotState) (o : Outside) (c : BytesState) (p : Outside) → s.bytes.ended ≡ false → BytesRead s.bytes o c p → ReadsOn s o (record s { bytes = c }) p
reads_on s o c p still r = record {
  kept = still_kept s.bytes o c p r.kept;
  refused = refl;
  took = (r.got, read_counts s.bytes o c p still r, r.took);
  text = λ text more come.
      let bytes : s.bytes.bytes ++ (r.got.bytes ++ more) ≡ c.bytes ++ more = sym (append_assoc s.bytes.bytes r.got.bytes more) ∙ ap (λ bs. bs ++ more) (sym r.after) in (
        r.got.bytes ++ more,
        came_before s.bytes o c p still r text more come,
        (λ i. tokens_in s.line (sym r.kept.place i) (bytes i)),
        (let e : taken_by s.bytes + length (r.got.bytes ++ more) ≡ taken_by c + length more = omega (arith, ap length bytes, length-append s.bytes.bytes (r.got.bytes ++ more), length-append c.bytes more, r.kept.place) in e),
      );
}

-- a byte past the limit is read just where that is answered
pub past_limit : (b : BytesState) (o : Outside) (c : BytesState) (p : Outside) (e : ReadErr) → ReadingStops b o e c p → Some (refusal_of_read e) ≡ Some TooLong → c.limit < taken_by c
past_limit b o c p why.Memory k same = cc
past_limit b o c p why.Failed k same = cc
past_limit b o c p why.TooLong k same = omega (arith, k.why.0)

pub below_limit : (b : BytesState) (o : Outside) (c : BytesState) (p : Outside) (e : ReadErr) → ReadingStops b o e c p → Some (refusal_of_read e) ≢ Some TooLong → taken_by c ≤ c.limit
below_limit b o c p why.Memory k other = k.why.0
below_limit b o c p why.Failed k other = k.why.0
below_limit b o c p why.TooLong k other = absurd (other refl)

pub started_still : (a : SlotState) (o : Outside) (b : SlotState) (p : Outside) → ReadsOn a o b p → started_in a.bytes.slot o.started ≡ true → started_in b.bytes.slot p.started ≡ true
started_still a o b p h e = (λ i. started_in (h.kept.slot i) ((ap (λ (x : Outside). x.started) h.took.2) i)) ∙ e

-- ---- the rest is drained

module _ (s : BytesState) (o : Outside) where
  pub over_already : s.limit < taken_by s → taken_by s ≤ s.limit + 1 → DrainsRest {T = ℕ} s o (Err drained.TooLong) o
  over_already h most = (nothing, sym (taken-none s.slot o), (λ e. refl), omega (arith, h, most))

  pub rest_drained : (len : ℕ) (p : Outside) → RestRead s o len p → DrainsRest s o (Ok len) p
  rest_drained len p r = (r.got, r.took, r.none, omega (arith, r.whole, r.fits), r.ends)

  module _ (p : Outside) (open_still : s.ended ≡ false) (within : taken_by s ≤ s.limit) where
    none_read : (g : Gave) → s.ended ≡ true → g.bytes ≡ []
    none_read g e = absurd (true≢false (sym e ∙ open_still))

    pub drain_failed : FaultedAfter s.slot (s.limit - taken_by s) o p → DrainsRest {T = ℕ} s o (Err drained.Failed) p
    drain_failed (g, few, k) = (g, k, none_read g, omega (arith, within, few))

    pub too_much : TookSome s.slot ((s.limit - taken_by s) + 1) false o p → DrainsRest {T = ℕ} s o (Err drained.TooLong) p
    too_much t = (t.got, t.took, none_read t.got, omega (arith, t.count, within))
