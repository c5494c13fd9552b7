-- A text that is read from a slot piece by piece stays the same text.
use Rattle.std.proofs.Common.{◌≡◌, refl, sym, ap, ◌∙◌, subst, ℕ, ◌+◌, ◌-◌, ◌≤◌, ◌==◌, ◌||◌, true, false, ◌++◌, length, arith, append_assoc, length-append, true≢false}
use Rattle.cx_desk.specs.declared.desk.Slot.{Slot}
use Rattle.cx_desk.specs.declared.calls.ReadErr.{ReadErr}
use Rattle.cx_desk.specs.declared.calls.ReadErr.TheVariants.{Memory, Failed, TooLong}
use Rattle.cx_desk.specs.Gave.{Gave, nothing, piece, joined}
use Rattle.cx_desk.specs.Outside.{Bytes, Outside}
use Rattle.cx_desk.specs.Calls.{taken, TookSome, ReadFaulted}
use Rattle.cx_desk.specs.declared.ahead.AheadErr.{AheadErr}
use Rattle.cx_desk.specs.declared.ahead.AheadErr.TheVariants as ahead
use Rattle.cx_desk.specs.Ahead.{CameAfter, NoneCame}
use Rattle.cx_desk.specs.SlotBytes.{BytesState, taken_by, BytesKept, BytesRead, Stopped, ReadingStops, RestRead, read_err_of}
use Rattle.cx_desk.proofs.Moves.{taken-twice, taken-none, none-at, or-assoc, or-none}

-- ---- one call after another

kept_then : (a b c : BytesState) → BytesKept a b → BytesKept b c → BytesKept a c
kept_then a b c h k = record { slot = k.slot ∙ h.slot; limit = k.limit ∙ h.limit; place = k.place ∙ h.place }

took_on : (slot other : Slot) (g h : Gave) (o p q : Outside) → other ≡ slot → p ≡ taken slot g o → q ≡ taken other h p → q ≡ taken slot (joined g h) o
took_on slot other g h o p q same x y = y ∙ (λ i. taken (same i) h (x i)) ∙ taken-twice slot g h o

pub read_then : (a : BytesState) (o : Outside) (b : BytesState) (p : Outside) (c : BytesState) (q : Outside) → BytesRead a o b p → BytesRead b p c q → BytesRead a o c q
read_then a o b p c q h k = record {
  kept = kept_then a b c h.kept k.kept;
  got = joined h.got k.got;
  took = took_on a.slot b.slot h.got k.got o p q h.kept.slot h.took k.took;
  after = k.after ∙ ap (λ bs. bs ++ k.got.bytes) h.after ∙ append_assoc a.bytes h.got.bytes k.got.bytes;
  ends = k.ends ∙ ap (λ e. e || k.got.ended) h.ends ∙ or-assoc a.ended h.got.ended k.got.ended;
}

-- how many bytes were read until then
counted : (a : BytesState) (o : Outside) (b : BytesState) (p : Outside) (h : BytesRead a o b p) (c : BytesState) (g : Gave) → taken_by c ≡ taken_by b + length g.bytes → taken_by c ≡ taken_by a + length (h.got.bytes ++ g.bytes)
counted a o b p h c g count = omega (arith, count, ap length h.after, length-append a.bytes h.got.bytes, length-append h.got.bytes g.bytes, h.kept.place)

-- whether the end was seen until then
ended_then : (a : BytesState) (o : Outside) (b : BytesState) (p : Outside) (h : BytesRead a o b p) (c : BytesState) (g : Gave) → c.ended ≡ (b.ended || g.ended) → c.ended ≡ (a.ended || (h.got.ended || g.ended))
ended_then a o b p h c g ends = ends ∙ ap (λ e. e || g.ended) h.ends ∙ or-assoc a.ended h.got.ended g.ended

stopped_then : (a : BytesState) (o : Outside) (b : BytesState) (p : Outside) (e : ReadErr) (c : BytesState) (q : Outside) → BytesRead a o b p → Stopped b p e c q → Stopped a o e c q
stopped_then a o b p Memory c q h (few, (g, count, k, ends)) = (few, (joined h.got g, counted a o b p h c g count, took_on a.slot b.slot h.got g o p q h.kept.slot h.took k, ended_then a o b p h c g ends))
stopped_then a o b p Failed c q h (few, (g, count, k, ends)) = (few, (joined h.got g, counted a o b p h c g count, subst (λ x. ReadFaulted x q) ((λ i. taken (h.kept.slot i) g (h.took i)) ∙ taken-twice a.slot h.got g o) k, ended_then a o b p h c g ends))
stopped_then a o b p TooLong c q h (past, still, k) = (past, still, read_then a o b p c q h k)

pub stops_then : (a : BytesState) (o : Outside) (b : BytesState) (p : Outside) (e : ReadErr) (c : BytesState) (q : Outside) → BytesRead a o b p → ReadingStops b p e c q → ReadingStops a o e c q
stops_then a o b p e c q h k = record { kept = kept_then a b c h.kept k.kept; why = stopped_then a o b p e c q h k.why }

-- ---- a piece is read

module _ (s : BytesState) (o p : Outside) (most n : ℕ) (after : Bytes) (open_still : s.ended ≡ false) (m : CameAfter s.slot most s.bytes o n after p) where
  abbrev now : BytesState
  now = record s { bytes = after; ended = n == 0 }

  kept_now : BytesKept s now
  kept_now = record { slot = refl; limit = refl; place = refl }

  pub piece_read : BytesRead s o now p
  piece_read = record {
    kept = kept_now;
    got = piece m.came;
    took = m.took;
    after = m.after_is;
    ends = sym (none-at m.came n m.count) ∙ ap (λ e. e || (piece m.came).ended) (sym open_still);
  }

  pub piece_too_long : s.place + length after ≡ s.limit + 1 → (n == 0) ≡ false → ReadingStops s o TooLong now p
  piece_too_long h some = record { kept = kept_now; why = (h, some, piece_read) }

pub nothing_read : (s : BytesState) (o p : Outside) → taken_by s ≤ s.limit → p ≡ o → ReadingStops s o Memory s p
nothing_read s o p few h = record {
  kept = record { slot = refl; limit = refl; place = refl };
  why = (few, (nothing, omega arith, h ∙ sym (taken-none s.slot o), sym (or-none s.ended)));
}

pub read_failed : (s : BytesState) (o p : Outside) → taken_by s ≤ s.limit → ReadFaulted o p → ReadingStops s o Failed s p
read_failed s o p few h = record {
  kept = record { slot = refl; limit = refl; place = refl };
  why = (few, (nothing, omega arith, subst (λ x. ReadFaulted x p) (sym (taken-none s.slot o)) h, sym (or-none s.ended)));
}

-- nothing came
pub ahead_failed : (s : BytesState) (o p : Outside) (e : AheadErr) (after : Bytes) → taken_by s ≤ s.limit → after ≡ s.bytes → NoneCame e o p → ReadingStops s o (read_err_of e) (record s { bytes = after }) p
ahead_failed s o p ahead.Memory after few same h = subst (λ (b : Bytes). ReadingStops s o Memory (record s { bytes = b }) p) (sym same) (nothing_read s o p few h)
ahead_failed s o p ahead.Failed after few same h = subst (λ (b : Bytes). ReadingStops s o Failed (record s { bytes = b }) p) (sym same) (read_failed s o p few h)

-- ---- the rest is read and not kept

module _ (s : BytesState) (o : Outside) where
  pub ended_already : taken_by s ≤ s.limit → s.ended ≡ true → RestRead s o (taken_by s) o
  ended_already h end = record {
    got = nothing;
    took = sym (taken-none s.slot o);
    whole = omega arith;
    fits = h;
    ends = or-none s.ended ∙ end;
    none = λ e. refl;
  }

  module _ (p : Outside) (n : ℕ) (open_still : s.ended ≡ false) (passes : TookSome s.slot n true o p) where
    pub rest_read : n ≤ s.limit - taken_by s → taken_by s ≤ s.limit → RestRead s o (taken_by s + n) p
    rest_read few h = record {
      got = passes.got;
      took = passes.took;
      whole = ap (λ k. taken_by s + k) (sym passes.count);
      fits = omega (arith, few, h);
      ends = ap (λ e. e || passes.got.ended) open_still ∙ passes.ends;
      none = λ e. absurd (true≢false (sym e ∙ open_still));
    }
