-- What happens to a desk from which a slot is read while a proof is printed on its Proof port.
use Rattle.std.specs.Prelude.{refl, ◌≡◌, ◌+◌, ◌≤◌, ℕ, Bool, true, false, ◌++◌, take}
use Rattle.std.proofs.Common.{sym, ap, ◌∙◌, subst}
use Rattle.cx_desk.specs.declared.desk.Slot.{Slot}
use Rattle.cx_desk.specs.declared.desk.Port.TheVariants.{Proof}
use Rattle.cx_desk.specs.Gave.{Gave, nothing, joined}
use Rattle.cx_desk.specs.Outside.{Bytes, Outside}
use Rattle.cx_desk.specs.Calls.{taken, gained, WriteFaulted}
use Rattle.cx_desk.specs.SlotBytes.{BytesState, taken_by}
use Rattle.cx_desk.proofs.Moves.{taken-twice, taken-none}
use Rattle.step_text.specs.Slots.{Counts}
use Rattle.step_text.specs.SlotLeft.{counts_itself, counts_on}
use Rattle.cx_texts.specs.Printed.{printed_proof}
use Rattle.proof_text.specs.Told.{step_line, Goes}
use Rattle.proof_text.specs.ToldSteps.{goes_itself, goes_on}

-- the slot gave this, and this many faults of reading are counted now
abbrev pub read_by : Slot → Gave → ℕ → Outside → Outside
read_by s g reads o = record (taken s g o) { faults = record o.faults { reads = reads } }

-- From a reader and its desk to later ones: the slot gave something, and steps were printed on the Proof port. Neither touches what
-- the other speaks of, so all that was read may come first.
pub record ReadsAndPrints (s : BytesState) (first : Bool) (o : Outside) (t : BytesState) (last : Bool) (p : Outside) : Type 0 where
  pub slot : t.slot ≡ s.slot
  pub limit : t.limit ≡ s.limit
  pub got : Gave
  pub counts : Counts s got t
  pub few : taken_by s ≤ s.limit + 1 → taken_by t ≤ t.limit + 1
  pub goes : Goes first (read_by s.slot got p.faults.reads o) last p

pub read-none : (s : Slot) (o : Outside) → read_by s nothing o.faults.reads o ≡ o
read-none s o = ap (λ (x : Outside). record x { faults = o.faults }) (taken-none s o)

pub read-twice : (s : Slot) (g h : Gave) (a b : ℕ) (o : Outside) → read_by s h b (read_by s g a o) ≡ read_by s (joined g h) b o
read-twice s g h a b o = ap (λ (x : Outside). record x { faults = record o.faults { reads = b } }) (taken-twice s g h o)

fault_read : (s : Slot) (g : Gave) (reads : ℕ) (text : Bytes) (o p : Outside) → WriteFaulted (gained Proof text o) p → WriteFaulted (gained Proof text (read_by s g reads o)) (read_by s g reads p)
fault_read s g reads text o p h = record { else_same = ap (read_by s g reads) h.else_same; rose = h.rose }

-- what is read from the slot leaves what was written
goes_read : (s : Slot) (g : Gave) (reads : ℕ) (f : Bool) (o : Outside) (i : Bool) (p : Outside) → Goes f o i p → Goes f (read_by s g reads o) i (read_by s g reads p)
goes_read s g reads true o true p h = ap (read_by s g reads) h
goes_read s g reads true o false p h = h
goes_read s g reads false o false p h = record { steps = h.steps; texts = h.texts; moved = ap (read_by s g reads) h.moved }
goes_read s g reads false o true p h = record {
  steps = h.steps;
  texts = h.texts;
  part = h.part;
  text = h.text;
  kept = h.kept;
  front = h.front;
  moved = fault_read s g reads (printed_proof h.steps ++ take h.kept (step_line h.part)) o p h.moved;
}

pub between_itself : (s : BytesState) (f : Bool) (o : Outside) → ReadsAndPrints s f o s f o
between_itself s f o = record {
  slot = refl;
  limit = refl;
  got = nothing;
  counts = counts_itself s;
  few = λ h. h;
  goes = subst (λ (x : Outside). Goes f x f o) (sym (read-none s.slot o)) (goes_itself f o);
}

pub between_on : (a : BytesState) (f : Bool) (o : Outside) (b : BytesState) (g : Bool) (p : Outside) (c : BytesState) (i : Bool) (q : Outside)
    → ReadsAndPrints a f o b g p → ReadsAndPrints b g p c i q → ReadsAndPrints a f o c i q
between_on a f o b g p c i q h k =
    let first = goes_read a.slot k.got q.faults.reads f (read_by a.slot h.got p.faults.reads o) g p h.goes in
    let next = subst (λ (x : Slot). Goes g (read_by x k.got q.faults.reads p) i q) h.slot k.goes in
    record {
      slot = k.slot ∙ h.slot;
      limit = k.limit ∙ h.limit;
      got = joined h.got k.got;
      counts = counts_on a b c h.got k.got h.counts k.counts;
      few = λ x. k.few (h.few x);
      goes = subst (λ (x : Outside). Goes f x i q) (read-twice a.slot h.got k.got p.faults.reads q.faults.reads o)
          (goes_on f (read_by a.slot k.got q.faults.reads (read_by a.slot h.got p.faults.reads o)) g (read_by a.slot k.got q.faults.reads p) i q first next);
    }
