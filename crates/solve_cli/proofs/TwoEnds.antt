-- Reading a slot and printing on the Proof port leave each other alone.
use Rattle.std.proofs.Common.{◌≡◌, refl, sym, ap, ◌∙◌, subst, ◌+◌, ◌-◌, Bool, true, false, nat_lt, List, [], ◌++◌, length, take, Some}
use Rattle.cx_desk.specs.declared.desk.Slot.{Slot}
use Rattle.cx_desk.specs.declared.desk.Port.TheVariants.{Proof}
use Rattle.cx_desk.specs.Gave.{Gave, nothing}
use Rattle.cx_desk.specs.Outside.{Bytes, Given, Outside, given_in}
use Rattle.cx_desk.specs.Calls.{gained}
use Rattle.cx_desk.specs.SlotBytes.{BytesState, taken_by}
use Rattle.cx_texts.specs.Grammar.{Grammar}
use Rattle.cx_texts.specs.Pieces.{tokens_in}
use Rattle.cx_texts.specs.Printed.{printed_proof}
use Rattle.cx_base.specs.Endings.{Ending}
use Rattle.step_text.specs.Slots.{SlotState, IsPossible, is_too_long, SlotLeaves, SlotFrame, OnlyGave}
use Rattle.step_text.specs.SlotLeft.{counts_itself}
use Rattle.step_text.specs.Texts.{LeftOf}
use Rattle.proof_text.specs.Told.{steps_told, is_whole, step_line, Goes}
use Rattle.proof_text.specs.ToldSteps.{goes_itself}
use Rattle.solve_cli.specs.TwoEnds.{read_by, read-none, ReadsAndPrints}
use Rattle.solve_cli.proofs.Acting.{StillRead, still_as, still_itself, still_gained, still_faulted}

-- ---- what was printed leaves what is to be read

pub still_goes : (f : Bool) (o : Outside) (g : Bool) (p : Outside) → Goes f o g p → StillRead o p
still_goes true o true p h = still_as o p o h (still_itself o)
still_goes true o false p h = absurd h
still_goes false o false p h = still_as o p (gained Proof (printed_proof h.steps) o) h.moved (still_gained Proof (printed_proof h.steps) o)
still_goes false o true p h = still_faulted Proof (printed_proof h.steps ++ take h.kept (step_line h.part)) o p h.moved

pub goes_reads : (f : Bool) (o : Outside) (g : Bool) (p : Outside) → Goes f o g p → p.faults.reads ≡ o.faults.reads
goes_reads true o true p h = ap (λ (x : Outside). x.faults.reads) h
goes_reads true o false p h = absurd h
goes_reads false o false p h = ap (λ (x : Outside). x.faults.reads) h.moved
goes_reads false o true p h = ap (λ (x : Outside). x.faults.reads) h.moved.else_same

pub possible_still : (s : BytesState) (o p : Outside) (text : Bytes) → p.given ≡ o.given → IsPossible s p text → IsPossible s o text
possible_still s o p text e h = subst (λ (g : Given). (more : Bytes) × ((s.ended ≡ true → more ≡ []) × (text ≡ (given_in s.slot g).bytes ++ more))) e h

pub leaves_still : {S : Type 0} (g : Grammar S) (s : SlotState) (o p : Outside) (text : Bytes) (steps : List S) (ending : Ending) → p.given ≡ o.given → SlotLeaves g s p text steps ending → SlotLeaves g s o text steps ending
leaves_still g s o p text steps ending e h =
    subst (λ (x : Given). (more : Bytes) × ((s.bytes.ended ≡ true → more ≡ []) × (text ≡ (given_in s.bytes.slot x).bytes ++ more)) × LeftOf g (tokens_in s.line s.bytes.place (s.bytes.bytes ++ more)) (taken_by s.bytes + length more) s.refused steps ending) e h

pub long_still : (s : BytesState) (o p : Outside) (text : Bytes) → p.given ≡ o.given → is_too_long s p text ≡ is_too_long s o text
long_still s o p text e = ap (λ (g : Given). Some (nat_lt s.limit (taken_by s + (length text - length (given_in s.slot g).bytes)))) e

pub printed_on : (s : BytesState) (f : Bool) (o : Outside) (g : Bool) (p : Outside) → Goes f o g p → ReadsAndPrints s f o s g p
printed_on s f o g p h =
    let none : read_by s.slot nothing p.faults.reads o ≡ o = ap (λ r. read_by s.slot nothing r o) (goes_reads f o g p h) ∙ read-none s.slot o in
    record { slot = refl; limit = refl; got = nothing; counts = counts_itself s; few = λ x. x; goes = subst (λ (x : Outside). Goes f x g p) (sym none) h }

-- ---- what was read leaves what is printed

pub read_on : (s : BytesState) (f : Bool) (o : Outside) (t : BytesState) (p : Outside) → SlotFrame s o t p → ReadsAndPrints s f o t f p
read_on s f o t p frame =
    let reads : p.faults.reads ≡ frame.read.0 = ap (λ (x : Outside). x.faults.reads) frame.read.1 in
    record {
      slot = frame.slot;
      limit = frame.limit;
      got = frame.got;
      counts = frame.counts;
      few = frame.few;
      goes = subst (λ (x : Outside). Goes f x f p) (frame.read.1 ∙ ap (λ r. read_by s.slot frame.got r o) (sym reads)) (goes_itself f p);
    }

pub steps_still : (s : Slot) (g : Gave) (o p : Outside) → OnlyGave s g o p → steps_told p ≡ steps_told o
steps_still s g o p (reads, h) = ap steps_told h

pub whole_still : (s : Slot) (g : Gave) (o p : Outside) → OnlyGave s g o p → is_whole p ≡ is_whole o
whole_still s g o p (reads, h) = ap is_whole h
