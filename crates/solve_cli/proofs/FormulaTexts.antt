-- A command's texts, read from their slots; the slots are started, and the ports given what they are to have.
use Rattle.std.proofs.Common.{◌≡◌, refl, sym, ap, ◌∙◌, subst, ℕ, ◌+◌, ◌<◌, ◌≤◌, false, ◌++◌, length, take, length-append, append-nil, Option, Some, None, IfSome, Result, Ok, Err, arith}
use Rattle.std.proofs.lemmas.Option.{IfSome_then}
use Rattle.cx_base.specs.Problem.{Problem}
use Rattle.cx_desk.specs.declared.desk.Slot.{Slot}
use Rattle.cx_desk.specs.declared.desk.Slot.TheVariants as slot
use Rattle.cx_desk.specs.declared.desk.Port.TheVariants as port
use Rattle.cx_desk.specs.declared.calls.ReadErr.{ReadErr}
use Rattle.cx_desk.specs.declared.calls.ReadErr.TheVariants as why
use Rattle.cx_desk.specs.Gave.{Gave, whole}
use Rattle.cx_desk.specs.Outside.{Bytes, Files, Given, Started, Outside, asked_in, FileAgrees}
use Rattle.cx_desk.specs.Agreeing.{MayHave}
use Rattle.cx_desk.specs.Calls.{opened, asking, asking_proof, taken, gained, Whole, Lost, FaultedAfter, TookSome, ReadFails as Fails, PutsAll, PutFaulted, ReadFaulted, WriteFaulted}
use Rattle.cx_texts.specs.FormulaText.{Reads}
use Rattle.cx_texts.specs.declared.offence.Offence.{Offence}
use Rattle.cx_texts.specs.declared.offence.Offence.TheVariants as offence
use Rattle.cnfx_reader.specs.FromSlot.{GivesOffence, FromFails}
use Rattle.cnfx_reader.specs.declared.from_refusal.FromRefusal.{FromRefusal}
use Rattle.cnfx_reader.specs.declared.from_refusal.FromRefusal.TheVariants as refusal
use Rattle.solve_cli.specs.declared.ending.Ending.{Ending}
use Rattle.solve_cli.specs.declared.ending.Ending.TheVariants as ending
use Rattle.solve_cli.specs.declared.ending.Outcome.{Outcome}
use Rattle.solve_cli.specs.declared.ending.Outcome.TheVariants as outcome
use Rattle.solve_cli.specs.Endings.{answer_text}
use Rattle.solve_cli.specs.Seen.{Seen, seen, asks, asks_proof, ReadFault, WriteFault, text_named}
use Rattle.solve_cli.specs.Commands.{gives_file}
use Rattle.solve_cli.specs.Happens.{IfNamed, FormulaRead, PutsMessage}
use Rattle.solve_cli.specs.Steps.{Acts, ReadAtMost, Ready, ReadFails, ReadsSlot, unread_as, FormulaFails, PutsAnswer, with_file, refused_as}
use Rattle.solve_cli.specs.TwoEnds.{read_by}
use Rattle.solve_cli.proofs.Acting.{StillRead, still_as, still_gained, still_faulted, acts_still, acts_read, text_is, may_opened, may_asking, few_opened, few_asking}
use Rattle.solve_cli.proofs.Works.{offence_due, tells_of}
use Rattle.solve_cli.proofs.SlotTexts.{drain_fault}

-- ---- a slot that was started and not read

module _ (s : Slot) (name : Bytes) (limit : ℕ) (o new : Outside) (ready : Ready s name o) where
  -- it gave this and no more, so the file begins with it
  gave : {P : Option Files → Type 0} (g : Gave) → new ≡ taken s g o → length g.bytes ≤ limit + 1 → ((w : Option Files) → IfSome w (λ files. FileAgrees name files g) → P w) → Acts limit o new P
  gave g is low f =
      let reads : new.faults.reads ≡ o.faults.reads = ap (λ (x : Outside). x.faults.reads) is in
      acts_read limit s name g o new ready (is ∙ ap (λ n. read_by s g n o) (sym reads)) low f

  -- a text that came whole is that of the file
  text_came : (text : Bytes) (files : Files) → FileAgrees name files (whole text) → text ≡ text_named name files
  text_came text files h = sym (append-nil text) ∙ ap (λ (r : Bytes). text ++ r) (sym (h.agrees.all refl)) ∙ sym h.agrees.front ∙ text_is name files (whole text) h

  came : {P : Option Files → Type 0} (text : Bytes) → Whole s limit text o new → ((w : Option Files) → seen w new ≡ seen w o → IfSome w (λ files. text ≡ text_named name files) → P w) → Acts limit o new P
  came text h f = gave (whole text) h.took (let fits = h.fits in omega (arith, fits)) (λ w files. f w (ap (seen w) h.took) (IfSome_then w files (λ fs x. text_came text fs x)))

  lost : {P : Option Files → Type 0} → Lost s limit o new → ((w : Option Files) → seen w new ≡ seen w o → P w) → Acts limit o new P
  lost (g, few, h) f = gave g h (omega (arith, few)) (λ w files. f w (ap (seen w) h))

  faulted : {P : Option Files → Type 0} → FaultedAfter s limit o new → ((w : Option Files) → ReadFault (seen w o) (seen w new) → P w) → Acts limit o new P
  faulted (g, few, h) f = acts_read limit s name g o new ready h.else_same (omega (arith, few)) (λ w files. f w (drain_fault w s g o new h))

  too_long : {P : Option Files → Type 0} → TookSome s (limit + 1) false o new → ((w : Option Files) → seen w new ≡ seen w o → IfSome w (λ files. limit < length (text_named name files)) → P w) → Acts limit o new P
  too_long h f = gave h.got h.took (let count = h.count in omega (arith, count)) (λ w files. f w (ap (seen w) h.took) (IfSome_then w files (λ fs x. longer h.got fs h.count x)))
    where
      longer : (g : Gave) (fs : Files) → length g.bytes ≡ limit + 1 → FileAgrees name fs g → limit < length (text_named name fs)
      longer g fs count x =
          let len : length (text_named name fs) ≡ length g.bytes + length x.agrees.rest = ap length (sym (text_is name fs g x) ∙ x.agrees.front) ∙ length-append g.bytes x.agrees.rest in
          omega (arith, count, len)

  -- it was read to its end, or not
  pub slot_read : (text : Bytes) → Whole s limit text o new → Acts limit o new (λ w. ReadsSlot s name limit (seen w o) (Ok text) (seen w new))
  slot_read text h = came text h (λ w same is. (same, h.fits, is))

  pub slot_failed : (why : ReadErr) → Fails s limit o why new → Acts limit o new (λ w. ReadFails s name limit (seen w o) (unread_as s why) (seen w new))
  slot_failed why.Memory h = lost h (λ w same. same)
  slot_failed why.Failed h = faulted h (λ w fault. fault)
  slot_failed why.TooLong h = too_long h (λ w same long. (refl, same, long))

-- ---- the formula

module _ (name : Bytes) (limit : ℕ) (o new : Outside) (ready : Ready slot.Formula name o) where
  module _ (old : Outside) (asked : o ≡ opened slot.Formula name old) where
    was_asked : (w : Option Files) → seen w o ≡ asks slot.Formula name (seen w old)
    was_asked w = ap (seen w) asked

    refused_by : (bad : Offence) → GivesOffence slot.Formula limit o bad new → Acts limit o new (λ w. FormulaFails name limit (seen w old) (outcome.Ended (ending.FormulaRefused bad)) (seen w new))
    refused_by bad (text, h, first) =
        came slot.Formula name limit o new ready text h (λ w same is. offence_due name text limit (seen w old) (seen w new) bad (same ∙ was_asked w) h.fits is first)

    pub formula_fails : (why : FromRefusal) → FromFails slot.Formula limit o why new → Acts limit o new (λ w. FormulaFails name limit (seen w old) (refused_as why) (seen w new))
    formula_fails (refusal.NoHeader b) h = refused_by (offence.NoHeader b) h
    formula_fails (refusal.BadHeader b) h = refused_by (offence.BadHeader b) h
    formula_fails (refusal.BadToken b) h = refused_by (offence.BadToken b) h
    formula_fails (refusal.Unterminated b) h = refused_by (offence.Unterminated b) h
    formula_fails (refusal.VarLimit b) h = refused_by (offence.VarLimit b) h
    formula_fails refusal.Memory h = lost slot.Formula name limit o new ready h (λ w same. same ∙ was_asked w)
    formula_fails refusal.Failed h = faulted slot.Formula name limit o new ready h (λ w fault. subst (λ (m : Seen). ReadFault m (seen w new)) (was_asked w) fault)
    formula_fails refusal.TooLong h = too_long slot.Formula name limit o new ready h (λ w same long. (refl, same ∙ was_asked w, long))

    pub formula_reads : (f : Problem) (text : Bytes) → Whole slot.Formula limit text o new → Reads text f
        → Acts limit o new (λ w. (seen w new ≡ asks slot.Formula name (seen w old)) × IfSome w (λ files. FormulaRead limit (text_named name files) f))
    formula_reads f text h reads = came slot.Formula name limit o new ready text h (λ w same is. (
      same ∙ was_asked w,
      IfSome_then w is (λ files t. record { fits = subst (λ (x : Bytes). length x ≤ limit) t h.fits; reads = subst (λ (x : Bytes). Reads x f) t reads }),
    ))

-- ---- the slots are started

-- a slot that was asked for no name
pub opened_acts : (limit : ℕ) (s : Slot) (name : Bytes) (old new : Outside) → asked_in s old.asked ≡ None → new ≡ opened s name old → Acts limit old new (λ w. seen w new ≡ asks s name (seen w old))
opened_acts limit s name old new unasked is = record {
  did = λ w may. (may_opened s name old unasked w (subst (λ (x : Outside). MayHave w x) is may), ap (seen w) is);
  few = λ x. subst (λ (y : Outside). ReadAtMost limit y) (sym is) (few_opened limit s name old x);
}

pub asking_acts : (limit : ℕ) (s : Slot) (name : Bytes) (old : Outside) (o : Outcome) (new : Outside) → asked_in s old.asked ≡ None → (o ≡ outcome.ReadFault) × ReadFaulted (asking s name old) new
    → Acts limit old new (λ w. (o ≡ outcome.ReadFault) × ReadFault (asks s name (seen w old)) (seen w new))
asking_acts limit s name old o new unasked h = record {
  did = λ w may. (
    may_asking s name old new.faults.reads unasked w (subst (λ (x : Outside). MayHave w x) h.1.else_same may),
    (h.0, record { else_same = ap (seen w) h.1.else_same; rose = h.1.rose }),
  );
  few = λ x. subst (λ (y : Outside). ReadAtMost limit y) (sym h.1.else_same) (few_asking limit s name old new.faults.reads x);
}

pub formula_not_started : (name : Bytes) (limit : ℕ) (old : Seen) (o : Outcome) (new : Seen) → (o ≡ outcome.ReadFault) × ReadFault (asks slot.Formula name old) new → FormulaFails name limit old o new
formula_not_started name limit old o new h = subst (λ (x : Outcome). FormulaFails name limit old x new) (sym h.0) h.1

pub opened_ready : (s : Slot) (name : Bytes) (old new : Outside) → new ≡ opened s name old → Ready s name new
opened_ready slot.Formula name old new is = record { started = ap (λ (x : Outside). x.started.formula) is; asked = ap (λ (x : Outside). x.asked.formula) is; unread = ap (λ (x : Outside). x.given.formula) is }
opened_ready slot.Second name old new is = record { started = ap (λ (x : Outside). x.started.second) is; asked = ap (λ (x : Outside). x.asked.second) is; unread = ap (λ (x : Outside). x.given.second) is }

-- ---- the Proof port is given its file

still_file : (proof : Option Bytes) (o : Outside) → StillRead o (with_file proof o)
still_file None o = record { given = refl; started = refl; formula = refl; second = refl }
still_file (Some name) o = record { given = refl; started = refl; formula = refl; second = refl }

seen-file : (w : Option Files) (proof : Option Bytes) (o : Outside) → seen w (with_file proof o) ≡ gives_file proof (seen w o)
seen-file w None o = refl
seen-file w (Some name) o = refl

pub file_given : (limit : ℕ) (proof : Option Bytes) (o new : Outside) → new ≡ with_file proof o → Acts limit o new (λ w. seen w new ≡ gives_file proof (seen w o))
file_given limit proof o new is = acts_still limit o new (still_as o new (with_file proof o) is (still_file proof o)) (λ w. ap (seen w) is ∙ seen-file w proof o)

pub file_refused : (limit : ℕ) (proof : Option Bytes) (old : Outside) (o : Outcome) (new : Outside) → (o ≡ outcome.WriteFault) × IfNamed proof (λ name. WriteFaulted (asking_proof name old) new)
    → Acts limit old new (λ w. (o ≡ outcome.WriteFault) × IfNamed proof (λ name. WriteFault (asks_proof name (seen w old)) (seen w new)))
file_refused limit None old o new h = absurd h.1
file_refused limit (Some name) old o new h =
    acts_still limit old new (still_as old new (record (asking_proof name old) { faults = record old.faults { writes = new.faults.writes } }) h.1.else_same (record { given = refl; started = refl; formula = refl; second = refl }))
    (λ w. (h.0, record { else_same = ap (seen w) h.1.else_same; rose = h.1.rose }))

-- and the second slot is as it was
pub ready_still : (name : Bytes) (proof : Option Bytes) (o new : Outside) → new ≡ with_file proof o → Ready slot.Second name o → Ready slot.Second name new
ready_still name proof o new is ready =
    let still = still_as o new (with_file proof o) is (still_file proof o) in
    record {
      started = ap (λ (x : Started). x.second) still.started ∙ ready.started;
      asked = still.second ∙ ready.asked;
      unread = ap (λ (x : Given). x.second) still.given ∙ ready.unread;
    }

-- ---- the answer

pub answer_put : (limit : ℕ) (e : Ending) (o new : Outside) → new ≡ gained port.Answer (answer_text e) o → Acts limit o new (λ w. PutsAnswer e (seen w o) (outcome.Ended e) (seen w new))
answer_put limit e o new is = acts_still limit o new (still_as o new (gained port.Answer (answer_text e) o) is (still_gained port.Answer (answer_text e) o)) (λ w. (refl, ap (seen w) is))

pub answer_torn : (limit : ℕ) (e : Ending) (o new : Outside) → (k : ℕ) × (k < length (answer_text e)) × PutFaulted port.Answer (gained port.Answer (take k (answer_text e)) o) new
    → Acts limit o new (λ w. PutsAnswer e (seen w o) outcome.WriteFault (seen w new))
answer_torn limit e o new (k, low, h) =
    acts_still limit o new (still_faulted port.Answer (take k (answer_text e)) o new h) (λ w. (k, low, record { else_same = ap (seen w) h.else_same; rose = h.rose }))

pub put_message : {T E : Type 0} (limit : ℕ) (text : Bytes) (o : Outside) (r : Result T E) (new : Outside) → PutsAll port.Message text o r new → Acts limit o new (λ w. PutsMessage text (seen w o) (seen w new))
put_message {T = T} {E = E} limit text o (Ok v) new is =
    acts_still limit o new (still_as o new (gained port.Message text o) is (still_gained port.Message text o)) (λ w. tells_of {T = T} {E = E} w text o (Ok v) new is)
put_message {T = T} {E = E} limit text o (Err e) new (k, low, h) =
    let part = gained port.Message (take k text) o in
    acts_still limit o new (still_as o new (record part { faults = record o.faults { messages = new.faults.messages } }) h.else_same (record { given = refl; started = refl; formula = refl; second = refl }))
    (λ w. tells_of {T = T} {E = E} w text o (Err e) new (k, low, h))
