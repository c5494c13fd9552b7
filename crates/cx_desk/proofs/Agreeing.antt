-- Which files agree with a desk narrows with each call: those that agree with it after the call agree with it before.
use Rattle.std.proofs.Common.{◌≡◌, ◌||◌, ℕ, Bool, true, false, true≢false, Option, Some, None, Result, Ok, Err, [], ◌++◌, ap, sym, subst, ◌∙◌, append_assoc, append-nil}
use Rattle.std.proofs.lemmas.Option.{none-some}
use Rattle.cx_desk.specs.declared.desk.Slot.{Slot}
use Rattle.cx_desk.specs.declared.desk.Slot.TheVariants.{Formula, Second}
use Rattle.cx_desk.specs.declared.desk.Port.{Port}
use Rattle.cx_desk.specs.declared.desk.Port.TheVariants.{Answer, Proof, Message}
use Rattle.cx_desk.specs.Gave.{Gave, Agrees, joined, whole}
use Rattle.cx_desk.specs.Outside.{Bytes, Files, Faults, Outside, asked_in, given_in, file_named, FileAgrees, AgreeWith}
use Rattle.cx_desk.specs.Agreeing.{MayHave, Did}
use Rattle.cx_desk.specs.Calls.{asking, opened, taken, asking_proof, created, gained, ReadFaulted, WriteFaulted, MessageFaulted, PutFaulted, Starts, Creates, PutsAll, TookSome, ReadsWhole, Drains}
use Rattle.cx_desk.specs.declared.calls.ReadErr.TheVariants as why
use Rattle.cx_desk.specs.declared.calls.ReadErr.{ReadErr}
use Rattle.cx_desk.specs.declared.draining.DrainErr.TheVariants as drained
use Rattle.cx_desk.specs.declared.draining.DrainErr.{DrainErr}

-- ---- calls in a row

pub did-itself : (o : Outside) (P : Option Files → Type 0) → ((w : Option Files) → P w) → Did o o P
did-itself o P holds = λ w may. (may, holds w)

pub did-then : (a b c : Outside) (P Q : Option Files → Type 0) → Did a b P → Did b c Q → Did a c (λ w. P w × Q w)
did-then a b c P Q first next = λ w may.
    let after = next w may in
    let before = first w after.0 in
    (before.0, (before.1, after.1))

pub did-as : (a b : Outside) (P Q : Option Files → Type 0) → ((w : Option Files) → P w → Q w) → Did a b P → Did a b Q
did-as a b P Q implies did = λ w may. let x = did w may in (x.0, implies w x.1)

-- ---- what each call does to the files that agree

may-by : (o p : Outside) → ((files : Files) → AgreeWith files p → AgreeWith files o) → (w : Option Files) → MayHave w p → MayHave w o
may-by o p narrows None may = tt
may-by o p narrows (Some files) may = narrows files may

-- a slot that was asked for no name agrees with all files
agree-opened : (slot : Slot) (name : Bytes) (o : Outside) → asked_in slot o.asked ≡ None → (files : Files) → AgreeWith files (opened slot name o) → AgreeWith files o
agree-opened Formula name o none files h = record { formula = λ _ n asked. absurd (none-some n (sym none ∙ asked)); second = h.second }
agree-opened Second name o none files h = record { formula = h.formula; second = λ _ n asked. absurd (none-some n (sym none ∙ asked)) }

pub may-opened : (slot : Slot) (name : Bytes) (o : Outside) → asked_in slot o.asked ≡ None → (w : Option Files) → MayHave w (opened slot name o) → MayHave w o
may-opened slot name o none = may-by o (opened slot name o) (agree-opened slot name o none)

agree-asking : (slot : Slot) (name : Bytes) (o : Outside) → asked_in slot o.asked ≡ None → (files : Files) → AgreeWith files (asking slot name o) → AgreeWith files o
agree-asking Formula name o none files h = record { formula = λ _ n asked. absurd (none-some n (sym none ∙ asked)); second = h.second }
agree-asking Second name o none files h = record { formula = h.formula; second = λ _ n asked. absurd (none-some n (sym none ∙ asked)) }

pub may-asking : (slot : Slot) (name : Bytes) (o : Outside) → asked_in slot o.asked ≡ None → (w : Option Files) → MayHave w (asking slot name o) → MayHave w o
may-asking slot name o none = may-by o (asking slot name o) (agree-asking slot name o none)

-- a text that agrees with what was read agrees with what was read before, unless bytes came after the end
agrees-less : (text : Bytes) (f g : Gave) → (f.ended ≡ true → g.bytes ≡ []) → Agrees text (joined f g) → Agrees text f
agrees-less text f g none h = record {
  rest = g.bytes ++ h.rest;
  front = h.front ∙ append_assoc f.bytes g.bytes h.rest;
  all = λ e i. none e i ++ h.all (ap (λ x. x || g.ended) e) i;
}

file-less : (name : Bytes) (files : Files) (f g : Gave) → (f.ended ≡ true → g.bytes ≡ []) → FileAgrees name files (joined f g) → FileAgrees name files f
file-less name files f g none h = record { text = h.text; named = h.named; agrees = agrees-less h.text f g none h.agrees }

agree-taken : (slot : Slot) (g : Gave) (o : Outside) → ((given_in slot o.given).ended ≡ true → g.bytes ≡ []) → (files : Files) → AgreeWith files (taken slot g o) → AgreeWith files o
agree-taken Formula g o none files h = record { formula = λ s n asked. file-less n files o.given.formula g none (h.formula s n asked); second = h.second }
agree-taken Second g o none files h = record { formula = h.formula; second = λ s n asked. file-less n files o.given.second g none (h.second s n asked) }

pub may-taken : (slot : Slot) (g : Gave) (o : Outside) → ((given_in slot o.given).ended ≡ true → g.bytes ≡ []) → (w : Option Files) → MayHave w (taken slot g o) → MayHave w o
may-taken slot g o none = may-by o (taken slot g o) (agree-taken slot g o none)

pub may-gained : (port : Port) (bytes : Bytes) (o : Outside) (w : Option Files) → MayHave w (gained port bytes o) → MayHave w o
may-gained port bytes o = may-by o (gained port bytes o) (λ files h. record { formula = h.formula; second = h.second })

pub may-asking-proof : (name : Bytes) (o : Outside) (w : Option Files) → MayHave w (asking_proof name o) → MayHave w o
may-asking-proof name o = may-by o (asking_proof name o) (λ files h. record { formula = h.formula; second = h.second })

pub may-created : (name : Bytes) (o : Outside) (w : Option Files) → MayHave w (created name o) → MayHave w o
may-created name o = may-by o (created name o) (λ files h. record { formula = h.formula; second = h.second })

-- ---- faults

may-counted : (f : Faults) (o p : Outside) → p ≡ record o { faults = f } → (w : Option Files) → MayHave w p → MayHave w o
may-counted f o p same w may =
    may-by o (record o { faults = f }) (λ files h. record { formula = h.formula; second = h.second }) w (subst (λ (x : Outside). MayHave w x) same may)

pub may-read-faulted : (o p : Outside) → ReadFaulted o p → (w : Option Files) → MayHave w p → MayHave w o
may-read-faulted o p h = may-counted _ o p h.else_same

pub may-write-faulted : (o p : Outside) → WriteFaulted o p → (w : Option Files) → MayHave w p → MayHave w o
may-write-faulted o p h = may-counted _ o p h.else_same

pub may-message-faulted : (o p : Outside) → MessageFaulted o p → (w : Option Files) → MayHave w p → MayHave w o
may-message-faulted o p h = may-counted _ o p h.else_same

pub may-put-faulted : (port : Port) (o p : Outside) → PutFaulted port o p → (w : Option Files) → MayHave w p → MayHave w o
may-put-faulted Answer o p h = may-write-faulted o p h
may-put-faulted Proof o p h = may-write-faulted o p h
may-put-faulted Message o p h = may-message-faulted o p h

-- ---- whole calls

pub may-starts : {T E : Type 0} (slot : Slot) (name : Bytes) (o p : Outside) (r : Result T E) → asked_in slot o.asked ≡ None → Starts slot name o r p → (w : Option Files) → MayHave w p → MayHave w o
may-starts slot name o p (Ok _) none h w may = may-opened slot name o none w (subst (λ (x : Outside). MayHave w x) h may)
may-starts slot name o p (Err _) none h w may = may-asking slot name o none w (may-read-faulted (asking slot name o) p h w may)

pub may-creates : {T E : Type 0} (name : Bytes) (o p : Outside) (r : Result T E) → Creates name o r p → (w : Option Files) → MayHave w p → MayHave w o
may-creates name o p (Ok _) h w may = may-created name o w (subst (λ (x : Outside). MayHave w x) h may)
may-creates name o p (Err _) h w may = may-asking-proof name o w (may-write-faulted (asking_proof name o) p h w may)

pub may-puts-all : {T E : Type 0} (port : Port) (bytes : Bytes) (o p : Outside) (r : Result T E) → PutsAll port bytes o r p → (w : Option Files) → MayHave w p → MayHave w o
may-puts-all port bytes o p (Ok _) h w may = may-gained port bytes o w (subst (λ (x : Outside). MayHave w x) h may)
may-puts-all port bytes o p (Err _) h w may = may-gained port _ o w (may-put-faulted port _ p h.2 w may)

pub may-took : (slot : Slot) (g : Gave) (o p : Outside) → ((given_in slot o.given).ended ≡ true → g.bytes ≡ []) → p ≡ taken slot g o → (w : Option Files) → MayHave w p → MayHave w o
may-took slot g o p none took w may = may-taken slot g o none w (subst (λ (x : Outside). MayHave w x) took may)

pub may-took-faulted : (slot : Slot) (g : Gave) (o p : Outside) → ((given_in slot o.given).ended ≡ true → g.bytes ≡ []) → ReadFaulted (taken slot g o) p → (w : Option Files) → MayHave w p → MayHave w o
may-took-faulted slot g o p none fault w may = may-taken slot g o none w (may-read-faulted (taken slot g o) p fault w may)

-- of a slot whose end was not seen
before-end : (slot : Slot) (g : Gave) (o : Outside) → (given_in slot o.given).ended ≡ false → (given_in slot o.given).ended ≡ true → g.bytes ≡ []
before-end slot g o still e = absurd (true≢false (sym e ∙ still))

may-took-some : (slot : Slot) (n : ℕ) (ended : Bool) (o p : Outside) → (given_in slot o.given).ended ≡ false → TookSome slot n ended o p → (w : Option Files) → MayHave w p → MayHave w o
may-took-some slot n ended o p still h = may-took slot h.got o p (before-end slot h.got o still) h.took

pub may-reads-whole : (slot : Slot) (limit : ℕ) (o p : Outside) (r : Result Bytes ReadErr) → (given_in slot o.given).ended ≡ false → ReadsWhole slot limit o r p → (w : Option Files) → MayHave w p → MayHave w o
may-reads-whole slot limit o p (Ok text) still h = may-took slot (whole text) o p (before-end slot (whole text) o still) h.took
may-reads-whole slot limit o p (Err why.Memory) still h = may-took slot h.0 o p (before-end slot h.0 o still) h.2
may-reads-whole slot limit o p (Err why.Failed) still h = may-took-faulted slot h.0 o p (before-end slot h.0 o still) h.2
may-reads-whole slot limit o p (Err why.TooLong) still h = may-took-some slot _ _ o p still h

pub may-drains : {T : Type 0} (slot : Slot) (limit : ℕ) (o p : Outside) (r : Result T DrainErr) → (given_in slot o.given).ended ≡ false → Drains slot limit o r p → (w : Option Files) → MayHave w p → MayHave w o
may-drains slot limit o p (Ok _) still h = may-took-some slot _ _ o p still h.2
may-drains slot limit o p (Err drained.Failed) still h = may-took-faulted slot h.0 o p (before-end slot h.0 o still) h.2
may-drains slot limit o p (Err drained.TooLong) still h = may-took-some slot _ _ o p still h

-- ---- what was read to its end

-- the file that agrees is what was given
pub file-whole : (name : Bytes) (files : Files) (g : Gave) → g.ended ≡ true → FileAgrees name files g → file_named name files ≡ Some g.bytes
file-whole name files g ended h = h.named ∙ ap (λ (text : Bytes). Some text) (h.agrees.front ∙ ap (λ (rest : Bytes). g.bytes ++ rest) (h.agrees.all ended) ∙ append-nil g.bytes)
