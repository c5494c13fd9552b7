-- Calls one after the other, for all files that agree with what was read; and what a read leaves possible.
use Rattle.std.proofs.Common.{◌≡◌, refl, sym, ap, ◌∙◌, subst, ℕ, ◌+◌, ◌≤◌, ◌||◌, Bool, true, false, true≢false, [], ◌++◌, length, length-append, append_assoc, Option, Some, None, IfSome, unwrap_or, arith}
use Rattle.cx_desk.specs.declared.desk.Slot.{Slot}
use Rattle.cx_desk.specs.declared.desk.Slot.TheVariants as slot
use Rattle.cx_desk.specs.declared.desk.Port.{Port}
use Rattle.cx_desk.specs.Gave.{Gave, Agrees, joined}
use Rattle.cx_desk.specs.Outside.{Bytes, Files, Given, Started, Outside, given_in, asked_in, started_in, FileAgrees, AgreeWith}
use Rattle.cx_desk.specs.Agreeing.{MayHave}
use Rattle.cx_desk.specs.Calls.{opened, asking, gained, WriteFaulted}
use Rattle.solve_cli.specs.Seen.{seen, text_named}
use Rattle.solve_cli.specs.Steps.{Acts, ReadAtMost, Ready}
use Rattle.solve_cli.specs.TwoEnds.{read_by}

-- ---- one call after the other

pub acts_then : {limit : ℕ} {a b c : Outside} {P Q R : Option Files → Type 0} → Acts limit a b P → Acts limit b c Q → ((w : Option Files) → P w → Q w → R w) → Acts limit a c R
acts_then h k f = record {
  did = λ w may. let later = k.did w may in let first = h.did w later.0 in (first.0, f w first.1 later.1);
  few = λ x. k.few (h.few x);
}

pub acts_both : {limit : ℕ} {a b c : Outside} {P Q : Option Files → Type 0} → Acts limit a b P → Acts limit b c Q → Acts limit a c (λ w. P w × Q w)
acts_both h k = record { did = λ w may. let later = k.did w may in let first = h.did w later.0 in (first.0, (first.1, later.1)); few = λ x. k.few (h.few x) }

pub acts_as : {limit : ℕ} {a b : Outside} {P Q : Option Files → Type 0} → Acts limit a b P → ((w : Option Files) → P w → Q w) → Acts limit a b Q
acts_as h f = record { did = λ w may. let x = h.did w may in (x.0, f w x.1); few = h.few }

-- ---- calls that read nothing

-- what the slots were asked for, and what they gave
pub record StillRead (o p : Outside) : Type 0 where
  pub given : p.given ≡ o.given
  pub started : p.started ≡ o.started
  pub formula : p.asked.formula ≡ o.asked.formula
  pub second : p.asked.second ≡ o.asked.second

pub still_as : (o p q : Outside) → p ≡ q → StillRead o q → StillRead o p
still_as o p q e h = record {
  given = ap (λ (x : Outside). x.given) e ∙ h.given;
  started = ap (λ (x : Outside). x.started) e ∙ h.started;
  formula = ap (λ (x : Outside). x.asked.formula) e ∙ h.formula;
  second = ap (λ (x : Outside). x.asked.second) e ∙ h.second;
}

pub still_itself : (o : Outside) → StillRead o o
still_itself o = record { given = refl; started = refl; formula = refl; second = refl }

pub still_gained : (port : Port) (text : Bytes) (o : Outside) → StillRead o (gained port text o)
still_gained port text o = record { given = refl; started = refl; formula = refl; second = refl }

pub still_faulted : (port : Port) (text : Bytes) (o p : Outside) → WriteFaulted (gained port text o) p → StillRead o p
still_faulted port text o p h = still_as o p (record (gained port text o) { faults = record o.faults { writes = p.faults.writes } }) h.else_same (record { given = refl; started = refl; formula = refl; second = refl })

pub may_still : (o p : Outside) → StillRead o p → (w : Option Files) → MayHave w p → MayHave w o
may_still o p s None h = tt
may_still o p s (Some files) h = record {
  formula = λ on name named. subst (λ (g : Given). FileAgrees name files g.formula) s.given (h.formula (ap (λ (x : Started). x.formula) s.started ∙ on) name (s.formula ∙ named));
  second = λ on name named. subst (λ (g : Given). FileAgrees name files g.second) s.given (h.second (ap (λ (x : Started). x.second) s.started ∙ on) name (s.second ∙ named));
}

few_still : (limit : ℕ) (o p : Outside) → StillRead o p → ReadAtMost limit o → ReadAtMost limit p
few_still limit o p s few = record {
  formula = subst (λ (g : Given). length g.formula.bytes ≤ limit + 1) (sym s.given) few.formula;
  second = subst (λ (g : Given). length g.second.bytes ≤ limit + 1) (sym s.given) few.second;
}

pub acts_still : (limit : ℕ) (o p : Outside) {P : Option Files → Type 0} → StillRead o p → ((w : Option Files) → P w) → Acts limit o p P
acts_still limit o p s f = record { did = λ w may. (may_still o p s w may, f w); few = few_still limit o p s }

pub acts_none : (limit : ℕ) (o : Outside) {P : Option Files → Type 0} → ((w : Option Files) → P w) → Acts limit o o P
acts_none limit o f = acts_still limit o o (still_itself o) f

-- a port took bytes; or a part of them before a fault
pub acts_puts : (limit : ℕ) (port : Port) (text : Bytes) (o p : Outside) → p ≡ gained port text o → Acts limit o p (λ w. seen w p ≡ seen w (gained port text o))
acts_puts limit port text o p is = acts_still limit o p (still_as o p (gained port text o) is (still_gained port text o)) (λ w. ap (seen w) is)

pub acts_torn : (limit : ℕ) (port : Port) (text : Bytes) (o p : Outside) → WriteFaulted (gained port text o) p → Acts limit o p (λ w. WriteFaulted (gained port text o) p)
acts_torn limit port text o p h = acts_still limit o p (still_faulted port text o p h) (λ w. h)

-- ---- what a slot gave

-- a text that agrees with all that came agrees with what came first, if nothing came after the end
pub agrees_first : (text : Bytes) (a g : Gave) → (a.ended ≡ true → g.bytes ≡ []) → Agrees text (joined a g) → Agrees text a
agrees_first text a g none h = record {
  rest = g.bytes ++ h.rest;
  front = h.front ∙ append_assoc a.bytes g.bytes h.rest;
  all = λ e. (λ i. none e i ++ h.all (ap (λ (x : Bool). x || g.ended) e) i);
}

file_first : (name : Bytes) (files : Files) (a g : Gave) → (a.ended ≡ true → g.bytes ≡ []) → FileAgrees name files (joined a g) → FileAgrees name files a
file_first name files a g none h = record { text = h.text; named = h.named; agrees = agrees_first h.text a g none h.agrees }

pub may_read_by : (s : Slot) (g : Gave) (reads : ℕ) (o : Outside) → ((given_in s o.given).ended ≡ true → g.bytes ≡ []) → (w : Option Files) → MayHave w (read_by s g reads o) → MayHave w o
may_read_by s g reads o none None h = tt
may_read_by slot.Formula g reads o none (Some files) h = record { formula = λ on name named. file_first name files o.given.formula g none (h.formula on name named); second = h.second }
may_read_by slot.Second g reads o none (Some files) h = record { formula = h.formula; second = λ on name named. file_first name files o.given.second g none (h.second on name named) }

pub few_read_by : (limit : ℕ) (s : Slot) (g : Gave) (reads : ℕ) (o : Outside) → length (given_in s o.given).bytes + length g.bytes ≤ limit + 1 → ReadAtMost limit o → ReadAtMost limit (read_by s g reads o)
few_read_by limit slot.Formula g reads o low few = record { formula = omega (arith, low, length-append o.given.formula.bytes g.bytes); second = few.second }
few_read_by limit slot.Second g reads o low few = record { formula = few.formula; second = omega (arith, low, length-append o.given.second.bytes g.bytes) }

not_named : (name : Bytes) → ◌≡◌ {A = Option Bytes} None (Some name) → ⊥
not_named name e = cc

-- the file that a started slot was asked for agrees with what it gave
pub file_of : (s : Slot) (name : Bytes) (o : Outside) (files : Files) → started_in s o.started ≡ true → asked_in s o.asked ≡ Some name → AgreeWith files o → FileAgrees name files (given_in s o.given)
file_of slot.Formula name o files on named h = h.formula on name named
file_of slot.Second name o files on named h = h.second on name named

pub text_is : (name : Bytes) (files : Files) (g : Gave) (h : FileAgrees name files g) → h.text ≡ text_named name files
text_is name files g h = sym (ap (λ (x : Option Bytes). unwrap_or x []) h.named)

-- ---- a slot of which nothing was read before

file_read : (s : Slot) (name : Bytes) (g : Gave) (reads : ℕ) (o : Outside) (files : Files) → Ready s name o → AgreeWith files (read_by s g reads o) → FileAgrees name files g
file_read slot.Formula name g reads o files ready h = subst (λ (x : Gave). FileAgrees name files (joined x g)) ready.unread (h.formula ready.started name ready.asked)
file_read slot.Second name g reads o files ready h = subst (λ (x : Gave). FileAgrees name files (joined x g)) ready.unread (h.second ready.started name ready.asked)

files_read : (s : Slot) (name : Bytes) (g : Gave) (reads : ℕ) (o : Outside) → Ready s name o → (w : Option Files) → MayHave w (read_by s g reads o) → IfSome w (λ files. FileAgrees name files g)
files_read s name g reads o ready None h = tt
files_read s name g reads o ready (Some files) h = file_read s name g reads o files ready h

pub not_ended : (s : Slot) (name : Bytes) (o : Outside) (g : Gave) → Ready s name o → (given_in s o.given).ended ≡ true → g.bytes ≡ []
not_ended s name o g ready e = absurd (true≢false (sym e ∙ ap (λ (x : Gave). x.ended) ready.unread))

-- it gave this, so the file begins with it
pub acts_read : (limit : ℕ) (s : Slot) (name : Bytes) (g : Gave) (o p : Outside) {P : Option Files → Type 0} → Ready s name o → p ≡ read_by s g p.faults.reads o → length g.bytes ≤ limit + 1
    → ((w : Option Files) → IfSome w (λ files. FileAgrees name files g) → P w) → Acts limit o p P
acts_read limit s name g o p ready is low f =
    let none : length (given_in s o.given).bytes ≡ 0 = ap (λ (x : Gave). length x.bytes) ready.unread in
    record {
      did = λ w may.
          let back = subst (λ (x : Outside). MayHave w x) is may in
          (may_read_by s g p.faults.reads o (not_ended s name o g ready) w back, f w (files_read s name g p.faults.reads o ready w back));
      few = λ x. subst (λ (y : Outside). ReadAtMost limit y) (sym is) (few_read_by limit s g p.faults.reads o (omega (arith, none, low)) x);
    }

-- ---- a slot is started

-- the files that a desk may have after a slot was asked for, it may have had before
pub may_opened : (s : Slot) (name : Bytes) (o : Outside) → asked_in s o.asked ≡ None → (w : Option Files) → MayHave w (opened s name o) → MayHave w o
may_opened s name o unasked None h = tt
may_opened slot.Formula name o unasked (Some files) h = record { formula = λ on other named. absurd (not_named other (sym unasked ∙ named)); second = h.second }
may_opened slot.Second name o unasked (Some files) h = record { formula = h.formula; second = λ on other named. absurd (not_named other (sym unasked ∙ named)) }

pub may_asking : (s : Slot) (name : Bytes) (o : Outside) (reads : ℕ) → asked_in s o.asked ≡ None → (w : Option Files) → MayHave w (record (asking s name o) { faults = record o.faults { reads = reads } }) → MayHave w o
may_asking s name o reads unasked None h = tt
may_asking slot.Formula name o reads unasked (Some files) h = record { formula = λ on other named. absurd (not_named other (sym unasked ∙ named)); second = h.second }
may_asking slot.Second name o reads unasked (Some files) h = record { formula = h.formula; second = λ on other named. absurd (not_named other (sym unasked ∙ named)) }

pub few_opened : (limit : ℕ) (s : Slot) (name : Bytes) (o : Outside) → ReadAtMost limit o → ReadAtMost limit (opened s name o)
few_opened limit slot.Formula name o x = record { formula = omega arith; second = x.second }
few_opened limit slot.Second name o x = record { formula = x.formula; second = omega arith }

pub few_asking : (limit : ℕ) (s : Slot) (name : Bytes) (o : Outside) (reads : ℕ) → ReadAtMost limit o → ReadAtMost limit (record (asking s name o) { faults = record o.faults { reads = reads } })
few_asking limit s name o reads x = record { formula = x.formula; second = x.second }
