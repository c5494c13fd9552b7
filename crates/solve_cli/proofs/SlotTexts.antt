-- The second text of a command, judged as it is read from its slot.
use Rattle.std.proofs.Common.{◌≡◌, refl, sym, ap, ◌∙◌, subst, ℕ, ◌+◌, ◌-◌, ◌<◌, ◌≤◌, ◌||◌, zero-add, Bool, true, false, true≢false, nat_lt, ltb-true, List, [], ◌++◌, length, length-append, append-nil, Option, Some, None, IfSome, Result, Ok, Err, IfOk, IfErr, MatchResult, arith}
use Rattle.std.proofs.lemmas.Option.{IfSome_then}
use Rattle.cx_base.specs.Counts.{Rose}
use Rattle.cx_base.specs.Problem.{Problem}
use Rattle.cx_base.specs.Endings.{Ending as End}
use Rattle.cx_desk.specs.declared.desk.Slot.{Slot}
use Rattle.cx_desk.specs.declared.desk.Slot.TheVariants as slot
use Rattle.cx_desk.specs.declared.draining.DrainErr.{DrainErr}
use Rattle.cx_desk.specs.declared.draining.DrainErr.TheVariants as drained
use Rattle.cx_desk.specs.Gave.{Gave, Agrees, joined}
use Rattle.cx_desk.specs.Outside.{Bytes, Files, Given, Started, Outside, given_in, started_in, FileAgrees, AgreeWith}
use Rattle.cx_desk.specs.Agreeing.{MayHave}
use Rattle.cx_desk.specs.Calls.{taken, ReadFaulted}
use Rattle.cx_desk.specs.SlotBytes.{BytesState, taken_by}
use Rattle.cx_texts.specs.Tokens.{tokens, tokens_from}
use Rattle.cx_texts.specs.Words.{placed_words}
use Rattle.cx_texts.specs.Grammar.{Grammar, Reading}
use Rattle.cx_texts.specs.ProofText.{proof_steps, ProofReads}
use Rattle.cx_judgements.specs.ProofTexts.{ProofJudgedAs}
use Rattle.step_text.specs.Slots.{Counts, IsPossible, is_too_long, SlotLeaves, SlotFrame, OnlyGave, DrainsRest}
use Rattle.step_text.specs.SlotAnswers.{PairLeaves}
use Rattle.xlrup_check.specs.Verdicts.{judgement_of, IsJudgedBy, HasCause, ReadsStand}
use Rattle.xlrup_check.specs.declared.verdict.Verdict.{Verdict}
use Rattle.xlrup_check.specs.declared.verdict.Verdict.TheVariants as verdict
use Rattle.xlrup_check.specs.declared.verdict.Fault.{Fault}
use Rattle.xlrup_check.specs.declared.verdict.Fault.TheVariants as fault
use Rattle.cx_words.specs.declared.plans.Plan.TheVariants as plan
use Rattle.solve_cli.specs.declared.ending.Ending.{Ending}
use Rattle.solve_cli.specs.declared.ending.Ending.TheVariants as ending
use Rattle.solve_cli.specs.declared.ending.Outcome.{Outcome}
use Rattle.solve_cli.specs.declared.ending.Outcome.TheVariants as outcome
use Rattle.solve_cli.specs.Seen.{Seen, seen, ReadFault, text_named}
use Rattle.solve_cli.specs.Happens.{Judged}
use Rattle.solve_cli.specs.Steps.{Acts, ReadAtMost, Ready, ReadFails}
use Rattle.solve_cli.specs.SlotTexts.{HasRead, IsLateOf, JudgesProof, checked_as, drained_as, drained_with, first_state}
use Rattle.solve_cli.specs.TwoEnds.{read_by}
use Rattle.solve_cli.proofs.Acting.{StillRead, still_as, still_itself, may_read_by, few_read_by, text_is}
use Rattle.solve_cli.proofs.Works.{if_some_both}

-- ---- the text

as_text : {S : Type 0} (g : Grammar S) (text : Bytes) (steps : List S) (ending : End) → Reading g (0 + length text) (placed_words (tokens_from 0 text)) steps ending
    → Reading g (length text) (placed_words (tokens text)) steps ending
unfolding tokens
as_text g text steps ending h = subst (λ n. Reading g n (placed_words (tokens_from 0 text)) steps ending) (zero-add (length text)) h

-- what a slot leaves at the start of a text is what that text reads as
pub whole_text : {S : Type 0} (g : Grammar S) (s : Slot) (limit : ℕ) (o : Outside) (name : Bytes) → Ready s name o → (text : Bytes) (steps : List S) (ending : End) → SlotLeaves g (first_state s limit) o text steps ending
    → Reading g (length text) (placed_words (tokens text)) steps ending
whole_text g s limit o name ready text steps ending (more, come, left) =
    let same : more ≡ text = sym (come.1 ∙ ap (λ (x : Gave). x.bytes ++ more) ready.unread) in
    subst (λ (x : Bytes). Reading g (length x) (placed_words (tokens x)) steps ending) same (as_text g more steps ending left)

-- whether the text passes its limit
long_by : (s : Slot) (limit : ℕ) (o : Outside) (name : Bytes) (text : Bytes) (b : Bool) → Ready s name o → ¬ (is_too_long (first_state s limit).bytes o text ≡ Some b) → ¬ (nat_lt limit (length text) ≡ b)
long_by s limit o name text b ready h =
    let none : length (given_in s o.given).bytes ≡ 0 = ap (λ (x : Gave). length x.bytes) ready.unread in
    let same : 0 + (length text - length (given_in s o.given).bytes) ≡ length text = omega (arith, none) in
    λ e. h (ap (λ n. Some (nat_lt limit n)) same ∙ ap Some e)

pub is_long : (s : Slot) (limit : ℕ) (o : Outside) (name : Bytes) (text : Bytes) → Ready s name o → ¬ (is_too_long (first_state s limit).bytes o text ≡ Some false) → limit < length text
is_long s limit o name text ready h = by (length text) (nat_lt limit (length text)) refl (long_by s limit o name text false ready h)
  where
    by : (n : ℕ) (b : Bool) → nat_lt limit n ≡ b → ¬ (b ≡ false) → limit < n
    by n true e k = ltb-true limit n e
    by n false e k = absurd (k refl)

-- ---- what is seen

-- reads change the faults of reading alone
pub seen-still : (w : Option Files) (s : Slot) (g : Gave) (o p : Outside) → OnlyGave s g o p → p.faults.reads ≡ o.faults.reads → seen w p ≡ seen w o
seen-still w s g o p (reads, h) e =
    let of : reads ≡ o.faults.reads = sym (ap (λ (x : Outside). x.faults.reads) h) ∙ e in
    ap (seen w) h ∙ ap (λ r. record (seen w o) { faults = record o.faults { reads = r } }) of

pub read_fault : (w : Option Files) (s : Slot) (g : Gave) (o p : Outside) → OnlyGave s g o p → Rose o.faults.reads p.faults.reads → ReadFault (seen w o) (seen w p)
read_fault w s g o p (reads, h) rose =
    let of : reads ≡ p.faults.reads = sym (ap (λ (x : Outside). x.faults.reads) h) in
    record { else_same = ap (seen w) h ∙ ap (λ r. record (seen w o) { faults = record o.faults { reads = r } }) of; rose = rose }

pub drain_fault : (w : Option Files) (s : Slot) (g : Gave) (o p : Outside) → ReadFaulted (taken s g o) p → ReadFault (seen w o) (seen w p)
drain_fault w s g o p h = record { else_same = ap (seen w) h.else_same; rose = h.rose }

-- and leave the slot started
pub still_started : (s : BytesState) (o : Outside) (t : BytesState) (p : Outside) → SlotFrame s o t p → started_in s.slot o.started ≡ true → started_in t.slot p.started ≡ true
still_started s o t p frame h = ap (λ (x : Slot). started_in x p.started) frame.slot ∙ (ap (λ (x : Outside). started_in s.slot x.started) frame.read.1 ∙ h)

-- ---- a reader of the second slot, from its start

-- from a slot that was ready, by what it gave since
pub has_given : (name : Bytes) (limit : ℕ) (o : Outside) (s : BytesState) (m : Outside) (g : Gave) (reads : ℕ) → Ready slot.Second name o → StillRead (read_by slot.Second g reads o) m
    → s.slot ≡ slot.Second → s.limit ≡ limit → Counts (first_state slot.Second limit).bytes g s → (taken_by (first_state slot.Second limit).bytes ≤ limit + 1 → taken_by s ≤ s.limit + 1) → HasRead limit o s m
has_given name limit o s m g reads ready still of_slot limited counts low =
    let gave : m.given.second ≡ g = ap (λ (x : Given). x.second) still.given ∙ ap (λ (x : Gave). joined x g) ready.unread in
    let counted : taken_by s ≡ length m.given.second.bytes = counts.count ∙ (zero-add (length g.bytes) ∙ ap (λ (x : Gave). length x.bytes) (sym gave)) in
    let most : taken_by s ≤ s.limit + 1 = low (omega arith) in
    record {
      slot = of_slot;
      limited = limited;
      started = still.started;
      formula_asked = still.formula;
      second_asked = still.second;
      formula = ap (λ (x : Given). x.formula) still.given;
      count = counted;
      ends = counts.ends ∙ ap (λ (x : Gave). x.ended) (sym gave);
      few = omega (arith, counted, most, limited);
    }

pub has_read : (name : Bytes) (limit : ℕ) (o : Outside) (s : BytesState) (m : Outside) → Ready slot.Second name o → SlotFrame (first_state slot.Second limit).bytes o s m → HasRead limit o s m
has_read name limit o s m ready frame =
    let first = read_by slot.Second frame.got frame.read.0 o in
    has_given name limit o s m frame.got frame.read.0 ready (still_as first m first frame.read.1 (still_itself first)) frame.slot frame.limit frame.counts frame.few

-- the text of the file, where there is one
abbrev pub IsTextOf : Bytes → Option Files → Bytes → Type 0
IsTextOf name w text = IfSome w (λ files. text ≡ text_named name files)

module _ (name : Bytes) (limit : ℕ) (o : Outside) (ready : Ready slot.Second name o) (s : BytesState) (m : Outside) (has : HasRead limit o s m) where
  may_first : (w : Option Files) → MayHave w m → MayHave w o
  may_first None may = tt
  may_first (Some files) may = record {
    formula = λ on other named. subst (λ (g : Gave). FileAgrees other files g) has.formula (may.formula (ap (λ (x : Started). x.formula) has.started ∙ on) other (has.formula_asked ∙ named));
    second = λ on other named.
        let f = may.second (ap (λ (x : Started). x.second) has.started ∙ on) other (has.second_asked ∙ named) in
        record {
          text = f.text;
          named = f.named;
          agrees = record { rest = f.text; front = ap (λ (x : Gave). x.bytes ++ f.text) (sym ready.unread); all = λ e. absurd (true≢false (sym e ∙ ap (λ (x : Gave). x.ended) ready.unread)) };
        };
  }

  few_first : ReadAtMost limit o → ReadAtMost limit m
  few_first x = record { formula = subst (λ (g : Gave). length g.bytes ≤ limit + 1) (sym has.formula) x.formula; second = has.few }

  pub file_given : (files : Files) → AgreeWith files m → FileAgrees name files m.given.second
  file_given files may = may.second (ap (λ (x : Started). x.second) has.started ∙ ready.started) name (has.second_asked ∙ ready.asked)

  possible : (text : Bytes) → Agrees text m.given.second → IsPossible s m text
  possible text a = (a.rest, ((λ e. a.all (sym has.ends ∙ e)), subst (λ (x : Slot). text ≡ (given_in x m.given).bytes ++ a.rest) (sym has.slot) a.front))

  -- what came may be all
  all_of_it : Agrees m.given.second.bytes m.given.second
  all_of_it = record { rest = []; front = sym (append-nil m.given.second.bytes); all = λ e. refl }

  some_text_of : (w : Option Files) → MayHave w m → (text : Bytes) × IsPossible s m text × IsTextOf name w text
  some_text_of None may = (m.given.second.bytes, possible m.given.second.bytes all_of_it, tt)
  some_text_of (Some files) may = let f = file_given files may in (f.text, possible f.text f.agrees, text_is name files m.given.second f)

  -- what holds by each text that may be the slot's holds of the file
  pub acts_by_text : {P : Option Files → Type 0} → ((w : Option Files) (text : Bytes) → IsPossible s m text → IsTextOf name w text → P w) → Acts limit o m P
  acts_by_text f = record {
    did = λ w may. let t = some_text_of w may in (may_first w may, f w t.0 t.1 t.2);
    few = few_first;
  }

-- ---- the rest of the second text

-- the rest was read, and the text is within its limit; or it is not, or there was a fault
abbrev pub RestRead : {T : Type 0} → Bytes → ℕ → Seen → Result T Outcome → Seen → Type 0
RestRead name limit old result new = MatchResult result
    (λ _. (new ≡ old) × IfSome old.files (λ files. length (text_named name files) ≤ limit))
    (λ o. ReadFails slot.Second name limit old o new)

module _ (name : Bytes) (limit : ℕ) (o : Outside) (ready : Ready slot.Second name o) (s : BytesState) (m : Outside) (has : HasRead limit o s m) where
  -- the file agrees with what came before and now
  file_after : (g : Gave) (reads : ℕ) (files : Files) → AgreeWith files (read_by slot.Second g reads m) → FileAgrees name files (joined m.given.second g)
  file_after g reads files may = may.second (ap (λ (x : Started). x.second) has.started ∙ ready.started) name (has.second_asked ∙ ready.asked)

  files_after : (g : Gave) (reads : ℕ) (w : Option Files) → MayHave w (read_by slot.Second g reads m) → IfSome w (λ files. FileAgrees name files (joined m.given.second g))
  files_after g reads None may = tt
  files_after g reads (Some files) may = file_after g reads files may

  more_read : {P : Option Files → Type 0} (g : Gave) (p : Outside) → p ≡ read_by s.slot g p.faults.reads m → (s.ended ≡ true → g.bytes ≡ []) → taken_by s + length g.bytes ≤ limit + 1
      → ((w : Option Files) → IfSome w (λ files. FileAgrees name files (joined m.given.second g)) → P w) → Acts limit m p P
  more_read g p is none low f =
      let at : p ≡ read_by slot.Second g p.faults.reads m = is ∙ ap (λ (x : Slot). read_by x g p.faults.reads m) has.slot in
      let fits : length m.given.second.bytes + length g.bytes ≤ limit + 1 = subst (λ n. n + length g.bytes ≤ limit + 1) has.count low in
      record {
        did = λ w may.
            let here = subst (λ (x : Outside). MayHave w x) at may in
            (may_read_by slot.Second g p.faults.reads m (λ e. none (has.ends ∙ e)) w here, f w (files_after g p.faults.reads w here));
        few = λ x. subst (λ (y : Outside). ReadAtMost limit y) (sym at) (few_read_by limit slot.Second g p.faults.reads m fits x);
      }

  -- how long the file is
  file_len : (g : Gave) (files : Files) (h : FileAgrees name files (joined m.given.second g)) → length (text_named name files) ≡ taken_by s + length g.bytes + length h.agrees.rest
  file_len g files h =
      ap length (sym (text_is name files (joined m.given.second g) h) ∙ h.agrees.front)
      ∙ (length-append (m.given.second.bytes ++ g.bytes) h.agrees.rest ∙ ap (λ n. n + length h.agrees.rest) (length-append m.given.second.bytes g.bytes ∙ ap (λ n. n + length g.bytes) (sym has.count)))

  short : (g : Gave) (files : Files) → (s.ended || g.ended) ≡ true → taken_by s + length g.bytes ≤ s.limit → FileAgrees name files (joined m.given.second g) → length (text_named name files) ≤ limit
  short g files end low h =
      let none : length h.agrees.rest ≡ 0 = ap length (h.agrees.all (ap (λ (x : Bool). x || g.ended) (sym has.ends) ∙ end)) in
      let len = file_len g files h in
      let lim : s.limit ≡ limit = has.limited in
      omega (arith, none, len, low, lim)

  long : (g : Gave) (files : Files) → taken_by s + length g.bytes ≡ s.limit + 1 → FileAgrees name files (joined m.given.second g) → limit < length (text_named name files)
  long g files past h =
      let len = file_len g files h in
      let lim : s.limit ≡ limit = has.limited in
      omega (arith, len, past, lim)

  pub rest_acts : {T : Type 0} (r : Result T DrainErr) (p : Outside) → DrainsRest s m r p → Acts limit m p (λ w. RestRead name limit (seen w m) (drained_as r) (seen w p))
  rest_acts (Ok v) p (g, is, none, low, end) =
      let reads : p.faults.reads ≡ m.faults.reads = ap (λ (x : Outside). x.faults.reads) is in
      more_read g p (is ∙ ap (λ n. read_by s.slot g n m) (sym reads)) none (let lim : s.limit ≡ limit = has.limited in omega (arith, low, lim))
      (λ w files. (ap (seen w) is, IfSome_then w files (λ fs h. short g fs end low h)))
  rest_acts (Err drained.TooLong) p (g, is, none, past) =
      let reads : p.faults.reads ≡ m.faults.reads = ap (λ (x : Outside). x.faults.reads) is in
      more_read g p (is ∙ ap (λ n. read_by s.slot g n m) (sym reads)) none (let lim : s.limit ≡ limit = has.limited in omega (arith, past, lim))
      (λ w files. (refl, ap (seen w) is, IfSome_then w files (λ fs h. long g fs past h)))
  rest_acts (Err drained.Failed) p (g, fault, none, low) =
      more_read g p fault.else_same none (let lim : s.limit ≡ limit = has.limited in omega (arith, low, lim)) (λ w files. drain_fault w s.slot g m p fault)

-- ---- a proof

-- the ending of a proof that was judged, if its text is not too long
abbrev pub CheckedTo : Problem → Bytes → Seen → Seen → Ending → Type 0
CheckedTo f name old at e = ((n : Bytes) → IsLateOf (plan.Check n name) e) × (at ≡ old) × IfSome old.files (λ files. (n : Bytes) → Judged e (plan.Check n name) f (text_named name files))

-- what a proof was judged to, or why it was not judged to its end
abbrev pub Checks : Problem → Bytes → ℕ → Seen → Result Ending Outcome → Seen → Type 0
Checks f name limit old result at = MatchResult result (CheckedTo f name old at) (λ e. ReadFails slot.Second name limit old e at)

module _ (f : Problem) (name : Bytes) (limit : ℕ) (o : Outside) (ready : Ready slot.Second name o) (s : BytesState) (m : Outside) (frame : SlotFrame (first_state slot.Second limit).bytes o s m) where
  abbrev judges : Result Verdict Fault → Bytes → Type 0
  judges r text = IfOk r (IsJudgedBy (PairLeaves proof_steps text) f (first_state slot.Second limit, o)) × IfErr r (HasCause (is_too_long (first_state slot.Second limit).bytes o text) o.faults.reads m.faults.reads)

  judged_text : (w : Option Files) (text : Bytes) (v : Verdict) → IsTextOf name w text → IsJudgedBy (PairLeaves proof_steps text) f (first_state slot.Second limit, o) v
      → IfSome w (λ files. ProofJudgedAs f (text_named name files) (judgement_of v))
  judged_text w text v is judged =
      IfSome_then w is (λ files same. record {
        steps = judged.0;
        ending = judged.1;
        reads = subst (λ (x : Bytes). ProofReads x judged.0 judged.1) same (whole_text proof_steps slot.Second limit o name ready text judged.0 judged.1 judged.2);
        judged = judged.3;
      })

  check_by : (r : Result Verdict Fault) → ReadsStand r o.faults.reads m.faults.reads → (w : Option Files) (text : Bytes) → IsTextOf name w text → judges r text → Checks f name limit (seen w o) (checked_as r) (seen w m)
  check_by (Ok (verdict.Verified k)) stand w text is h = (λ n. (tt, refl), seen-still w slot.Second frame.got o m frame.read stand, IfSome_then w (judged_text w text (verdict.Verified k) is h.0) (λ files j n. j))
  check_by (Ok (verdict.Refused k c)) stand w text is h = (λ n. (tt, refl), seen-still w slot.Second frame.got o m frame.read stand, IfSome_then w (judged_text w text (verdict.Refused k c) is h.0) (λ files j n. j))
  check_by (Err fault.Memory) stand w text is h = seen-still w slot.Second frame.got o m frame.read stand
  check_by (Err fault.Read) stand w text is h = read_fault w slot.Second frame.got o m frame.read h.1
  check_by (Err fault.TooLong) stand w text is h =
      (refl, seen-still w slot.Second frame.got o m frame.read stand, IfSome_then w is (λ files same. subst (λ (x : Bytes). limit < length x) same (is_long slot.Second limit o name text ready h.1)))

  -- the proof was judged, or not to its end
  pub check_acts : (r : Result Verdict Fault) → ((text : Bytes) → IsPossible s m text → IfOk r (IsJudgedBy (PairLeaves proof_steps text) f (first_state slot.Second limit, o)))
      → ((text : Bytes) → IsPossible s m text → IfErr r (HasCause (is_too_long (first_state slot.Second limit).bytes o text) o.faults.reads m.faults.reads)) → ReadsStand r o.faults.reads m.faults.reads
      → Acts limit o m (λ w. Checks f name limit (seen w o) (checked_as r) (seen w m))
  check_acts r judged cause stand =
      acts_by_text name limit o ready s m (has_read name limit o s m ready frame) (λ w text may is. check_by r stand w text is (judged text may, cause text may))

-- the slot was not read to its end
pub fails_later : (name : Bytes) (limit : ℕ) (old at new : Seen) (e : Outcome) → at ≡ old → ReadFails slot.Second name limit at e new → ReadFails slot.Second name limit old e new
fails_later name limit old at new e same h = subst (λ (x : Seen). ReadFails slot.Second name limit x e new) same h

-- or it was
judged_within : (f : Problem) (name : Bytes) (limit : ℕ) (old at new : Seen) (e : Ending) → CheckedTo f name old at e → (new ≡ at) × IfSome at.files (λ files. length (text_named name files) ≤ limit)
    → JudgesProof f name limit old (Ok e) new
judged_within f name limit old at new e judged rest = (
  judged.0,
  rest.0 ∙ judged.1,
  if_some_both old.files judged.2 (subst (λ (x : Seen). IfSome x.files (λ files. length (text_named name files) ≤ limit)) judged.1 rest.1) (λ files j short n. (short, j n)),
)

-- what a proof was judged to stays where the rest was read
pub judged_with : (f : Problem) (name : Bytes) (limit : ℕ) (old at new : Seen) (e : Ending) (r : Result (Unit {0}) DrainErr) → CheckedTo f name old at e → RestRead name limit at (drained_as r) new → JudgesProof f name limit old (drained_with e r) new
judged_with f name limit old at new e (Ok v) judged rest = judged_within f name limit old at new e judged rest
judged_with f name limit old at new e (Err drained.Failed) judged rest = fails_later name limit old at new outcome.ReadFault judged.1 rest
judged_with f name limit old at new e (Err drained.TooLong) judged rest = fails_later name limit old at new (outcome.Ended (ending.TooLong slot.Second)) judged.1 rest
