-- What the elaborator leaves of a source and a sink, by what it answers.
use Rattle.std.proofs.Common.{◌≡◌, refl, ◌∙◌, subst, ℕ, Bool, true, false, List, Option, Some, None, IfOk, IfErr, Result, Ok, Err}
use Rattle.cx_base.specs.declared.steps.LogStep.{LogStep}
use Rattle.step_text.specs.Sources.{FaultsAs, StuckAs, IsTooLongOnly}
use Rattle.step_text.specs.Sinks.{SinkFaultsAs, HasFailedAs}
use Rattle.step_text.specs.declared.source.TextRefusal.{TextRefusal}
use Rattle.step_text.specs.declared.source.TextRefusal.TheVariants as text
use Rattle.step_text.specs.declared.sink.SinkFault.{SinkFault}
use Rattle.step_text.specs.declared.sink.SinkFault.TheVariants as sink
use Rattle.proof_rules.specs.declared.refusal.JudgeRefusal.{JudgeRefusal}
use Rattle.proof_rules.specs.declared.refusal.JudgeRefusal.TheVariants as refusal
use Rattle.fratx_elab.specs.Ends.{EndsView, AnswersOf, SourceAnswers, SinkStays, SinkAnswers, SourceStays}
use Rattle.fratx_elab.specs.EndsLeft.{LeavesEnds}
use Rattle.fratx_elab.specs.Outcomes.{text_refused, step_refused, what_follows_of, HasCause, ReadsStand, WritesStand, IsTooLongBy}
use Rattle.fratx_elab.specs.declared.outcome.ElabFault.{ElabFault}
use Rattle.fratx_elab.specs.declared.outcome.ElabFault.TheVariants as fault

-- ---- the sink's faults

module _ (before now : ℕ) where
  text_stands : (why : TextRefusal) (k : ℕ) → now ≡ before → WritesStand (text_refused why k) before now
  text_stands (text.BadToken place) k e = e
  text_stands (text.Unterminated place) k e = e
  text_stands (text.TooBig place) k e = e
  text_stands text.TooLong k e = e
  text_stands text.Memory k e = e
  text_stands text.Failed k e = e

  step_stands : (why : JudgeRefusal) (k : ℕ) → now ≡ before → WritesStand (step_refused why k) before now
  step_stands (refusal.Wrong cause) k e = e
  step_stands refusal.Memory k e = e

  write_stands : (wrote : Result (Unit {0}) SinkFault) (ends : Bool) (k : ℕ) → SinkFaultsAs wrote before now → WritesStand (what_follows_of wrote ends k) before now
  write_stands (Ok u) true k e = e
  write_stands (Ok u) false k e = e
  write_stands (Err sink.Memory) ends k e = e
  write_stands (Err sink.Failed) ends k e = tt

-- ---- the source's faults

abbrev unread : TextRefusal → Result (Unit {0}) TextRefusal
unread why = Err why

module _ (before now : ℕ) where
  text_reads : (why : TextRefusal) (k : ℕ) → FaultsAs (unread why) before now → ReadsStand (text_refused why k) before now
  text_reads (text.BadToken place) k e = e
  text_reads (text.Unterminated place) k e = e
  text_reads (text.TooBig place) k e = e
  text_reads text.TooLong k e = e
  text_reads text.Memory k e = e
  text_reads text.Failed k e = tt

  step_reads : (why : JudgeRefusal) (k : ℕ) → now ≡ before → ReadsStand (step_refused why k) before now
  step_reads (refusal.Wrong cause) k e = e
  step_reads refusal.Memory k e = e

  write_reads : (wrote : Result (Unit {0}) SinkFault) (ends : Bool) (k : ℕ) → now ≡ before → ReadsStand (what_follows_of wrote ends k) before now
  write_reads (Ok u) true k e = e
  write_reads (Ok u) false k e = e
  write_reads (Err sink.Memory) ends k e = e
  write_reads (Err sink.Failed) ends k e = e

-- ---- a text that is too long

text_stuck : (T : Type 0) (before now : Option TextRefusal) (why : TextRefusal) (k : ℕ) → StuckAs {T = T} before (Err why) now → IfErr (text_refused why k) (IsTooLongBy now)
text_stuck T before now (text.BadToken place) k e = tt
text_stuck T before now (text.Unterminated place) k e = tt
text_stuck T before now (text.TooBig place) k e = tt
text_stuck T None now text.TooLong k e = e
text_stuck T (Some r) now text.TooLong k e = cc (e.0, e.1)
text_stuck T before now text.Memory k e = tt
text_stuck T before now text.Failed k e = tt

step_stuck : (now : Option TextRefusal) (why : JudgeRefusal) (k : ℕ) → IfErr (step_refused why k) (IsTooLongBy now)
step_stuck now (refusal.Wrong cause) k = tt
step_stuck now refusal.Memory k = tt

write_stuck : (now : Option TextRefusal) (wrote : Result (Unit {0}) SinkFault) (ends : Bool) (k : ℕ) → IfErr (what_follows_of wrote ends k) (IsTooLongBy now)
write_stuck now (Ok u) true k = tt
write_stuck now (Ok u) false k = tt
write_stuck now (Err sink.Memory) ends k = tt
write_stuck now (Err sink.Failed) ends k = tt

-- ---- the cause of a fault

module _ (passes : Option Bool) (reads reads_now writes writes_now : ℕ) where
  text_cause : (why : TextRefusal) (k : ℕ) → IsTooLongOnly {S = LogStep} passes (Err why) → FaultsAs (unread why) reads reads_now → IfErr (text_refused why k) (HasCause passes reads reads_now writes writes_now)
  text_cause (text.BadToken place) k long faults = tt
  text_cause (text.Unterminated place) k long faults = tt
  text_cause (text.TooBig place) k long faults = tt
  text_cause text.TooLong k long faults = long
  text_cause text.Memory k long faults = tt
  text_cause text.Failed k long faults = faults

  step_cause : (why : JudgeRefusal) (k : ℕ) → IfErr (step_refused why k) (HasCause passes reads reads_now writes writes_now)
  step_cause (refusal.Wrong cause) k = tt
  step_cause refusal.Memory k = tt

  write_cause : (wrote : Result (Unit {0}) SinkFault) (ends : Bool) (k : ℕ) → SinkFaultsAs wrote writes writes_now → IfErr (what_follows_of wrote ends k) (HasCause passes reads reads_now writes writes_now)
  write_cause (Ok u) true k faults = tt
  write_cause (Ok u) false k faults = tt
  write_cause (Err sink.Memory) ends k faults = tt
  write_cause (Err sink.Failed) ends k faults = faults

-- ---- whether the sink may be asked again

still_so : {T E : Type 0} (P : Type 0) (result : Result T E) → P → IfOk result (λ _. P)
still_so P (Ok x) p = p
still_so P (Err e) p = tt

write_failed : (before now : Bool) (wrote : Result (Unit {0}) SinkFault) (ends : Bool) (k : ℕ) → HasFailedAs wrote before now → IfOk (what_follows_of wrote ends k) (λ _. now ≡ before)
write_failed before now (Ok u) true k e = e
write_failed before now (Ok u) false k e = e
write_failed before now (Err sink.Memory) ends k e = tt
write_failed before now (Err sink.Failed) ends k e = tt

-- ---- all of it

module _ {X : Type 0} (view : EndsView X) where
  -- no step came
  pub no_step_leaves : (old new : X) (why : TextRefusal) (k : ℕ) → ((t : List ℕ) → view.may_read new t → AnswersOf view t old (Err why) new) → SourceAnswers view old (Err why) new → SinkStays view old new → view.keeps old new
      → LeavesEnds view old (text_refused why k) new
  no_step_leaves old new why k texts source sink frame = record {
    narrows = λ t may. (texts t may).narrows;
    cause = λ t may. text_cause _ _ _ _ _ why k (texts t may).long source.faults;
    long = text_stuck _ _ _ why k source.stuck;
    reads = text_reads _ _ why k source.faults;
    writes = text_stands _ _ why k sink.faults;
    failed = still_so _ (text_refused why k) sink.failed;
    frame = frame;
  }

  -- a step came
  module _ (old between : X) (given : Option LogStep) (texts : (t : List ℕ) → view.may_read between t → AnswersOf view t old (Ok given) between) (source : SourceAnswers view old (Ok given) between)
      (stays : SinkStays view old between) (frame : view.keeps old between) where
    -- it is wrong
    pub refusal_leaves : (why : JudgeRefusal) (k : ℕ) → LeavesEnds view old (step_refused why k) between
    refusal_leaves why k = record {
      narrows = λ t may. (texts t may).narrows;
      cause = λ t may. step_cause _ _ _ _ _ why k;
      long = step_stuck _ why k;
      reads = step_reads _ _ why k source.faults;
      writes = step_stands _ _ why k stays.faults;
      failed = still_so _ (step_refused why k) stays.failed;
      frame = frame;
    }

    -- it is right, and what the proof gains is written
    pub write_leaves : (new : X) (wrote : Result (Unit {0}) SinkFault) (ends : Bool) (k : ℕ) → SinkAnswers view between wrote new → SourceStays view between new → view.keeps old new → LeavesEnds view old (what_follows_of wrote ends k) new
    write_leaves new wrote ends k answer still keeps =
        let faults = subst (λ n. SinkFaultsAs wrote n (view.write_faults new)) stays.faults answer.faults in
        record {
          narrows = λ t may. (texts t (still.text t may)).narrows;
          cause = λ t may. write_cause _ _ _ _ _ wrote ends k faults;
          long = write_stuck _ wrote ends k;
          reads = write_reads _ _ wrote ends k (still.faults ∙ source.faults);
          writes = write_stands _ _ wrote ends k faults;
          failed = write_failed _ _ wrote ends k (subst (λ b. HasFailedAs wrote b (view.has_failed new)) stays.failed answer.failed);
          frame = keeps;
        }

  -- nothing was read or written
  pub judged_at_once : {T : Type 0} (ends : X) (answer : T) → view.keeps ends ends → LeavesEnds view ends (Ok answer) ends
  judged_at_once ends answer keeps = record { narrows = λ t may. may; cause = λ t may. tt; long = tt; reads = refl; writes = refl; failed = refl; frame = keeps }

  pub no_memory_at_once : {T : Type 0} (ends : X) → view.keeps ends ends → LeavesEnds view {T = T} ends (Err fault.Memory) ends
  no_memory_at_once ends keeps = record { narrows = λ t may. may; cause = λ t may. tt; long = tt; reads = refl; writes = refl; failed = tt; frame = keeps }

  -- a fault after steps that left the faults as they were
  pub fault_leaves : {T U : Type 0} (first old new : X) (why : ElabFault) → ((t : List ℕ) → view.may_read old t → view.may_read first t) → ((t : List ℕ) → view.may_read old t → view.passes_limit old t ≡ view.passes_limit first t)
      → view.read_faults old ≡ view.read_faults first → view.write_faults old ≡ view.write_faults first → view.keeps first new → LeavesEnds view {T = T} old (Err why) new → LeavesEnds view {T = U} first (Err why) new
  fault_leaves {T} {U} first old new why narrows limit reads writes keeps left = record {
    narrows = λ t may. narrows t (left.narrows t may);
    cause = λ t may.
        subst (λ p. HasCause p (view.read_faults first) (view.read_faults new) (view.write_faults first) (view.write_faults new) why) (limit t (left.narrows t may))
        (subst (λ n. HasCause (view.passes_limit old t) n (view.read_faults new) (view.write_faults first) (view.write_faults new) why) reads
        (subst (λ n. HasCause (view.passes_limit old t) (view.read_faults old) (view.read_faults new) n (view.write_faults new) why) writes (left.cause t may)));
    long = left.long;
    reads = reads_from why (view.read_faults new) reads left.reads;
    writes = writes_from why (view.write_faults new) writes left.writes;
    failed = tt;
    frame = keeps;
  }
    where
      reads_from : {a b : ℕ} (f : ElabFault) (n : ℕ) → a ≡ b → ReadsStand {T = T} (Err f) a n → ReadsStand {T = U} (Err f) b n
      reads_from fault.Memory n e h = h ∙ e
      reads_from fault.Read n e h = tt
      reads_from fault.Write n e h = h ∙ e
      reads_from fault.TooLong n e h = h ∙ e

      writes_from : {a b : ℕ} (f : ElabFault) (n : ℕ) → a ≡ b → WritesStand {T = T} (Err f) a n → WritesStand {T = U} (Err f) b n
      writes_from fault.Memory n e h = h ∙ e
      writes_from fault.Read n e h = h ∙ e
      writes_from fault.Write n e h = tt
      writes_from fault.TooLong n e h = h ∙ e
