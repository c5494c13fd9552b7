-- The files decide what `check`, `model`, `trim` and `blast` write.
use Rattle.std.proofs.Common.{◌≡◌, ℕ, Bool, true, false, List, ◌++◌, Option, Some, None, IsTrue, inl, inr, refl, ap, sym, subst, ◌∙◌}
use Rattle.cx_base.specs.Problem.{Problem}
use Rattle.cx_base.specs.declared.steps.ProofStep.{ProofStep}
use Rattle.cx_texts.specs.Printed.{printed_proof}
use Rattle.cnfx_reader.specs.PrintedFormula.{printed_formula}
use Rattle.proof_trim.specs.Needed.{AreNeeded}
use Rattle.proof_trim.specs.Trimmed.{trimmed}
use Rattle.xor_blast.specs.Blasted.{blasted}
use Rattle.cx_desk.specs.declared.desk.Slot.{Slot}
use Rattle.cx_desk.specs.declared.desk.Slot.TheVariants as slot
use Rattle.cx_desk.specs.Outside.{Bytes, Files, Written}
use Rattle.cx_words.specs.Words.{Asks}
use Rattle.cx_words.specs.declared.plans.Plan.{Plan}
use Rattle.cx_words.specs.declared.plans.Plan.TheVariants as plan
use Rattle.cx_words.proofs.PlanLaws.{not_refused}
use Rattle.solve_cli.specs.declared.ending.Core.{Core}
use Rattle.solve_cli.specs.declared.ending.Ending.{Ending}
use Rattle.solve_cli.specs.declared.ending.Ending.TheVariants as ending
use Rattle.solve_cli.specs.declared.ending.Outcome.{Outcome}
use Rattle.solve_cli.specs.declared.ending.Outcome.TheVariants as outcome
use Rattle.solve_cli.specs.declared.ending.Status.{Status}
use Rattle.solve_cli.specs.Commands.{Stage, formula_started, second_started, proof_created, formula_of, second_of, proof_of, starts, gives_file, asked_to}
use Rattle.solve_cli.specs.Endings.{status_of, status_of_ending, answer_text, message_text}
use Rattle.solve_cli.specs.Happens.{Ends, Gains, PutsMessage, Runs, WorksFor, end_stage}
use Rattle.solve_cli.specs.Seen.{Seen, text_named, without_proof}
use Rattle.solve_cli.specs.Trimming.{IsTrimmedProof, TrimsTo}
use Rattle.solve_cli.specs.TwoRuns.{IsComputed, IsWhole, HaveSameOutput, FilesDecide}
use Rattle.solve_cli.proofs.Direct.{ended}
use Rattle.solve_cli.proofs.Dues.{one_formula}
use Rattle.solve_cli.proofs.OneEnding.{one_computed}
use Rattle.solve_cli.proofs.OneTrimming.{one_proof, same_trims}
use Rattle.solve_cli.proofs.WholeWay.{of_told}

-- ---- the steps that stay of a proof

same_bool : (a b : Bool) → (IsTrue a → IsTrue b) → (IsTrue b → IsTrue a) → a ≡ b
same_bool true true h k = refl
same_bool true false h k = sym (h refl)
same_bool false true h k = k refl
same_bool false false h k = refl

-- the least closed set is one set
same_needed : (proof : List ProofStep) (needed also : ℕ → Bool) → AreNeeded proof needed → AreNeeded proof also → needed ≡ also
same_needed proof needed also h k = λ i j. same_bool (needed j) (also j) (h.least also k.closed j) (k.least needed h.closed j) i

same_steps : (f : Problem) (text : Bytes) (steps also : List ProofStep) (core : Core) → TrimsTo f text steps core → TrimsTo f text also core → steps ≡ also
same_steps f text steps also core (p, h, s) (q, k, t) =
    let u = same_trims f p q _ (one_proof f text p q h k) s in
    u.steps ∙ (ap (λ (n : ℕ → Bool). trimmed f n q) (same_needed q u.needed t.needed u.are_needed t.are_needed) ∙ sym t.steps)

-- ---- what the Proof port gains

same_gains : (p : Plan) (limit : ℕ) (files : Files) (e : Ending) (x y : Bytes) → IsComputed p → Gains p limit files e x → Gains p limit files e y → x ≡ y
same_gains (plan.Check n q) limit files e x y computed h k = h ∙ sym k
same_gains (plan.Model n a) limit files e x y computed h k = h ∙ sym k
same_gains (plan.Trim n q o) limit files (ending.Trimmed core) x y computed h k =
    let same = one_formula (text_named n files) k.0 h.0 k.1.reads h.1.reads in
    let l = subst (λ (f : Problem). IsTrimmedProof f (text_named q files) core y) same k.2 in
    h.2.printed ∙ (ap printed_proof (same_steps h.0 (text_named q files) h.2.steps l.steps core h.2.trims l.trims) ∙ sym l.printed)
same_gains (plan.Trim n q o) limit files e x y computed h k = h ∙ sym k
same_gains (plan.Blast n o) limit files (ending.Blasted variables clauses) x y computed h k =
    let same = one_formula (text_named n files) h.0 k.0 h.1.reads k.1.reads in
    h.2.printed ∙ (ap (λ (f : Problem). printed_formula (blasted f)) same ∙ sym k.2.printed)
same_gains (plan.Blast n o) limit files e x y computed h k = h ∙ sym k
same_gains p limit files e x y computed h k = absurd computed

-- ---- what the ports had before the answer

starts_written : (at : Slot) (name : Option Bytes) (s : Seen) → (starts at name s).written ≡ s.written
starts_written at None s = refl
starts_written at (Some n) s = refl

gives_written : (name : Option Bytes) (a b : Seen) → a.written ≡ b.written → (gives_file name a).written ≡ (gives_file name b).written
gives_written None a b e = e
gives_written (Some n) a b e = ap without_proof e

-- the calls leave the same on the ports where there was the same before
with_formula : (p : Plan) (a b : Seen) → a.written ≡ b.written → (asked_to formula_started p a).written ≡ (asked_to formula_started p b).written
with_formula p a b e = starts_written slot.Formula (formula_of p) a ∙ (e ∙ sym (starts_written slot.Formula (formula_of p) b))

with_second : (p : Plan) (a b : Seen) → a.written ≡ b.written → (asked_to second_started p a).written ≡ (asked_to second_started p b).written
with_second p a b e =
    starts_written slot.Second (second_of p) (asked_to formula_started p a) ∙ (with_formula p a b e ∙ sym (starts_written slot.Second (second_of p) (asked_to formula_started p b)))

written_at : (stage : Stage) (p : Plan) (a b : Seen) → a.written ≡ b.written → (asked_to stage p a).written ≡ (asked_to stage p b).written
written_at formula_started p a b e = with_formula p a b e
written_at second_started p a b e = with_second p a b e
written_at proof_created p a b e = gives_written (proof_of p) (asked_to second_started p a) (asked_to second_started p b) (with_second p a b e)

-- ---- a whole run

-- the run ended so, with its answer written
record EndsRun (p : Plan) (limit : ℕ) (old : Seen) (s : Status) (new : Seen) : Type 0 where
  ending : Ending
  status_is : s ≡ status_of_ending ending
  before : Seen
  ends : Ends p limit old ending before
  answer : new.written.answer ≡ before.written.answer ++ answer_text ending
  proof : new.written.proof ≡ before.written.proof

message_answer : (text : Bytes) (old new : Seen) → PutsMessage text old new → new.written.answer ≡ old.written.answer
message_answer text old new (inl e) = ap (λ (s : Seen). s.written.answer) e
message_answer text old new (inr h) = ap (λ (s : Seen). s.written.answer) h.2.else_same

message_proof : (text : Bytes) (old new : Seen) → PutsMessage text old new → new.written.proof ≡ old.written.proof
message_proof text old new (inl e) = ap (λ (s : Seen). s.written.proof) e
message_proof text old new (inr h) = ap (λ (s : Seen). s.written.proof) h.2.else_same

ends_run : (words : List Bytes) (limit : ℕ) (old : Seen) (s : Status) (new : Seen) (p : Plan) → Runs words limit old s new → Asks words p → IsWhole s → EndsRun p limit old s new
ends_run words limit old s new p h asks whole = by h.outcome refl h.status_is h.works
  where
    by : (o : Outcome) → h.outcome ≡ o → s ≡ status_of o → WorksFor words limit old o h.done → EndsRun p limit old s new
    by outcome.Usage same is works = absurd (not_refused words p asks works.0)
    by outcome.Memory same is works = absurd (whole.had_memory is)
    by outcome.ReadFault same is works = absurd (whole.was_read is)
    by outcome.WriteFault same is works = absurd (whole.was_written is)
    by (outcome.Ended e) same is works =
        let w = ended words limit old s new h p e asks same in
        record {
          ending = e;
          status_is = is;
          before = w.0;
          ends = w.1;
          answer = message_answer (message_text h.outcome) h.done new h.tells ∙ ap (λ (x : Seen). x.written.answer) w.2;
          proof = message_proof (message_text h.outcome) h.done new h.tells ∙ ap (λ (x : Seen). x.written.proof) w.2;
        }

-- ---- two of them

-- what is written before an answer, from what was on the ports
before_answer : (p : Plan) (limit : ℕ) (old : Seen) (e : Ending) (before : Seen) → Ends p limit old e before → before.written.answer ≡ (asked_to (end_stage e) p old).written.answer
before_answer p limit old e before h = ap (λ (s : Seen). s.written.answer) h.before_is

before_proof : (p : Plan) (limit : ℕ) (old : Seen) (e : Ending) (before : Seen) (h : Ends p limit old e before) → before.written.proof ≡ (asked_to (end_stage e) p old).written.proof ++ h.proof
before_proof p limit old e before h = ap (λ (s : Seen). s.written.proof) h.before_is

same_output : (p : Plan) (limit : ℕ) (files : Files) (a b x y : Seen) (e : Ending) (k l : Seen) → IsComputed p → a.files ≡ Some files → b.files ≡ Some files → a.written ≡ b.written
    → (h : Ends p limit a e k) (m : Ends p limit b e l) → x.written.answer ≡ k.written.answer ++ answer_text e → x.written.proof ≡ k.written.proof
    → y.written.answer ≡ l.written.answer ++ answer_text e → y.written.proof ≡ l.written.proof → HaveSameOutput x.written y.written
same_output p limit files a b x y e k l computed told also same h m answer proof answer' proof' =
    let at = written_at (end_stage e) p a b same in
    let gains : h.proof ≡ m.proof = same_gains p limit files e h.proof m.proof computed (of_told _ a.files files told h.gains) (of_told _ b.files files also m.gains) in
    let answers = before_answer p limit a e k h ∙ (ap (λ (w : Written). w.answer) at ∙ sym (before_answer p limit b e l m)) in
    let proofs = before_proof p limit a e k h ∙ (ap (λ (w : Written). w.proof ++ h.proof) at ∙ (ap (λ (z : Bytes). (asked_to (end_stage e) p b).written.proof ++ z) gains ∙ sym (before_proof p limit b e l m))) in
    record {
      answer = answer ∙ (ap (λ (z : Bytes). z ++ answer_text e) answers ∙ sym answer');
      proof = proof ∙ (proofs ∙ sym proof');
    }

pub files_decide : FilesDecide
files_decide words limit files before after last s t p asks computed a b whole also =
    let r = ends_run words limit a.old s a.new p a.run.happens asks whole in
    let q = ends_run words limit b.old t b.new p b.run.happens asks also in
    let due = of_told _ a.old.files files a.told r.ends.due in
    let due' = of_told _ b.old.files files b.told q.ends.due in
    let same : q.ending ≡ r.ending = one_computed p limit files q.ending r.ending computed due' due in
    let ends = subst (λ (e : Ending). Ends p limit b.old e q.before) same q.ends in
    let answer = q.answer ∙ ap (λ (e : Ending). q.before.written.answer ++ answer_text e) same in
    let output = same_output p limit files a.old b.old a.new b.new r.ending r.before q.before computed a.told b.told (a.begun ∙ sym b.begun) r.ends ends r.answer r.proof answer q.proof in (
      r.status_is ∙ (ap status_of_ending (sym same) ∙ sym q.status_is),
      subst (λ (w : Written). HaveSameOutput after w) b.left (subst (λ (w : Written). HaveSameOutput w b.new.written) a.left output),
    )
