-- One command after another: what `solve` logged is elaborated, and what `elab` wrote is verified.
use Rattle.std.proofs.Common.{◌≡◌, ◌<◌, ◌⊎◌, ℕ, List, length, Option, Some, IfSome, inl, inr, refl, ap, sym, subst, ◌∙◌}
use Rattle.cx_base.specs.Problem.{Problem}
use Rattle.cx_texts.specs.FormulaText.{Reads}
use Rattle.cx_semantics.specs.Judging.{accepted, refused}
use Rattle.cx_judgements.specs.LogTexts.{LogRight, LogJudgedAs}
use Rattle.cx_judgements.specs.ProofTexts.{Accepted, ProofJudgedAs}
use Rattle.cx_judgements.proofs.OneJudgement.{one_proof_judgement, one_log_judgement}
use Rattle.cx_desk.specs.declared.desk.Slot.TheVariants as slot
use Rattle.cx_desk.specs.Outside.{Bytes, Files, Written, Outside}
use Rattle.cx_desk.specs.Agreeing.{MayHave}
use Rattle.cx_words.specs.Words.{Asks}
use Rattle.cx_words.specs.declared.plans.Plan.{Plan}
use Rattle.cx_words.specs.declared.plans.Plan.TheVariants as plan
use Rattle.cx_words.proofs.PlanLaws.{one_plan, not_refused}
use Rattle.solve_cli.specs.declared.ending.Ending.{Ending}
use Rattle.solve_cli.specs.declared.ending.Ending.TheVariants as ending
use Rattle.solve_cli.specs.declared.ending.Outcome.{Outcome}
use Rattle.solve_cli.specs.declared.ending.Outcome.TheVariants as outcome
use Rattle.solve_cli.specs.declared.ending.Status.{Status}
use Rattle.solve_cli.specs.declared.ending.Status.TheVariants as status
use Rattle.solve_cli.specs.Endings.{status_of, status_of_ending}
use Rattle.solve_cli.specs.Failed.{unsatisfiable_text}
use Rattle.solve_cli.specs.Seen.{Seen, seen, text_named}
use Rattle.solve_cli.specs.Proofs.{IsWholeProof}
use Rattle.solve_cli.specs.Solved.{solved}
use Rattle.solve_cli.specs.Happens.{EarlyDue, Judged, LateDue, Due, WorksFor, Runs}
use Rattle.solve_cli.specs.Run.{Run}
use Rattle.solve_cli.specs.WholeWay.{ToldRun, IsCutShort, LogsElaborate, ProofsVerify}
use Rattle.solve_cli.proofs.Direct.{proof_in, ended}
use Rattle.solve_cli.proofs.Dues.{same_of_one, one_formula}
use Rattle.solve_cli.proofs.OneEnding.{not_both_read}

-- a run over a desk that knows its files, which agree with it by a law of every desk, is one in which it told these
pub told_by_run : (words : List Bytes) (limit : ℕ) (o n : Outside) (files : Files) (s : Status) → n.files ≡ Some files → MayHave n.files n
    → ((w : Option Files) → MayHave w n → Run words limit (seen w o) s (seen w n)) → ToldRun words limit files s n.written
told_by_run words limit o n files s knows agrees run =
    record { old = seen (Some files) o; new = seen (Some files) n; run = run (Some files) (subst (λ (w : Option Files). MayHave w n) knows agrees); told = refl; left = refl }

-- ---- how a run ends

-- it was cut off, or it ended as is due
abbrev IsStopped : Status → Type 0
IsStopped s = (s ≡ status.ReadFault) ⊎ ((s ≡ status.WriteFault) ⊎ (s ≡ status.OutOfMemory))

abbrev EndsAsDue : Plan → ℕ → Files → Status → Type 0
EndsAsDue p limit files s = (e : Ending) × (s ≡ status_of_ending e) × Due p limit files e

pub of_told : (P : Files → Type 0) (w : Option Files) (files : Files) → w ≡ Some files → IfSome w P → P files
of_told P w files e h = subst (λ (x : Option Files). IfSome x P) e h

ends_or_stops : (words : List Bytes) (limit : ℕ) (files : Files) (s : Status) (written : Written) (p : Plan) → ToldRun words limit files s written → Asks words p
    → IsStopped s ⊎ EndsAsDue p limit files s
ends_or_stops words limit files s written p t asks = by h.outcome refl h.status_is h.works
  where
    h : Runs words limit t.old s t.new
    h = t.run.happens

    by : (o : Outcome) → h.outcome ≡ o → s ≡ status_of o → WorksFor words limit t.old o h.done → IsStopped s ⊎ EndsAsDue p limit files s
    by outcome.Usage same is works = absurd (not_refused words p asks works.0)
    by outcome.Memory same is works = inl (inr (inr is))
    by outcome.ReadFault same is works = inl (inl is)
    by outcome.WriteFault same is works = inl (inr (inl is))
    by (outcome.Ended e) same is works = inr (e, is, of_told _ t.old.files files t.told (ended words limit t.old s t.new h p e asks same).1.due)

-- ---- what is due for a right log, and for an accepted proof

abbrev IsWithin : ℕ → Bytes → Bytes → Status → Type 0
IsWithin limit first second s = (s ≡ status.Done) ⊎ ((s ≡ status.Limit) × ((limit < length first) ⊎ (limit < length second)))

-- a text is too long, or the formula's text is refused, which it is not
early_within : (limit : ℕ) (text second : Bytes) (f : Problem) (e : Ending) → Reads text f → EarlyDue limit text e → IsWithin limit text second (status_of_ending e)
early_within limit text second f (ending.FormulaRefused o) reads h = absurd (not_both_read text f o reads h.1)
early_within limit text second f (ending.TooLong slot.Formula) reads h = inr (refl, inl h)
early_within limit text second f e reads h = absurd h

log_due : (n l q : Bytes) (limit : ℕ) (files : Files) (f : Problem) (k : ℕ) (e : Ending) → Reads (text_named n files) f → LogRight f (text_named l files) k → Due (plan.Elab n l q) limit files e
    → IsWithin limit (text_named n files) (text_named l files) (status_of_ending e)
log_due n l q limit files f k e reads right (inl early) = early_within limit (text_named n files) (text_named l files) f e reads early
log_due n l q limit files f k e reads right (inr d) = by d.due
  where
    same : d.formula ≡ f
    same = one_formula (text_named n files) d.formula f d.is_formula.reads reads

    not_refused : (j : ℕ) (c : _) → LogJudgedAs f (text_named l files) (refused j c) → ⊥
    not_refused j c wrong =
        let e = same_of_one {P = LogJudgedAs f (text_named l files)} (one_log_judgement f (text_named l files)) (accepted k) (refused j c) right wrong in cc

    judged : (x : Ending) → Judged x (plan.Elab n l q) f (text_named l files) → IsWithin limit (text_named n files) (text_named l files) (status_of_ending x)
    judged (ending.Elaborated j) h = inl refl
    judged (ending.NotElaborated j c) h = absurd (not_refused j c h)
    judged x h = absurd h

    by : LateDue (plan.Elab n l q) limit d.formula (text_named l files) e → IsWithin limit (text_named n files) (text_named l files) (status_of_ending e)
    by (inl h) = inr (ap status_of_ending h.1, inr h.0)
    by (inr h) = judged e (subst (λ (g : Problem). Judged e (plan.Elab n l q) g (text_named l files)) same h.1)

proof_due : (n q : Bytes) (limit : ℕ) (files : Files) (f : Problem) (k : ℕ) (e : Ending) → Reads (text_named n files) f → Accepted f (text_named q files) k → Due (plan.Check n q) limit files e
    → IsWithin limit (text_named n files) (text_named q files) (status_of_ending e)
proof_due n q limit files f k e reads right (inl early) = early_within limit (text_named n files) (text_named q files) f e reads early
proof_due n q limit files f k e reads right (inr d) = by d.due
  where
    same : d.formula ≡ f
    same = one_formula (text_named n files) d.formula f d.is_formula.reads reads

    not_refused : (j : ℕ) (c : _) → ProofJudgedAs f (text_named q files) (refused j c) → ⊥
    not_refused j c wrong =
        let e = same_of_one {P = ProofJudgedAs f (text_named q files)} (one_proof_judgement f (text_named q files)) (accepted k) (refused j c) right wrong in cc

    judged : (x : Ending) → Judged x (plan.Check n q) f (text_named q files) → IsWithin limit (text_named n files) (text_named q files) (status_of_ending x)
    judged (ending.Verified j) h = inl refl
    judged (ending.NotVerified j c) h = absurd (not_refused j c h)
    judged x h = absurd h

    by : LateDue (plan.Check n q) limit d.formula (text_named q files) e → IsWithin limit (text_named n files) (text_named q files) (status_of_ending e)
    by (inl h) = inr (ap status_of_ending h.1, inr h.0)
    by (inr h) = judged e (subst (λ (g : Problem). Judged e (plan.Check n q) g (text_named q files)) same h.1)

-- ---- from one run to the next

conclude : (limit : ℕ) (first second : Bytes) (s t : Status) → s ≡ t → IsWithin limit first second t → (s ≡ status.Done) ⊎ IsCutShort limit first second s
conclude limit first second s t is (inl done) = inl (is ∙ done)
conclude limit first second s t is (inr over) = inr (inr (inr (inr (is ∙ over.0, over.1))))

stopped : (limit : ℕ) (first second : Bytes) (s : Status) → IsStopped s → IsCutShort limit first second s
stopped limit first second s (inl e) = inl e
stopped limit first second s (inr (inl e)) = inr (inl e)
stopped limit first second s (inr (inr e)) = inr (inr (inl e))

either : (limit : ℕ) (first second : Bytes) (s : Status) (p : Plan) (files : Files) → ((e : Ending) → Due p limit files e → IsWithin limit first second (status_of_ending e))
    → IsStopped s ⊎ EndsAsDue p limit files s → (s ≡ status.Done) ⊎ IsCutShort limit first second s
either limit first second s p files due (inl e) = inr (stopped limit first second s e)
either limit first second s p files due (inr e) = conclude limit first second s (status_of_ending e.0) e.1 (due e.0 e.2)

-- the log is what is on the Proof port
pub log_is : (name log_name log answer : Bytes) (old new : Seen) (written : Written) → new ≡ solved name (Some log_name) log answer old → new.written ≡ written → written.proof ≡ log
log_is name log_name log answer old new written done left = sym (ap (λ (w : Written). w.proof) left) ∙ ap proof_in done

pub logs_elaborate : LogsElaborate
logs_elaborate words more limit bound files others s written last f log g l q n t asked u elab_asked same_text same_log =
    let told = of_told _ t.old.files files t.told (t.run.no_values_meet refl) in
    let r = told.1 in
    let plans : plan.Solve r.name r.log_name r.options ≡ plan.Solve f (Some log) n = one_plan words (plan.Solve r.name r.log_name r.options) (plan.Solve f (Some log) n) r.asked asked in
    let name : r.name ≡ f = cc in
    let log_name : r.log_name ≡ Some log = cc in
    let reads : Reads (text_named g others) r.formula = subst (λ (x : Bytes). Reads x r.formula) (sym same_text) (subst (λ (x : Bytes). Reads (text_named x files) r.formula) name r.reads) in
    let done = subst (λ (x : Option Bytes). t.new ≡ solved r.name x r.log (unsatisfiable_text told.0) t.old) log_name r.done in
    let is : written.proof ≡ r.log = log_is r.name log r.log (unsatisfiable_text told.0) t.old t.new written done t.left in
    let refutes = r.holds.2.refutes in
    let right = subst (λ (x : Bytes). LogRight r.formula x refutes.step) (sym (same_log ∙ is)) refutes.right in
    subst (λ (x : Bytes). (s ≡ status.Done) ⊎ IsCutShort bound (text_named g others) x s) same_log
    (either bound (text_named g others) (text_named l others) s (plan.Elab g l q) others (λ e due. log_due g l q bound others r.formula refutes.step e reads right due)
    (ends_or_stops more bound others s last (plan.Elab g l q) u elab_asked))

pub proofs_verify : ProofsVerify
proofs_verify words more limit bound files others s written last f l q g p t asked u check_asked same_text same_proof =
    let r = of_told _ t.old.files files t.told (t.run.log_is_elaborated refl f l q asked) in
    let whole = subst (λ (w : Written). IsWholeProof r.0 (text_named l files) r.2.0 w.proof) t.left r.2.2 in
    let reads : Reads (text_named g others) r.0 = subst (λ (x : Bytes). Reads x r.0) (sym same_text) r.1.reads in
    let right = subst (λ (x : Bytes). Accepted r.0 x (length whole.steps)) (sym same_proof) whole.accepted in
    subst (λ (x : Bytes). (s ≡ status.Done) ⊎ IsCutShort bound (text_named g others) x s) same_proof
    (either bound (text_named g others) (text_named p others) s (plan.Check g p) others (λ e due. proof_due g p bound others r.0 (length whole.steps) e reads right due)
    (ends_or_stops more bound others s last (plan.Check g p) u check_asked))
