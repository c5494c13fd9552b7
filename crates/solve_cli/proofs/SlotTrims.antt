-- A proof that is trimmed, from its slot to what the command does.
use Rattle.std.proofs.Common.{◌≡◌, refl, ap, sym, subst, ◌∙◌, ℕ, ◌<◌, ◌≤◌, List, [], ◌++◌, length, take, drop, take-append-drop, Option, IfSome, IfOk, IfErr, MatchResult, Result, Ok, Err, inl, inr}
use Rattle.std.proofs.lemmas.Option.{IfSome_then}
use Rattle.std.specs.List.{AllByRecursion}
use Rattle.cx_base.specs.Problem.{Problem, Unmet}
use Rattle.cx_base.specs.Endings.{Ending as End, finished}
use Rattle.cx_base.specs.declared.steps.ProofStep.{ProofStep}
use Rattle.cx_semantics.specs.declared.cause.Cause.{Cause}
use Rattle.cx_desk.specs.declared.desk.Slot.TheVariants as slot
use Rattle.cx_desk.specs.declared.desk.Port.TheVariants as port
use Rattle.cx_desk.specs.declared.draining.DrainErr.{DrainErr}
use Rattle.cx_desk.specs.declared.draining.DrainErr.TheVariants as drained
use Rattle.cx_desk.specs.Outside.{Bytes, Files, Outside}
use Rattle.cx_desk.specs.Calls.{gained, PutFaulted}
use Rattle.cx_desk.specs.SlotBytes.{BytesState}
use Rattle.cx_texts.specs.Printed.{printed_proof, HasProofText}
use Rattle.cx_texts.specs.ProofText.{ProofReads, proof_steps}
use Rattle.cx_texts.proofs.PrintedProofs.{printed_proof_reads}
use Rattle.cx_words.specs.declared.plans.Plan.TheVariants as plan
use Rattle.step_text.specs.Slots.{IsPossible, is_too_long, SlotFrame}
use Rattle.step_text.specs.SlotAnswers.{PairLeaves}
use Rattle.xlrup_check.specs.Verdicts.{HasCause, ReadsStand}
use Rattle.xlrup_check.specs.declared.verdict.Fault.{Fault}
use Rattle.xlrup_check.specs.declared.verdict.Fault.TheVariants as fault
use Rattle.proof_trim.specs.Laws.{IsRefutation}
use Rattle.proof_trim.specs.Outcomes.{AnswersAsJudged, IsTrimOf, WhereDone}
use Rattle.proof_trim.specs.Trimmed.{core_of}
use Rattle.proof_trim.specs.declared.outcome.Trimmed.{Trimmed}
use Rattle.proof_trim.specs.declared.outcome.TrimOf.{TrimOf}
use Rattle.proof_trim.specs.declared.outcome.TrimOf.TheVariants as trimming
use Rattle.solve_cli.specs.declared.ending.Core.{Core}
use Rattle.solve_cli.specs.declared.ending.Ending.{Ending}
use Rattle.solve_cli.specs.declared.ending.Ending.TheVariants as ending
use Rattle.solve_cli.specs.declared.ending.Outcome.{Outcome}
use Rattle.solve_cli.specs.declared.ending.Outcome.TheVariants as outcome
use Rattle.solve_cli.specs.Endings.{answer_text}
use Rattle.solve_cli.specs.Seen.{Seen, seen, says, WriteFault, text_named}
use Rattle.solve_cli.specs.Commands.{proof_created, asked_to}
use Rattle.solve_cli.specs.Happens.{IsFormula, FormulaRead, Gains, Ends, Stops, Works}
use Rattle.solve_cli.specs.Proofs.{IsRightSoFar}
use Rattle.solve_cli.specs.Steps.{Acts, Ready, ReadFails, PutsAnswer}
use Rattle.solve_cli.specs.SlotTexts.{IsJudgedWithin, KeptBy, IsRightTrimming, TrimmedAs, ReadsTrimmed, TrimsProof, uncut_as, drained_as, drained_with, first_state}
use Rattle.solve_cli.specs.Trimming.{TrimsTo, IsTrimmedProof}
use Rattle.solve_cli.proofs.Gaining.{write_fault}
use Rattle.solve_cli.proofs.SlotTexts.{IsTextOf, RestRead, fails_later, seen-still, read_fault, whole_text, is_long, has_read, acts_by_text}
use Rattle.solve_cli.proofs.StepTexts.{have_texts, all_before, trimmed_have}
use Rattle.solve_cli.proofs.Works.{all_files, answered, files_at, formula_in, if_some_both, judged_ends, says-none, stopped}

-- ---- what the source has left

-- a trimming of what one source has left is one of what another has, if that has all that the first has
pub left_too : {X Y : Type 0} (leaves : X → List ProofStep → End → Type 0) (also : Y → List ProofStep → End → Type 0) (f : Problem) (x : X) (y : Y)
    → ((steps : List ProofStep) (end : End) → leaves x steps end → also y steps end) → (t : Trimmed) → IsTrimOf leaves f x t → IsTrimOf also f y t
left_too leaves also f x y to t (proof, h, trims) = (proof, record { accepted = h.accepted; later = h.later; ending = h.ending; left = to (proof ++ h.later) h.ending h.left }, trims)

pub done_too : {X Y : Type 0} (leaves : X → List ProofStep → End → Type 0) (also : Y → List ProofStep → End → Type 0) (f : Problem) (x : X) (y : Y)
    → ((steps : List ProofStep) (end : End) → leaves x steps end → also y steps end) → (r : Result TrimOf Fault) → WhereDone r (IsTrimOf leaves f x) → WhereDone r (IsTrimOf also f y)
done_too leaves also f x y to (Ok (trimming.Done t)) h = left_too leaves also f x y to t h
done_too leaves also f x y to (Ok (trimming.Refused k c)) h = tt
done_too leaves also f x y to (Err e) h = tt

-- steps that a slot has left have a text
slot_texts : (limit : ℕ) (o : Outside) (text : Bytes) (steps : List ProofStep) (end : End) → PairLeaves proof_steps text (first_state slot.Second limit, o) steps end → AllByRecursion HasProofText steps
slot_texts limit o text steps end (more, come, reads) = have_texts _ _ steps end reads

kept_texts : (f : Problem) (limit : ℕ) (o : Outside) (text : Bytes) (t : Trimmed) → IsTrimOf (PairLeaves proof_steps text) f (first_state slot.Second limit, o) t → AllByRecursion HasProofText t.steps.steps
kept_texts f limit o text t (proof, h, trims) =
    let all = slot_texts limit o text (proof ++ h.later) h.ending h.left in
    subst (λ (x : List ProofStep). AllByRecursion HasProofText x) (sym trims.steps) (trimmed_have HasProofText f trims.needed proof (all_before HasProofText proof h.later all))

-- what stays has a text, is accepted, and no values meet its core
pub right_of : (f : Problem) (limit : ℕ) (o : Outside) (text : Bytes) (r : Result TrimOf Fault) → WhereDone r (IsTrimOf (PairLeaves proof_steps text) f (first_state slot.Second limit, o))
    → WhereDone r (λ t. IsRefutation f t.steps.steps) → WhereDone r (λ t. Unmet (core_of f t.clauses t.parities)) → IfOk (uncut_as r) (IsRightTrimming f)
right_of f limit o text (Ok (trimming.Done t)) trims accepted core = (kept_texts f limit o text t trims, accepted, core)
right_of f limit o text (Ok (trimming.Refused k c)) trims accepted core = tt
right_of f limit o text (Err fault.Memory) trims accepted core = tt
right_of f limit o text (Err fault.Read) trims accepted core = tt
right_of f limit o text (Err fault.TooLong) trims accepted core = tt

-- ---- the slot

-- the trimming of a proof, if its text is not too long
abbrev pub TrimmedTo : Problem → Bytes → Seen → Seen → TrimOf → Type 0
TrimmedTo f name old at t = (at ≡ old) × IfSome old.files (λ files. TrimmedAs f (text_named name files) t)

-- what a proof was trimmed to, or why it was not judged to its end
abbrev pub TrimsText : Problem → Bytes → ℕ → Seen → Result TrimOf Outcome → Seen → Type 0
TrimsText f name limit old result at = MatchResult result (TrimmedTo f name old at) (λ e. ReadFails slot.Second name limit old e at)

module _ (f : Problem) (name : Bytes) (limit : ℕ) (o : Outside) (ready : Ready slot.Second name o) (s : BytesState) (m : Outside) (frame : SlotFrame (first_state slot.Second limit).bytes o s m) where
  abbrev trims : Result TrimOf Fault → Bytes → Type 0
  trims r text = IfOk r (AnswersAsJudged (PairLeaves proof_steps text) f (first_state slot.Second limit, o))
      × WhereDone r (IsTrimOf (PairLeaves proof_steps text) f (first_state slot.Second limit, o))
      × IfErr r (HasCause (is_too_long (first_state slot.Second limit).bytes o text) o.faults.reads m.faults.reads)

  same : (w : Option Files) → m.faults.reads ≡ o.faults.reads → seen w m ≡ seen w o
  same w stand = seen-still w slot.Second frame.got o m frame.read stand

  reads_as : (text : Bytes) (files : Files) (steps : List ProofStep) (end : End) → text ≡ text_named name files → PairLeaves proof_steps text (first_state slot.Second limit, o) steps end → ProofReads (text_named name files) steps end
  reads_as text files steps end is h = subst (λ (x : Bytes). ProofReads x steps end) is (whole_text proof_steps slot.Second limit o name ready text steps end h)

  trim_by : (r : Result TrimOf Fault) → ReadsStand r o.faults.reads m.faults.reads → (w : Option Files) (text : Bytes) → IsTextOf name w text → trims r text → TrimsText f name limit (seen w o) (uncut_as r) (seen w m)
  trim_by (Ok (trimming.Done t)) stand w text is (judged, (proof, h, kept), cause) = (
    same w stand,
    IfSome_then w is (λ files e. (proof, record { accepted = h.accepted; later = h.later; ending = h.ending; left = reads_as text files (proof ++ h.later) h.ending e h.left }, kept)),
  )
  trim_by (Ok (trimming.Refused k c)) stand w text is (judged, kept, cause) = (
    same w stand,
    IfSome_then w is (λ files e. record { steps = judged.0; ending = judged.1; reads = reads_as text files judged.0 judged.1 e judged.2; judged = judged.3 }),
  )
  trim_by (Err fault.Memory) stand w text is h = same w stand
  trim_by (Err fault.Read) stand w text is (judged, kept, cause) = read_fault w slot.Second frame.got o m frame.read cause
  trim_by (Err fault.TooLong) stand w text is (judged, kept, cause) =
      (refl, same w stand, IfSome_then w is (λ files e. subst (λ (x : Bytes). limit < length x) e (is_long slot.Second limit o name text ready cause)))

  -- the proof was trimmed, or not judged to its end
  pub trim_acts : (r : Result TrimOf Fault) → ((text : Bytes) → IsPossible s m text → IfOk r (AnswersAsJudged (PairLeaves proof_steps text) f (first_state slot.Second limit, o)))
      → ((text : Bytes) → IsPossible s m text → WhereDone r (IsTrimOf (PairLeaves proof_steps text) f (first_state slot.Second limit, o)))
      → ((text : Bytes) → IsPossible s m text → IfErr r (HasCause (is_too_long (first_state slot.Second limit).bytes o text) o.faults.reads m.faults.reads)) → ReadsStand r o.faults.reads m.faults.reads
      → Acts limit o m (λ w. TrimsText f name limit (seen w o) (uncut_as r) (seen w m))
  trim_acts r judged kept cause stand =
      acts_by_text name limit o ready s m (has_read name limit o s m ready frame) (λ w text may is. trim_by r stand w text is (judged text may, kept text may, cause text may))

-- the slot was read to its end
trimmed_within : (f : Problem) (name : Bytes) (limit : ℕ) (old at new : Seen) (t : TrimOf) → TrimmedTo f name old at t → (new ≡ at) × IfSome at.files (λ files. length (text_named name files) ≤ limit)
    → ReadsTrimmed f name limit old (Ok t) new
trimmed_within f name limit old at new t to rest =
    (rest.0 ∙ to.0, if_some_both old.files to.1 (subst (λ (x : Seen). IfSome x.files (λ files. length (text_named name files) ≤ limit)) to.0 rest.1) (λ files j short. (short, j)))

-- what a proof was trimmed to stays where the rest was read
pub trimmed_with : (f : Problem) (name : Bytes) (limit : ℕ) (old at new : Seen) (t : TrimOf) (r : Result (Unit {0}) DrainErr) → TrimmedTo f name old at t → RestRead name limit at (drained_as r) new → ReadsTrimmed f name limit old (drained_with t r) new
trimmed_with f name limit old at new t (Ok v) to rest = trimmed_within f name limit old at new t to rest
trimmed_with f name limit old at new t (Err drained.Failed) to rest = fails_later name limit old at new outcome.ReadFault to.0 rest
trimmed_with f name limit old at new t (Err drained.TooLong) to rest = fails_later name limit old at new (outcome.Ended (ending.TooLong slot.Second)) to.0 rest

pub right_with : (f : Problem) (t : TrimOf) (r : Result (Unit {0}) DrainErr) → IsRightTrimming f t → IfOk (drained_with t r) (IsRightTrimming f)
right_with f t (Ok v) right = right
right_with f t (Err drained.Failed) right = tt
right_with f t (Err drained.TooLong) right = tt

-- ---- the command, as its desk tells it

-- the proof was not read to its end
pub not_read : (f : Problem) (name : Bytes) (limit : ℕ) (o : Seen) (e : Outcome) (m : Seen) → ReadFails slot.Second name limit o e m → TrimsProof f name limit o (Err e) m
not_read f name limit o (outcome.Ended (ending.TooLong slot.Second)) m h = (h.1, h.2)
not_read f name limit o (outcome.Ended (ending.TooLong slot.Formula)) m h = let e = h.0 in cc
not_read f name limit o outcome.ReadFault m h = h
not_read f name limit o outcome.Memory m h = h
not_read f name limit o e m h = absurd h

-- it is refused
pub not_trimmed : (f : Problem) (name : Bytes) (limit : ℕ) (o : Seen) (k : ℕ) (c : Cause) (m : Seen) → ReadsTrimmed f name limit o (Ok (trimming.Refused k c)) m
    → TrimsProof f name limit o (Ok (ending.NotTrimmed k c)) m
not_trimmed f name limit o k c m h = (
  λ n q. (tt, refl),
  ([], h.0 ∙ sym (says-none port.Proof [] o refl), IfSome_then o.files h.1 (λ files x. ((λ n q. (x.0, x.1)), refl))),
)

module _ (f : Problem) (name : Bytes) (limit : ℕ) (old : Seen) (t : Trimmed) (w : Option Files) (m : Outside) (h : ReadsTrimmed f name limit old (Ok (trimming.Done t)) (seen w m)) (right : IsRightTrimming f (trimming.Done t)) where
  abbrev its_core : Core
  its_core = record { clauses = t.clauses; parities = t.parities }

  trims_to : (text : Bytes) → IsTrimOf ProofReads f text t → TrimsTo f text t.steps.steps its_core
  trims_to text (proof, r, trims) = (proof, r, record { needed = trims.needed; are_needed = trims.are_needed; steps = trims.steps; clauses = trims.clauses; parities = trims.parities })

  trimmed_text : (text : Bytes) → IsTrimOf ProofReads f text t → IsTrimmedProof f text its_core (printed_proof t.steps.steps)
  trimmed_text text trims = record {
    steps = t.steps.steps;
    trims = trims_to text trims;
    printed = refl;
    accepted = record { steps = t.steps.steps; ending = finished; reads = printed_proof_reads t.steps.steps right.0; judged = right.1 };
    core_unmet = right.2;
  }

  -- what stays of it was written
  pub trimmed_put : (p : Outside) → p ≡ gained port.Proof (printed_proof t.steps.steps) m → TrimsProof f name limit old (Ok (ending.Trimmed its_core)) (seen w p)
  trimmed_put p is = (
    λ n q. (tt, refl),
    (
      printed_proof t.steps.steps,
      ap (seen w) is ∙ ap (says port.Proof (printed_proof t.steps.steps)) h.0,
      IfSome_then old.files h.1 (λ files x. ((λ n q. (x.0, (t.steps.steps, trims_to (text_named name files) x.1))), trimmed_text (text_named name files) x.1)),
    ),
  )

  so_far : (k : ℕ) → IsRightSoFar f (take k (printed_proof t.steps.steps))
  so_far k = record {
    steps = t.steps.steps;
    right = inr right.1;
    rest = drop k (printed_proof t.steps.steps);
    front = take-append-drop k (printed_proof t.steps.steps);
  }

  -- or a prefix of it
  pub trimmed_torn : (p : Outside) → ((k : ℕ) × (k < length (printed_proof t.steps.steps)) × PutFaulted port.Proof (gained port.Proof (take k (printed_proof t.steps.steps)) m) p)
      → TrimsProof f name limit old (Err outcome.WriteFault) (seen w p)
  trimmed_torn p k = (
    take k.0 (printed_proof t.steps.steps),
    subst (λ (x : Seen). WriteFault (says port.Proof (take k.0 (printed_proof t.steps.steps)) x) (seen w p)) h.0 (write_fault w (take k.0 (printed_proof t.steps.steps)) m p k.2),
    all_files old.files (λ _. so_far k.0),
  )

-- ---- the whole command

long_text : answer_text (ending.TooLong slot.Second) ≡ []
unfolding answer_text
long_text = refl

module _ (n q out : Bytes) (limit : ℕ) (old : Seen) (f : Problem) (mid : Seen) (is : mid ≡ asked_to proof_created (plan.Trim n q out) old)
    (read : IfSome old.files (λ files. IsFormula (plan.Trim n q out) limit files f)) where
  of_old : (P : Files → Type 0) → IfSome mid.files P → IfSome old.files P
  of_old P h = subst (λ (w : Option Files). IfSome w P) (ap (λ (s : Seen). s.files) is ∙ files_at proof_created (plan.Trim n q out) old) h

  kept_gains : (files : Files) (e : Ending) (bytes : Bytes) → FormulaRead limit (text_named n files) f → KeptBy e f (text_named q files) bytes → Gains (plan.Trim n q out) limit files e bytes
  kept_gains files (ending.Trimmed core) bytes r kept = (f, r, kept)
  kept_gains files (ending.NotTrimmed k c) bytes r kept = kept
  kept_gains files e bytes r kept = absurd kept

  -- the proof was judged, what stays of it written, and the answer
  pub trim_answered : (e : Ending) (at : Seen) (o : Outcome) (new : Seen) → TrimsProof f q limit mid (Ok e) at → PutsAnswer e at o new → Works (plan.Trim n q out) limit old o new
  trim_answered e at o new made answers =
      let p = plan.Trim n q out in
      let own = made.0 n out in
      let bytes = made.1.0 in
      let left = of_old (λ files. ((n o : Bytes) → IsJudgedWithin (plan.Trim n q o) limit f (text_named q files) e) × KeptBy e f (text_named q files) bytes) made.1.2 in
      answered p limit old e at o new
      (subst (Ends p limit old e) (sym made.1.1)
      (judged_ends p limit old f mid e bytes is read own.0 own.1 (IfSome_then old.files left (λ files x. x.0 n out))
      (if_some_both old.files read left (λ files r x. kept_gains files e bytes r x.1))))
      answers

  stops : (bytes : Bytes) → IfSome mid.files (λ _. IsRightSoFar f bytes) → Stops (plan.Trim n q out) limit old (says port.Proof bytes mid)
  stops bytes right = record {
    stage = proof_created;
    reaches = formula_in (plan.Trim n q out) limit old f read;
    proof = bytes;
    so_far = if_some_both old.files read (of_old (λ _. IsRightSoFar f bytes) right) (λ files r x. (f, r, x));
    at_is = ap (says port.Proof bytes) is;
  }

  none_said : (s : Seen) → s ≡ says port.Proof [] s
  none_said s = sym (says-none port.Proof [] s refl)

  -- the proof was not judged to its end, the rest of it not read, or what stays not written
  pub trim_failed : (o : Outcome) (new : Seen) → TrimsProof f q limit mid (Err o) new → Works (plan.Trim n q out) limit old o new
  unfolding stops
  trim_failed outcome.Memory new h = stopped proof_created (plan.Trim n q out) limit old new (formula_in (plan.Trim n q out) limit old f read) (h ∙ is)
  trim_failed outcome.ReadFault new h = (mid, stopped proof_created (plan.Trim n q out) limit old mid (formula_in (plan.Trim n q out) limit old f read) is, h)
  trim_failed outcome.WriteFault new h = inr (inr (record { writes = refl; may_write = tt; at = says port.Proof h.0 mid; stops = stops h.0 h.2; created = refl; fault = h.1 }))
  trim_failed (outcome.Ended (ending.TooLong slot.Second)) new h = (
    says port.Proof [] mid,
    record {
      own = refl;
      reaches = formula_in (plan.Trim n q out) limit old f read;
      due = if_some_both old.files read (of_old (λ files. limit < length (text_named q files)) h.1) (λ files r x. inr (record { formula = f; is_formula = r; due = inl (x, refl) }));
      proof = [];
      gains = IfSome_then old.files read (λ files r. refl);
      before_is = ap (says port.Proof []) is;
    },
    h.0 ∙ (none_said mid ∙ sym (says-none port.Answer (answer_text (ending.TooLong slot.Second)) _ long_text)),
  )
  trim_failed o new h = absurd h
