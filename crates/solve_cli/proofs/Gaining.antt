-- What the elaborator leaves on the Proof port, in the words of the top call.
use Rattle.std.proofs.Common.{◌≡◌, ◌<◌, ◌≤◌, ℕ, List, [], ◌∷◌, ◌++◌, Bool, true, false, length, take, drop, Option, Some, IfSome, Result, Ok, Err, IfOk, IfErr, MatchResult, inl, inr, refl, ap, sym, subst, ◌∙◌, append-nil, append_assoc, length-append, arith}
use Rattle.std.proofs.lemmas.Grind.{flat_map-append}
use Rattle.std.proofs.lemmas.Option.{IfSome_then}
use Rattle.std.proofs.lemmas.List.{take-append-drop}
use Rattle.std.specs.List.{AllByRecursion}
use Rattle.cx_base.specs.Assumptions.{clashes}
use Rattle.cx_base.specs.Problem.{Problem}
use Rattle.cx_base.specs.declared.steps.LogStep.{LogStep}
use Rattle.cx_base.specs.declared.steps.ProofStep.{ProofStep}
use Rattle.cx_base.specs.Endings.{Ending, finished}
use Rattle.cx_semantics.specs.declared.cause.Cause.{Cause}
use Rattle.cx_semantics.specs.Judging.{IsRight, Runs, IsOpen, JudgedAs, accepted, refused}
use Rattle.cx_semantics.specs.LogRules.{log_calculus}
use Rattle.cx_semantics.specs.Tables.{Tables, first_tables}
use Rattle.cx_texts.specs.LogText.{LogReads}
use Rattle.cx_texts.specs.Printed.{HasProofText, printed_proof}
use Rattle.cx_semantics.specs.ProofRules.{proof_calculus, after_step, adds_ending_clause}
use Rattle.cx_texts.proofs.PrintedProofs.{printed_proof_reads}
use Rattle.cx_desk.specs.declared.desk.Port.TheVariants as port
use Rattle.cx_desk.specs.declared.desk.Slot.{Slot}
use Rattle.cx_desk.specs.declared.desk.Slot.TheVariants as slot
use Rattle.cx_desk.specs.declared.draining.DrainErr.{DrainErr}
use Rattle.cx_desk.specs.declared.draining.DrainErr.TheVariants as drained
use Rattle.cx_desk.specs.Gave.{Gave}
use Rattle.cx_desk.specs.Outside.{Bytes, Files, Outside}
use Rattle.cx_desk.specs.SlotBytes.{BytesState}
use Rattle.cx_words.specs.declared.plans.Plan.TheVariants as plan
use Rattle.cx_desk.specs.Calls.{gained, WriteFaulted}
use Rattle.cx_base.specs.Counts.{Rose}
use Rattle.proof_text.specs.Told.{told_steps, steps_told, fault_of, is_none, begun_line, is_whole, step_line, TornOn, Prints, Tears, Goes}
use Rattle.proof_text.proofs.ToldLaws.{told_front, told_proof, gained_proof, begun_proof, begun_front}
use Rattle.fratx_elab.specs.Outcomes.{Gained, IsProofWritten, IsElaborated, IsCutOff, HasCause, ReadsStand, WritesStand}
use Rattle.fratx_elab.specs.declared.outcome.Elab.{Elab}
use Rattle.fratx_elab.specs.declared.outcome.ElabFault.{ElabFault}
use Rattle.fratx_elab.specs.declared.outcome.ElabFault.TheVariants as fault
use Rattle.fratx_elab.specs.declared.outcome.Elab.TheVariants as elab
use Rattle.solve_cli.specs.declared.ending.Ending.{Ending as Ended}
use Rattle.solve_cli.specs.declared.ending.Ending.TheVariants as ending
use Rattle.solve_cli.specs.declared.ending.Outcome.{Outcome}
use Rattle.solve_cli.specs.declared.ending.Outcome.TheVariants as outcome
use Rattle.solve_cli.specs.Seen.{Seen, seen, says, ReadFault, WriteFault, text_named}
use Rattle.solve_cli.specs.Happens.{Judged}
use Rattle.solve_cli.specs.TwoEnds.{read_by, ReadsAndPrints}
use Rattle.solve_cli.specs.SlotTexts.{HasRead, IsLateOf, ProvedAs, ElaboratedAs, Elaborates, elaborated_as, drained_as, drained_with, first_state}
use Rattle.solve_cli.specs.Proofs.{AreRight, IsRightSoFar}
use Rattle.solve_cli.specs.Steps.{Ready, HasNoProof, LeftBy}
use Rattle.solve_cli.proofs.Works.{all_files, if_some_both}
use Rattle.solve_cli.proofs.TwoEnds.{still_goes}
use Rattle.solve_cli.proofs.SlotTexts.{RestRead, has_given}

-- an empty port has no line begun
pub whole_port : (o : Outside) → HasNoProof o → is_whole o ≡ true
whole_port o h = ap (λ (b : Bytes). is_none (begun_line [] b)) h

-- the steps that were printed are those that the sink gained
printed_gained : (P : List ProofStep → Type 0) (o n : Outside) (h : Prints o n) → HasNoProof o → Gained (steps_told o) (steps_told n) P → P h.steps
printed_gained P o n h empty gains =
    let found = gains (told_steps o.written.proof) refl in
    let by = ap steps_told h.moved ∙ gained_proof o h.steps (whole_port o empty) h.texts in
    let both : ◌≡◌ {A = Option (List ProofStep)} (Some (told_steps o.written.proof ++ h.steps)) (Some (told_steps o.written.proof ++ found.0)) = sym by ∙ found.1 in
    let bare : ◌≡◌ {A = Option (List ProofStep)} (Some h.steps) (Some found.0) =
    subst (λ (x : Bytes). ◌≡◌ {A = Option (List ProofStep)} (Some (told_steps x ++ h.steps)) (Some (told_steps x ++ found.0))) empty both in
    let same : h.steps ≡ found.0 = cc in
    subst P (sym same) found.2

-- what the port gained has this property, where the printed steps have that one
left : (w : Option Files) (P : List ProofStep → Type 0) (Q : Bytes → Type 0) (o n : Outside) (h : Prints o n) → HasNoProof o → Gained (steps_told o) (steps_told n) P → (P h.steps → Q (printed_proof h.steps))
    → (proof : Bytes) × (seen w n ≡ says port.Proof proof (seen w o)) × Q proof
left w P Q o n h empty gains f = (printed_proof h.steps, ap (seen w) h.moved, f (printed_gained P o n h empty gains))

-- what the port gained, by what the log's text reads as
judged_left : (w : Option Files) (name : Bytes) (P : List ProofStep → Type 0) (Q : Bytes → Bytes → Type 0) (o n : Outside) (log : List LogStep) (ending : Ending) (h : Prints o n) → HasNoProof o
    → Gained (steps_told o) (steps_told n) P → IfSome w (λ files. LogReads (text_named name files) log ending)
    → ((text : Bytes) → LogReads text log ending → P h.steps → Q text (printed_proof h.steps))
    → (proof : Bytes) × (seen w n ≡ says port.Proof proof (seen w o)) × IfSome w (λ files. Q (text_named name files) proof)
judged_left w name P Q o n log ending h empty gains reads f =
    left w P (λ proof. IfSome w (λ files. Q (text_named name files) proof)) o n h empty gains (λ right. IfSome_then w reads (λ files r. f (text_named name files) r right))

-- a right log: what it left is its proof, which is accepted
pub whole : (w : Option Files) (f : Problem) (name : Bytes) (k : ℕ) (o n : Outside) (log : List LogStep) (ending : Ending) → HasNoProof o → Prints o n → Gained (steps_told o) (steps_told n) (IsProofWritten f log (elab.Done k))
    → IfSome w (λ files. LogReads (text_named name files) log ending) → JudgedAs (log_calculus f) log ending (accepted k)
    → (proof : Bytes) × (seen w n ≡ says port.Proof proof (seen w o)) × IfSome w (λ files. ProvedAs f (text_named name files) (elab.Done k) proof × IsRightSoFar f proof)
whole w f name k o n log ending empty h gains reads judged =
    judged_left w name (IsProofWritten f log (elab.Done k)) (λ text proof. ProvedAs f text (elab.Done k) proof × IsRightSoFar f proof) o n log ending h empty gains reads (λ text read right. (
      (
        record { steps = log; ending = ending; reads = read; judged = judged },
        record {
          steps = h.steps;
          proof = record { log_steps = log; ending = ending; reads = read; is_proof = right.0; printed = refl };
          accepted = record { steps = h.steps; ending = finished; reads = printed_proof_reads h.steps h.texts; judged = right.1 };
        },
      ),
      record { steps = h.steps; right = inr right.1; rest = []; front = append-nil (printed_proof h.steps) },
    ))

-- a refused log: what it left is the proof of the steps before
pub before : (w : Option Files) (f : Problem) (name : Bytes) (k : ℕ) (c : Cause) (o n : Outside) (log : List LogStep) (ending : Ending) → HasNoProof o → Prints o n
    → Gained (steps_told o) (steps_told n) (IsProofWritten f log (elab.Refused k c)) → IfSome w (λ files. LogReads (text_named name files) log ending)
    → JudgedAs (log_calculus f) log ending (refused k c)
    → (proof : Bytes) × (seen w n ≡ says port.Proof proof (seen w o)) × IfSome w (λ files. ProvedAs f (text_named name files) (elab.Refused k c) proof × IsRightSoFar f proof)
before w f name k c o n log ending empty h gains reads judged =
    judged_left w name (IsProofWritten f log (elab.Refused k c)) (λ text proof. ProvedAs f text (elab.Refused k c) proof × IsRightSoFar f proof) o n log ending h empty gains reads (λ text read right. (
      (
        record { steps = log; ending = ending; reads = read; judged = judged },
        record {
          steps = h.steps;
          proof = record { log_steps = log; ending = ending; reads = read; is_proof = right.0; printed = refl };
          right = right.1;
        },
      ),
      record { steps = h.steps; right = inl right.1; rest = []; front = append-nil (printed_proof h.steps) },
    ))

-- out of memory: what it left are right steps
pub so_far : (w : Option Files) (f : Problem) (o n : Outside) → HasNoProof o → Prints o n → Gained (steps_told o) (steps_told n) (IsOpen (proof_calculus f))
    → (proof : Bytes) × (seen w n ≡ says port.Proof proof (seen w o)) × IfSome w (λ _. IsRightSoFar f proof)
so_far w f o n empty h gains = left w (IsOpen (proof_calculus f)) (λ proof. IfSome w (λ _. IsRightSoFar f proof)) o n h empty gains (λ right. all_files w (λ _. record {
  steps = h.steps;
  right = inl right;
  rest = [];
  front = append-nil (printed_proof h.steps);
}))

-- ---- a torn line

runs_on : (f : Problem) (first last : Tables) (steps : List ProofStep) (step : ProofStep) → Runs (proof_calculus f) first steps last → IsRight (proof_calculus f) last step
    → adds_ending_clause f step ≡ false → Runs (proof_calculus f) first (steps ++ step ∷ []) (after_step last step)
runs_on f first last [] step runs right goes_on = (subst (λ (t : Tables). IsRight (proof_calculus f) t step) runs right, goes_on, ap (λ (t : Tables). after_step t step) runs)
runs_on f first last (s ∷ steps) step runs right goes_on = (runs.0, runs.1, runs_on f (after_step first s) last steps step runs.2 right goes_on)

-- right steps and one more
right_on : (f : Problem) (tables : Tables) (steps : List ProofStep) (step : ProofStep) → clashes f.constraints ≡ false → Runs (proof_calculus f) (first_tables f) steps tables → IsRight (proof_calculus f) tables step
    → AreRight f (steps ++ step ∷ [])
right_on f tables steps step apart runs right = by (adds_ending_clause f step) refl
  where
    by : (b : Bool) → adds_ending_clause f step ≡ b → AreRight f (steps ++ step ∷ [])
    by false e = inl (apart, (after_step tables step, runs_on f (first_tables f) tables steps step runs right e))
    by true e = inr (inr (
      apart,
      record {
        before = steps;
        step = step;
        later = [];
        tables = tables;
        split = refl;
        runs = runs;
        right = right;
        ends = e;
        number = length-append steps (step ∷ []);
      },
    ))

-- the steps of the whole lines, and the line that is begun
torn_steps : (steps : List ProofStep) (part : ProofStep) (kept : ℕ) → AllByRecursion HasProofText steps → HasProofText part → kept < length (step_line part)
    → told_steps (printed_proof steps ++ take kept (step_line part)) ≡ steps
torn_steps steps part kept texts text low = told_front (printed_proof steps) part kept text low ∙ told_proof [] steps refl texts

torn_line : (steps : List ProofStep) (part : ProofStep) (kept : ℕ) → AllByRecursion HasProofText steps → HasProofText part → kept < length (step_line part)
    → begun_line [] (printed_proof steps ++ take kept (step_line part)) ≡ take kept (step_line part)
torn_line steps part kept texts text low = begun_front (printed_proof steps) part kept (begun_proof [] steps refl texts) text low

-- a prefix of a right step's line after right steps is a prefix of their text
torn_front : (f : Problem) (steps : List ProofStep) (step part : ProofStep) (k kept : ℕ) → take kept (step_line part) ≡ take k (step_line step) → AreRight f (steps ++ step ∷ [])
    → IsRightSoFar f (printed_proof steps ++ take kept (step_line part))
torn_front f steps step part k kept same right = record {
  steps = steps ++ step ∷ [];
  right = right;
  rest = drop k (step_line step);
  front = append_assoc (printed_proof steps) (take kept (step_line part)) (drop k (step_line step))
      ∙ ap (λ (x : Bytes). printed_proof steps ++ (x ++ drop k (step_line step))) same
      ∙ ap (λ (x : Bytes). printed_proof steps ++ x) (take-append-drop k (step_line step) ∙ sym (append-nil (step_line step)))
      ∙ sym (flat_map-append step_line steps (step ∷ []));
}

-- the torn step after the gained ones
abbrev Torn : Problem → ProofStep → List ProofStep → Type 0
Torn f step steps = (clashes f.constraints ≡ false) × (tables : Tables) × Runs (proof_calculus f) (first_tables f) steps tables × IsRight (proof_calculus f) tables step

torn_right : (f : Problem) (o n : Outside) (h : Tears o n) (step : ProofStep) → HasNoProof o → Gained (steps_told o) (steps_told n) (Torn f step) → TornOn step n
    → IsRightSoFar f (printed_proof h.steps ++ take h.kept (step_line h.part))
torn_right f o n h step empty gains torn =
    let bytes = printed_proof h.steps ++ take h.kept (step_line h.part) in
    let found = gains (told_steps o.written.proof) refl in
    let now : n.written.proof ≡ bytes = ap (λ (x : Outside). x.written.proof) h.moved.else_same ∙ ap (λ (x : Bytes). x ++ bytes) empty in
    let plain : ◌≡◌ {A = Option (List ProofStep)} (Some (told_steps bytes)) (Some found.0) =
    subst (λ (x : Bytes). ◌≡◌ {A = Option (List ProofStep)} (Some (told_steps bytes)) (Some (told_steps x ++ found.0))) empty (sym (ap (λ (x : Bytes). Some (told_steps x)) now) ∙ found.1) in
    let tells : ◌≡◌ {A = Option (List ProofStep)} (Some h.steps) (Some found.0) = ap (λ (x : List ProofStep). Some x) (sym (torn_steps h.steps h.part h.kept h.texts h.text h.front)) ∙ plain in
    let same : h.steps ≡ found.0 = cc in
    let line_of = torn.1 in
    let is : bytes ≡ line_of.0 ++ take line_of.1 (step_line step) = sym now ∙ line_of.4 in
    let line : take h.kept (step_line h.part) ≡ take line_of.1 (step_line step) =
    sym (torn_line h.steps h.part h.kept h.texts h.text h.front) ∙ (ap (begun_line []) is ∙ begun_front line_of.0 step line_of.1 line_of.2 torn.0 line_of.3) in
    let runs = subst (Torn f step) (sym same) found.2 in
    torn_front f h.steps step h.part line_of.1 h.kept line (right_on f runs.1 h.steps step runs.0 runs.2 runs.3)

pub write_fault : (w : Option Files) (text : Bytes) (o n : Outside) → WriteFaulted (gained port.Proof text o) n → WriteFault (says port.Proof text (seen w o)) (seen w n)
write_fault w text o n h = record { else_same = ap (seen w) h.else_same; rose = h.rose }

-- a fault of writing: what it left are right steps and a prefix of one more
pub torn_so_far : (w : Option Files) (f : Problem) (o n : Outside) (step : ProofStep) → HasNoProof o → Tears o n → TornOn step n
    → Gained (steps_told o) (steps_told n) (λ steps. (clashes f.constraints ≡ false) × (tables : Tables) × Runs (proof_calculus f) (first_tables f) steps tables × IsRight (proof_calculus f) tables step)
    → (proof : Bytes) × WriteFault (says port.Proof proof (seen w o)) (seen w n) × IfSome w (λ _. IsRightSoFar f proof)
torn_so_far w f o n step empty h torn gains = (
  printed_proof h.steps ++ take h.kept (step_line h.part),
  write_fault w (printed_proof h.steps ++ take h.kept (step_line h.part)) o n h.moved,
  all_files w (λ _. torn_right f o n h step empty gains torn),
)

-- what it left, as the sink tells it
told_as : (P : List ProofStep → Type 0) (a o b n : Option (List ProofStep)) → a ≡ o → b ≡ n → Gained a b P → Gained o n P
told_as P a o b n first last h = subst (λ (x : Option (List ProofStep)). Gained x n P) first (subst (λ (x : Option (List ProofStep)). Gained a x P) last h)

-- ---- whether the sink failed

pub has_printed : (first last : Bool) (o n : Outside) → first ≡ false → Goes first o last n → fault_of last ≡ fault_of first → Prints o n
has_printed true last o n e h same = cc
has_printed false false o n e h same = h
has_printed false true o n e h same = absurd (omega (arith, same))

pub has_torn : (first last : Bool) (o n : Outside) → first ≡ false → Goes first o last n → Rose (fault_of first) (fault_of last) → Tears o n
has_torn true last o n e h rose = cc
has_torn false true o n e h rose = h
has_torn false false o n e h rose = absurd (omega (arith, rose))

-- ---- the whole run of the elaborator

module _ (s : Slot) (g : Gave) (o n : Outside) where
  -- where all that was read comes before all that was printed
  abbrev read_first : Outside
  read_first = read_by s g n.faults.reads o

  seen_same : (w : Option Files) → n.faults.reads ≡ o.faults.reads → seen w read_first ≡ seen w o
  seen_same w e = ap (λ r. record (seen w o) { faults = record o.faults { reads = r } }) e

  module _ (w : Option Files) (f : Problem) (name : Bytes) (limit : ℕ) (empty : HasNoProof o) where
    -- by what the elaborator says of a source that leaves what the log's text reads as
    pub settled : {X : Type 0} (leaves : X → List LogStep → Ending → Type 0) (told : X → Option (List ProofStep)) (torn : X → ProofStep → Type 0)
        (a b : X) (last : Bool) (long : Option Bool) (r : Result Elab ElabFault)
        → ((steps : List LogStep) (ending : Ending) → leaves a steps ending → IfSome w (λ files. LogReads (text_named name files) steps ending))
        → (¬ (long ≡ Some false) → IfSome w (λ files. limit < length (text_named name files)))
        → told a ≡ steps_told o → told b ≡ steps_told n → ((step : ProofStep) → torn b step → TornOn step n) → Goes false read_first last n
        → IfOk r (IsElaborated leaves told torn f a b) → IfErr r (IsCutOff told torn f a b)
        → IfErr r (HasCause long o.faults.reads n.faults.reads (fault_of false) (fault_of last)) → ReadsStand r o.faults.reads n.faults.reads → WritesStand r (fault_of false) (fault_of last)
        → ElaboratedAs f name limit (seen w o) r (seen w n)
    settled leaves told torn a b last long r reads too_long at_first at_last tears goes judged cut cause reads_stand stand = by r judged cut cause reads_stand stand
      where
        prints : fault_of last ≡ fault_of false → Prints read_first n
        prints e = has_printed false last read_first n refl goes e

        gained_as : (P : List ProofStep → Type 0) → Gained (told a) (told b) P → Gained (steps_told read_first) (steps_told n) P
        gained_as P h = told_as P (told a) (steps_told read_first) (told b) (steps_told n) at_first at_last h

        as_seen : (r : Result Elab ElabFault) → n.faults.reads ≡ o.faults.reads → ElaboratedAs f name limit (seen w read_first) r (seen w n) → ElaboratedAs f name limit (seen w o) r (seen w n)
        as_seen r e h = subst (λ (x : Seen). ElaboratedAs f name limit x r (seen w n)) (seen_same w e) h

        by : (r : Result Elab ElabFault) → IfOk r (IsElaborated leaves told torn f a b) → IfErr r (IsCutOff told torn f a b)
            → IfErr r (HasCause long o.faults.reads n.faults.reads (fault_of false) (fault_of last)) → ReadsStand r o.faults.reads n.faults.reads → WritesStand r (fault_of false) (fault_of last)
            → ElaboratedAs f name limit (seen w o) r (seen w n)
        by (Ok (elab.Done k)) judged cut cause same stand =
            as_seen (Ok (elab.Done k)) same
            (whole w f name k read_first n judged.0 judged.1 empty (prints stand) (gained_as (IsProofWritten f judged.0 (elab.Done k)) judged.4) (reads judged.0 judged.1 judged.2) judged.3)
        by (Ok (elab.Refused k c)) judged cut cause same stand =
            as_seen (Ok (elab.Refused k c)) same
            (before w f name k c read_first n judged.0 judged.1 empty (prints stand) (gained_as (IsProofWritten f judged.0 (elab.Refused k c)) judged.4) (reads judged.0 judged.1 judged.2) judged.3)
        by (Err fault.Memory) judged cut cause same stand = as_seen (Err fault.Memory) same (so_far w f read_first n empty (prints stand) (gained_as (IsOpen (proof_calculus f)) cut))
        by (Err fault.Write) judged cut cause same stand =
            as_seen (Err fault.Write) same (torn_so_far w f read_first n cut.0 empty (has_torn false last read_first n refl goes cause) (tears cut.0 cut.1) (gained_as (Torn f cut.0) cut.2))
        by (Err fault.TooLong) judged cut cause same stand =
            let open_run = so_far w f read_first n empty (prints stand) (gained_as (IsOpen (proof_calculus f)) cut) in
            (open_run.0, open_run.1 ∙ ap (says port.Proof open_run.0) (seen_same w same), if_some_both w (too_long cause) open_run.2 (λ files l right. (l, right)))
        by (Err fault.Read) judged cut cause same stand =
            let open_run = so_far w f read_first n empty (prints stand) (gained_as (IsOpen (proof_calculus f)) cut) in
            (open_run.0, record { else_same = open_run.1; rose = cause }, open_run.2)

-- a reader of the second slot and its desk, after all that was read and printed
pub has_read_and_printed : (name : Bytes) (limit : ℕ) (o : Outside) (t : BytesState) (last : Bool) (n : Outside) → Ready slot.Second name o
    → ReadsAndPrints (first_state slot.Second limit).bytes false o t last n → HasRead limit o t n
has_read_and_printed name limit o t last n ready between =
    has_given name limit o t n between.got n.faults.reads ready (still_goes false (read_by slot.Second between.got n.faults.reads o) last n between.goes) between.slot between.limit between.counts between.few

-- ---- the rest of the slot

module _ (f : Problem) (name : Bytes) (limit : ℕ) (old at : Seen) where
  -- the elaboration failed
  pub elaboration_failed : (r : Result Elab ElabFault) → ElaboratedAs f name limit old r at → IfErr (elaborated_as r) (λ e. Elaborates f name limit old (Err e) at)
  elaboration_failed (Ok (elab.Done k)) h = tt
  elaboration_failed (Ok (elab.Refused k c)) h = tt
  elaboration_failed (Err fault.Memory) h = h
  elaboration_failed (Err fault.Read) h = h
  elaboration_failed (Err fault.Write) h = h
  elaboration_failed (Err fault.TooLong) h = h

  -- what it left, if the text is not too long
  abbrev pub LeftWith : Ended → Type 0
  LeftWith e = ((n q : Bytes) → IsLateOf (plan.Elab n name q) e)
      × ((proof : Bytes) × (at ≡ says port.Proof proof old)
      × IfSome old.files (λ files. ((n q : Bytes) → Judged e (plan.Elab n name q) f (text_named name files)) × LeftBy e f (text_named name files) proof × IsRightSoFar f proof))

  pub elaboration_left : (r : Result Elab ElabFault) → ElaboratedAs f name limit old r at → IfOk (elaborated_as r) LeftWith
  elaboration_left (Ok (elab.Done k)) h = ((λ n q. (tt, refl)), (h.0, h.1, IfSome_then old.files h.2 (λ files x. ((λ n q. x.0.0), x.0.1, x.1))))
  elaboration_left (Ok (elab.Refused k c)) h = ((λ n q. (tt, refl)), (h.0, h.1, IfSome_then old.files h.2 (λ files x. ((λ n q. x.0.0), x.0.1, x.1))))
  elaboration_left (Err fault.Memory) h = tt
  elaboration_left (Err fault.Read) h = tt
  elaboration_left (Err fault.Write) h = tt
  elaboration_left (Err fault.TooLong) h = tt

  -- what the rest of the slot makes of it
  log_drained : (e : Ended) (r : Result (Unit {0}) Outcome) (new : Seen) → LeftWith e → RestRead name limit at r new
      → MatchResult r (λ _. Elaborates f name limit old (Ok e) new) (λ x. Elaborates f name limit old (Err x) new)
  log_drained e (Ok v) new h (same, short) = (
    h.0,
    (
      h.1.0,
      same ∙ h.1.1,
      if_some_both old.files (on_old short) h.1.2 (λ files short x. ((λ n q. (short, x.0 n q)), x.1)),
    ),
  )
    where
      on_old : IfSome at.files (λ files. length (text_named name files) ≤ limit) → IfSome old.files (λ files. length (text_named name files) ≤ limit)
      on_old k = subst (λ (x : Seen). IfSome x.files (λ files. length (text_named name files) ≤ limit)) h.1.1 k
  log_drained e (Err (outcome.Ended (ending.TooLong slot.Second))) new h (is, same, long) = (
    h.1.0,
    same ∙ h.1.1,
    if_some_both old.files (subst (λ (x : Seen). IfSome x.files (λ files. limit < length (text_named name files))) h.1.1 long) h.1.2 (λ files l x. (l, x.2)),
  )
  log_drained e (Err (outcome.Ended (ending.TooLong slot.Formula))) new h (is, same, long) = cc
  log_drained e (Err outcome.Memory) new h same = (h.1.0, same ∙ h.1.1, IfSome_then old.files h.1.2 (λ files x. x.2))
  log_drained e (Err outcome.ReadFault) new h fault = (h.1.0, subst (λ (x : Seen). ReadFault x new) h.1.1 fault, IfSome_then old.files h.1.2 (λ files x. x.2))
  log_drained e (Err x) new h fails = absurd fails

  pub log_with : (e : Ended) (r : Result (Unit {0}) DrainErr) (new : Seen) → LeftWith e → RestRead name limit at (drained_as r) new → Elaborates f name limit old (drained_with e r) new
  log_with e (Ok v) new h rest = log_drained e (Ok v) new h rest
  log_with e (Err drained.Failed) new h rest = log_drained e (Err outcome.ReadFault) new h rest
  log_with e (Err drained.TooLong) new h rest = log_drained e (Err (outcome.Ended (ending.TooLong slot.Second))) new h rest
