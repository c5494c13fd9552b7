-- From the search of a planted instance to what `demo` does.
use Rattle.std.proofs.Common.{◌≡◌, ◌<◌, ◌≤◌, ℕ, Bool, true, false, cond, List, [], ◌++◌, length, take, Option, Some, inr, refl, sym, subst, ap, ◌∙◌, append-nil, arith}
use Rattle.cx_base.specs.Counts.{Rose}
use Rattle.cx_base.specs.Problem.{Problem}
use Rattle.cx_semantics.specs.declared.cause.Cause.{Cause}
use Rattle.cx_base.specs.declared.steps.LogEvent.{LogEvent}
use Rattle.cx_base.specs.declared.steps.LogStep.{LogStep}
use Rattle.cx_base.specs.declared.steps.ProofStep.{ProofStep}
use Rattle.cx_base.specs.Endings.{Ending as TextEnding, finished}
use Rattle.cx_semantics.specs.Judging.{accepted, refused, AcceptedAt, JudgedAs}
use Rattle.cx_judgements.specs.LogTexts.{LogJudgedAs}
use Rattle.cx_texts.specs.LogText.{LogReads}
use Rattle.cx_texts.specs.Printed.{printed_log, printed_proof}
use Rattle.cx_semantics.specs.ProofRules.{proof_calculus}
use Rattle.cx_texts.specs.ProofText.{ProofReads}
use Rattle.cx_semantics.proofs.Deciding.{proof_rules_decided}
use Rattle.cx_judgements.proofs.OneJudgement.{one_log_judgement}
use Rattle.cx_semantics.proofs.JudgingLaws.{one_judgement}
use Rattle.fratx_elab.specs.Outcomes.{IsElaborated, IsProofWritten, HasCause as IsCausedBy}
use Rattle.fratx_elab.specs.declared.outcome.Elab.{Elab}
use Rattle.fratx_elab.specs.declared.outcome.Elab.TheVariants as elab
use Rattle.fratx_elab.specs.declared.outcome.ElabFault.{ElabFault}
use Rattle.fratx_elab.specs.declared.outcome.ElabFault.TheVariants as cut
use Rattle.xlrup_check.specs.Verdicts.{HasCause}
use Rattle.xlrup_check.specs.declared.verdict.Fault.{Fault}
use Rattle.xlrup_check.specs.declared.verdict.Fault.TheVariants as checked
use Rattle.step_text.specs.Lists.{StepsLeft, LeavesList}
use Rattle.inst_gen.specs.declared.kind.InstanceKind.{InstanceKind}
use Rattle.inst_gen.specs.Planting.{planted_formula}
use Rattle.cx_desk.specs.declared.desk.Port.TheVariants as port
use Rattle.cx_desk.specs.Outside.{Bytes, Files, Outside}
use Rattle.cx_desk.specs.Calls.{gained, WriteFaulted}
use Rattle.cx_words.specs.Words.{Asks}
use Rattle.cx_words.specs.declared.plans.Plan.{Plan}
use Rattle.cx_words.specs.declared.plans.Plan.TheVariants as plan
use Rattle.solve_cli.specs.declared.ending.Ending.{Ending}
use Rattle.solve_cli.specs.declared.ending.Ending.TheVariants as ending
use Rattle.solve_cli.specs.declared.ending.Shown.{Shown}
use Rattle.solve_cli.specs.declared.ending.Outcome.{Outcome}
use Rattle.solve_cli.specs.declared.ending.Outcome.TheVariants as outcome
use Rattle.solve_cli.specs.Seen.{Seen, seen, says}
use Rattle.solve_cli.specs.Commands.{formula_started, proof_created}
use Rattle.solve_cli.specs.Demo.{demo_options, instance_of, Stands, IsVerifiedLog, IsProofOfLog}
use Rattle.solve_cli.specs.Happens.{Ends, Stops, Works, WorksFor}
use Rattle.solve_cli.specs.Logs.{IsRefutation, IsLogSoFar}
use Rattle.solve_cli.specs.Solving.{ComesTo}
use Rattle.solve_cli.specs.Steps.{PutsAnswer}
use Rattle.solve_cli.proofs.Dues.{same_of_one}
use Rattle.solve_cli.proofs.Gaining.{write_fault}
use Rattle.solve_cli.proofs.Logging.{front_so_far}
use Rattle.solve_cli.proofs.Planted.{may_show}
use Rattle.solve_cli.proofs.Searching.{found, is_right, has_low_ids, has_no_mark}
use Rattle.solve_cli.proofs.Works.{all_files, stopped, answered}

-- ---- the log and its proof

-- what was elaborated: a source with these steps left, and a sink that had the first steps and has the proof
abbrev pub Elaborates : Problem → StepsLeft LogStep → List ProofStep → List ProofStep → Elab → Type 0
Elaborates f left first proof r = IsElaborated {X = Bool} (λ _. LeavesList left) (λ x. cond x (Some proof) (Some first)) (λ _ _. ⊥) f false true r

pub proof_of_log : (f : Problem) (log : List LogStep) (left : StepsLeft LogStep) (k : ℕ) (first proof : List ProofStep) → left ≡ record { steps = log; given = 0 } → first ≡ []
    → Elaborates f left first proof (elab.Done k) → IsProofOfLog f log proof
proof_of_log f log left k first proof is empty h =
    let steps : h.0 ≡ log = h.2.0 ∙ ap (λ (l : StepsLeft LogStep). l.steps) is in
    let has = h.4 first refl in
    let both : ◌≡◌ {A = Option (List ProofStep)} (Some proof) (Some has.0) = has.1 ∙ ap (λ (x : List ProofStep). Some (x ++ has.0)) empty in
    let same : proof ≡ has.0 = cc in
    (k, subst (λ (x : List ProofStep). IsProofWritten f log (elab.Done k) x) (sym same) (subst (λ (x : List LogStep). IsProofWritten f x (elab.Done k) has.0) steps has.2))

-- a log that refutes the formula is not refused
pub refutation_stands : (f : Problem) (text : Bytes) (log : List LogStep) (left : StepsLeft LogStep) (k : ℕ) (c : Cause) (first proof : List ProofStep) → left ≡ record { steps = log; given = 0 }
    → LogReads text log finished → IsRefutation f text → Elaborates f left first proof (elab.Refused k c) → ⊥
refutation_stands f text log left k c first proof is reads right h =
    let steps : h.0 ≡ log = h.2.0 ∙ ap (λ (l : StepsLeft LogStep). l.steps) is in
    let wrong : LogJudgedAs f text (refused k c) = record {
      steps = h.0;
      ending = h.1;
      reads = subst (λ (x : List LogStep). LogReads text x h.1) (sym steps) (subst (λ (x : TextEnding). LogReads text log x) (sym h.2.1) reads);
      judged = h.3;
    } in
    let e = same_of_one {P = LogJudgedAs f text} (one_log_judgement f text) (accepted right.step) (refused k c) right.right wrong in cc

-- an accepted proof is not refused
pub proof_stands : (f : Problem) (steps : List ProofStep) (j k : ℕ) (c : Cause) → AcceptedAt (proof_calculus f) steps j → JudgedAs (proof_calculus f) steps finished (refused k c) → ⊥
proof_stands f steps j k c right wrong =
    let e = same_of_one {P = JudgedAs (proof_calculus f) steps finished} (one_judgement (proof_calculus f) (proof_rules_decided f) finished steps) (accepted j) (refused k c) right wrong in cc

pub verified_log : (f : Problem) (text : Bytes) (log : List LogStep) (proof : List ProofStep) → LogReads text log finished → ProofReads (printed_proof proof) proof finished → IsProofOfLog f log proof → IsVerifiedLog f text
verified_log f text log proof reads printed h = (
  h.0,
  printed_proof proof,
  record {
    steps = proof;
    proof = record { log_steps = log; ending = finished; reads = reads; is_proof = h.1.0; printed = refl };
    accepted = record { steps = proof; ending = finished; reads = printed; judged = h.1.1 };
  },
)

-- ---- the writes

module _ (kind : InstanceKind) (size seed limit : ℕ) (events : List LogEvent) (e : Ending) (w : Option Files) (mid : Outside) (finds : ComesTo (planted_formula kind size seed) demo_options (printed_log events) e) where
  abbrev F : Problem
  F = planted_formula kind size seed

  abbrev Demo : Plan
  Demo = plan.Demo kind size seed

  stops : (front : Bytes) → IsLogSoFar F front → Stops Demo limit (seen w mid) (says port.Proof front (seen w mid))
  stops front so_far = record {
    stage = proof_created;
    reaches = all_files (seen w mid).files (λ files. (F, refl));
    proof = front;
    so_far = all_files (seen w mid).files (λ files. so_far);
    at_is = refl;
  }

  front : (k : ℕ) → IsLogSoFar F (take k (printed_log events))
  front k = let have = found F demo_options (printed_log events) e finds in front_so_far F (printed_log events) k (is_right F demo_options (printed_log events) e have) (has_low_ids F demo_options (printed_log events) e have) (has_no_mark F demo_options (printed_log events) e have)

  -- a prefix of the log was written
  pub demo_cut : (new : Outside) → (k : ℕ) × (k < length (printed_log events)) × WriteFaulted (gained port.Proof (take k (printed_log events)) mid) new → Works Demo limit (seen w mid) outcome.WriteFault (seen w new)
  unfolding stops
  demo_cut new h = inr (inr (record { writes = refl; may_write = tt; at = says port.Proof (take h.0 (printed_log events)) (seen w mid); stops = stops (take h.0 (printed_log events)) (front h.0); created = refl; fault = write_fault w (take h.0 (printed_log events)) mid new h.2 }))

  -- the log was written, and memory ran out after it
  pub demo_wanted : (at : Outside) → at ≡ gained port.Proof (printed_log events) mid → Works Demo limit (seen w mid) outcome.Memory (seen w at)
  demo_wanted at moved =
      let have = found F demo_options (printed_log events) e finds in
      let whole : IsLogSoFar F (printed_log events) = record { log = printed_log events; right = is_right F demo_options (printed_log events) e have; ids = has_low_ids F demo_options (printed_log events) e have; settled = has_no_mark F demo_options (printed_log events) e have; rest = []; front = append-nil (printed_log events) } in
      subst (λ (s : Seen). Stops Demo limit (seen w mid) s) (sym (ap (seen w) moved)) (stops (printed_log events) whole)

  -- the log was written, and the lines or a prefix of them
  pub demo_answered : (x : Shown) (at : Outside) (o : Outcome) (new : Seen) → Stands F (printed_log events) x → at ≡ gained port.Proof (printed_log events) mid
      → PutsAnswer (ending.Demonstrated (instance_of kind size seed) x) (seen w at) o new → Works Demo limit (seen w mid) o new
  demo_answered x at o new stands moved answers =
      let may = may_show kind size seed x stands.0 in
      let none : 0 ≤ limit = omega arith in
      let lines = ending.Demonstrated (instance_of kind size seed) x in
      let ends : Ends Demo limit (seen w mid) lines (says port.Proof (printed_log events) (seen w mid)) = record {
        own = (refl, may);
        reaches = all_files (seen w mid).files (λ files. (F, refl));
        due = all_files (seen w mid).files (λ files. inr (record { formula = F; is_formula = refl; due = inr (none, (refl, may, stands.0)) }));
        proof = printed_log events;
        gains = all_files (seen w mid).files (λ files. stands.1);
        before_is = refl;
      } in
      answered Demo limit (seen w mid) lines (seen w at) o new
      (subst (Ends Demo limit (seen w mid) lines) (sym (ap (seen w) moved)) ends) answers

-- a list counts no fault of reading
pub not_read : (e : Fault) (passes : Option Bool) → e ≡ checked.Read → HasCause passes 0 0 e → ⊥
not_read e passes is h = let rose : Rose 0 0 = subst (λ (x : Fault). HasCause passes 0 0 x) is h in absurd (omega (arith, rose))

pub not_read_from : (e : ElabFault) (passes : Option Bool) (before now : ℕ) → e ≡ cut.Read → IsCausedBy passes 0 0 before now e → ⊥
not_read_from e passes before now is h = let rose : Rose 0 0 = subst (λ (x : ElabFault). IsCausedBy passes 0 0 before now x) is h in absurd (omega (arith, rose))

-- nothing was done
pub demo_none : (kind : InstanceKind) (size seed limit : ℕ) (old : Seen) → Works (plan.Demo kind size seed) limit old outcome.Memory old
demo_none kind size seed limit old = stopped formula_started (plan.Demo kind size seed) limit old old tt refl

-- what a command does by its plan is what the words ask for
pub works_for : (words : List Bytes) (p : Plan) (limit : ℕ) (old : Seen) (o : Outcome) (new : Seen) → Asks words p → Works p limit old o new → WorksFor words limit old o new
works_for words p limit old outcome.Usage new asks w = absurd w
works_for words p limit old outcome.Memory new asks w = inr (p, asks, w)
works_for words p limit old o new asks w = (p, asks, w)
