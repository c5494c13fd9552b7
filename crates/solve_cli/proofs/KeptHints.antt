-- The hints of the log that `solve` wrote are those of the proof that `elab` writes.
use Rattle.std.proofs.Common.{◌≡◌, refl, ap, sym, subst, ◌∙◌, ℕ, ℤ, List, ◌∷◌, ◌++◌, [], length, take, Option, Some, arith}
use Rattle.std.specs.Prelude.{fold}
use Rattle.std.proofs.lemmas.List.{take_all}
use Rattle.std.proofs.lemmas.List.Elements.{filter_map-append}
use Rattle.cx_base.specs.Endings.{Ending, finished}
use Rattle.cx_base.specs.Events.{step_of, steps_of}
use Rattle.cx_base.specs.Integers.{literals}
use Rattle.cx_base.specs.Problem.{Problem}
use Rattle.cx_base.specs.declared.steps.LogEvent.{LogEvent}
use Rattle.cx_base.specs.declared.steps.LogEvent.TheVariants.{Step, Conflict}
use Rattle.cx_base.specs.declared.steps.LogStep.{LogStep}
use Rattle.cx_base.specs.declared.steps.LogStep.TheVariants.{ClauseWithHints}
use Rattle.cx_base.specs.declared.steps.ProofStep.{ProofStep}
use Rattle.cx_texts.specs.FormulaText.{Reads}
use Rattle.cx_texts.specs.LogText.{LogReads}
use Rattle.cx_texts.proofs.EventSteps.{events_give_steps}
use Rattle.cx_texts.proofs.TextLaws.{one_log_reading}
use Rattle.cx_semantics.specs.Judging.{accepted}
use Rattle.cx_semantics.specs.LogRules.{after_log_step}
use Rattle.cx_semantics.specs.Marked.{Moment, first_moment, after_event}
use Rattle.cx_semantics.specs.Tables.{Tables}
use Rattle.cx_judgements.specs.LogTexts.{LogRight, LogJudgedAs}
use Rattle.cx_judgements.proofs.OneJudgement.{one_log_judgement}
use Rattle.cx_desk.specs.Outside.{Bytes, Written}
use Rattle.cx_words.specs.declared.plans.Plan.TheVariants as plan
use Rattle.cx_words.specs.declared.plans.SearchOptions.{SearchOptions}
use Rattle.cx_words.proofs.PlanLaws.{one_plan}
use Rattle.search_steps.specs.Hints.{AreHintsFor, AreHinted}
use Rattle.fratx_elab.specs.Elaborates.{IsProofOf, IsWrittenAsGiven}
use Rattle.fratx_elab.proofs.OwnHints.{has_own_hints, whole_chain}
use Rattle.solve_cli.specs.Failed.{unsatisfiable_text}
use Rattle.solve_cli.specs.Seen.{text_named}
use Rattle.solve_cli.specs.Proofs.{IsWholeProof}
use Rattle.solve_cli.specs.Solved.{solved}
use Rattle.solve_cli.specs.WholeWay.{LogsKeepHints, HasLogHints}
use Rattle.solve_cli.specs.Logs.{IsClosedLog}
use Rattle.solve_cli.proofs.Dues.{same_of_one, one_formula}
use Rattle.solve_cli.proofs.WholeWay.{of_told, log_is}

live_after : (m : Moment) (events : List LogEvent) → (fold after_event m events).tables ≡ fold after_log_step m.tables (steps_of events)
live_after m [] = refl
live_after m (Step step ∷ events) = live_after (after_event m (Step step)) events
live_after m (Conflict k ∷ events) = live_after (after_event m (Conflict k)) events

-- a clause that the log gives right hints is written with these
module _ (formula : Problem) (events : List LogEvent) (hinted : AreHinted events) (written : List ProofStep) (is_proof : IsProofOf formula (steps_of events) written) where
  written_as_given : (front : List LogEvent) (n : ℕ) (lits hints : List ℤ) (later : List LogEvent) → events ≡ front ++ Step (ClauseWithHints n lits hints) ∷ later → IsWrittenAsGiven formula (steps_of front) lits hints written
  written_as_given front n lits hints later is =
      let step = ClauseWithHints n lits hints in
      let split : steps_of events ≡ steps_of front ++ step ∷ steps_of later = ap steps_of is ∙ filter_map-append step_of front (Step step ∷ later) in
      let right = subst (λ (t : Tables). AreHintsFor t.clauses (literals lits) hints) (live_after first_moment front) (hinted front step later is) in
      has_own_hints formula (steps_of events) written is_proof (steps_of front) n lits hints (steps_of later) split (length hints)
      (whole_chain _ _ hints right.ids right.are right.live right.chain)

same_steps : (text : Bytes) (a b : List LogStep) (e d : Ending) → LogReads text a e → LogReads text b d → a ≡ b
same_steps text a b e d p q =
    ap (λ (x : List LogStep × Ending). x.0) (same_of_one {P = λ (x : List LogStep × Ending). LogReads text x.0 x.1} (one_log_reading text) (a, e) (b, d) p q)

-- the proof of the log that a search closed
has_log_hints : (formula : Problem) (options : SearchOptions) (k : ℕ) (log bytes : Bytes) → IsClosedLog formula options log → LogRight formula log k → IsWholeProof formula log k bytes → HasLogHints formula log bytes
has_log_hints formula options k log bytes closed right whole =
    let refutes = closed.refutes in
    let marks = closed.marks in
    let read = events_give_steps log marks.events marks.read in
    record {
      events = marks.events;
      read = marks.read;
      steps = whole.steps;
      printed = whole.proof.printed;
      given = λ apart front n lits hints later is.
          let judged : accepted k ≡ accepted refutes.step = same_of_one {P = LogJudgedAs formula log} (one_log_judgement formula log) (accepted k) (accepted refutes.step) right refutes.right in
          let last : k ≡ refutes.step = cc in
          let steps : whole.proof.log_steps ≡ steps_of marks.events = same_steps log whole.proof.log_steps (steps_of marks.events) whole.proof.ending finished whole.proof.reads read in
          let them : refutes.steps ≡ steps_of marks.events = same_steps log refutes.steps (steps_of marks.events) finished finished refutes.reads read in
          let all : length whole.proof.log_steps ≡ k = ap length steps ∙ sym (ap length them) ∙ sym (refutes.last apart) ∙ sym last in
          let taken : take k whole.proof.log_steps ≡ steps_of marks.events = take_all k whole.proof.log_steps (omega (arith, all)) ∙ steps in
          written_as_given formula marks.events marks.hinted whole.steps (subst (λ (ss : List LogStep). IsProofOf formula ss whole.steps) taken whole.proof.is_proof) front n lits hints later is;
    }

pub logs_keep_hints : LogsKeepHints
logs_keep_hints words more limit bound files others written last f log g l q n t asked u elab_asked same_text same_log =
    let told = of_told _ t.old.files files t.told (t.run.no_values_meet refl) in
    let r = told.1 in
    let plans : plan.Solve r.name r.log_name r.options ≡ plan.Solve f (Some log) n = one_plan words (plan.Solve r.name r.log_name r.options) (plan.Solve f (Some log) n) r.asked asked in
    let name : r.name ≡ f = cc in
    let log_name : r.log_name ≡ Some log = cc in
    let reads : Reads (text_named g others) r.formula = subst (λ (x : Bytes). Reads x r.formula) (sym same_text) (subst (λ (x : Bytes). Reads (text_named x files) r.formula) name r.reads) in
    let done = subst (λ (x : Option Bytes). t.new ≡ solved r.name x r.log (unsatisfiable_text told.0) t.old) log_name r.done in
    let is : written.proof ≡ r.log = log_is r.name log r.log (unsatisfiable_text told.0) t.old t.new written done t.left in
    let closed = subst (IsClosedLog r.formula r.options) (sym is) r.holds.2 in
    let ended = of_told _ u.old.files others u.told (u.run.log_is_elaborated refl g l q elab_asked) in
    let same = one_formula (text_named g others) ended.0 r.formula ended.1.reads reads in
    let right = subst (λ (p : Problem). LogRight p written.proof ended.2.0) same (subst (λ (x : Bytes). LogRight ended.0 x ended.2.0) same_log ended.2.1) in
    let left = subst (λ (w : Written). IsWholeProof ended.0 (text_named l others) ended.2.0 w.proof) u.left ended.2.2 in
    let whole = subst (λ (p : Problem). IsWholeProof p written.proof ended.2.0 last.proof) same (subst (λ (x : Bytes). IsWholeProof ended.0 x ended.2.0 last.proof) same_log left) in
    (r.formula, reads, has_log_hints r.formula r.options ended.2.0 written.proof last.proof closed right whole)
