-- One step more of a proof that is judged.
use Rattle.std.proofs.Common.{◌≡◌, ◌<◌, ◌^◌, refl, sym, ap, subst, ℕ, ◌+◌, Bool, true, false, length, List, [], ◌∷◌, ◌++◌, length-append, append-nil, append_assoc, inl, inr, arith, IfOk, IfErr, OnOk, Option, Some, None, Result, Ok, Err}
use Rattle.cx_base.specs.Problem.{Problem}
use Rattle.cx_base.specs.Assumptions.{clashes}
use Rattle.cx_base.specs.declared.steps.ProofStep.{ProofStep}
use Rattle.cx_semantics.specs.declared.cause.Cause.{Cause}
use Rattle.cx_semantics.specs.declared.cause.Cause.TheVariants as causes
use Rattle.cx_base.specs.Endings.{Ending, bad_token, too_big, unterminated}
use Rattle.step_text.specs.Sources.{GivesNone, FaultsAs, StuckAs, IsTooLongOnly}
use Rattle.step_text.specs.declared.source.TextRefusal.{TextRefusal}
use Rattle.step_text.specs.declared.source.TextRefusal.TheVariants as text
use Rattle.cx_semantics.specs.Tables.{Tables, first_tables}
use Rattle.cx_semantics.specs.Judging.{Runs, FirstFailure, AcceptedAt, end_cause}
use Rattle.cx_semantics.specs.ProofRules.{proof_calculus, proof_rules}
use Rattle.cx_semantics.proofs.JudgingLaws.{runs_push}
use Rattle.cx_semantics.proofs.Soundness.{accepted_steps_are_unmet}
use Rattle.xlrup_check.specs.Verdicts.{Kept, IsJudged, Goes, IsJudgedBy, IsSound, HasCause, RecordsAll, TakesStep, Tells, text_refused, what_follows_of, ReadsStand, IsTooLongBy}
use Rattle.proof_rules.specs.declared.refusal.JudgeRefusal.{JudgeRefusal}
use Rattle.proof_rules.specs.declared.refusal.JudgeRefusal.TheVariants as refusal
use Rattle.xlrup_check.specs.declared.verdict.Fault.{Fault}
use Rattle.xlrup_check.specs.declared.verdict.Fault.TheVariants.{Memory}
use Rattle.xlrup_check.specs.declared.verdict.Verdict.{Verdict}
use Rattle.xlrup_check.specs.declared.verdict.Verdict.TheVariants.{Verified, Refused}

module _ {X R : Type 0} (may_read : X → List ℕ → Type 0) (leaves : X → List ℕ → List ProofStep → Ending → Type 0) (told : R → List ProofStep → Type 0) (formula : Problem)
    (first : X) (start : R) (old new : X) (recorder after : R) (tables : Tables) (count : ℕ) (kept : Kept may_read leaves told formula first start old recorder tables count)
    (narrows : (t : List ℕ) → may_read new t → may_read old t) where
  -- the text ends here
  pub end_is_refused : (ending : Ending) (cause : Cause) → cause ≡ end_cause ending → ((t : List ℕ) → may_read new t → leaves old t [] ending)
      → IsJudged may_read leaves told formula first start new after (Refused (count + 1) cause)
  end_is_refused ending cause e h = record {
    judged = λ t may. (
      kept.before,
      ending,
      subst (λ (ss : List ProofStep). leaves first t ss ending) (append-nil kept.before) (kept.left t (narrows t may) [] ending (h t may)),
      (kept.no_clash, inr (record { tables = tables; runs = kept.runs; why = e; number = ap (λ n. n + 1) kept.number })),
    );
    sound = tt;
    recorded = λ none. tt;
  }

  -- no step comes
  pub text_is_refused : (why : TextRefusal) → ((t : List ℕ) → may_read new t → GivesNone (λ a. leaves a t) why old new) → (later_tables : Tables)
      → IfOk (text_refused why (count + 1)) (Goes may_read leaves told formula first start new after later_tables count)
  text_is_refused (text.BadToken place) h later_tables = end_is_refused (bad_token place) (causes.TextRefused place) refl (λ t may. (h t may).0)
  text_is_refused (text.Unterminated place) h later_tables = end_is_refused (unterminated place) (causes.TextRefused place) refl (λ t may. (h t may).0)
  text_is_refused (text.TooBig place) h later_tables = end_is_refused (too_big place) (causes.TextRefused place) refl (λ t may. (h t may).0)
  text_is_refused text.TooLong h later_tables = tt
  text_is_refused text.Memory h later_tables = tt
  text_is_refused text.Failed h later_tables = tt

  module _ (step : ProofStep) (follows : (t : List ℕ) → may_read new t → (steps : List ProofStep) (ending : Ending) → leaves new t steps ending → leaves old t (step ∷ steps) ending)
      (rest : (t : List ℕ) → may_read new t → (steps : List ProofStep) × (ending : Ending) × leaves new t steps ending) where
    -- what the source had left of a text: the steps before, this one and the rest
    whole : (t : List ℕ) (may : may_read new t) → leaves first t (kept.before ++ step ∷ (rest t may).0) (rest t may).1
    whole t may = let r = rest t may in kept.left t (narrows t may) (step ∷ r.0) r.1 (follows t may r.0 r.1 r.2)

    -- the step is wrong
    step_is_refused : (cause : Cause) → FirstFailure (proof_rules formula tables step) cause → IsJudged may_read leaves told formula first start new after (Refused (count + 1) cause)
    step_is_refused cause f = record {
      judged = λ t may. (
        kept.before ++ step ∷ (rest t may).0,
        (rest t may).1,
        whole t may,
        (
          kept.no_clash,
          inl (record { before = kept.before; step = step; later = (rest t may).0; tables = tables; split = refl; runs = kept.runs; wrong = f; number = ap (λ n. n + 1) kept.number }),
        ),
      );
      sound = tt;
      recorded = λ none. tt;
    }

    module _ (later_tables : Tables) (tells : Tells told step recorder after) where
      accepted_here : TakesStep formula tables step (Ok true) later_tables → (later : List ProofStep) → AcceptedAt (proof_calculus formula) (kept.before ++ step ∷ later) (length kept.before + 1)
      accepted_here h later = inr (
        kept.no_clash,
        record {
          before = kept.before;
          step = step;
          later = later;
          tables = tables;
          split = refl;
          runs = kept.runs;
          right = h.0;
          ends = sym h.1.1;
          number = refl;
        },
      )

      -- the step is right and ends the proof
      step_is_accepted : count + 1 < 2 ^ 62 → TakesStep formula tables step (Ok true) later_tables → IsJudged may_read leaves told formula first start new after (Verified (count + 1))
      step_is_accepted few h = record {
        judged = λ t may. (
          kept.before ++ step ∷ (rest t may).0,
          (rest t may).1,
          whole t may,
          subst (λ k. AcceptedAt (proof_calculus formula) (kept.before ++ step ∷ (rest t may).0) (k + 1)) (sym kept.number) (accepted_here h (rest t may).0),
        );
        sound = accepted_steps_are_unmet formula (kept.before ++ step ∷ []) (length kept.before + 1) (accepted_here h []);
        recorded = λ none. (
          kept.before ++ step ∷ [],
          tells kept.before (kept.were_told none),
          record {
            accepted = subst (λ k. AcceptedAt (proof_calculus formula) (kept.before ++ step ∷ []) k) (sym (length-append kept.before (step ∷ []))) (accepted_here h []);
            short = omega (arith, few, kept.number, length-append kept.before (step ∷ []));
            left = λ t may. (
              (rest t may).0,
              (rest t may).1,
              subst (λ (ss : List ProofStep). leaves first t ss (rest t may).1) (sym (append_assoc kept.before (step ∷ []) (rest t may).0)) (whole t may),
            );
          },
        );
      }

      -- the step is right, and the proof goes on
      step_is_kept : TakesStep formula tables step (Ok false) later_tables → Kept may_read leaves told formula first start new after later_tables (count + 1)
      step_is_kept h = record {
        before = kept.before ++ step ∷ [];
        no_clash = kept.no_clash;
        runs = subst (λ (u : Tables). Runs (proof_calculus formula) (first_tables formula) (kept.before ++ step ∷ []) u) (sym h.1.0)
            (runs_push (proof_calculus formula) (first_tables formula) kept.before step tables kept.runs h.0 (sym h.1.1));
        number = omega (arith, kept.number, length-append kept.before (step ∷ []));
        were_told = λ none. tells kept.before (kept.were_told none);
        narrows = λ t may. kept.narrows t (narrows t may);
        left = λ t may steps ending l. subst (λ (ss : List ProofStep). leaves first t ss ending) (sym (append_assoc kept.before (step ∷ []) steps))
            (kept.left t (narrows t may) (step ∷ steps) ending (follows t may steps ending l));
      }

    -- what follows the step, as it was judged
    step_follows : count + 1 < 2 ^ 62 → (later_tables : Tables) (judged : Result Bool JudgeRefusal) → TakesStep formula tables step judged later_tables → OnOk judged (Tells told step recorder after)
        → IfOk (what_follows_of judged (count + 1)) (Goes may_read leaves told formula first start new after later_tables count)
    step_follows few later_tables (Ok true) h tells = step_is_accepted later_tables tells few h
    step_follows few later_tables (Ok false) h tells = step_is_kept later_tables tells h
    step_follows few later_tables (Err (refusal.Wrong cause)) f tells = step_is_refused cause f
    step_follows few later_tables (Err refusal.Memory) f tells = tt

    pub step_goes : count + 1 < 2 ^ 62 → (later_tables : Tables) (judged : Result Bool JudgeRefusal) → TakesStep formula tables step judged later_tables → (answer : Result (Option Verdict) Fault)
        → IfOk answer (λ verdict. what_follows_of judged (count + 1) ≡ Ok verdict) → OnOk answer (OnOk judged (Tells told step recorder after))
        → IfOk answer (Goes may_read leaves told formula first start new after later_tables count)
    step_goes few later_tables judged h (Ok verdict) e tells =
        subst (λ (r : Result (Option Verdict) Fault). IfOk r (Goes may_read leaves told formula first start new after later_tables count)) e (step_follows few later_tables judged h tells)
    step_goes few later_tables judged h (Err fault) e tells = tt

-- ---- assumptions that clash

module _ {X : Type 0} (leaves : X → List ℕ → List ProofStep → Ending → Type 0) (formula : Problem) (source : X) (clash : clashes formula.constraints ≡ true) where
  -- whatever the source has left
  pub clash_is_accepted : (t : List ℕ) → ((steps : List ProofStep) × (ending : Ending) × leaves source t steps ending) → IsJudgedBy (λ a. leaves a t) formula source (Verified 0)
  clash_is_accepted t left = (left.0, left.1, left.2, inl (clash, refl))

  pub clash_is_sound : IsSound formula (Verified 0)
  clash_is_sound = accepted_steps_are_unmet formula [] 0 (inl (clash, refl))

  pub clash_is_recorded : (may_read : List ℕ → Type 0) (told : List ProofStep → Type 0) → told [] → ((t : List ℕ) → may_read t → (steps : List ProofStep) × (ending : Ending) × leaves source t steps ending)
      → RecordsAll may_read leaves told formula source (Verified 0)
  clash_is_recorded may_read told none left = ([], none, record { accepted = inl (clash, refl); short = omega arith; left = left })

-- ---- the source's faults

abbrev unread : TextRefusal → Result (Unit {0}) TextRefusal
unread why = Err why

pub text_stands : (before now : ℕ) (why : TextRefusal) (k : ℕ) → FaultsAs (unread why) before now → ReadsStand (text_refused why k) before now
text_stands before now (text.BadToken place) k e = e
text_stands before now (text.Unterminated place) k e = e
text_stands before now (text.TooBig place) k e = e
text_stands before now text.TooLong k e = e
text_stands before now text.Memory k e = e
text_stands before now text.Failed k e = tt

-- a text that is too long is refused as such again
pub text_stuck : (T : Type 0) (before now : Option TextRefusal) (why : TextRefusal) (k : ℕ) → StuckAs {T = T} before (Err why) now → IfErr (text_refused why k) (IsTooLongBy now)
text_stuck T before now (text.BadToken place) k e = tt
text_stuck T before now (text.Unterminated place) k e = tt
text_stuck T before now (text.TooBig place) k e = tt
text_stuck T None now text.TooLong k e = e
text_stuck T (Some r) now text.TooLong k e = cc (e.0, e.1)
text_stuck T before now text.Memory k e = tt
text_stuck T before now text.Failed k e = tt

pub text_has_cause : (S : Type 0) (passes : Option Bool) (before now : ℕ) (why : TextRefusal) (k : ℕ) → IsTooLongOnly {S = S} passes (Err why) → FaultsAs (unread why) before now
    → IfErr (text_refused why k) (HasCause passes before now)
text_has_cause S passes before now (text.BadToken place) k only e = tt
text_has_cause S passes before now (text.Unterminated place) k only e = tt
text_has_cause S passes before now (text.TooBig place) k only e = tt
text_has_cause S passes before now text.TooLong k only e = only
text_has_cause S passes before now text.Memory k only e = tt
text_has_cause S passes before now text.Failed k only e = e

-- ---- an answer that is an error only where memory runs out

module _ {T : Type 0} where
  pub stands_without_memory : (answer : Result T Fault) (before now : ℕ) → IfErr answer (λ e. e ≡ Memory) → now ≡ before → ReadsStand answer before now
  stands_without_memory (Ok x) before now h e = e
  stands_without_memory (Err fault) before now h e = subst (λ (f : Fault). ReadsStand (failed f) before now) (sym h) e
    where
      failed : Fault → Result T Fault
      failed f = Err f

  pub has_cause_without_memory : (answer : Result T Fault) (passes : Option Bool) (before now : ℕ) → IfErr answer (λ e. e ≡ Memory) → IfErr answer (HasCause passes before now)
  has_cause_without_memory (Ok x) passes before now h = tt
  has_cause_without_memory (Err fault) passes before now h = subst (HasCause passes before now) (sym h) tt

  pub long_without_memory : (answer : Result T Fault) (stuck : Option TextRefusal) → IfErr answer (λ e. e ≡ Memory) → IfErr answer (IsTooLongBy stuck)
  long_without_memory (Ok x) stuck h = tt
  long_without_memory (Err fault) stuck h = subst (IsTooLongBy stuck) (sym h) tt

  pub on_any : (answer : Result T Fault) (P : T → Type 0) → ((x : T) → P x) → IfOk answer P
  on_any (Ok x) P p = p x
  on_any (Err fault) P p = tt
