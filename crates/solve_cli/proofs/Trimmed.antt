-- What a run of `trim` says by its status.
use Rattle.std.proofs.Common.{◌≡◌, ℕ, List, [], length, IfSome, refl, ap, sym, ◌∙◌}
use Rattle.std.proofs.lemmas.Option.{IfSome_then}
use Rattle.cx_base.specs.Problem.{Problem, Unmet}
use Rattle.cx_base.specs.declared.steps.ProofStep.{ProofStep}
use Rattle.cx_judgements.proofs.TextSoundness.{accepted_is_unmet}
use Rattle.cx_desk.specs.declared.desk.Port.TheVariants as port
use Rattle.cx_desk.specs.Outside.{Bytes}
use Rattle.cx_words.specs.declared.plans.Plan.TheVariants as plan
use Rattle.solve_cli.specs.declared.ending.Core.{Core}
use Rattle.solve_cli.specs.declared.ending.Ending.{Ending}
use Rattle.solve_cli.specs.declared.ending.Ending.TheVariants as ending
use Rattle.solve_cli.specs.declared.ending.Outcome.TheVariants as outcome
use Rattle.solve_cli.specs.declared.ending.Status.{Status}
use Rattle.solve_cli.specs.declared.ending.Status.TheVariants as status
use Rattle.solve_cli.specs.Derived.{HasTrimmed, IsTrimmed}
use Rattle.solve_cli.specs.Endings.{answer_text, message_text}
use Rattle.solve_cli.specs.Seen.{Seen, says}
use Rattle.solve_cli.specs.Happens.{Works, Runs}
use Rattle.solve_cli.specs.Trimming.{TrimsTo, core_text}
use Rattle.solve_cli.proofs.Direct.{ended}
use Rattle.solve_cli.proofs.OneTrimming.{accepted_text}
use Rattle.solve_cli.proofs.Outcomes.{Done, verified, right, elaborated, unknown, demonstrated, trimmed, blasted, affine, outcome_of}
use Rattle.solve_cli.proofs.Solved.{quiet}

core_lines : (core : Core) → answer_text (ending.Trimmed core) ≡ core_text core
unfolding answer_text
core_lines core = refl

core_message : (core : Core) → message_text (outcome.Ended (ending.Trimmed core)) ≡ []
unfolding message_text
core_message core = refl

-- a formula with an accepted proof is met by no values
unmet_by : (f : Problem) (text : Bytes) (steps : List ProofStep) (core : Core) → TrimsTo f text steps core → Unmet f
unmet_by f text steps core (proof, h, trims) = accepted_is_unmet f text (length proof) (accepted_text f text proof h)

module _ (words : List Bytes) (limit : ℕ) (old : Seen) (s : Status) (new : Seen) (h : Runs words limit old s new) where
  trimmed_of : (n q out : Bytes) (e : Ending) → Done e → h.outcome ≡ outcome.Ended e → Works (plan.Trim n q out) limit old (outcome.Ended e) h.done
      → IfSome old.files (λ files. HasTrimmed n q out limit files old new)
  trimmed_of n q out _ (trimmed core) is w =
      let told = quiet (message_text h.outcome) h.done new (ap message_text is ∙ core_message core) h.tells in
      IfSome_then old.files w.1.gains (λ files gains. record {
        formula = gains.0;
        read = gains.1;
        unmet = unmet_by gains.0 _ gains.2.steps core gains.2.trims;
        core = core;
        bytes = w.1.proof;
        trimmed = gains.2;
        done = told ∙ (w.2 ∙ (ap (λ (t : Bytes). says port.Answer t w.0) (core_lines core) ∙ ap (says port.Answer (core_text core)) w.1.before_is));
      })
  trimmed_of n q out _ (verified k) is w = absurd w.1.own
  trimmed_of n q out _ right is w = absurd w.1.own
  trimmed_of n q out _ (elaborated k) is w = absurd w.1.own
  trimmed_of n q out _ (unknown k) is w = absurd w.1.own
  trimmed_of n q out _ (demonstrated i x) is w = absurd w.1.own
  trimmed_of n q out _ (blasted variables clauses) is w = absurd w.1.own
  trimmed_of n q out _ (affine space) is w = absurd w.1.own

  -- status 0 of `trim`
  pub proof_is_trimmed : s ≡ status.Done → IsTrimmed words limit old new
  proof_is_trimmed e n q out asks =
      let d = outcome_of status.Done h.outcome (sym e ∙ h.status_is) in
      trimmed_of n q out d.0 d.2 d.1 (ended words limit old s new h (plan.Trim n q out) d.0 asks d.1)
