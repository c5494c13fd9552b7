-- What a run of `blast` says by its status.
use Rattle.std.proofs.Common.{◌≡◌, ℕ, List, [], length, IfSome, refl, ap, sym, subst, ◌∙◌}
use Rattle.cx_base.specs.Problem.{Problem, clauses_of}
use Rattle.xor_blast.specs.Blasted.{blasted}
use Rattle.xor_blast.proofs.BlastingLaws.{blasted_alone}
use Rattle.cx_desk.specs.declared.desk.Port.TheVariants as port
use Rattle.cx_desk.specs.Outside.{Bytes}
use Rattle.cx_words.specs.declared.plans.Plan.TheVariants as plan
use Rattle.solve_cli.specs.declared.ending.Ending.{Ending}
use Rattle.solve_cli.specs.declared.ending.Ending.TheVariants as ending
use Rattle.solve_cli.specs.declared.ending.Outcome.TheVariants as outcome
use Rattle.solve_cli.specs.declared.ending.Status.{Status}
use Rattle.solve_cli.specs.declared.ending.Status.TheVariants as status
use Rattle.solve_cli.specs.Endings.{answer_text, message_text, blasted_text}
use Rattle.solve_cli.specs.Seen.{Seen, says, text_named}
use Rattle.solve_cli.specs.Blasting.{IsBlastedText}
use Rattle.solve_cli.specs.Happens.{Works, Runs}
use Rattle.solve_cli.specs.Derived.{HasBlasted, IsBlasted}
use Rattle.solve_cli.proofs.Direct.{ended}
use Rattle.solve_cli.proofs.Dues.{one_formula, judged_due}
use Rattle.solve_cli.proofs.Outcomes.{Done, verified, right, elaborated, unknown, demonstrated, trimmed, blasted as blasted_end, affine, outcome_of}
use Rattle.solve_cli.proofs.Solved.{quiet}
use Rattle.solve_cli.proofs.Works.{if_some_both}

blasted_lines : (variables clauses : ℕ) → answer_text (ending.Blasted variables clauses) ≡ blasted_text variables clauses
unfolding answer_text
blasted_lines variables clauses = refl

blasted_message : (variables clauses : ℕ) → message_text (outcome.Ended (ending.Blasted variables clauses)) ≡ []
unfolding message_text
blasted_message variables clauses = refl

module _ (words : List Bytes) (limit : ℕ) (old : Seen) (s : Status) (new : Seen) (h : Runs words limit old s new) where
  blasted_of : (n o : Bytes) (e : Ending) → Done e → h.outcome ≡ outcome.Ended e → Works (plan.Blast n o) limit old (outcome.Ended e) h.done
      → IfSome old.files (λ files. HasBlasted n o limit files old new)
  blasted_of n o _ (blasted_end variables clauses) is w =
      let told = quiet (message_text h.outcome) h.done new (ap message_text is ∙ blasted_message variables clauses) h.tells in
      if_some_both old.files w.1.due w.1.gains (λ files due gains.
      let j = judged_due (plan.Blast n o) limit files (ending.Blasted variables clauses) refl due in
      let same = one_formula (text_named n files) gains.0 j.0 gains.1.reads j.1.reads in
      let text = subst (λ (f : Problem). IsBlastedText f w.1.proof) same gains.2 in
      let lines = blasted_lines variables clauses
      ∙ (ap (λ (k : ℕ). blasted_text k clauses) j.2.variables_are ∙ ap (blasted_text (blasted j.0).variables) j.2.clauses_are) in
      record {
        formula = j.0;
        read = j.1;
        made = blasted j.0;
        made_is = refl;
        no_parity = blasted_alone j.0;
        extends = text.extends;
        text = w.1.proof;
        reads = text.reads;
        done = told ∙ (w.2 ∙ (ap (λ (t : Bytes). says port.Answer t w.0) lines ∙ ap (says port.Answer (blasted_text (blasted j.0).variables (length (clauses_of (blasted j.0).constraints)))) w.1.before_is));
      })
  blasted_of n o _ (verified k) is w = absurd w.1.own
  blasted_of n o _ right is w = absurd w.1.own
  blasted_of n o _ (elaborated k) is w = absurd w.1.own
  blasted_of n o _ (unknown k) is w = absurd w.1.own
  blasted_of n o _ (demonstrated i x) is w = absurd w.1.own
  blasted_of n o _ (trimmed core) is w = absurd w.1.own
  blasted_of n o _ (affine space) is w = absurd w.1.own

  -- status 0 of `blast`
  pub formula_is_blasted : s ≡ status.Done → IsBlasted words limit old new
  formula_is_blasted e n o asks =
      let d = outcome_of status.Done h.outcome (sym e ∙ h.status_is) in
      blasted_of n o d.0 d.2 d.1 (ended words limit old s new h (plan.Blast n o) d.0 asks d.1)
