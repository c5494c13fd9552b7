-- What a run of `demo` says by its status.
use Rattle.std.proofs.Common.{◌≡◌, ℕ, List, [], IfSome, refl, ap, sym, subst, ◌∙◌}
use Rattle.cx_base.specs.Problem.{Problem}
use Rattle.inst_gen.specs.declared.kind.InstanceKind.{InstanceKind}
use Rattle.cx_desk.specs.declared.desk.Port.TheVariants as port
use Rattle.cx_desk.specs.Outside.{Bytes}
use Rattle.cx_words.specs.declared.plans.Plan.TheVariants as plan
use Rattle.solve_cli.specs.declared.ending.Ending.{Ending}
use Rattle.solve_cli.specs.declared.ending.Ending.TheVariants as ending
use Rattle.solve_cli.specs.declared.ending.Instance.{Instance}
use Rattle.solve_cli.specs.declared.ending.Outcome.TheVariants as outcome
use Rattle.solve_cli.specs.declared.ending.Shown.{Shown}
use Rattle.solve_cli.specs.declared.ending.Status.{Status}
use Rattle.solve_cli.specs.declared.ending.Status.TheVariants as status
use Rattle.solve_cli.specs.Endings.{answer_text, message_text, demo_text}
use Rattle.solve_cli.specs.Seen.{Seen, says}
use Rattle.solve_cli.specs.Demo.{instance_of, Shows, HasDemonstrated, IsDemonstrated}
use Rattle.solve_cli.specs.Happens.{Works, Runs}
use Rattle.solve_cli.proofs.Direct.{ended}
use Rattle.solve_cli.proofs.Dues.{judged_due}
use Rattle.solve_cli.proofs.Outcomes.{Done, verified, right, elaborated, unknown, demonstrated, trimmed, blasted, affine, outcome_of}
use Rattle.solve_cli.proofs.Solved.{quiet}
use Rattle.solve_cli.proofs.Works.{if_some_both}

demo_lines : (i : Instance) (x : Shown) → answer_text (ending.Demonstrated i x) ≡ demo_text i x
unfolding answer_text
demo_lines i x = refl

demo_message : (i : Instance) (x : Shown) → message_text (outcome.Ended (ending.Demonstrated i x)) ≡ []
unfolding message_text
demo_message i x = refl

module _ (words : List Bytes) (limit : ℕ) (old : Seen) (s : Status) (new : Seen) (h : Runs words limit old s new) where
  shown_of : (kind : InstanceKind) (size seed : ℕ) (e : Ending) → Done e → h.outcome ≡ outcome.Ended e → Works (plan.Demo kind size seed) limit old (outcome.Ended e) h.done
      → IfSome old.files (λ _. HasDemonstrated kind size seed old new)
  shown_of kind size seed _ (demonstrated i x) is w =
      let told = quiet (message_text h.outcome) h.done new (ap message_text is ∙ demo_message i x) h.tells in
      let lines = demo_lines i x ∙ ap (λ (j : Instance). demo_text j x) w.1.own.0 in
      if_some_both old.files w.1.due w.1.gains (λ files due gains.
      let j = judged_due (plan.Demo kind size seed) limit files (ending.Demonstrated i x) refl due in
      record {
        what = x;
        fits = w.1.own.1;
        shows = subst (λ (f : Problem). Shows f x) j.1 j.2.2;
        log = w.1.proof;
        behind = gains;
        done = told ∙ (w.2 ∙ (ap (λ (t : Bytes). says port.Answer t w.0) lines ∙ ap (says port.Answer (demo_text (instance_of kind size seed) x)) w.1.before_is));
      })
  shown_of kind size seed _ (verified k) is w = absurd w.1.own
  shown_of kind size seed _ right is w = absurd w.1.own
  shown_of kind size seed _ (elaborated k) is w = absurd w.1.own
  shown_of kind size seed _ (unknown k) is w = absurd w.1.own
  shown_of kind size seed _ (trimmed core) is w = absurd w.1.own
  shown_of kind size seed _ (blasted variables clauses) is w = absurd w.1.own
  shown_of kind size seed _ (affine space) is w = absurd w.1.own

  -- status 0 of `demo`
  pub instance_is_shown : s ≡ status.Done → IsDemonstrated words old new
  instance_is_shown e kind size seed asks =
      let d = outcome_of status.Done h.outcome (sym e ∙ h.status_is) in
      shown_of kind size seed d.0 d.2 d.1 (ended words limit old s new h (plan.Demo kind size seed) d.0 asks d.1)
