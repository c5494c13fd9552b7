-- What `affine` does, and what a run of it says by its status.
use Rattle.std.proofs.Common.{◌≡◌, ℕ, List, [], Option, IfSome, refl, ap, sym, subst, ◌∙◌, arith}
use Rattle.std.proofs.lemmas.Option.{IfSome_then}
use Rattle.cx_base.specs.Problem.{Problem, parities_of}
use Rattle.gf2_space.specs.Spaces.{AffineSpace, Describes}
use Rattle.cx_desk.specs.declared.desk.Port.TheVariants as port
use Rattle.cx_desk.specs.declared.desk.Slot.TheVariants as slot
use Rattle.cx_desk.specs.Outside.{Bytes}
use Rattle.cx_words.specs.declared.plans.Plan.TheVariants as plan
use Rattle.solve_cli.specs.declared.ending.Ending.{Ending}
use Rattle.solve_cli.specs.declared.ending.Ending.TheVariants as ending
use Rattle.solve_cli.specs.declared.ending.Outcome.TheVariants as outcome
use Rattle.solve_cli.specs.declared.ending.Status.{Status}
use Rattle.solve_cli.specs.declared.ending.Status.TheVariants as status
use Rattle.solve_cli.specs.Endings.{answer_text, message_text, space_text}
use Rattle.solve_cli.specs.Seen.{Seen, asks, says, text_named}
use Rattle.solve_cli.specs.Commands.{proof_created, asked_to}
use Rattle.solve_cli.specs.Derived.{HasTold, IsAffine}
use Rattle.solve_cli.specs.Happens.{FormulaRead, Ends, Stops, Works, Runs}
use Rattle.solve_cli.proofs.Direct.{ended}
use Rattle.solve_cli.proofs.Dues.{judged_due}
use Rattle.solve_cli.proofs.Outcomes.{Done, verified, right, elaborated, unknown, demonstrated, trimmed, blasted, affine, outcome_of}
use Rattle.solve_cli.proofs.Solved.{quiet}
use Rattle.solve_cli.proofs.Works.{all_files, formula_in, if_some_both, judged_ends, says-none, stopped}

affine_lines : (space : Option AffineSpace) → answer_text (ending.Affine space) ≡ space_text space
unfolding answer_text
affine_lines space = refl

affine_message : (space : Option AffineSpace) → message_text (outcome.Ended (ending.Affine space)) ≡ []
unfolding message_text
affine_message space = refl

-- ---- the formula was read

module _ (n : Bytes) (limit : ℕ) (old : Seen) (f : Problem) (mid : Seen) (is : mid ≡ asks slot.Formula n old)
    (read : IfSome old.files (λ files. FormulaRead limit (text_named n files) f)) where
  -- and the solutions found
  pub solutions_found : (space : Option AffineSpace) → Describes f.variables (parities_of f.constraints) space → Ends (plan.Affine n) limit old (ending.Affine space) mid
  solutions_found space describes =
      subst (Ends (plan.Affine n) limit old (ending.Affine space)) (says-none port.Proof [] mid refl)
      (judged_ends (plan.Affine n) limit old f mid (ending.Affine space) [] is read tt refl (IfSome_then old.files read (λ files r. (omega arith, describes))) (all_files old.files (λ files. refl)))

  -- or memory ran out
  pub solutions_cut : Stops (plan.Affine n) limit old mid
  solutions_cut = stopped proof_created (plan.Affine n) limit old mid (formula_in (plan.Affine n) limit old f read) is

-- ---- a run

module _ (words : List Bytes) (limit : ℕ) (old : Seen) (s : Status) (new : Seen) (h : Runs words limit old s new) where
  told_of : (n : Bytes) (e : Ending) → Done e → h.outcome ≡ outcome.Ended e → Works (plan.Affine n) limit old (outcome.Ended e) h.done → IfSome old.files (λ files. HasTold n limit files old new)
  told_of n _ (affine space) is w =
      let told = quiet (message_text h.outcome) h.done new (ap message_text is ∙ affine_message space) h.tells in
      if_some_both old.files w.1.due w.1.gains (λ files due gains.
      let j = judged_due (plan.Affine n) limit files (ending.Affine space) refl due in
      let before = w.1.before_is ∙ says-none port.Proof w.1.proof (asked_to proof_created (plan.Affine n) old) gains in
      record {
        formula = j.0;
        read = j.1;
        space = space;
        describes = j.2;
        done = told ∙ (w.2 ∙ (ap (λ (t : Bytes). says port.Answer t w.0) (affine_lines space) ∙ ap (says port.Answer (space_text space)) before));
      })
  told_of n _ (verified k) is w = absurd w.1.own
  told_of n _ right is w = absurd w.1.own
  told_of n _ (elaborated k) is w = absurd w.1.own
  told_of n _ (unknown k) is w = absurd w.1.own
  told_of n _ (demonstrated i x) is w = absurd w.1.own
  told_of n _ (trimmed core) is w = absurd w.1.own
  told_of n _ (blasted variables clauses) is w = absurd w.1.own

  -- status 0 of `affine`
  pub space_is_told : s ≡ status.Done → IsAffine words limit old new
  space_is_told e n asks =
      let d = outcome_of status.Done h.outcome (sym e ∙ h.status_is) in
      told_of n d.0 d.2 d.1 (ended words limit old s new h (plan.Affine n) d.0 asks d.1)
