-- What a run says by its status, for the commands that judge a text.
use Rattle.std.proofs.Common.{◌≡◌, ◌<◌, ◌⊎◌, ℕ, ℤ, List, [], Bool, length, Option, Some, None, IfSome, inl, inr, refl, ap, sym, subst, ◌∙◌, arith}
use Rattle.std.proofs.lemmas.Option.{IfSome_then}
use Rattle.cx_base.specs.Problem.{Problem, Meets, Unmet}
use Rattle.cx_judgements.specs.ProofTexts.{Accepted}
use Rattle.cx_judgements.specs.LogTexts.{LogRight}
use Rattle.model_out.specs.Answers.{AnswerReads}
use Rattle.cx_texts.specs.declared.offence.Offence.{Offence}
use Rattle.cx_texts.specs.declared.offence.Offence.TheVariants as offence
use Rattle.cx_semantics.specs.declared.cause.Cause.{Cause}
use Rattle.cx_judgements.proofs.TextSoundness.{accepted_is_unmet}
use Rattle.cx_desk.specs.declared.desk.Slot.TheVariants as slot
use Rattle.cx_desk.specs.declared.desk.Port.TheVariants as port
use Rattle.cx_desk.specs.Outside.{Bytes, Files}
use Rattle.cx_words.specs.Words.{Asks}
use Rattle.cx_words.specs.declared.plans.Plan.{Plan}
use Rattle.cx_words.specs.declared.plans.Plan.TheVariants as plan
use Rattle.solve_cli.specs.declared.ending.Ending.{Ending}
use Rattle.solve_cli.specs.declared.ending.Ending.TheVariants as ending
use Rattle.solve_cli.specs.declared.ending.Outcome.TheVariants as outcome
use Rattle.solve_cli.specs.declared.ending.WrongAnswer.{WrongAnswer}
use Rattle.solve_cli.specs.declared.ending.Status.{Status}
use Rattle.solve_cli.specs.declared.ending.Status.TheVariants as status
use Rattle.solve_cli.specs.Seen.{Seen, says, text_named}
use Rattle.solve_cli.specs.Commands.{Stage, formula_of, second_text, proof_created, asked_to}
use Rattle.solve_cli.specs.Proofs.{IsWholeProof, IsProofBefore}
use Rattle.solve_cli.specs.Happens.{IfNamed, IsFormula, Early, Judged, LateDue, Due, end_stage, Works, Runs}
use Rattle.solve_cli.specs.Causes.{OfFormula, OnProof, IsFormulaRefused, IsPastLimit, IsOverLimit, IsProofRefused, IsLogRefused, IsAnswerRefused, IsOfSolve, IsVerified, IsElaborated, IsModelRight}
use Rattle.solve_cli.proofs.Dues.{one_formula, judged_due}
use Rattle.solve_cli.proofs.Outcomes.{Done, verified, right, elaborated, unknown, demonstrated, trimmed, blasted, affine, OverLimit, far, long, many, ProofRefused, not_verified, not_trimmed, outcome_of}
use Rattle.solve_cli.proofs.Works.{if_some_both}
use Rattle.solve_cli.proofs.Direct.{proof_in, kept, ended, ended_by}

-- ---- the formula's refusals

if_named : {P Q : Bytes → Type 0} (name : Option Bytes) → ((n : Bytes) → P n → Q n) → IfNamed name P → IfNamed name Q
if_named None f h = h
if_named (Some n) f h = f n h

refused_early : (p : Plan) (limit : ℕ) (files : Files) (o : Offence) → Due p limit files (ending.FormulaRefused o) → Early p limit files (ending.FormulaRefused o)
refused_early p limit files o (inl h) = h
refused_early p limit files o (inr d) = absurd (not_late d.due)
  where
    not_late : LateDue p limit d.formula (second_text p files) (ending.FormulaRefused o) → ⊥
    not_late (inl h) = let e = h.1 in cc
    not_late (inr h) = h.1

-- a second text that is too long is that of a command whose formula was read
second_over : (p : Plan) (limit : ℕ) (files : Files) (f : Problem) → limit < length (second_text p files) → IsFormula p limit files f → IfNamed (formula_of p) (IsPastLimit p limit files)
second_over (plan.Solve n l c) limit files f over read = inr (inr (f, read, inl over))
second_over (plan.Check n q) limit files f over read = inr (inr (f, read, inl over))
second_over (plan.Elab n l q) limit files f over read = inr (inr (f, read, inl over))
second_over (plan.Model n a) limit files f over read = inr (inr (f, read, inl over))
second_over (plan.Demo a b c) limit files f over read = absurd (omega (arith, over))
second_over (plan.Trim n q o) limit files f over read = inr (inr (f, read, inl over))
second_over (plan.Blast n o) limit files f over read = inr (inr (f, read, inl over))
second_over (plan.Affine n) limit files f over read = inr (inr (f, read, inl over))

-- a formula with too many variables in clauses was read, for which it is to be written
too_many : (p : Plan) (limit : ℕ) (files : Files) (f : Problem) (k : ℕ) → Judged (ending.TooManyVariables k) p f (second_text p files) → IsFormula p limit files f
    → IfNamed (formula_of p) (IsPastLimit p limit files)
too_many (plan.Blast n o) limit files f k judged read = inr (inr (f, read, inr (k, judged)))
too_many p limit files f k judged read = absurd judged

over_limit : (p : Plan) (limit : ℕ) (files : Files) (e : Ending) → OverLimit e → Due p limit files e → IfNamed (formula_of p) (IsPastLimit p limit files)
over_limit p limit files _ (far b) due = if_named (formula_of p) (λ n h. inl (b, h.0, h.1)) (refused_early p limit files (offence.VarLimit b) due)
over_limit p limit files _ (long slot.Formula) (inl h) = if_named (formula_of p) (λ n over. inr (inl over)) h
over_limit p limit files _ (long slot.Second) (inl h) = if_named (formula_of p) (λ n never. absurd never) h
over_limit p limit files _ (long slot.Formula) (inr d) = absurd (not_late d.due)
  where
    not_late : LateDue p limit d.formula (second_text p files) (ending.TooLong slot.Formula) → ⊥
    not_late (inl h) = let e = h.1 in cc
    not_late (inr h) = h.1
over_limit p limit files _ (long slot.Second) (inr d) = by d.due
  where
    by : LateDue p limit d.formula (second_text p files) (ending.TooLong slot.Second) → IfNamed (formula_of p) (IsPastLimit p limit files)
    by (inl h) = second_over p limit files d.formula h.0 d.is_formula
    by (inr h) = absurd h.1
over_limit p limit files _ (many k) due = let j = judged_due p limit files (ending.TooManyVariables k) refl due in too_many p limit files j.0 k j.2 j.1

-- ---- a run

module _ (words : List Bytes) (limit : ℕ) (old : Seen) (s : Status) (new : Seen) (h : Runs words limit old s new) where
  -- status 3
  pub formula_is_refused : s ≡ status.FormulaRefused → IsFormulaRefused words limit old
  formula_is_refused e =
      let d = outcome_of status.FormulaRefused h.outcome (sym e ∙ h.status_is) in
      let w = ended_by words limit old s new h (ending.FormulaRefused d.0) d.1 in
      (w.0, w.1, IfSome_then old.files w.2.1.due (λ files due. if_named (formula_of w.0) (λ n early. (d.0, d.2, early.0, early.1)) (refused_early w.0 limit files d.0 due)))

  -- status 9
  pub limit_is_passed : s ≡ status.Limit → IsOverLimit words limit old
  limit_is_passed e =
      let d = outcome_of status.Limit h.outcome (sym e ∙ h.status_is) in
      let w = ended_by words limit old s new h d.0 d.1 in
      (w.0, w.1, IfSome_then old.files w.2.1.due (λ files due. over_limit w.0 limit files d.0 d.2 due))

  -- status 7
  of_check : (k : ℕ) (c : Cause) (p : Plan) → Asks words p → Works p limit old (outcome.Ended (ending.NotVerified k c)) h.done → IsProofRefused words limit old new
  of_check k c (plan.Check n q) asks w = (n, q, inl asks, IfSome_then old.files w.1.due (λ files due. let j = judged_due (plan.Check n q) limit files (ending.NotVerified k c) refl due in (j.0, j.1, (k, c, j.2))))
  of_check k c p asks w = absurd w.1.own

  -- what `trim` left on the Proof port of a proof that is refused
  nothing_put : (n q o : Bytes) (k : ℕ) (c : Cause) (w : Works (plan.Trim n q o) limit old (outcome.Ended (ending.NotTrimmed k c)) h.done) → w.1.proof ≡ [] → OnProof new (λ bytes. bytes ≡ [])
  nothing_put n q o k c w bare =
      (kept words limit old s new h).proof ∙ (ap proof_in w.2 ∙ (ap proof_in w.1.before_is ∙ bare))

  of_trim : (k : ℕ) (c : Cause) (p : Plan) → Asks words p → Works p limit old (outcome.Ended (ending.NotTrimmed k c)) h.done → IsProofRefused words limit old new
  of_trim k c (plan.Trim n q o) asks w = (
    n,
    q,
    inr (o, asks, IfSome_then old.files w.1.gains (λ files bare. nothing_put n q o k c w bare)),
    IfSome_then old.files w.1.due (λ files due. let j = judged_due (plan.Trim n q o) limit files (ending.NotTrimmed k c) refl due in (j.0, j.1, (k, c, j.2))),
  )
  of_trim k c p asks w = absurd w.1.own

  refused_by : (e : Ending) → ProofRefused e → (p : Plan) → Asks words p → Works p limit old (outcome.Ended e) h.done → IsProofRefused words limit old new
  refused_by _ (not_verified k c) p asks w = of_check k c p asks w
  refused_by _ (not_trimmed k c) p asks w = of_trim k c p asks w

  pub proof_is_refused : s ≡ status.ProofRefused → IsProofRefused words limit old new
  proof_is_refused e =
      let d = outcome_of status.ProofRefused h.outcome (sym e ∙ h.status_is) in
      let w = ended_by words limit old s new h d.0 d.1 in
      refused_by d.0 d.2 w.0 w.1 w.2

  -- status 11
  of_model : (x : WrongAnswer) (p : Plan) → Asks words p → Works p limit old (outcome.Ended (ending.ModelWrong x)) h.done → IsAnswerRefused words limit old
  of_model x (plan.Model n a) asks w = (n, a, asks, IfSome_then old.files w.1.due (λ files due. let j = judged_due (plan.Model n a) limit files (ending.ModelWrong x) refl due in (j.0, j.1, (x, j.2))))
  of_model x p asks w = absurd w.1.own

  pub answer_is_refused : s ≡ status.AnswerRefused → IsAnswerRefused words limit old
  answer_is_refused e =
      let d = outcome_of status.AnswerRefused h.outcome (sym e ∙ h.status_is) in
      let w = ended_by words limit old s new h (ending.ModelWrong d.0) d.1 in
      of_model d.0 w.0 w.1 w.2

  -- what `elab` left on the Proof port
  on_port : (n l q : Bytes) (e : Ending) (w : Works (plan.Elab n l q) limit old (outcome.Ended e) h.done) → end_stage e ≡ proof_created → (P : Bytes → Type 0) → P w.1.proof → OnProof new P
  on_port n l q e w late P holds =
      let ends = w.1 in
      let before : w.0 ≡ says port.Proof ends.proof (asked_to proof_created (plan.Elab n l q) old) =
      subst (λ (t : Stage). w.0 ≡ says port.Proof ends.proof (asked_to t (plan.Elab n l q) old)) late ends.before_is in
      let is : proof_in new ≡ ends.proof = (kept words limit old s new h).proof ∙ (ap proof_in w.2 ∙ ap proof_in before) in
      subst P (sym is) holds

  -- status 8
  of_elab : (k : ℕ) (c : Cause) (p : Plan) → Asks words p → Works p limit old (outcome.Ended (ending.NotElaborated k c)) h.done → IsLogRefused words limit old new
  of_elab k c (plan.Elab n l q) asks w = (
    n,
    l,
    q,
    asks,
    if_some_both old.files w.1.due w.1.gains (λ files due gains.
        let j = judged_due (plan.Elab n l q) limit files (ending.NotElaborated k c) refl due in
        let same = one_formula (text_named n files) gains.0 j.0 gains.1.reads j.1.reads in
        (j.0, j.1, (k, c, j.2, on_port n l q (ending.NotElaborated k c) w refl (IsProofBefore j.0 (text_named l files) k) (subst (λ (f : Problem). IsProofBefore f (text_named l files) k w.1.proof) same gains.2)))),
  )
  of_elab k c p asks w = absurd w.1.own

  pub log_is_refused : s ≡ status.LogRefused → IsLogRefused words limit old new
  log_is_refused e =
      let d = outcome_of status.LogRefused h.outcome (sym e ∙ h.status_is) in
      let w = ended_by words limit old s new h (ending.NotElaborated d.0 d.1) d.2 in
      of_elab d.0 d.1 w.0 w.1 w.2

  -- statuses 10 and 20
  of_solve : (e : Ending) (p : Plan) → Asks words p → ((failed : Option (List ℤ)) × (e ≡ ending.Unsatisfiable failed)) ⊎ ((v : List Bool) × (e ≡ ending.Satisfiable v)) → Works p limit old (outcome.Ended e) h.done → IsOfSolve words
  of_solve _ (plan.Solve n l c) asks which w = (n, l, c, asks)
  of_solve e p asks which w = absurd (by which)
    where
      by : ((failed : Option (List ℤ)) × (e ≡ ending.Unsatisfiable failed)) ⊎ ((v : List Bool) × (e ≡ ending.Satisfiable v)) → ⊥
      by (inl is) = (subst (λ (x : Ending). Works p limit old (outcome.Ended x) h.done) is.1 w).1.own
      by (inr is) = (subst (λ (x : Ending). Works p limit old (outcome.Ended x) h.done) is.1 w).1.own

  pub only_solve_decides : (s ≡ status.Satisfiable) ⊎ (s ≡ status.Unsatisfiable) → IsOfSolve words
  only_solve_decides (inl e) =
      let d = outcome_of status.Satisfiable h.outcome (sym e ∙ h.status_is) in
      let w = ended_by words limit old s new h (ending.Satisfiable d.0) d.1 in
      of_solve (ending.Satisfiable d.0) w.0 w.1 (inr (d.0, refl)) w.2
  only_solve_decides (inr e) =
      let d = outcome_of status.Unsatisfiable h.outcome (sym e ∙ h.status_is) in
      let w = ended_by words limit old s new h (ending.Unsatisfiable d.0) d.1 in
      of_solve (ending.Unsatisfiable d.0) w.0 w.1 (inl (d.0, refl)) w.2

  -- status 0
  verified_of : (n q : Bytes) (e : Ending) → Done e → Works (plan.Check n q) limit old (outcome.Ended e) h.done
      → IfSome old.files (λ files. OfFormula limit n files (λ f. (Unmet f) × ((k : ℕ) × Accepted f (text_named q files) k)))
  verified_of n q _ (verified k) w = IfSome_then old.files w.1.due (λ files due.
      let j = judged_due (plan.Check n q) limit files (ending.Verified k) refl due in
      (j.0, j.1, (accepted_is_unmet j.0 (text_named q files) k j.2, (k, j.2))))
  verified_of n q _ right w = absurd w.1.own
  verified_of n q _ (elaborated k) w = absurd w.1.own
  verified_of n q _ (unknown k) w = absurd w.1.own
  verified_of n q _ (demonstrated i x) w = absurd w.1.own
  verified_of n q _ (trimmed core) w = absurd w.1.own
  verified_of n q _ (blasted variables clauses) w = absurd w.1.own
  verified_of n q _ (affine space) w = absurd w.1.own

  pub proof_is_verified : s ≡ status.Done → IsVerified words limit old
  proof_is_verified e n q asks =
      let d = outcome_of status.Done h.outcome (sym e ∙ h.status_is) in
      verified_of n q d.0 d.2 (ended words limit old s new h (plan.Check n q) d.0 asks d.1)

  right_of : (n a : Bytes) (e : Ending) → Done e → Works (plan.Model n a) limit old (outcome.Ended e) h.done
      → IfSome old.files (λ files. OfFormula limit n files (λ f. (values : List Bool) × Meets f values × AnswerReads (text_named a files) f values))
  right_of n a _ right w = IfSome_then old.files w.1.due (λ files due.
      let j = judged_due (plan.Model n a) limit files ending.ModelRight refl due in
      (j.0, j.1, (j.2.0, j.2.1.meets, j.2.1)))
  right_of n a _ (verified k) w = absurd w.1.own
  right_of n a _ (elaborated k) w = absurd w.1.own
  right_of n a _ (unknown k) w = absurd w.1.own
  right_of n a _ (demonstrated i x) w = absurd w.1.own
  right_of n a _ (trimmed core) w = absurd w.1.own
  right_of n a _ (blasted variables clauses) w = absurd w.1.own
  right_of n a _ (affine space) w = absurd w.1.own

  pub model_is_right : s ≡ status.Done → IsModelRight words limit old
  model_is_right e n a asks =
      let d = outcome_of status.Done h.outcome (sym e ∙ h.status_is) in
      right_of n a d.0 d.2 (ended words limit old s new h (plan.Model n a) d.0 asks d.1)

  elaborated_of : (n l q : Bytes) (e : Ending) → Done e → Works (plan.Elab n l q) limit old (outcome.Ended e) h.done
      → IfSome old.files (λ files. OfFormula limit n files (λ f. (k : ℕ) × LogRight f (text_named l files) k × OnProof new (IsWholeProof f (text_named l files) k)))
  elaborated_of n l q _ (elaborated k) w = if_some_both old.files w.1.due w.1.gains (λ files due gains.
      let j = judged_due (plan.Elab n l q) limit files (ending.Elaborated k) refl due in
      let same = one_formula (text_named n files) gains.0 j.0 gains.1.reads j.1.reads in
      (j.0, j.1, (k, j.2, on_port n l q (ending.Elaborated k) w refl (IsWholeProof j.0 (text_named l files) k) (subst (λ (f : Problem). IsWholeProof f (text_named l files) k w.1.proof) same gains.2))))
  elaborated_of n l q _ right w = absurd w.1.own
  elaborated_of n l q _ (verified k) w = absurd w.1.own
  elaborated_of n l q _ (unknown k) w = absurd w.1.own
  elaborated_of n l q _ (demonstrated i x) w = absurd w.1.own
  elaborated_of n l q _ (trimmed core) w = absurd w.1.own
  elaborated_of n l q _ (blasted variables clauses) w = absurd w.1.own
  elaborated_of n l q _ (affine space) w = absurd w.1.own

  pub log_is_elaborated : s ≡ status.Done → IsElaborated words limit old new
  log_is_elaborated e n l q asks =
      let d = outcome_of status.Done h.outcome (sym e ∙ h.status_is) in
      elaborated_of n l q d.0 d.2 (ended words limit old s new h (plan.Elab n l q) d.0 asks d.1)
