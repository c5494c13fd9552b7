-- Endings that are told by a message alone: they come though writes fail.
use Rattle.std.proofs.Common.{◌≡◌, ◌<◌, ◌≤◌, ◌⊎◌, ℕ, true, [], List, length, Option, Some, None, IfSome, IsTrue, inl, inr, refl, ap, sym, subst, ◌∙◌, arith}
use Rattle.std.specs.Prelude.{⊤}
use Rattle.std.proofs.lemmas.Bool.{cases_lt}
use Rattle.std.proofs.lemmas.Option.{IfSome_then}
use Rattle.cx_base.specs.Counts.{Rose}
use Rattle.cx_base.specs.Problem.{Problem}
use Rattle.cx_base.specs.declared.literal.TheConstants.{MAX_VARIABLE}
use Rattle.xor_blast.specs.Blasted.{PassesLimit, variables_after}
use Rattle.cx_desk.specs.declared.desk.Slot.TheVariants as slot
use Rattle.cx_desk.specs.Outside.{Bytes, Files}
use Rattle.cx_words.specs.Words.{Asks}
use Rattle.cx_words.specs.declared.plans.Plan.{Plan}
use Rattle.cx_words.specs.declared.plans.Plan.TheVariants as plan
use Rattle.cx_words.proofs.PlanLaws.{one_plan, not_refused}
use Rattle.solve_cli.specs.declared.ending.Ending.{Ending}
use Rattle.solve_cli.specs.declared.ending.Ending.TheVariants as ending
use Rattle.solve_cli.specs.declared.ending.Outcome.{Outcome}
use Rattle.solve_cli.specs.declared.ending.Outcome.TheVariants as outcome
use Rattle.solve_cli.specs.declared.ending.Status.{Status}
use Rattle.solve_cli.specs.declared.ending.Status.TheVariants as status
use Rattle.solve_cli.specs.Endings.{status_of, status_of_ending, answer_text}
use Rattle.solve_cli.specs.Seen.{Seen, text_named}
use Rattle.solve_cli.specs.Commands.{Stage, formula_of, proof_of, second_text, writes_proof}
use Rattle.solve_cli.specs.Happens.{IfNamed, FormulaRead, EarlyDue, is_early, Judged, LateDue, Due, IsFormula, Reaches, MayWrite, Works, WorksFor, Runs}
use Rattle.solve_cli.specs.Run.{IsToldByMessage}
use Rattle.solve_cli.proofs.Direct.{read_rose}
use Rattle.solve_cli.proofs.Dues.{one_formula, judged_due}
use Rattle.solve_cli.proofs.OneEnding.{one_ending, one_early, not_both}
use Rattle.solve_cli.proofs.Works.{if_some_both, early_text, all_files}

-- ---- too many variables of a formula in clauses

-- the first constraint that passes the limit is one
one_passes : (f : Problem) (j k : ℕ) → PassesLimit f j → PassesLimit f k → j ≡ k
one_passes f j k a b = by (cases_lt j k) (cases_lt k j)
  where
    not_before : (i m : ℕ) → PassesLimit f i → PassesLimit f m → i < m → ⊥
    not_before i m p q less =
        let above : MAX_VARIABLE < variables_after f i = p.above in
        let below : variables_after f i ≤ MAX_VARIABLE = q.before i less in
        absurd (omega (arith, above, below))

    by : (j < k) ⊎ (k ≤ j) → (k < j) ⊎ (j ≤ k) → j ≡ k
    by (inl less) _ = absurd (not_before j k a b less)
    by (inr _) (inl less) = absurd (not_before k j b a less)
    by (inr low) (inr high) = omega (arith, low, high)

-- `blast` has no second text
of_blast : (n o : Bytes) (limit : ℕ) (f : Problem) (d : Ending) (k : ℕ) → LateDue (plan.Blast n o) limit f [] d → PassesLimit f k → d ≡ ending.TooManyVariables k
of_blast n o limit f d k (inl h) passes = let over : limit < 0 = h.0 in absurd (omega (arith, over))
of_blast n o limit f (ending.TooManyVariables j) k (inr h) passes = ap ending.TooManyVariables (one_passes f j k h.1 passes)
of_blast n o limit f (ending.Blasted variables clauses) k (inr h) passes = absurd (h.1.within k passes)
of_blast n o limit f d k (inr h) passes = absurd h.1

-- the formula that is due to have too many variables in clauses is that of `blast`
passes_of : (p : Plan) (limit : ℕ) (files : Files) (d : Ending) (k : ℕ) (f : Problem) → IsFormula p limit files f → Judged (ending.TooManyVariables k) p f (second_text p files) → Due p limit files d → d ≡ ending.TooManyVariables k
passes_of (plan.Blast n o) limit files d k f read passes (inl early) = absurd (not_both (plan.Blast n o) limit files f d early read)
passes_of (plan.Blast n o) limit files d k f read passes (inr late) =
    let same = one_formula (text_named n files) late.formula f late.is_formula.reads read.reads in
    of_blast n o limit f d k (subst (λ (g : Problem). LateDue (plan.Blast n o) limit g [] d) same late.due) passes
passes_of p limit files d k f read passes due = absurd passes

only_limit : (p : Plan) (limit : ℕ) (files : Files) (d e : Ending) (k : ℕ) → e ≡ ending.TooManyVariables k → Due p limit files e → Due p limit files d → d ≡ e
only_limit p limit files d e k is this other =
    let j = judged_due p limit files (ending.TooManyVariables k) refl (subst (Due p limit files) is this) in
    passes_of p limit files d k j.0 j.1 j.2 other ∙ sym is

-- it excludes a file of the Proof port, and so any write there
abbrev MayWriteOf : Plan → ℕ → Files → Type 0
MayWriteOf (plan.Blast n o) limit files = (f : Problem) × FormulaRead limit (text_named n files) f × ((number : ℕ) → ¬ PassesLimit f number)
MayWriteOf p limit files = ⊤

may_of : (p : Plan) (limit : ℕ) (old : Seen) → MayWrite p limit old → IfSome old.files (MayWriteOf p limit)
may_of (plan.Blast n o) limit old h = h
may_of p limit old h = all_files old.files (λ files. tt)

never_within : (p : Plan) (limit : ℕ) (files : Files) (k : ℕ) (f : Problem) → IsFormula p limit files f → Judged (ending.TooManyVariables k) p f (second_text p files) → MayWriteOf p limit files → ⊥
never_within (plan.Blast n o) limit files k f read passes may = may.2 k (subst (λ (g : Problem). PassesLimit g k) (one_formula (text_named n files) f may.0 read.reads may.1.reads) passes)
never_within p limit files k f read passes may = absurd passes

may_not : (p : Plan) (limit : ℕ) (files : Files) (e : Ending) (k : ℕ) → e ≡ ending.TooManyVariables k → Due p limit files e → MayWriteOf p limit files → ⊥
may_not p limit files e k is this may =
    let j = judged_due p limit files (ending.TooManyVariables k) refl (subst (Due p limit files) is this) in
    never_within p limit files k j.0 j.1 j.2 may

-- ---- all of them

-- such an ending is the only one that is due
only_due : (p : Plan) (limit : ℕ) (files : Files) (d e : Ending) → IsToldByMessage p limit files e → Due p limit files d → d ≡ e
only_due p limit files d e (inl early) due = sym (one_early p limit files e d early due)
only_due p limit files d e (inr (inr h)) due = only_limit p limit files d e h.0 h.1 h.2 due
only_due (plan.Check n q) limit files d e (inr (inl h)) due = one_ending (plan.Check n q) q limit files d e refl due h.2
only_due (plan.Model n a) limit files d e (inr (inl h)) due = one_ending (plan.Model n a) a limit files d e refl due h.2
only_due (plan.Solve n l c) limit files d e (inr (inl h)) due = let never = h.0 in cc
only_due (plan.Elab n l q) limit files d e (inr (inl h)) due = let never = h.0 in cc
only_due (plan.Demo a b c) limit files d e (inr (inl h)) due = let never = h.0 in cc
only_due (plan.Trim n q o) limit files d e (inr (inl h)) due = let never = h.0 in cc
only_due (plan.Blast n o) limit files d e (inr (inl h)) due = let never = h.0 in cc
only_due (plan.Affine n) limit files d e (inr (inl h)) due = let never = h.0 in cc

-- it puts nothing on the Answer port
is_early_due : (name : Option Bytes) (limit : ℕ) (files : Files) (e : Ending) → IfNamed name (λ n. EarlyDue limit (text_named n files) e) → is_early e ≡ true
is_early_due None limit files e h = absurd h
is_early_due (Some n) limit files (ending.FormulaRefused o) h = refl
is_early_due (Some n) limit files (ending.TooLong slot.Formula) h = refl
is_early_due (Some n) limit files e h = absurd h

too_long : answer_text (ending.TooLong slot.Second) ≡ []
unfolding answer_text
too_long = refl

too_many : (k : ℕ) → answer_text (ending.TooManyVariables k) ≡ []
unfolding answer_text
too_many k = refl

no_text : (p : Plan) (limit : ℕ) (files : Files) (e : Ending) → IsToldByMessage p limit files e → answer_text e ≡ []
no_text p limit files e (inl h) = early_text e (is_early_due (formula_of p) limit files e h)
no_text p limit files e (inr (inl h)) = ap answer_text h.1 ∙ too_long
no_text p limit files e (inr (inr h)) = ap answer_text h.1 ∙ too_many h.0

-- where it is due, the Proof port is not reached
not_created : (p : Plan) (limit : ℕ) (files : Files) (e : Ending) → IsToldByMessage p limit files e → (name : Bytes) → proof_of p ≡ Some name → MayWriteOf p limit files → (f : Problem) → IsFormula p limit files f → ⊥
not_created p limit files e (inl h) name named may f reads = not_both p limit files f e h reads
not_created p limit files e (inr (inr h)) name named may f reads = may_not p limit files e h.0 h.1 h.2 may
not_created (plan.Check n q) limit files e (inr (inl h)) name named may f reads = cc
not_created (plan.Model n a) limit files e (inr (inl h)) name named may f reads = cc
not_created (plan.Solve n l c) limit files e (inr (inl h)) name named may f reads = let never = h.0 in cc
not_created (plan.Elab n l q) limit files e (inr (inl h)) name named may f reads = let never = h.0 in cc
not_created (plan.Demo a b c) limit files e (inr (inl h)) name named may f reads = let never = h.0 in cc
not_created (plan.Trim n q o) limit files e (inr (inl h)) name named may f reads = let never = h.0 in cc
not_created (plan.Blast n o) limit files e (inr (inl h)) name named may f reads = let never = h.0 in cc
not_created (plan.Affine n) limit files e (inr (inl h)) name named may f reads = let never = h.0 in cc

not_written : (p : Plan) (limit : ℕ) (files : Files) (e : Ending) → IsToldByMessage p limit files e → IsTrue (writes_proof p) → MayWriteOf p limit files → (f : Problem) → IsFormula p limit files f → ⊥
not_written p limit files e (inl h) writes may f reads = not_both p limit files f e h reads
not_written p limit files e (inr (inr h)) writes may f reads = may_not p limit files e h.0 h.1 h.2 may
not_written (plan.Check n q) limit files e (inr (inl h)) writes may f reads = cc
not_written (plan.Model n a) limit files e (inr (inl h)) writes may f reads = cc
not_written (plan.Solve n l c) limit files e (inr (inl h)) writes may f reads = let never = h.0 in cc
not_written (plan.Elab n l q) limit files e (inr (inl h)) writes may f reads = let never = h.0 in cc
not_written (plan.Demo a b c) limit files e (inr (inl h)) writes may f reads = let never = h.0 in cc
not_written (plan.Trim n q o) limit files e (inr (inl h)) writes may f reads = let never = h.0 in cc
not_written (plan.Blast n o) limit files e (inr (inl h)) writes may f reads = let never = h.0 in cc
not_written (plan.Affine n) limit files e (inr (inl h)) writes may f reads = let never = h.0 in cc

module _ (words : List Bytes) (limit : ℕ) (old : Seen) (s : Status) (new : Seen) (h : Runs words limit old s new) where
  -- what such an ending leaves for the status
  abbrev Comes : Plan → Ending → Files → Type 0
  Comes p e files = IsToldByMessage p limit files e → (s ≡ status.OutOfMemory) ⊎ (s ≡ status_of_ending e)

  told : (p : Plan) (e d : Ending) → s ≡ status_of_ending d → Works p limit old (outcome.Ended d) h.done → IfSome old.files (Comes p e)
  told p e d is w = IfSome_then old.files w.1.due (λ files due. λ by. inr (is ∙ ap status_of_ending (only_due p limit files d e by due)))

  unwritten : (p : Plan) (e : Ending) → Works p limit old outcome.WriteFault h.done → IfSome old.files (Comes p e)
  unwritten p e (inl w) = IfSome_then old.files w.ends.due (λ files due. λ by.
      let same = only_due p limit files w.ending e by due in
      let none : length (answer_text w.ending) ≡ 0 = ap (λ (x : Ending). length (answer_text x)) same ∙ ap length (no_text p limit files e by) in
      let low : w.count < length (answer_text w.ending) = w.front in
      absurd (omega (arith, none, low)))
  unwritten p e (inr (inl w)) =
      if_some_both old.files w.reaches (may_of p limit old w.may_write) (λ files read may. λ by. absurd (not_created p limit files e by w.name w.named may read.0 read.1))
  unwritten p e (inr (inr w)) =
      let reaches = subst (λ (t : Stage). Reaches t p limit old) w.created w.stops.reaches in
      if_some_both old.files reaches (may_of p limit old w.may_write) (λ files read may. λ by. absurd (not_written p limit files e by w.writes may read.0 read.1))

  all_come : (p : Plan) (e : Ending) → s ≡ status.OutOfMemory → IfSome old.files (Comes p e)
  all_come p e is = by old.files
    where
      by : (w : Option Files) → IfSome w (Comes p e)
      by None = tt
      by (Some files) = λ _. inl is

  go : (p : Plan) (e : Ending) (o : Outcome) → Asks words p → (Rose old.faults.reads new.faults.reads → ⊥) → s ≡ status_of o → WorksFor words limit old o h.done → IfSome old.files (Comes p e)
  go p e outcome.Usage asks no_read is works = absurd (not_refused words p asks works.0)
  go p e outcome.Memory asks no_read is works = all_come p e is
  go p e outcome.ReadFault asks no_read is works = absurd (no_read (read_rose words limit old s new h works.0 works.2))
  go p e outcome.WriteFault asks no_read is works =
      unwritten p e (subst (λ (x : Plan). Works x limit old outcome.WriteFault h.done) (one_plan words works.0 p works.1 asks) works.2)
  go p e (outcome.Ended d) asks no_read is works =
      told p e d is (subst (λ (x : Plan). Works x limit old (outcome.Ended d) h.done) (one_plan words works.0 p works.1 asks) works.2)

  pub need_no_write : (p : Plan) (e : Ending) → Asks words p → (Rose old.faults.reads new.faults.reads → ⊥) → IfSome old.files (Comes p e)
  need_no_write p e asks no_read = go p e h.outcome asks no_read h.status_is h.works
