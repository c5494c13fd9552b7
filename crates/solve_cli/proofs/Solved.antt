-- What a run of `solve` says by its status.
use Rattle.std.proofs.Common.{◌≡◌, ◌<◌, ℕ, ℤ, Bool, true, false, List, [], ◌∷◌, length, Option, Some, None, IfSome, codes, decimal, inl, inr, refl, ap, sym, subst, ◌∙◌, arith}
use Rattle.std.proofs.lemmas.Bool.{both_ways}
use Rattle.std.proofs.lemmas.Option.{IfSome_then}
use Rattle.cx_base.specs.Problem.{Problem, Meets, parities_of}
use Rattle.cx_texts.specs.AnswerText as printed
use Rattle.cx_semantics.specs.Forced.{Consistent}
use Rattle.cx_texts.specs.FormulaText.{Reads}
use Rattle.cx_semantics.proofs.SettledLaws.{unsolvable_is_settled}
use Rattle.search_steps.specs.Recovering.{SettledWithRecovered}
use Rattle.search_steps.proofs.EndLaws.{settled_by_its_own}
use Rattle.cx_semantics.proofs.Soundness.{parities_met}
use Rattle.cx_desk.specs.declared.desk.Port.TheVariants as port
use Rattle.cx_desk.specs.Outside.{Bytes, Files}
use Rattle.cx_words.specs.Words.{Asks}
use Rattle.cx_words.specs.declared.plans.Plan.{Plan}
use Rattle.cx_words.specs.declared.plans.Plan.TheVariants as plan
use Rattle.cx_words.specs.declared.plans.SearchOptions.{SearchOptions}
use Rattle.solve_cli.specs.declared.ending.Ending.{Ending}
use Rattle.solve_cli.specs.declared.ending.Ending.TheVariants as ending
use Rattle.solve_cli.specs.declared.ending.Outcome.{Outcome}
use Rattle.solve_cli.specs.declared.ending.Outcome.TheVariants as outcome
use Rattle.solve_cli.specs.declared.ending.Status.{Status}
use Rattle.solve_cli.specs.declared.ending.Status.TheVariants as status
use Rattle.solve_cli.specs.Endings.{answer_text, message_text, joined}
use Rattle.solve_cli.specs.Failed.{unsatisfiable_text}
use Rattle.solve_cli.specs.Seen.{Seen, says, text_named}
use Rattle.solve_cli.specs.Commands.{Stage, proof_created, asked_to, second_text}
use Rattle.solve_cli.specs.Happens.{end_stage, Judged, Due, Gains, Works, WorksFor, PutsMessage, Runs}
use Rattle.solve_cli.specs.Solved.{solved, HasSolved, IsSatisfied, IsRefuted, IsSpent, IsSettled, IsSettledWithRecovered, IsUnsolvable}
use Rattle.solve_cli.proofs.Direct.{ended}
use Rattle.solve_cli.proofs.Dues.{is_judgement, judged_due, judged_of}
use Rattle.solve_cli.proofs.Outcomes.{Done, verified, right, elaborated, unknown, demonstrated, trimmed, blasted, affine, outcome_of}
use Rattle.solve_cli.proofs.Works.{if_some_both, says-none}

-- ---- the texts

values_text : (v : List Bool) → answer_text (ending.Satisfiable v) ≡ printed.answer_text v
unfolding answer_text
values_text v = refl

none_text : (failed : Option (List ℤ)) → answer_text (ending.Unsatisfiable failed) ≡ unsatisfiable_text failed
unfolding answer_text
none_text failed = refl

spent_text : (k : ℕ) → answer_text (ending.Unknown k) ≡ joined (codes "c conflicts " ∷ decimal k ∷ codes "\ns UNKNOWN\n" ∷ [])
unfolding answer_text
spent_text k = refl

-- the endings of a search
data Search : Ending → Type 0 where
  values : (v : List Bool) → Search (ending.Satisfiable v)
  none : (failed : Option (List ℤ)) → Search (ending.Unsatisfiable failed)
  spent : (k : ℕ) → Search (ending.Unknown k)

no_message : (e : Ending) → Search e → message_text (outcome.Ended e) ≡ []
unfolding message_text
no_message _ (values v) = refl
no_message _ (none failed) = refl
no_message _ (spent k) = refl

late_stage : (e : Ending) → Search e → end_stage e ≡ proof_created
late_stage _ (values v) = refl
late_stage _ (none failed) = refl
late_stage _ (spent k) = refl

judges : (e : Ending) → Search e → is_judgement e ≡ true
judges _ (values v) = refl
judges _ (none failed) = refl
judges _ (spent k) = refl

-- no text is no message
pub quiet : (text : Bytes) (old new : Seen) → text ≡ [] → PutsMessage text old new → new ≡ old
quiet text old new e (inl is) = is ∙ says-none port.Message text old e
quiet text old new e (inr h) = let front : h.0 < length text = h.1 in let len = ap length e in absurd (omega (arith, front, len))

-- ---- the parities of a formula that is met

solvable : (f : Problem) (v : List Bool) → Meets f v → Consistent (parities_of f.constraints) []
solvable f v m = (v, record { agrees = refl; meets = parities_met v f.constraints m.all_met })

-- ---- what is due

abbrev is_solve : Plan → Bool
is_solve (plan.Solve n l c) = true
is_solve p = false

-- an ending of a search is due for `solve` alone
of_solve : (e : Ending) → Search e → (p : Plan) (f : Problem) (text : Bytes) → Judged e p f text → is_solve p ≡ true
of_solve _ (values v) (plan.Solve n l c) f text j = refl
of_solve _ (none failed) (plan.Solve n l c) f text j = refl
of_solve _ (spent k) (plan.Solve n l c) f text j = refl
of_solve _ search p f text j = absurd j

not_due : (e : Ending) → Search e → (p : Plan) → is_solve p ≡ false → (limit : ℕ) (files : Files) → Due p limit files e → ⊥
not_due e search p other limit files due =
    let d = judged_due p limit files e (judges e search) due in both_ways (is_solve p) other (of_solve e search p d.0 (second_text p files) d.2)

-- ---- a run

-- a search, its log and its answer
record Did (words : List Bytes) (limit : ℕ) (old : Seen) (files : Files) (new : Seen) (e : Ending) : Type 0 where
  name : Bytes
  log_name : Option Bytes
  options : SearchOptions
  asked : Asks words (plan.Solve name log_name options)
  log : Bytes
  done : new ≡ solved name log_name log (answer_text e) old
  judged : (f : Problem) → Reads (text_named name files) f → Judged e (plan.Solve name log_name options) f []
  gains : Gains (plan.Solve name log_name options) limit files e log

under : {X A : Type 0} (P : X → Type 0) (w : Option X) → (A → IfSome w P) → IfSome w (λ x. A → P x)
under P None h = tt
under P (Some x) h = h

module _ (words : List Bytes) (limit : ℕ) (old : Seen) (s : Status) (new : Seen) (h : Runs words limit old s new) where
  did : (e : Ending) → Search e → h.outcome ≡ outcome.Ended e → (p : Plan) → Asks words p → Works p limit old (outcome.Ended e) h.done → IfSome old.files (λ files. Did words limit old files new e)
  did e search is (plan.Solve n l c) asks w =
      let told = quiet (message_text h.outcome) h.done new (ap message_text is ∙ no_message e search) h.tells in
      let before = subst (λ (t : Stage). w.0 ≡ says port.Proof w.1.proof (asked_to t (plan.Solve n l c) old)) (late_stage e search) w.1.before_is in
      if_some_both old.files w.1.due w.1.gains (λ files due gains. record {
        name = n;
        log_name = l;
        options = c;
        asked = asks;
        log = w.1.proof;
        done = told ∙ (w.2 ∙ ap (says port.Answer (answer_text e)) before);
        judged = λ f reads. judged_of (plan.Solve n l c) n limit files f e refl (judges e search) due reads;
        gains = gains;
      })
  did e search is (plan.Check n q) asks w = IfSome_then old.files w.1.due (λ files due. absurd (not_due e search (plan.Check n q) refl limit files due))
  did e search is (plan.Elab n l q) asks w = IfSome_then old.files w.1.due (λ files due. absurd (not_due e search (plan.Elab n l q) refl limit files due))
  did e search is (plan.Model n a) asks w = IfSome_then old.files w.1.due (λ files due. absurd (not_due e search (plan.Model n a) refl limit files due))
  did e search is (plan.Demo a b c) asks w = IfSome_then old.files w.1.due (λ files due. absurd (not_due e search (plan.Demo a b c) refl limit files due))
  did e search is (plan.Trim n q o) asks w = IfSome_then old.files w.1.due (λ files due. absurd (not_due e search (plan.Trim n q o) refl limit files due))
  did e search is (plan.Blast n o) asks w = IfSome_then old.files w.1.due (λ files due. absurd (not_due e search (plan.Blast n o) refl limit files due))
  did e search is (plan.Affine n) asks w = IfSome_then old.files w.1.due (λ files due. absurd (not_due e search (plan.Affine n) refl limit files due))

  did_end : (e : Ending) → Search e → h.outcome ≡ outcome.Ended e → IfSome old.files (λ files. Did words limit old files new e)
  did_end e search is = let w = subst (λ (o : Outcome). WorksFor words limit old o h.done) is h.works in did e search is w.0 w.1 w.2

  has_solved : (e : Ending) (files : Files) (d : Did words limit old files new e) (answer : SearchOptions → Bytes) (Holds : Problem → SearchOptions → Bytes → Type 0) (f : Problem)
      → Reads (text_named d.name files) f → answer_text e ≡ answer d.options → Holds f d.options d.log → HasSolved words old files new answer Holds
  has_solved e files d answer Holds f reads text holds = record {
    name = d.name;
    log_name = d.log_name;
    options = d.options;
    asked = d.asked;
    formula = f;
    reads = reads;
    log = d.log;
    done = d.done ∙ ap (λ (t : Bytes). solved d.name d.log_name d.log t old) text;
    holds = holds;
  }

  -- status 10
  pub satisfied : s ≡ status.Satisfiable → IsSatisfied words old new
  satisfied e =
      let is = outcome_of status.Satisfiable h.outcome (sym e ∙ h.status_is) in
      IfSome_then old.files (did_end (ending.Satisfiable is.0) (values is.0) is.1)
      (λ files d. (is.0, has_solved (ending.Satisfiable is.0) files d _ _ d.gains.0 d.gains.1.reads (values_text is.0) (d.judged d.gains.0 d.gains.1.reads, d.gains.2)))

  -- status 20
  pub unsatisfied : s ≡ status.Unsatisfiable → IsRefuted words old new
  unsatisfied e =
      let is = outcome_of status.Unsatisfiable h.outcome (sym e ∙ h.status_is) in
      IfSome_then old.files (did_end (ending.Unsatisfiable is.0) (none is.0) is.1)
      (λ files d.
      let j = d.judged d.gains.0 d.gains.1.reads in
      (is.0, has_solved (ending.Unsatisfiable is.0) files d _ _ d.gains.0 d.gains.1.reads (none_text is.0) (j.0, j.1, d.gains.2, d.gains.3)))

  -- status 0 of `solve`
  module _ (n : Bytes) (l : Option Bytes) (c : SearchOptions) (asks : Asks words (plan.Solve n l c)) where
    search_ended : (e : Ending) → h.outcome ≡ outcome.Ended e → IfSome old.files (λ files. Due (plan.Solve n l c) limit files e)
    search_ended e is = (ended words limit old s new h (plan.Solve n l c) e asks is).1.due

    spent_end : (k : ℕ) → h.outcome ≡ outcome.Ended (ending.Unknown k) → IsSpent words old new
    spent_end k is = IfSome_then old.files (did_end (ending.Unknown k) (spent k) is) (λ files d.
        let j = d.judged d.gains.0 d.gains.1.reads in
        let text = spent_text k ∙ ap (λ (m : ℕ). joined (codes "c conflicts " ∷ decimal m ∷ codes "\ns UNKNOWN\n" ∷ [])) j.0 in
        has_solved (ending.Unknown k) files d _ _ d.gains.0 d.gains.1.reads text d.gains.2)

    -- of the endings of status 0 a search has one alone
    done_is : (P : Files → Type 0) (e : Ending) → Done e → h.outcome ≡ outcome.Ended e → ((k : ℕ) → h.outcome ≡ outcome.Ended (ending.Unknown k) → IfSome old.files P) → IfSome old.files P
    done_is P _ (unknown k) is f = f k is
    done_is P _ (verified k) is f = IfSome_then old.files (search_ended (ending.Verified k) is) (λ files due. absurd (judged_due (plan.Solve n l c) limit files (ending.Verified k) refl due).2)
    done_is P _ right is f = IfSome_then old.files (search_ended ending.ModelRight is) (λ files due. absurd (judged_due (plan.Solve n l c) limit files ending.ModelRight refl due).2)
    done_is P _ (elaborated k) is f = IfSome_then old.files (search_ended (ending.Elaborated k) is) (λ files due. absurd (judged_due (plan.Solve n l c) limit files (ending.Elaborated k) refl due).2)
    done_is P _ (demonstrated i x) is f = IfSome_then old.files (search_ended (ending.Demonstrated i x) is) (λ files due. absurd (judged_due (plan.Solve n l c) limit files (ending.Demonstrated i x) refl due).2)
    done_is P _ (trimmed core) is f = IfSome_then old.files (search_ended (ending.Trimmed core) is) (λ files due. absurd (judged_due (plan.Solve n l c) limit files (ending.Trimmed core) refl due).2)
    done_is P _ (blasted variables clauses) is f = IfSome_then old.files (search_ended (ending.Blasted variables clauses) is) (λ files due. absurd (judged_due (plan.Solve n l c) limit files (ending.Blasted variables clauses) refl due).2)
    done_is P _ (affine space) is f = IfSome_then old.files (search_ended (ending.Affine space) is) (λ files due. absurd (judged_due (plan.Solve n l c) limit files (ending.Affine space) refl due).2)

    not_settled : s ≡ status.Done → IfSome old.files (λ files. (f : Problem) → Reads (text_named n files) f → ¬ SettledWithRecovered f)
    not_settled e =
        let d = outcome_of status.Done h.outcome (sym e ∙ h.status_is) in
        done_is (λ files. (f : Problem) → Reads (text_named n files) f → ¬ SettledWithRecovered f) d.0 d.2 d.1 (λ k is. IfSome_then old.files (search_ended (ending.Unknown k) is)
        (λ files due. λ f reads. (judged_of (plan.Solve n l c) n limit files f (ending.Unknown k) refl refl due reads).1))

    has_values : s ≡ status.Satisfiable → IfSome old.files (λ files. (f : Problem) → Reads (text_named n files) f → (v : List Bool) × Meets f v)
    has_values e =
        let is = outcome_of status.Satisfiable h.outcome (sym e ∙ h.status_is) in
        IfSome_then old.files (search_ended (ending.Satisfiable is.0) is.1) (λ files due. λ f reads. (is.0, judged_of (plan.Solve n l c) n limit files f (ending.Satisfiable is.0) refl refl due reads))

  pub spent_budget : (n : Bytes) (l : Option Bytes) (c : SearchOptions) → Asks words (plan.Solve n l c) → s ≡ status.Done → IsSpent words old new
  spent_budget n l c asks e = let d = outcome_of status.Done h.outcome (sym e ∙ h.status_is) in done_is n l c asks _ d.0 d.2 d.1 (spent_end n l c asks)

  pub settled_with_recovered : IsSettledWithRecovered words old s
  settled_with_recovered n l c f asks = IfSome_then old.files (under (λ (files : Files). (f : Problem) → Reads (text_named n files) f → ¬ SettledWithRecovered f) old.files (not_settled n l c asks)) (λ files k. λ reads is_settled e. k e f reads is_settled)

  pub settled : IsSettled words old s
  settled n l c f asks = IfSome_then old.files (under (λ (files : Files). (f : Problem) → Reads (text_named n files) f → ¬ SettledWithRecovered f) old.files (not_settled n l c asks)) (λ files k. λ reads is_settled e. k e f reads (settled_by_its_own f is_settled))

  pub unsolvable : IsUnsolvable words old s
  unsolvable n l c f asks = if_some_both old.files (under (λ (files : Files). (f : Problem) → Reads (text_named n files) f → ¬ SettledWithRecovered f) old.files (not_settled n l c asks)) (under (λ (files : Files). (f : Problem) → Reads (text_named n files) f → (v : List Bool) × Meets f v) old.files (has_values n l c asks)) (λ files k m. λ reads no_solution. (
    λ e. k e f reads (settled_by_its_own f (unsolvable_is_settled f no_solution)),
    λ e. let met = m e f reads in no_solution (solvable f met.0 met.1),
  ))
