-- The judgement of a log from the steps that were taken.
use Rattle.std.proofs.Common.{◌≡◌, refl, sym, ap, ◌∙◌, subst, ℕ, ◌+◌, ◌<◌, ◌≤◌, Bool, true, false, List, [], ◌∷◌, ◌++◌, length, take, drop, get_or, Option, Some, None, is_some, arith, true≢false, inl, inr}
use Rattle.std.specs.Prelude.{MatchOption, MatchBool}
use Rattle.std.proofs.lemmas.List.{length-take-le, take-append-drop, drop_more, take_more, take_all}
use Rattle.cx_base.specs.Endings.{finished}
use Rattle.cx_base.specs.Literals.{Literal}
use Rattle.cx_base.specs.Parity.{normal_form}
use Rattle.cx_base.specs.Problem.{Problem}
use Rattle.cx_base.specs.Assumptions.{clashes}
use Rattle.cx_base.specs.declared.steps.LogStep.{LogStep}
use Rattle.cx_semantics.specs.declared.cause.Cause.{Cause}
use Rattle.cx_semantics.specs.declared.cause.Cause.TheVariants as causes
use Rattle.cx_semantics.specs.Chain.{negations}
use Rattle.cx_semantics.specs.Judging.{AllHold, FirstFailure, Runs, JudgedAs, accepted, refused}
use Rattle.cx_semantics.specs.LogRules.{HasChain, log_calculus, log_rules, after_log_step, derives_ending_clause}
use Rattle.cx_semantics.specs.Tables.{Table, Tables, no_tables}
use Rattle.cx_semantics.proofs.Closure.{chain_or_closed, closed_has_no_chain}
use Rattle.cx_semantics.proofs.JudgingLaws.{runs_push}
use Rattle.proof_rules.specs.Contents.{IsParityContent}
use Rattle.proof_rules.proofs.ContentLaws.{parity_content_once, form_by_parity_content, content_of_same_form}
use Rattle.plain_tests.specs.Propagating.{Clash, IsSaturation}

-- ---- chains

pub chain_is : (table : Table) (target : List Literal) (o : Option (List Literal)) → MatchOption o (Clash table (negations target)) (IsSaturation table (negations target)) → is_some o ≡ false → HasChain table target
chain_is table target None clash e = elim (chain_or_closed table target) [ inl h ↦ h | inr c ↦ absurd (clash c.u (record { units = c.units; no_conflict = c.no_conflict }) c.has_assumed) ]
chain_is table target (Some u) s e = absurd (true≢false e)

pub chain_is_not : (table : Table) (target : List Literal) (o : Option (List Literal)) → MatchOption o (Clash table (negations target)) (IsSaturation table (negations target)) → is_some o ≡ true → ¬ HasChain table target
chain_is_not table target None clash e = absurd (true≢false (sym e))
chain_is_not table target (Some u) s e = closed_has_no_chain table u target s.closed.units s.closed.no_conflict s.has_given

-- ---- normal forms

pub same_form_by : (a b : List Literal) (xs ys : List ℕ) (r : Bool) → IsParityContent a xs → IsParityContent b ys → MatchBool r (xs ≡ ys) (¬ (xs ≡ ys))
    → MatchBool r (normal_form a ≡ normal_form b) (¬ (normal_form a ≡ normal_form b))
same_form_by a b xs ys true h k e = form_by_parity_content a b xs h (subst (IsParityContent b) (sym e) k)
same_form_by a b xs ys false h k n = λ e. n (parity_content_once b xs ys (content_of_same_form a b xs e h) k)

-- ---- runs

pub split_at : {X : Type 0} (xs : List X) (k : ℕ) (x : X) → k < length xs → x ≡ get_or xs k x → xs ≡ take k xs ++ x ∷ drop (k + 1) xs
split_at xs k x less is = sym (take-append-drop k xs) ∙ ap (λ ys. take k xs ++ ys) (drop_more xs k x less ∙ ap (λ y. y ∷ drop (k + 1) xs) (sym is))

module _ (formula : Problem) (steps : List LogStep) where
  number_is : (k : ℕ) → k < length steps → k + 1 ≡ length (take k steps) + 1
  number_is k less = ap (λ n. n + 1) (sym (length-take-le k steps (omega arith)))

  pub right_here : (k : ℕ) (step : LogStep) (tables : Tables) → clashes formula.constraints ≡ false → k < length steps → step ≡ get_or steps k step → Runs (log_calculus formula) no_tables (take k steps) tables
      → AllHold (log_rules formula tables step) → derives_ending_clause formula step ≡ true → JudgedAs (log_calculus formula) steps finished (accepted (k + 1))
  right_here k step tables none less is runs right ends = inr (
    none,
    record {
      before = take k steps;
      step = step;
      later = drop (k + 1) steps;
      tables = tables;
      split = split_at steps k step less is;
      runs = runs;
      right = right;
      ends = ends;
      number = number_is k less;
    },
  )

  pub wrong_here : (k : ℕ) (step : LogStep) (tables : Tables) (cause : Cause) → clashes formula.constraints ≡ false → k < length steps → step ≡ get_or steps k step → Runs (log_calculus formula) no_tables (take k steps) tables
      → FirstFailure (log_rules formula tables step) cause → JudgedAs (log_calculus formula) steps finished (refused (k + 1) cause)
  wrong_here k step tables cause none less is runs wrong = (
    none,
    inl (record {
      before = take k steps;
      step = step;
      later = drop (k + 1) steps;
      tables = tables;
      split = split_at steps k step less is;
      runs = runs;
      wrong = wrong;
      number = number_is k less;
    }),
  )

  pub ended : (k : ℕ) (tables : Tables) → clashes formula.constraints ≡ false → length steps ≤ k → Runs (log_calculus formula) no_tables (take k steps) tables
      → JudgedAs (log_calculus formula) steps finished (refused (length steps + 1) causes.NoEmptyClause)
  ended k tables none long runs = (
    none,
    inr (record {
      tables = tables;
      runs = subst (λ xs. Runs (log_calculus formula) no_tables xs tables) (take_all k steps long) runs;
      why = refl;
      number = refl;
    }),
  )

  pub runs_on : (k : ℕ) (step : LogStep) (old new : Tables) → k < length steps → step ≡ get_or steps k step → Runs (log_calculus formula) no_tables (take k steps) old
      → AllHold (log_rules formula old step) → derives_ending_clause formula step ≡ false → new ≡ after_log_step old step → Runs (log_calculus formula) no_tables (take (k + 1) steps) new
  runs_on k step old new less is runs right ends e =
      let next : take (k + 1) steps ≡ take k steps ++ step ∷ [] = take_more steps k step less ∙ ap (λ s. take k steps ++ s ∷ []) (sym is) in
      subst (λ t. Runs (log_calculus formula) no_tables (take (k + 1) steps) t) (sym e)
      (subst (λ xs. Runs (log_calculus formula) no_tables xs (after_log_step old step)) (sym next) (runs_push (log_calculus formula) no_tables (take k steps) step old runs right ends))
