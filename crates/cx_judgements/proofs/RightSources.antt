-- Right steps have right sources.
use Rattle.std.proofs.Common.{◌≡◌, refl, sym, ap, ◌∙◌, subst, ℕ, ◌+◌, Bool, true, false, not, ◌||◌, true≢false, List, [], ◌∷◌, ◌++◌, fold, length, length-append, inl, inr, arith}
use Rattle.std.specs.List.{list_any}
use Rattle.cx_base.specs.Problem.{Problem}
use Rattle.cx_base.specs.declared.steps.LogStep.{LogStep}
use Rattle.cx_base.specs.declared.steps.LogStep.TheVariants.{Parity, ClauseOfParity, ParityOfClauses}
use Rattle.cx_semantics.specs.Judging.{IsRight, Runs}
use Rattle.cx_semantics.specs.LogRules.{AreLive, after_log_step, log_calculus}
use Rattle.cx_semantics.specs.Tables.{Table, Tables, is_live, no_tables}
use Rattle.cx_judgements.specs.RightSources.{HasRightSources, HaveRightSources, AreRightSteps}

all_live : (table : Table) (ids : List ℕ) → list_any (λ n. not (is_live table n)) ids ≡ false → AreLive table ids
all_live table [] h = tt
all_live table (n ∷ ids) h = by (is_live table n) refl h (all_live table ids)
  where
    by : (b : Bool) → is_live table n ≡ b → (not b || list_any (λ k. not (is_live table k)) ids) ≡ false → (list_any (λ k. not (is_live table k)) ids ≡ false → AreLive table ids) → AreLive table (n ∷ ids)
    by true is rest all = (is, all rest)
    by false is rest all = absurd (true≢false rest)

-- a right step
right_has : (formula : Problem) (tables : Tables) (step : LogStep) → IsRight (log_calculus formula) tables step → HasRightSources tables step
right_has formula tables (Parity n lits sources) h = (all_live tables.parities sources h.1.1.0, h.1.1.1.0)
right_has formula tables (ClauseOfParity n lits source) h = (all_live tables.parities (source ∷ []) h.1.1.0, h.1.1.1.0)
right_has formula tables (ParityOfClauses n lits sources) h = (all_live tables.clauses sources h.1.1.0, h.1.1.1.1.1.0)
right_has formula tables step h = tt

-- a run of right steps
run_has : (formula : Problem) (first last : Tables) (steps front : List LogStep) (step : LogStep) (later : List LogStep) → Runs (log_calculus formula) first steps last → steps ≡ front ++ step ∷ later
    → HasRightSources (fold after_log_step first front) step
run_has formula first last [] [] step later runs split = cc
run_has formula first last [] (f ∷ front) step later runs split = cc
run_has formula first last (s ∷ steps) [] step later runs split =
    let same : s ≡ step = cc in
    subst (HasRightSources first) same (right_has formula first s runs.0)
run_has formula first last (s ∷ steps) (f ∷ front) step later runs split =
    let same : s ≡ f = cc in
    let rest : steps ≡ front ++ step ∷ later = cc in
    subst (λ x. HasRightSources (fold after_log_step (after_log_step first x) front) step) same (run_has formula (after_log_step first s) last steps front step later runs.2 rest)

-- and one more right step behind it
ended_has : (formula : Problem) (first last : Tables) (before : List LogStep) (end : LogStep) (front : List LogStep) (step : LogStep) (later : List LogStep) → Runs (log_calculus formula) first before last → IsRight (log_calculus formula) last end
    → before ++ end ∷ [] ≡ front ++ step ∷ later → HasRightSources (fold after_log_step first front) step
ended_has formula first last [] end [] step later runs right split =
    let same : end ≡ step = cc in
    subst (HasRightSources first) same (subst (λ t. HasRightSources t end) runs (right_has formula last end right))
ended_has formula first last [] end (f ∷ []) step later runs right split = cc
ended_has formula first last [] end (f ∷ g ∷ front) step later runs right split = cc
ended_has formula first last (s ∷ before) end [] step later runs right split =
    let same : s ≡ step = cc in
    subst (HasRightSources first) same (right_has formula first s runs.0)
ended_has formula first last (s ∷ before) end (f ∷ front) step later runs right split =
    let same : s ≡ f = cc in
    let rest : before ++ end ∷ [] ≡ front ++ step ∷ later = cc in
    subst (λ x. HasRightSources (fold after_log_step (after_log_step first x) front) step) same (ended_has formula (after_log_step first s) last before end front step later runs.2 right rest)

-- nothing comes after a step that ends a log at its last one
none_later : (before : List LogStep) (end : LogStep) (later : List LogStep) → length (before ++ end ∷ later) ≡ length before + 1 → later ≡ []
none_later before end [] long = refl
none_later before end (x ∷ later) long = absurd (let all = length-append before (end ∷ x ∷ later) in omega (arith, all, long))

pub have_right_sources : (formula : Problem) (steps : List LogStep) → AreRightSteps formula steps → HaveRightSources steps
have_right_sources formula steps (inl goes_on) front step later split = run_has formula no_tables goes_on.1.0 steps front step later goes_on.1.1 split
have_right_sources formula steps (inr ends) front step later split =
    let last = none_later ends.before ends.step ends.later (sym (ap length ends.split) ∙ ends.number) in
    let whole : steps ≡ ends.before ++ ends.step ∷ [] = ends.split ∙ ap (λ xs. ends.before ++ ends.step ∷ xs) last in
    ended_has formula no_tables ends.tables ends.before ends.step front step later ends.runs ends.right (sym whole ∙ split)
