-- Steps of a row one after another.
use Rattle.std.proofs.Common.{◌≡◌, refl, sym, ap, ◌∙◌, subst, ℕ, zero, suc, ◌+◌, ℤ, ◌<◌, List, [], ◌∷◌, ◌++◌, length, take, get_or, append_assoc, length-take, arith}
use Rattle.std.specs.List.{AllByRecursion, range_with_len}
use Rattle.std.proofs.lemmas.List.{map-append}
use Rattle.std.proofs.Math.Seq.{take-suc}
use Rattle.cx_base.specs.Integers.{integer_of, integers_of}
use Rattle.cx_base.specs.declared.steps.LogEvent.{LogEvent}
use Rattle.cx_base.specs.declared.steps.LogEvent.TheVariants.{Step}
use Rattle.cx_base.specs.declared.steps.LogStep.{LogStep}
use Rattle.cx_base.specs.declared.steps.LogStep.TheVariants.{ClauseOfParity, Parity, ParityOfClauses}
use Rattle.cx_base.specs.Literals.{Literal}
use Rattle.cx_base.proofs.Elements.{all_push}
use Rattle.cdcl_search.specs.Tells.{as_events, AreIdsFrom, AreStepsOf, IsId, IsStep, IsTellable}
use Rattle.cdcl_core.specs.Shortening.{unit_parity_events, short_row_events}
use Rattle.cdcl_core.specs.declared.shortening.UnitClause.{UnitClause}

-- one step more
pub step_more : (events : List LogEvent) (steps now : List LogStep) (this step : LogStep) → AreStepsOf events steps → IsStep this step → now ≡ steps ++ step ∷ [] → AreStepsOf (events ++ Step this ∷ []) now
step_more events steps now this step are is pushed = subst (AreStepsOf (events ++ Step this ∷ [])) (sym pushed) (record {
  are = map-append Step steps (step ∷ []) ∙ (λ i. are.are i ++ Step (is.is i) ∷ []);
  texts = all_push IsTellable steps step are.texts is.text;
})

pub none_yet : (steps : List LogStep) → AllByRecursion IsTellable steps → AreStepsOf (as_events steps) steps
none_yet steps texts = record { are = refl; texts = texts }

-- one unit more
pub unit_events_more : (k : ℕ) (units : List UnitClause) (u : UnitClause)
    → unit_parity_events k (units ++ u ∷ []) ≡ unit_parity_events k units ++ Step (ParityOfClauses (k + length units) (integer_of u.literal ∷ []) (u.id ∷ [])) ∷ []
unit_events_more k [] u = ap (λ m. Step (ParityOfClauses m (integer_of u.literal ∷ []) (u.id ∷ [])) ∷ []) (let e : k ≡ k + 0 = omega arith in e)
unit_events_more k (v ∷ units) u = ap (λ es. Step (ParityOfClauses k (integer_of v.literal ∷ []) (v.id ∷ [])) ∷ es)
    (unit_events_more (k + 1) units u ∙ ap (λ m. unit_parity_events (k + 1) units ++ Step (ParityOfClauses m (integer_of u.literal ∷ []) (u.id ∷ [])) ∷ []) (let e : k + 1 + length units ≡ k + suc (length units) = omega arith in e))

pub range_more : (a n : ℕ) → range_with_len a (n + 1) ≡ range_with_len a n ++ (a + n) ∷ []
range_more a n = ap (range_with_len a) (let e : n + 1 ≡ suc n = omega arith in e) ∙ go a n
  where
    go : (a n : ℕ) → range_with_len a (suc n) ≡ range_with_len a n ++ (a + n) ∷ []
    go a zero = ap (λ x. x ∷ []) (let e : a ≡ a + 0 = omega arith in e)
    go a (suc n) = ap (λ xs. a ∷ xs) (go (a + 1) n) ∙ ap (λ x. (a ∷ range_with_len (a + 1) n) ++ x ∷ []) (let e : a + 1 + n ≡ a + suc n = omega arith in e)

-- two steps after two lists of steps
pub last_two : (before units : List LogEvent) (a b : LogEvent) → ((before ++ units) ++ a ∷ []) ++ b ∷ [] ≡ before ++ (units ++ (a ∷ b ∷ []))
last_two before units a b = append_assoc (before ++ units) (a ∷ []) (b ∷ []) ∙ append_assoc before units (a ∷ b ∷ [])

-- ---- the next place of a list
pub next_of : {X : Type 0} (xs : List X) (i : ℕ) (x : X) → i < length xs → x ≡ get_or xs i x → take (i + 1) xs ≡ take i xs ++ x ∷ []
next_of xs i x less at = ap (λ n. take n xs) (let e : i + 1 ≡ suc i = omega arith in e) ∙ take-suc xs i x less ∙ ap (λ y. take i xs ++ y ∷ []) (sym at)

pub taken_count : {X : Type 0} (xs : List X) (i : ℕ) → i < length xs → length (take i xs) ≡ i
taken_count xs i less = let long = length-take i xs in omega (arith, long, less)

-- the parity of the next unit
pub unit_step : (before : List LogEvent) (first i id : ℕ) (units : List UnitClause) (u : UnitClause) (steps now : List LogStep) (step : LogStep) → i < length units → u ≡ get_or units i u → id ≡ first + i
    → AreStepsOf (before ++ unit_parity_events first (take i units)) steps → IsStep (ParityOfClauses id (integer_of u.literal ∷ []) (u.id ∷ [])) step → now ≡ steps ++ step ∷ [] → AreStepsOf (before ++ unit_parity_events first (take (i + 1) units)) now
unit_step before first i id units u steps now step less at number are is pushed =
    subst (λ es. AreStepsOf es now) longer (step_more (before ++ unit_parity_events first (take i units)) steps now (ParityOfClauses id (integer_of u.literal ∷ []) (u.id ∷ [])) step are is pushed)
  where
    longer : (before ++ unit_parity_events first (take i units)) ++ Step (ParityOfClauses id (integer_of u.literal ∷ []) (u.id ∷ [])) ∷ [] ≡ before ++ unit_parity_events first (take (i + 1) units)
    longer = append_assoc before (unit_parity_events first (take i units)) (Step (ParityOfClauses id (integer_of u.literal ∷ []) (u.id ∷ [])) ∷ [])
        ∙ ap (λ es. before ++ es) (ap (λ m. unit_parity_events first (take i units) ++ Step (ParityOfClauses m (integer_of u.literal ∷ []) (u.id ∷ [])) ∷ []) (number ∙ ap (λ k. first + k) (sym (taken_count units i less)))
        ∙ sym (unit_events_more first (take i units) u) ∙ ap (unit_parity_events first) (sym (next_of units i u less at)))

-- ---- the last steps
pub range_ids : (first n : ℕ) → AreIdsFrom first n → AllByRecursion IsId (range_with_len first n)
range_ids first zero h = tt
range_ids first (suc n) h = let low = h.0 in let high = h.1 in ((low, omega (arith, high)), range_ids (first + 1) n (omega (arith, low), omega (arith, high)))

pub last_are : (before : List LogEvent) (k first number n : ℕ) (sources all : List ℕ) (units : List UnitClause) (left : List Literal) (parity clause : List ℤ) (s1 s2 s3 : List LogStep) (a b : LogStep) → first ≡ k → number ≡ k + length units
    → all ≡ sources ++ range_with_len first (length units) → parity ≡ integers_of left → clause ≡ integers_of left → AreStepsOf (before ++ unit_parity_events first units) s1
    → IsStep (Parity number parity all) a → s2 ≡ s1 ++ a ∷ [] → IsStep (ClauseOfParity n clause number) b → s3 ≡ s2 ++ b ∷ [] → AreStepsOf (before ++ short_row_events k sources units left n) s3
last_are before k first number n sources all units left parity clause s1 s2 s3 a b f num al par cl are is pushed is_clause pushed_clause = subst (λ es. AreStepsOf es s3) events
    (step_more ((before ++ unit_parity_events first units) ++ Step (Parity number parity all) ∷ []) s2 s3 (ClauseOfParity n clause number) b (step_more (before ++ unit_parity_events first units) s1 s2 (Parity number parity all) a are is pushed) is_clause pushed_clause)
  where
    sources_are : all ≡ sources ++ range_with_len k (length units)
    sources_are = al ∙ ap (λ m. sources ++ range_with_len m (length units)) f

    events : ((before ++ unit_parity_events first units) ++ Step (Parity number parity all) ∷ []) ++ Step (ClauseOfParity n clause number) ∷ [] ≡ before ++ short_row_events k sources units left n
    events = (λ i. ((before ++ unit_parity_events (f i) units) ++ Step (Parity (num i) (par i) (sources_are i)) ∷ []) ++ Step (ClauseOfParity n (cl i) (num i)) ∷ [])
        ∙ last_two before (unit_parity_events k units) (Step (Parity (k + length units) (integers_of left) (sources ++ range_with_len k (length units)))) (Step (ClauseOfParity n (integers_of left) (k + length units)))
