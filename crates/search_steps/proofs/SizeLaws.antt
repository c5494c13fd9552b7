-- How many additions the steps of a search tell.
use Rattle.std.proofs.Common.{◌≡◌, refl, ap, ◌∙◌, ℕ, suc, ◌+◌, ◌*◌, ◌≤◌, ℤ, Bool, true, false, cond, List, [], ◌∷◌, ◌++◌, filter, map, length, arith, length-append}
use Rattle.std.proofs.lemmas.List.Elements.{filter-append}
use Rattle.std.proofs.Math.Nat.{mul-suc}
use Rattle.cx_base.specs.Literals.{Literal}
use Rattle.cx_base.specs.Problem.{clauses_of, parities_of}
use Rattle.cx_base.specs.declared.constraint.Constraint.{Constraint}
use Rattle.cx_base.specs.declared.constraint.Constraint.TheVariants as constraint
use Rattle.cx_base.specs.declared.steps.LogEvent.{LogEvent}
use Rattle.cx_base.specs.declared.steps.LogEvent.TheVariants.{Step, Conflict}
use Rattle.cx_base.specs.declared.steps.LogStep.{LogStep}
use Rattle.cx_base.specs.declared.steps.LogStep.TheVariants.{ClauseWithHints, ClauseOfParity, Delete}
use Rattle.cx_semantics.specs.Marked.{original_events}
use Rattle.search_steps.specs.Search.{Search, told}
use Rattle.search_steps.specs.LogSteps.{row_events, sum_events, all_told, deleted, after_learned, after_round}
use Rattle.search_steps.specs.Size.{additions, adds, is_addition, row_additions}
use Rattle.search_steps.specs.TidySteps.{steps_told}
use Rattle.search_steps.proofs.Rounds.{deleted_conflicts}

pub additions_join : (xs ys : List LogEvent) → additions (xs ++ ys) ≡ additions xs + additions ys
additions_join xs ys = ap (λ (zs : List LogEvent). length zs) (filter-append is_addition xs ys) ∙ length-append (filter is_addition xs) (filter is_addition ys)

-- what is told one after another
pub told_adds : (s : Search) (events : List LogEvent) → additions (all_told s events).events ≡ additions s.events + additions events
told_adds s [] = let z : additions s.events ≡ additions s.events + 0 = omega arith in z
told_adds s (event ∷ events) =
    let rest = told_adds (told s event) events in
    let first = additions_join s.events (event ∷ []) in
    let both = additions_join (event ∷ []) events in
    omega (arith, rest, first, both)

-- the reason of a row
pub row_reason_adds : (s : Search) (k : ℕ) (rs : List ℤ) (ids : List ℕ) (n : ℕ) (zs : List ℤ) → additions (all_told s (row_events k rs ids n zs)).events ≡ additions s.events + row_additions ids
row_reason_adds s k rs [] n zs = told_adds s (sum_events k rs [] n zs)
row_reason_adds s k rs (source ∷ []) n zs = told_adds s (Step (ClauseOfParity n zs source) ∷ [])
row_reason_adds s k rs (source ∷ other ∷ ids) n zs = told_adds s (sum_events k rs (source ∷ other ∷ ids) n zs)

pub row_adds_few : (ids : List ℕ) → row_additions ids ≤ 2
row_adds_few [] = omega arith
row_adds_few (source ∷ []) = omega arith
row_adds_few (source ∷ other ∷ ids) = omega arith

-- deletions add nothing
pub deletions_add_none : (s : Search) (ids : List ℕ) → additions (deleted s ids).events ≡ additions s.events
deletions_add_none s [] = refl
deletions_add_none s (n ∷ ids) =
    let rest = deletions_add_none (told s (Step (Delete n []))) ids in
    let first = additions_join s.events (Step (Delete n []) ∷ []) in
    omega (arith, rest, first)

-- steps add one each at most
few_told : (steps : List LogStep) → additions (map Step steps) ≤ length steps
few_told [] = omega arith
few_told (step ∷ steps) = go (adds step) (few_told steps)
  where
    go : (b : Bool) → additions (map Step steps) ≤ length steps → length (cond b (Step step ∷ filter is_addition (map Step steps)) (filter is_addition (map Step steps))) ≤ length (step ∷ steps)
    go true rest = omega (arith, rest)
    go false rest = omega (arith, rest)

pub steps_add_few : (s : Search) (steps : List LogStep) → additions (steps_told s steps).events ≤ additions s.events + length steps
steps_add_few s steps = let told = told_adds s (map Step steps) in let few = few_told steps in omega (arith, told, few)

-- a counted conflict adds its learned clause
pub round_adds_one : (s : Search) (n : ℕ) (zs hints : List ℤ) (back : ℕ) (l : Literal) → additions (after_round s n zs hints back l).events ≡ additions s.events + 1
round_adds_one s n zs hints back l =
    let gone = deletions_add_none (after_learned s n zs hints back) s.moment.new_clauses in
    let clause = additions_join (s.events ++ Conflict (s.conflicts + 1) ∷ []) (Step (ClauseWithHints n zs hints) ∷ []) in
    let mark = additions_join s.events (Conflict (s.conflicts + 1) ∷ []) in
    omega (arith, gone, clause, mark)

pub round_counts_one : (s : Search) (n : ℕ) (zs hints : List ℤ) (back : ℕ) (l : Literal) → (after_round s n zs hints back l).conflicts ≡ s.conflicts + 1
round_counts_one s n zs hints back l = deleted_conflicts (after_learned s n zs hints back) s.moment.new_clauses

-- the formula's constraints
pub originals_add : (n k : ℕ) (cs : List Constraint) → additions (original_events n k cs) ≡ length (clauses_of cs) + length (parities_of cs)
unfolding clauses_of parities_of
originals_add n k [] = refl
originals_add n k (constraint.Clause lits ∷ cs) = let rest = originals_add (n + 1) k cs in omega (arith, rest)
originals_add n k (constraint.Parity lits ∷ cs) = let rest = originals_add n (k + 1) cs in omega (arith, rest)
originals_add n k (constraint.Assume lits ∷ cs) = originals_add n k cs

-- one more mark in a product
pub one_mark_more : (v k : ℕ) → v * (k + 1) ≡ v * k + v
one_mark_more v k = ap (λ n. v * n) (let one : k + 1 ≡ suc k = omega arith in one) ∙ mul-suc v k
