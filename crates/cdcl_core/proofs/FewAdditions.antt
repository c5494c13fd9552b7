-- A search adds few clauses and parities for its marks.
use Rattle.std.proofs.Common.{◌≡◌, refl, ap, ℕ, ◌+◌, ◌*◌, ◌≤◌, ℤ, Bool, true, false, List, [], ◌∷◌, length, inl, inr, arith}
use Rattle.std.proofs.Math.Nat.{mul-le-mul_left, mul_comm}
use Rattle.cx_base.specs.Literals.{Literal}
use Rattle.cx_base.specs.Integers.{integer_of, integers_of}
use Rattle.cx_base.specs.Problem.{Problem}
use Rattle.cx_base.specs.declared.steps.LogEvent.{LogEvent}
use Rattle.cx_base.specs.declared.steps.LogEvent.TheVariants.{Step}
use Rattle.cx_base.specs.declared.steps.LogStep.TheVariants.{ParityOfClauses, ClauseWithHints}
use Rattle.cx_semantics.specs.Marked.{original_events}
use Rattle.parity_engine.specs.State.{State}
use Rattle.search_steps.specs.Search.{Search}
use Rattle.search_steps.specs.LogSteps.{after_round}
use Rattle.search_steps.specs.Size.{additions, most_additions, IsBounded}
use Rattle.search_steps.proofs.SizeLaws.{additions_join, round_adds_one, one_mark_more, originals_add}
use Rattle.cdcl_search.specs.declared.state.SearchState.{SearchState}
use Rattle.cdcl_search.specs.Ties.{Ties}
use Rattle.cdcl_core.specs.declared.shortening.UnitClause.{UnitClause}
use Rattle.cdcl_core.specs.Learning.{IsTaught}
use Rattle.cdcl_core.specs.Narrowing.{over}
use Rattle.cdcl_core.specs.Results.{IsBoundedIn}
use Rattle.cdcl_core.specs.Shortening.{ArePartedInto, unit_parity_events, late_unit_events}
use Rattle.cdcl_core.proofs.OriginalLaws.{both_kinds}

-- only a search that does not tidy has to add few
pub bounded_in : (tidies : Bool) (formula : Problem) (marks : ℕ) (events : List LogEvent) → (tidies ≡ false → IsBounded formula marks events) → IsBoundedIn tidies formula marks events
bounded_in false formula marks events few = few refl
bounded_in true formula marks events few = tt

-- ---- between two conflicts
-- there is room for an end that adds two for each variable, and two more
pub ties_add_few : (formula : Problem) (c : SearchState) (e : State) (rows : List (List Literal)) (s : Search) → Ties formula c e rows s → c.tidies ≡ false → additions s.events + 2 * formula.variables + 2 ≤ most_additions formula c.conflicts
ties_add_few formula c e rows s t plain =
    let was = t.log.few_additions plain in
    let few = t.log.few_rows in
    let taken = t.ids.taken in
    let units = t.units.few in
    let short = t.trail.follows.sound.short in
    let vars = t.trail.variables in
    let marks = t.counts.marked in
    let cost = ap (λ (k : ℕ). formula.variables * k) marks in
    omega (arith, was, few, taken, units, short, vars, marks, cost)

pub search_is_bounded : (formula : Problem) (c : SearchState) (e : State) (rows : List (List Literal)) (s : Search) → Ties formula c e rows s → IsBoundedIn c.tidies formula c.conflicts s.events
search_is_bounded formula c e rows s t = bounded_in c.tidies formula c.conflicts s.events (λ plain. let few = ties_add_few formula c e rows s t plain in omega (arith, few))

-- so it is after a learned clause
pub learned_is_bounded : (formula : Problem) (c : SearchState) (e : State) (lits : List Literal) (back : ℕ) (s : Search) (taught : IsTaught formula c e lits back s) (hints : List ℤ)
    → IsBoundedIn c.tidies formula (c.conflicts + 1) (after_round s c.next (integers_of lits) hints back taught.first).events
learned_is_bounded formula c e lits back s taught hints = bounded_in c.tidies formula (c.conflicts + 1) (after_round s c.next (integers_of lits) hints back taught.first).events (λ plain.
    let few = ties_add_few formula c e taught.rows s taught.ties plain in
    let one = round_adds_one s c.next (integers_of lits) hints back taught.first in
    let cost = one_mark_more formula.variables c.conflicts in
    omega (arith, few, one, cost))

-- ---- at the end
-- the formula's constraints alone
pub originals_are_bounded : (formula : Problem) (events : List LogEvent) → events ≡ original_events 1 1 formula.constraints → IsBounded formula 0 events
originals_are_bounded formula events are =
    let told = ap additions are in
    let all = originals_add 1 1 formula.constraints in
    let both = both_kinds formula.constraints in
    omega (arith, told, all, both)

pub parities_of_units_add : (k : ℕ) (units : List UnitClause) → additions (unit_parity_events k units) ≡ length units
parities_of_units_add k [] = refl
parities_of_units_add k (u ∷ units) =
    let one = additions_join (Step (ParityOfClauses k (integer_of u.literal ∷ []) (u.id ∷ [])) ∷ []) (unit_parity_events (k + 1) units) in
    let rest = parities_of_units_add (k + 1) units in
    omega (arith, one, rest)

pub late_units_add : (hints : List ℤ) (units : List UnitClause) → additions (late_unit_events hints units) ≡ length units
late_units_add hints [] = refl
late_units_add hints (u ∷ units) =
    let one = additions_join (Step (ClauseWithHints u.id (integer_of u.literal ∷ []) hints) ∷ []) (late_unit_events hints units) in
    let rest = late_units_add hints units in
    omega (arith, one, rest)

pub parts_are_all : (lits left : List Literal) (units : List UnitClause) → ArePartedInto lits left units → length left + length units ≡ length lits
parts_are_all [] left units p = let a = ap length p.0 in let b = ap length p.1 in omega (arith, a, b)
parts_are_all (l ∷ lits) left units (inl p) = let a = ap length p.1 in let rest = parts_are_all lits p.0 units p.2 in omega (arith, a, rest)
parts_are_all (l ∷ lits) left units (inr p) = let a = ap length p.2 in let rest = parts_are_all lits left p.1 p.4 in omega (arith, a, rest)

-- ---- over more variables
pub bounded_over_more : (formula : Problem) (m marks : ℕ) (events : List LogEvent) → m ≤ formula.variables → IsBounded (over m formula) marks events → IsBounded formula marks events
bounded_over_more formula m marks events few h =
    let cost = mul-le-mul_left marks few in
    let less = mul_comm m marks in
    let more = mul_comm formula.variables marks in
    omega (arith, h, few, cost, less, more)
