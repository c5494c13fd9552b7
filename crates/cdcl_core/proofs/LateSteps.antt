-- The steps of unit clauses that are told late.
use Rattle.std.proofs.Common.{◌≡◌, refl, sym, ap, ◌∙◌, subst, ℕ, suc, ◌+◌, ◌<◌, ℤ, List, [], ◌∷◌, ◌++◌, length, take, get_or, append_assoc, arith, inl, inr, IfOk, Result, Ok, Err}
use Rattle.std.specs.List.{All, AllByRecursion}
use Rattle.std.proofs.lemmas.List.Elements.{All-get_or}
use Rattle.std.specs.declared.alloc.AllocError.{AllocError}
use Rattle.cx_base.specs.Integers.{integer_of}
use Rattle.cx_base.specs.Literals.{Literal, negate}
use Rattle.cx_base.specs.declared.steps.LogEvent.{LogEvent}
use Rattle.cx_base.specs.declared.steps.LogEvent.TheVariants.{Step}
use Rattle.cx_base.specs.declared.steps.LogStep.{LogStep}
use Rattle.cx_base.specs.declared.steps.LogStep.TheVariants.{ClauseWithHints}
use Rattle.cdcl_search.specs.declared.state.SearchState.{SearchState}
use Rattle.cdcl_search.specs.Tells.{AreIdsFrom, AreStepsOf, IsId, IsStep}
use Rattle.cdcl_search.specs.Ties.{first_row_id}
use Rattle.xor_reason.specs.declared.reason.ReasonOf.{ReasonOf}
use Rattle.cdcl_core.specs.Shortening.{ArePartedInto, EndsBy, EndsByUnits, IsShortened, IsToldUnit, late_unit_events, late_units_from}
use Rattle.cdcl_core.specs.declared.conflicts.LogEnd.{LogEnd}
use Rattle.cdcl_core.specs.declared.shortening.Shortened.{Shortened}
use Rattle.cdcl_core.specs.declared.shortening.UnitClause.{UnitClause}
use Rattle.cdcl_core.proofs.ShortSteps.{step_more, next_of, taken_count}

-- each literal is left or has a unit
pub parted_count : (lits left : List Literal) (units : List UnitClause) → ArePartedInto lits left units → length left + length units ≡ length lits
parted_count [] left units p = (λ i. length (p.0 i) + length (p.1 i))
parted_count (l ∷ lits) left units (inl p) = let r = parted_count lits p.0 units p.2 in let is : length left ≡ suc (length p.0) = ap length p.1 in omega (arith, r, is)
parted_count (l ∷ lits) left units (inr p) = let r = parted_count lits left p.1 p.4 in let is : length units ≡ suc (length p.1) = ap length p.2 in omega (arith, r, is)

pub late_count : (n : ℕ) (lits : List Literal) → length (late_units_from n lits) ≡ length lits
late_count n [] = refl
late_count n (l ∷ lits) = ap suc (late_count (n + 1) lits)

pub late_ids : (n : ℕ) (lits : List Literal) → AreIdsFrom n (length lits) → AllByRecursion (λ u. IsId u.id) (late_units_from n lits)
late_ids n [] h = tt
late_ids n (l ∷ lits) h = let low = h.0 in let high = h.1 in ((low, omega (arith, high)), late_ids (n + 1) lits (omega (arith, low), omega (arith, high)))

pub told_ids : (c : SearchState) → All IsId c.units.items → (units : List UnitClause) → AllByRecursion (IsToldUnit c) units → AllByRecursion (λ u. IsId u.id) units
told_ids c ids [] a = tt
told_ids c ids (u ∷ units) a = (subst IsId (sym a.0.3) (All-get_or IsId c.units.items a.0.0 0 a.0.1 ids), told_ids c ids units a.1)

-- one literal more
pub late_units_more : (n : ℕ) (lits : List Literal) (l : Literal) → late_units_from n (lits ++ l ∷ []) ≡ late_units_from n lits ++ record { literal = negate l; id = n + length lits } ∷ []
late_units_more n [] l = ap (λ m. record { literal = negate l; id = m } ∷ []) (let e : n ≡ n + 0 = omega arith in e)
late_units_more n (m ∷ lits) l = ap (λ us. record { literal = negate m; id = n } ∷ us)
    (late_units_more (n + 1) lits l ∙ ap (λ k. late_units_from (n + 1) lits ++ record { literal = negate l; id = k } ∷ []) (let e : n + 1 + length lits ≡ n + suc (length lits) = omega arith in e))

pub late_events_more : (hints : List ℤ) (units more : List UnitClause) → late_unit_events hints (units ++ more) ≡ late_unit_events hints units ++ late_unit_events hints more
late_events_more hints [] more = refl
late_events_more hints (u ∷ units) more = ap (λ es. Step (ClauseWithHints u.id (integer_of u.literal ∷ []) hints) ∷ es) (late_events_more hints units more)

-- the unit clause of the next literal
module _ (first i : ℕ) (lits : List Literal) (l : Literal) (less : i < length lits) (at : l ≡ get_or lits i l) (u : UnitClause) (negated : u.literal ≡ negate l) (number : u.id ≡ first + i) where
  is : record { literal = negate l; id = first + length (take i lits) } ≡ u
  is = let n : first + length (take i lits) ≡ u.id = ap (λ k. first + k) (taken_count lits i less) ∙ sym number in λ j. record { literal = sym negated j; id = n j }

  taken : late_units_from first (take (i + 1) lits) ≡ late_units_from first (take i lits) ++ u ∷ []
  taken = ap (late_units_from first) (next_of lits i l less at) ∙ late_units_more first (take i lits) l ∙ ap (λ v. late_units_from first (take i lits) ++ v ∷ []) is

  pub late_step : (hints : List ℤ) (before : List LogEvent) (steps now : List LogStep) (step : LogStep) → AreStepsOf (before ++ late_unit_events hints (late_units_from first (take i lits))) steps
      → IsStep (ClauseWithHints u.id (integer_of u.literal ∷ []) hints) step → now ≡ steps ++ step ∷ [] → AreStepsOf (before ++ late_unit_events hints (late_units_from first (take (i + 1) lits))) now
  late_step hints before steps now step are told pushed =
      subst (λ es. AreStepsOf es now)
      (append_assoc before (late_unit_events hints (late_units_from first (take i lits))) (Step (ClauseWithHints u.id (integer_of u.literal ∷ []) hints) ∷ [])
      ∙ ap (λ es. before ++ es) (sym (ap (late_unit_events hints) taken ∙ late_events_more hints (late_units_from first (take i lits)) (u ∷ []))))
      (step_more (before ++ late_unit_events hints (late_units_from first (take i lits))) steps now (ClauseWithHints u.id (integer_of u.literal ∷ []) hints) step are told pushed)

  pub late_unit : (before units now : List UnitClause) → units ≡ before ++ late_units_from first (take i lits) → now ≡ units ++ u ∷ [] → now ≡ before ++ late_units_from first (take (i + 1) lits)
  late_unit before units now are pushed = pushed ∙ ap (λ us. us ++ u ∷ []) are ∙ append_assoc before (late_units_from first (take i lits)) (u ∷ []) ∙ ap (λ us. before ++ us) (sym taken)

-- the last steps after these unit clauses
pub ends_by_units : (r : Result LogEnd AllocError) (c : SearchState) (constraints rows : ℕ) (reason : ReasonOf) (short : Shortened) → IsShortened c reason.clause short → (hints : List ℤ) (last : Shortened)
    → last.units.items ≡ short.units.items ++ late_units_from (first_row_id c.next + rows) short.left → last.left ≡ [] → (id : ℕ) → id ≡ first_row_id c.next + rows + length short.left
    → (before : List LogEvent) → before ≡ late_unit_events hints (late_units_from (first_row_id c.next + rows) short.left) → IfOk r (EndsBy constraints id reason.sources last before) → IfOk r (EndsByUnits c constraints rows reason hints)
ends_by_units (Ok e) c constraints rows reason short shortened hints last units nothing id number before are h = record {
  short = short;
  shortened = shortened;
  last = last;
  units = units;
  nothing = nothing;
  ends = subst (λ m. EndsBy constraints m reason.sources last (late_unit_events hints (late_units_from (first_row_id c.next + rows) short.left)) e) number (subst (λ es. EndsBy constraints id reason.sources last es e) are h);
}
ends_by_units (Err x) c constraints rows reason short shortened hints last units nothing id number before are h = tt
