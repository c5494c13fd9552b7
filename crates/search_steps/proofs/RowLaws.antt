-- What the row of an engine gives: a clause that its parities imply, and that forces the literal or is falsified.
use Rattle.std.proofs.Common.{◌≡◌, refl, sym, ap, ◌∙◌, subst, ℕ, Bool, true, List, [], ◌∷◌, Option, Some, None, is_some, Contains, true≢false}
use Rattle.std.specs.List.{list_all, AllByRecursion, cons_option}
use Rattle.std.proofs.lemmas.Bool.{and_parts, and_from}
use Rattle.cx_base.specs.Literals.{Literal}
use Rattle.cx_base.specs.Parity.{NormalForm, normal_form, sum_of, HasOneOfEach}
use Rattle.cx_base.specs.Problem.{parity_met}
use Rattle.cx_base.proofs.Differences.{difference_nothing}
use Rattle.cx_base.proofs.ParityLaws.{differ_false}
use Rattle.cx_semantics.specs.ProofRules.{IsSum}
use Rattle.cx_semantics.specs.Tables.{Tables, get, named}
use Rattle.cx_semantics.proofs.Soundness.{sum_is_met}
use Rattle.search_steps.specs.Quiet.{IsOfParities}
use Rattle.search_steps.specs.LogSteps.{IsRowOf, IsClauseOfRow}

pub at_place : (p : List Literal → Bool) (lists : List (List Literal)) → list_all p lists ≡ true → (x : List Literal) → Contains lists x → p x ≡ true
at_place p [] h x (k, less, e) = absurd (omega (Rattle.std.proofs.Common.arith, less))
at_place p (y ∷ ys) h x (Rattle.std.proofs.Common.zero, less, e) = ap p (sym e) ∙ (and_parts (p y) _ h).0
at_place p (y ∷ ys) h x (Rattle.std.proofs.Common.suc k, less, e) = at_place p ys (and_parts (p y) _ h).1 x (k, omega (Rattle.std.proofs.Common.arith, less), e)

all_of : (p : List Literal → Bool) (lists all : List (List Literal)) → list_all p all ≡ true → AllByRecursion (Contains all) lists → list_all p lists ≡ true
all_of p [] all h c = refl
all_of p (x ∷ xs) all h c = and_from _ _ (at_place p all h x c.0) (all_of p xs all h c.1)

pub row_is_of_parities : (n : ℕ) (parities : List (List Literal)) (tables : Tables) (ids : List ℕ) (row clause : List Literal) → IsRowOf parities tables ids row → IsClauseOfRow n row clause → IsOfParities n parities clause
row_is_of_parities n parities tables ids row clause r c = record {
  within = c.within;
  implied = λ values h. c.implied values (sum_is_met values row (named tables.parities ids) r.sums (all_of (parity_met values) (named tables.parities ids) parities h r.theirs));
}

-- ---- a row of one parity
sum_of_one : (f : NormalForm) → sum_of (f ∷ []) ≡ f
unfolding sum_of
sum_of_one f = λ i. record { variables = difference_nothing f.variables i; right_side = differ_false f.right_side i }

pub live_is : (o : Option (List Literal)) → is_some o ≡ true → (lits : List Literal) × (o ≡ Some lits)
live_is None h = absurd (true≢false (sym h))
live_is (Some lits) h = (lits, refl)

-- the row has that parity's normal form, so its clause is one of the parity
pub clause_of_source : (n : ℕ) (parities : List (List Literal)) (tables : Tables) (source : ℕ) (row clause parity : List Literal) → get tables.parities source ≡ Some parity
    → IsRowOf parities tables (source ∷ []) row → IsClauseOfRow n row clause → IsClauseOfRow n parity clause
clause_of_source n parities tables source row clause parity at r c = record {
  within = c.within;
  one_of_each = subst (λ (f : NormalForm). HasOneOfEach f.variables clause) (sums ∙ sum_of_one (normal_form parity)) c.one_of_each;
  implied = λ values h. c.implied values (sum_is_met values row (parity ∷ []) sums (and_from _ _ h refl));
}
  where
    sums : IsSum row (parity ∷ [])
    sums = subst (IsSum row) (ap (λ o. cons_option o []) at) r.sums
