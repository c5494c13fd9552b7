-- Worked cases of steps: right ones, and first causes.
use Rattle.std.proofs.Common.{◌≡◌, ◌≢◌, refl, sym, ap, ◌∙◌, subst, ℕ, ◌+◌, ◌≤◌, ℤ, pos, negsuc, Bool, true, false, not, ◌&&◌, ◌||◌, cond, nat_eq, List, [], ◌∷◌, ◌++◌, map, filter_map, length, Option, Some, None, is_some, codes, true≢false, lit≤, arith, inl, inr}
use Rattle.std.specs.List.{list_any}
use Rattle.std.specs.FinSet as set
use Rattle.std.specs.Ordering.{nat_cmp}
use Rattle.std.specs.Cmp.{nat_cmp_total}
use Rattle.cx_base.specs.Literals.{Literal, differ}
use Rattle.cx_base.specs.Problem.{Problem, clauses_of, clause_met, parity_met}
use Rattle.cx_base.specs.Assumptions.{assumptions_of}
use Rattle.cx_base.specs.Parity.{normal_form, sum_of, occurs_odd}
use Rattle.cx_base.specs.declared.constraint.Constraint.TheVariants as constraint
use Rattle.cx_base.proofs.ParityLaws.{contains-normal_form, contains-symmetric_difference}
use Rattle.cx_semantics.specs.declared.cause.Cause.TheVariants as causes
use Rattle.cx_base.specs.declared.steps.ProofStep.{ProofStep}
use Rattle.cx_base.specs.declared.steps.ProofStep.TheVariants as proof
use Rattle.cx_semantics.specs.Chain.{chain, negations}
use Rattle.cx_base.specs.Integers.{literals, sizes}
use Rattle.cx_semantics.specs.Judging.{FirstFailure, IsRight, JudgedAs, accepted}
use Rattle.cx_semantics.specs.Tables.{Table, Tables, first_tables, named, put_clause}
use Rattle.cx_semantics.specs.ProofRules.{proof_rules, proof_calculus, is_not_unit, is_hints_end, after_step, IsSum, all_met}
use Rattle.cx_base.specs.Endings.{bad_token}
use Rattle.cx_semantics.proofs.Lookups.{Looks, lookup, put_at, Looks-numbered_from, Looks-insert, is_live_by, hints_by, named_by, implies_by}
use Rattle.cx_semantics.proofs.Deciding.{clause-clip, parity-clip, all-clip}

-- two variables and all four clauses of them
abbrev q_lists : List (List ℤ)
q_lists = (pos 1 ∷ pos 2 ∷ []) ∷ (negsuc 0 ∷ pos 2 ∷ []) ∷ (pos 1 ∷ negsuc 1 ∷ []) ∷ (negsuc 0 ∷ negsuc 1 ∷ []) ∷ []

abbrev q : Problem
q = record { variables = 2; constraints = map (λ zs. constraint.Clause (literals zs)) q_lists }

abbrev at_q : ℕ → Option (List Literal)
at_q = lookup 1 (map literals q_lists)

looks_q : Looks (first_tables q).clauses at_q
unfolding clauses_of
looks_q = Looks-numbered_from 1 (map literals q_lists)

module _ (formula : Problem) (tables : Tables) (f : ℕ → Option (List Literal)) (h : Looks tables.clauses f) where
  -- a right chain, by computation on what the ids name
  chain_right : (n : ℕ) (lits hints : List ℤ) → list_any (λ z. Rattle.std.proofs.Common.ltb formula.variables (Rattle.std.proofs.Common.nat_abs z)) lits ≡ false → is_some (f n) ≡ false
      → list_any Rattle.cx_base.specs.Integers.is_negative hints ≡ false → list_any (λ z. not (is_some (f (Rattle.std.proofs.Common.nat_abs z)))) hints ≡ false
      → is_not_unit (chain (negations (literals lits)) (filter_map f (sizes hints))) ≡ false → is_hints_end (chain (negations (literals lits)) (filter_map f (sizes hints))) ≡ false
      → IsRight (proof_calculus formula) tables (proof.Clause n lits hints)
  chain_right n lits hints a b c d e g = (
    a,
    (
      is_live_by tables.clauses f h n ∙ b,
      (
        c,
        (
          hints_by tables.clauses f h hints ∙ d,
          (
            ap (λ cs. is_not_unit (chain (negations (literals lits)) cs)) (named_by tables.clauses f h (sizes hints)) ∙ e,
            (ap (λ cs. is_hints_end (chain (negations (literals lits)) cs)) (named_by tables.clauses f h (sizes hints)) ∙ g, tt),
          ),
        ),
      ),
    ),
  )

  abbrev Refused : ProofStep → Rattle.cx_semantics.specs.declared.cause.Cause.Cause → Type 0
  Refused s cause = FirstFailure (proof_rules formula tables s) cause

-- ---- all four clauses: a refutation in two steps

step_1 : IsRight (proof_calculus q) (first_tables q) (proof.Clause 5 (pos 2 ∷ []) (pos 1 ∷ pos 2 ∷ []))
step_1 = chain_right q (first_tables q) at_q looks_q 5 (pos 2 ∷ []) (pos 1 ∷ pos 2 ∷ []) refl refl refl refl refl refl

abbrev after_1 : Tables
after_1 = after_step (first_tables q) (proof.Clause 5 (pos 2 ∷ []) (pos 1 ∷ pos 2 ∷ []))

looks_1 : Looks after_1.clauses (put_at at_q 5 (Some (literals (pos 2 ∷ []))))
looks_1 = Looks-insert (first_tables q).clauses at_q 5 (literals (pos 2 ∷ [])) looks_q

step_2 : IsRight (proof_calculus q) after_1 (proof.Clause 6 [] (pos 5 ∷ pos 3 ∷ pos 4 ∷ []))
step_2 = chain_right q after_1 (put_at at_q 5 (Some (literals (pos 2 ∷ [])))) looks_1 6 [] (pos 5 ∷ pos 3 ∷ pos 4 ∷ []) refl refl refl refl refl refl

accepted_in_two : JudgedAs (proof_calculus q) (proof.Clause 5 (pos 2 ∷ []) (pos 1 ∷ pos 2 ∷ []) ∷ proof.Clause 6 [] (pos 5 ∷ pos 3 ∷ pos 4 ∷ []) ∷ []) (bad_token 24) (accepted 2)
unfolding assumptions_of
accepted_in_two = inr (
  refl,
  record {
    before = proof.Clause 5 (pos 2 ∷ []) (pos 1 ∷ pos 2 ∷ []) ∷ [];
    step = proof.Clause 6 [] (pos 5 ∷ pos 3 ∷ pos 4 ∷ []);
    later = [];
    tables = after_1;
    split = refl;
    runs = (step_1, refl, refl);
    right = step_2;
    ends = refl;
    number = refl;
  },
)

-- ---- one step each: the causes of a chain

live_5 : Rattle.cx_semantics.specs.Tables.is_live (first_tables q).clauses 5 ≡ false
live_5 = is_live_by (first_tables q).clauses at_q looks_q 5

abbrev named_q : (ids : List ℕ) → named (first_tables q).clauses ids ≡ filter_map at_q ids
named_q = named_by (first_tables q).clauses at_q looks_q

abbrev hinted_q : (hints : List ℤ) → list_any (λ z. not (Rattle.cx_semantics.specs.Tables.is_live (first_tables q).clauses (Rattle.std.proofs.Common.nat_abs z))) hints ≡ list_any (λ z. not (is_some (at_q (Rattle.std.proofs.Common.nat_abs z)))) hints
hinted_q = hints_by (first_tables q).clauses at_q looks_q

var_unknown : Refused q (first_tables q) at_q looks_q (proof.Clause 5 (pos 3 ∷ []) (pos 1 ∷ pos 2 ∷ [])) causes.VarUnknown
var_unknown = inl (refl, refl)

id_in_use : Refused q (first_tables q) at_q looks_q (proof.Clause 4 (pos 2 ∷ []) (pos 1 ∷ pos 2 ∷ [])) causes.IdInUse
id_in_use = inr (refl, inl (is_live_by (first_tables q).clauses at_q looks_q 4, refl))

rat_hint : Refused q (first_tables q) at_q looks_q (proof.Clause 5 (pos 2 ∷ []) (pos 1 ∷ negsuc 1 ∷ [])) causes.RatHint
rat_hint = inr (refl, inr (live_5, inl (refl, refl)))

not_live : Refused q (first_tables q) at_q looks_q (proof.Clause 5 (pos 2 ∷ []) (pos 5 ∷ [])) causes.HintNotLive
not_live = inr (refl, inr (live_5, inr (refl, inl (hinted_q (pos 5 ∷ []), refl))))

hint_not_unit : Refused q (first_tables q) at_q looks_q (proof.Clause 5 [] (pos 1 ∷ [])) causes.HintNotUnit
hint_not_unit = inr (refl, inr (live_5, inr (refl, inr (hinted_q (pos 1 ∷ []), inl (ap (λ cs. is_not_unit (chain [] cs)) (named_q (1 ∷ [])), refl)))))

hints_end : Refused q (first_tables q) at_q looks_q (proof.Clause 5 (pos 2 ∷ []) (pos 1 ∷ [])) causes.HintsEnd
hints_end = inr (
  refl,
  inr (
    live_5,
    inr (
      refl,
      inr (
        hinted_q (pos 1 ∷ []),
        inr (
          ap (λ cs. is_not_unit (chain (negations (literals (pos 2 ∷ []))) cs)) (named_q (1 ∷ [])),
          inl (ap (λ cs. is_hints_end (chain (negations (literals (pos 2 ∷ []))) cs)) (named_q (1 ∷ [])), refl),
        ),
      ),
    ),
  ),
)

-- a repeated hint, and one after the end
repeated : IsRight (proof_calculus q) (first_tables q) (proof.Clause 5 (pos 2 ∷ []) (pos 1 ∷ pos 1 ∷ pos 2 ∷ pos 3 ∷ []))
repeated = chain_right q (first_tables q) at_q looks_q 5 (pos 2 ∷ []) (pos 1 ∷ pos 1 ∷ pos 2 ∷ pos 3 ∷ []) refl refl refl refl refl refl

-- ---- a parity from clauses

abbrev from_two : List (List Literal)
from_two = literals (pos 1 ∷ pos 2 ∷ []) ∷ literals (negsuc 0 ∷ negsuc 1 ∷ []) ∷ []

implied_parity : Rattle.cx_semantics.specs.Implied.Implies (all_met clause_met from_two) (λ v. parity_met v (literals (pos 1 ∷ pos 2 ∷ [])))
implied_parity = implies_by 9 (all_met clause_met from_two) (λ v. parity_met v (literals (pos 1 ∷ pos 2 ∷ [])))
    (λ v. all-clip clause_met clause-clip 9 v from_two (lit≤ tt)) (λ v. parity-clip 9 v (literals (pos 1 ∷ pos 2 ∷ [])) (lit≤ tt)) refl

not_implied : Rattle.cx_semantics.specs.Implied.HasCounterexample (all_met clause_met (literals (pos 1 ∷ pos 2 ∷ []) ∷ [])) (λ v. parity_met v (literals (pos 1 ∷ pos 2 ∷ [])))
not_implied = (true ∷ true ∷ [], refl, refl)

-- ---- sums

abbrev pub p12 : List Literal
p12 = literals (pos 1 ∷ pos 2 ∷ [])

abbrev pub p23 : List Literal
p23 = literals (pos 2 ∷ pos 3 ∷ [])

abbrev pub p13 : List Literal
p13 = literals (pos 1 ∷ pos 3 ∷ [])

cancels : (a b c : Bool) → Rattle.cx_base.proofs.Odd.is_odd 0 ≡ differ (Rattle.cx_base.proofs.Odd.is_odd ((0 + cond a 1 0) + cond b 1 0)) (differ (Rattle.cx_base.proofs.Odd.is_odd ((0 + cond b 1 0) + cond c 1 0)) (differ (Rattle.cx_base.proofs.Odd.is_odd ((0 + cond a 1 0) + cond c 1 0)) false))
cancels true true true = refl
cancels true true false = refl
cancels true false true = refl
cancels true false false = refl
cancels false true true = refl
cancels false true false = refl
cancels false false true = refl
cancels false false false = refl

contains-three : (a b c : List Literal) (x : ℕ) → set.contains (sum_of (map normal_form (a ∷ b ∷ c ∷ []))).variables x ≡ differ (occurs_odd a x) (differ (occurs_odd b x) (differ (occurs_odd c x) false))
unfolding sum_of
contains-three a b c x =
    contains-symmetric_difference _ _ x ∙ (λ i. differ (contains-normal_form a x i) ((contains-symmetric_difference _ _ x
    ∙ (λ j. differ (contains-normal_form b x j) ((contains-symmetric_difference _ _ x ∙ (λ k. differ (contains-normal_form c x k) (set.contains-empty nat_cmp x k))) j))) i))

pub three_sum : IsSum [] (p12 ∷ p23 ∷ p13 ∷ [])
unfolding normal_form sum_of
three_sum =
    let e = set.same_set nat_cmp_total set.nat_cmp-IsAntisymmetric (normal_form []).variables (sum_of (map normal_form (p12 ∷ p23 ∷ p13 ∷ []))).variables
    (λ x. contains-normal_form [] x ∙ cancels (nat_eq 1 x) (nat_eq 2 x) (nat_eq 3 x) ∙ sym (contains-three p12 p23 p13 x)) in
    λ i. record { variables = e i; right_side = true }
