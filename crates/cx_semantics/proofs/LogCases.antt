-- Worked cases of log steps and of parities in proofs.
use Rattle.std.proofs.Common.{◌≡◌, refl, sym, ap, ◌∙◌, subst, ℕ, ℤ, pos, negsuc, Bool, true, false, not, ◌&&◌, nat_lt, List, [], ◌∷◌, map, Option, Some, None, is_some, true≢false, inl, inr}
use Rattle.std.specs.List.{list_any, list_all}
use Rattle.std.specs.Ordering.{nat_cmp}
use Rattle.std.specs.FinSet as set
use Rattle.cx_base.specs.Literals.{Literal, differ}
use Rattle.cx_base.specs.Problem.{Problem, clauses_of, parity_met}
use Rattle.cx_base.specs.Assumptions.{assumptions_of}
use Rattle.cx_base.specs.Parity.{normal_form, sum_of, occurs_odd}
use Rattle.cx_base.specs.declared.constraint.Constraint.TheVariants as constraint
use Rattle.cx_base.proofs.ParityLaws.{contains-normal_form, contains-symmetric_difference}
use Rattle.cx_semantics.specs.declared.cause.Cause.TheVariants as causes
use Rattle.cx_base.specs.declared.steps.LogStep.TheVariants as log
use Rattle.cx_semantics.specs.Chain.{Left, none, one, more, left, count_left, is_inside, negations}
use Rattle.cx_semantics.specs.Fresh.{IsLive, is_falsified}
use Rattle.cx_base.specs.Integers.{literals}
use Rattle.cx_semantics.specs.Judging.{FirstFailure, JudgedAs, refused}
use Rattle.cx_semantics.specs.Tables.{Tables, is_live, no_tables}
use Rattle.cx_semantics.specs.LogRules.{log_rules, log_calculus, after_log_step}
use Rattle.cx_semantics.specs.ProofRules.{IsSum}
use Rattle.cx_base.specs.Endings.{finished}
use Rattle.cx_semantics.proofs.Closure.{closed_has_no_chain}
use Rattle.cx_semantics.proofs.Lookups.{Looks, put_at, Looks-empty, Looks-insert, is_live_by, ids_by, named_by}
use Rattle.cx_semantics.proofs.MarkedCase.{AllAt-none, AllAt-put}
use Rattle.cx_semantics.proofs.ProofCases.{p12}
use Rattle.cx_semantics.proofs.Widths.{len-normal_form}

-- ---- one clause of two literals

abbrev formula : Problem
formula = record { variables = 2; constraints = constraint.Clause (literals (pos 1 ∷ pos 2 ∷ [])) ∷ [] }

abbrev told : Tables
told = after_log_step no_tables (log.Original 1 (pos 1 ∷ pos 2 ∷ []))

abbrev answers : ℕ → Option (List Literal)
answers = put_at (λ k. None) 1 (Some (literals (pos 1 ∷ pos 2 ∷ [])))

looks : Looks told.clauses answers
looks = Looks-insert _ _ 1 _ Looks-empty

dead : (n : ℕ) → is_live no_tables.clauses n ≡ false
dead n = ap is_some (Looks-empty n)

var_unknown : FirstFailure (log_rules formula no_tables (log.Original 1 (pos 3 ∷ []))) causes.VarUnknown
var_unknown = inl (refl, refl)

id_in_use : FirstFailure (log_rules formula told (log.Original 1 (pos 1 ∷ pos 2 ∷ []))) causes.IdInUse
id_in_use = inr (refl, inl (is_live_by told.clauses answers looks 1, refl))

not_in_formula : FirstFailure (log_rules formula no_tables (log.Original 1 (pos 1 ∷ []))) causes.NotInFormula
unfolding clauses_of
not_in_formula = inr (refl, inr (dead 1, inl (refl, refl)))

-- an assumed literal is no unit clause of the formula
abbrev assuming_one : Problem
assuming_one = record { variables = 2; constraints = constraint.Clause (literals (pos 1 ∷ pos 2 ∷ [])) ∷ constraint.Assume (literals (pos 1 ∷ [])) ∷ [] }

assumption_not_in_formula : FirstFailure (log_rules assuming_one no_tables (log.Original 2 (pos 1 ∷ []))) causes.NotInFormula
unfolding clauses_of
assumption_not_in_formula = inr (refl, inr (dead 2, inl (refl, refl)))

not_live : FirstFailure (log_rules formula no_tables (log.ClauseOfParity 5 (pos 1 ∷ []) 9)) causes.NotLive
not_live = inr (refl, inr (dead 5, inl (ids_by no_tables.parities (λ k. None) Looks-empty (9 ∷ []), refl)))

-- the set of -1 and 2 is closed and falsifies nothing, so there is no chain for 1
abbrev closed : List Literal
closed = literals (negsuc 0 ∷ pos 2 ∷ [])

abbrev is_quiet : List Literal → Bool
is_quiet clause = elim (count_left (left closed clause)) [ none ↦ false | one l ↦ not (is_falsified closed clause) && Rattle.cx_semantics.specs.Chain.has_literal closed l | more ↦ false ]

abbrev quiet : Left → Bool → Bool
quiet c f = elim c [ none ↦ false | one l ↦ not f && Rattle.cx_semantics.specs.Chain.has_literal closed l | more ↦ false ]

all_quiet : (clause : List Literal) → IsLive told.clauses clause → is_quiet clause ≡ true
all_quiet clause (n, e) = AllAt-put is_quiet (λ k. None) 1 (literals (pos 1 ∷ pos 2 ∷ [])) refl (AllAt-none is_quiet) n clause (sym (looks n) ∙ e)

quiet_one : (c : Left) (f : Bool) (l : Literal) → quiet c f ≡ true → c ≡ one l → Rattle.cx_semantics.specs.Chain.has_literal closed l ≡ true
quiet_one none f l h e = absurd (true≢false (sym h))
quiet_one more f l h e = absurd (true≢false (sym h))
quiet_one (one m) true l h e = absurd (true≢false (sym h))
quiet_one (one m) false l h e = let k : m ≡ l = cc (e) in subst (λ x. Rattle.cx_semantics.specs.Chain.has_literal closed x ≡ true) k h

quiet_not : (c : Left) (f : Bool) → quiet c f ≡ true → f ≡ false
quiet_not none f h = absurd (true≢false (sym h))
quiet_not more f h = absurd (true≢false (sym h))
quiet_not (one m) true h = absurd (true≢false (sym h))
quiet_not (one m) false h = refl

no_chain : FirstFailure (log_rules formula told (log.Clause 5 (pos 1 ∷ []))) causes.NoChain
no_chain = inr (
  refl,
  inr (
    is_live_by told.clauses answers looks 5,
    inl (
      closed_has_no_chain told.clauses closed (literals (pos 1 ∷ []))
          (λ clause l live e. quiet_one (count_left (left closed clause)) (is_falsified closed clause) l (all_quiet clause live) e)
          (λ clause live. quiet_not (count_left (left closed clause)) (is_falsified closed clause) (all_quiet clause live)) refl,
      refl,
    ),
  ),
)

empty_log : JudgedAs (log_calculus formula) [] finished (refused 1 causes.NoEmptyClause)
unfolding assumptions_of
empty_log = (refl, inr (record { tables = no_tables; runs = refl; why = refl; number = refl }))

-- ---- one parity of two literals

abbrev odd_told : Tables
odd_told = after_log_step no_tables (log.OriginalParity 1 (pos 1 ∷ pos 2 ∷ []))

odd_looks : Looks odd_told.parities answers
odd_looks = Looks-insert _ _ 1 _ Looks-empty

one_sum : (x : ℕ) → set.contains (sum_of (map normal_form (p12 ∷ []))).variables x ≡ differ (occurs_odd p12 x) false
unfolding sum_of
one_sum x = contains-symmetric_difference _ _ x ∙ (λ i. differ (contains-normal_form p12 x i) (set.contains-empty nat_cmp x i))

not_the_sum : ¬ IsSum (literals (pos 1 ∷ [])) (p12 ∷ [])
not_the_sum e = true≢false (sym (one_sum 2) ∙ ap (λ n. set.contains n.variables 2) (sym e) ∙ contains-normal_form (literals (pos 1 ∷ [])) 2)

sum_differs : FirstFailure (log_rules formula odd_told (log.Parity 2 (pos 1 ∷ []) (1 ∷ []))) causes.SumDiffers
sum_differs =
    let here = named_by odd_told.parities answers odd_looks (1 ∷ []) in
    inr (refl, inr (is_live_by odd_told.parities answers odd_looks 2, inr (ids_by odd_told.parities answers odd_looks (1 ∷ []), inl (subst (λ ps. ¬ IsSum (literals (pos 1 ∷ [])) ps) (sym here) not_the_sum, refl))))

not_implied : FirstFailure (log_rules formula odd_told (log.ClauseOfParity 5 (pos 1 ∷ []) 1)) causes.NotImplied
not_implied =
    let here = named_by odd_told.parities answers odd_looks (1 ∷ []) in
    inr (
      refl,
      inr (
        dead 5,
        inr (
          ids_by odd_told.parities answers odd_looks (1 ∷ []),
          inl ((false ∷ true ∷ [], ap (list_all (parity_met (false ∷ true ∷ []))) here, refl), refl),
        ),
      ),
    )

-- ---- widths

abbrev thirteen : List ℤ
thirteen = pos 1 ∷ pos 2 ∷ pos 3 ∷ pos 4 ∷ pos 5 ∷ pos 6 ∷ pos 7 ∷ pos 8 ∷ pos 9 ∷ pos 10 ∷ pos 11 ∷ pos 12 ∷ pos 13 ∷ []

abbrev wide : Problem
wide = record { variables = 13; constraints = [] }

too_wide : FirstFailure (log_rules wide no_tables (log.ParityOfClauses 1 thirteen [])) causes.TooWide
too_wide = inr (refl, inr (dead 1, inr (refl, inl (ap (λ n. nat_lt 12 n) (len-normal_form (literals thirteen) (refl, (refl, (refl, (refl, (refl, (refl, (refl, (refl, (refl, (refl, (refl, (refl, (refl, tt)))))))))))))), refl))))

outside : (cs : List (List Literal)) → list_any (list_any (λ l. not (set.contains (normal_form p12).variables l.variable))) cs ≡ list_any (list_any (λ l. not (occurs_odd p12 l.variable))) cs
outside cs = λ i. list_any (list_any (λ l. not (contains-normal_form p12 l.variable i))) cs

abbrev three : Problem
three = record { variables = 3; constraints = constraint.Clause (literals (pos 1 ∷ pos 3 ∷ [])) ∷ [] }

abbrev told_three : Tables
told_three = after_log_step no_tables (log.Original 7 (pos 1 ∷ pos 3 ∷ []))

abbrev answers_three : ℕ → Option (List Literal)
answers_three = put_at (λ k. None) 7 (Some (literals (pos 1 ∷ pos 3 ∷ [])))

looks_three : Looks told_three.clauses answers_three
looks_three = Looks-insert _ _ 7 _ Looks-empty

clause_outside : FirstFailure (log_rules three told_three (log.ParityOfClauses 1 (pos 1 ∷ pos 2 ∷ []) (7 ∷ []))) causes.ClauseOutside
clause_outside = inr (
  refl,
  inr (
    dead 1,
    inr (
      ids_by told_three.clauses answers_three looks_three (7 ∷ []),
      inr (
        ap (λ n. nat_lt 12 n) (len-normal_form p12 (refl, (refl, tt))),
        inl (ap (list_any (list_any (λ l. not (set.contains (normal_form p12).variables l.variable)))) (named_by told_three.clauses answers_three looks_three (7 ∷ [])) ∙ outside (literals (pos 1 ∷ pos 3 ∷ []) ∷ []), refl),
      ),
    ),
  ),
)
