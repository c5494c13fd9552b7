-- Worked cases of moved ids.
use Rattle.std.proofs.Common.{◌≡◌, refl, sym, ap, ◌∙◌, ℕ, pos, Bool, true, false, not, ◌||◌, List, [], ◌∷◌, Option, Some, None, is_some, inl, inr}
use Rattle.std.specs.List.{list_any}
use Rattle.cx_base.specs.Literals.{Literal}
use Rattle.cx_base.specs.Problem.{Problem}
use Rattle.cx_base.specs.Integers.{literals}
use Rattle.cx_base.specs.declared.constraint.Constraint.TheVariants as constraint
use Rattle.cx_base.specs.declared.id_moves.IdMove.{IdMove}
use Rattle.cx_base.specs.declared.steps.LogStep.TheVariants as log
use Rattle.cx_base.specs.declared.steps.LogEvent.TheVariants as events
use Rattle.cx_semantics.specs.declared.cause.Cause.TheVariants as causes
use Rattle.cx_semantics.specs.Judging.{FirstFailure, IsRight}
use Rattle.cx_semantics.specs.LogRules.{log_rules, log_calculus, after_log_step}
use Rattle.cx_semantics.specs.Marked.{Moment, first_moment, after_event}
use Rattle.cx_semantics.specs.Moves.{old_ids, without_ids, moved}
use Rattle.cx_semantics.specs.Tables.{Table, Tables, get, is_live, no_tables}
use Rattle.cx_semantics.proofs.Lookups.{Looks, put_at, Looks-empty, Looks-insert, Looks-remove, is_live_by, ids_by}
use Rattle.cx_semantics.proofs.MoveLaws.{AreThere, get-moved}

abbrev formula : Problem
formula = record { variables = 2; constraints = constraint.Clause (literals (pos 1 ∷ pos 2 ∷ [])) ∷ constraint.Clause (literals (pos 2 ∷ pos 1 ∷ [])) ∷ [] }

abbrev one_two : List Literal
one_two = literals (pos 1 ∷ pos 2 ∷ [])

abbrev two_one : List Literal
two_one = literals (pos 2 ∷ pos 1 ∷ [])

abbrev told : Tables
told = after_log_step (after_log_step no_tables (log.Original 1 (pos 1 ∷ pos 2 ∷ []))) (log.Original 2 (pos 2 ∷ pos 1 ∷ []))

abbrev answers : ℕ → Option (List Literal)
answers = put_at (put_at (λ k. None) 1 (Some one_two)) 2 (Some two_one)

looks : Looks told.clauses answers
looks = Looks-insert _ _ 2 _ (Looks-insert _ _ 1 _ Looks-empty)

abbrev move : ℕ → ℕ → IdMove
move a b = record { from = a; to = b }

-- ---- causes

not_live : FirstFailure (log_rules formula no_tables (log.MoveClauses (move 1 2 ∷ []))) causes.NotLive
not_live = inl (ap (λ b. b || false) (ids_by no_tables.clauses (λ k. None) Looks-empty (1 ∷ [])), refl)

-- an id that is named as old twice
old_twice : FirstFailure (log_rules formula told (log.MoveClauses (move 1 5 ∷ move 1 6 ∷ []))) causes.NotLive
old_twice = inl (ap (λ b. b || true) (ids_by told.clauses answers looks (1 ∷ 1 ∷ [])), refl)

-- a new id that is live, and is not moved itself
in_use : FirstFailure (log_rules formula told (log.MoveClauses (move 1 2 ∷ []))) causes.IdInUse
in_use = inr (
  ap (λ b. b || false) (ids_by told.clauses answers looks (1 ∷ [])),
  inl (ap (λ b. (b || false) || false) (is_live_by (without_ids told.clauses (1 ∷ [])) (put_at answers 1 None) (Looks-remove told.clauses answers 1 looks) 2), refl),
)

-- a new id that is named twice
new_twice : FirstFailure (log_rules formula told (log.MoveClauses (move 1 5 ∷ move 2 5 ∷ []))) causes.IdInUse
new_twice =
    let left = Looks-remove _ _ 2 (Looks-remove told.clauses answers 1 looks) in
    let gone = put_at (put_at answers 1 None) 2 None in
    inr (
      ap (λ b. b || false) (ids_by told.clauses answers looks (1 ∷ 2 ∷ [])),
      inl ((λ i. (is_live_by (without_ids told.clauses (1 ∷ 2 ∷ [])) gone left 5 i || (is_live_by (without_ids told.clauses (1 ∷ 2 ∷ [])) gone left 5 i || false)) || true), refl),
    )

-- ---- at once

abbrev swap : List IdMove
swap = move 1 2 ∷ move 2 1 ∷ []

-- two ids change places
swap_is_right : IsRight (log_calculus formula) told (log.MoveClauses swap)
swap_is_right =
    let left = Looks-remove _ _ 2 (Looks-remove told.clauses answers 1 looks) in
    let gone = put_at (put_at answers 1 None) 2 None in (
      ap (λ b. b || false) (ids_by told.clauses answers looks (1 ∷ 2 ∷ [])),
      (
        (λ i. (is_live_by (without_ids told.clauses (1 ∷ 2 ∷ [])) gone left 2 i || (is_live_by (without_ids told.clauses (1 ∷ 2 ∷ [])) gone left 1 i || false)) || false),
        tt,
      ),
    )

swapped : (get (after_log_step told (log.MoveClauses swap)).clauses 1 ≡ Some two_one) × (get (after_log_step told (log.MoveClauses swap)).clauses 2 ≡ Some one_two)
swapped =
    let there : AreThere told.clauses swap = (is_live_by told.clauses answers looks 1, (is_live_by told.clauses answers looks 2, tt)) in
    (get-moved told.clauses swap 1 there ∙ looks 2, get-moved told.clauses swap 2 there ∙ looks 1)

-- no pair moves nothing
none_moved : (tables : Tables) → after_log_step tables (log.MoveClauses []) ≡ tables
none_moved tables = refl

-- ---- learned clauses keep what they are under each new id

abbrev learning : Moment
learning = record first_moment { learned = 5 ∷ 6 ∷ []; new_clauses = 9 ∷ []; old_sums = 5 ∷ [] }

renamed : (after_event learning (events.Step (log.MoveClauses (move 5 6 ∷ move 6 7 ∷ move 9 5 ∷ [])))).learned ≡ 6 ∷ 7 ∷ []
renamed = refl

renamed_parts : (after_event learning (events.Step (log.MoveClauses (move 5 6 ∷ move 6 7 ∷ move 9 5 ∷ [])))).new_clauses ≡ 5 ∷ []
renamed_parts = refl

-- a move of clauses leaves what is noted of parities
other_kind : (after_event learning (events.Step (log.MoveClauses (move 5 6 ∷ move 6 7 ∷ [])))).old_sums ≡ 5 ∷ []
other_kind = refl
