use Rattle.std.proofs.Common.{◌≡◌, ◌≢◌, List, ltb, arith, rules, ap, ⊎_elim}
use Rattle.std.specs.List.Sorted.{IsNonDecreasingBy}
use Rattle.std.proofs.lemmas.Bool.{cases_eq, ltb-true, ltb-false}
use Rattle.std.proofs.lemmas.List.Sorted.{IsPartitionPoint-from_clause, IsPartitionedBy-ltb, IsNonDecreasingBy-from_default}
use Rattle.cx_base.specs.declared.moved.Move.{Move}
use Rattle.cx_base.specs.Moved.{move_at, IsRising}
use Rattle.cx_base.proofs.moved.place_of.Goals.{After-partition_point}
use Rattle.cx_base.proofs.moved.place_of.Goals as goal

non_decreasing : (moves : List Move) → IsRising moves → IsNonDecreasingBy (λ (m : Move). m.old) moves
non_decreasing moves h = IsNonDecreasingBy-from_default (λ (m : Move). m.old) moves (record { old = 0; new = 0 }) (λ i j le inside. ⊎_elim
    (λ (e : i ≡ j). omega (arith, ap (λ x. (move_at moves x).old) e))
    (λ (ne : i ≢ j). omega (arith, h.rises i j (omega arith) inside)) (cases_eq i j))

pub returns-clause-below : goal.returns-clause-below
returns-clause-below c =
    let parted = IsPartitionedBy-ltb (λ (m : Move). m.old) _ c.args.old (non_decreasing _ c.requires) in
    let point = IsPartitionPoint-from_clause (λ (m : Move). ltb m.old c.args.old) _ _ c.partition_point.ensures.partitioned parted (λ a r q k. search rules) in
    λ i h. ltb-true _ _ (point.0 i (record { old = 0; new = 0 }) (omega arith) h)

pub returns-clause-above : goal.returns-clause-above
returns-clause-above c =
    let parted = IsPartitionedBy-ltb (λ (m : Move). m.old) _ c.args.old (non_decreasing _ c.requires) in
    let point = IsPartitionPoint-from_clause (λ (m : Move). ltb m.old c.args.old) _ _ c.partition_point.ensures.partitioned parted (λ a r q k. search rules) in
    λ i low high. ltb-false _ _ (point.1 i (record { old = 0; new = 0 }) low high)
