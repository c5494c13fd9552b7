use Rattle.std.proofs.Common.{ℕ, List, ltb, arith, rules}
use Rattle.std.specs.List.Sorted.{IsNonDecreasingBy}
use Rattle.std.proofs.lemmas.Bool.{ltb-true, ltb-false}
use Rattle.std.proofs.lemmas.List.Sorted.{IsPartitionPoint-from_clause, IsPartitionedBy-ltb, IsNonDecreasingBy-from_default}
use Rattle.parity_engine.specs.Written.{Rises}
use Rattle.parity_engine.proofs.Rising.{rises_along}
use Rattle.gf2_lists.proofs.row.count_below.Goals as goal

non_decreasing : (numbers : List ℕ) → Rises 1 numbers → IsNonDecreasingBy (λ (n : ℕ). n) numbers
non_decreasing numbers rise = IsNonDecreasingBy-from_default (λ (n : ℕ). n) numbers 0 (λ i j le lt. rises_along 1 numbers i j rise le lt)

pub returns-clause-low : goal.returns-clause-low
returns-clause-low c =
    let parted = IsPartitionedBy-ltb (λ (n : ℕ). n) _ c.args.bound (non_decreasing _ c.requires) in
    let point = IsPartitionPoint-from_clause (λ (n : ℕ). ltb n c.args.bound) _ _ c.partition_point.ensures.partitioned parted (λ a r q k. search rules) in
    λ i h. ltb-true _ _ (point.0 i 0 (let b = c.partition_point.ensures.bound in omega arith) h)

pub returns-clause-high : goal.returns-clause-high
returns-clause-high c =
    let parted = IsPartitionedBy-ltb (λ (n : ℕ). n) _ c.args.bound (non_decreasing _ c.requires) in
    let point = IsPartitionPoint-from_clause (λ (n : ℕ). ltb n c.args.bound) _ _ c.partition_point.ensures.partitioned parted (λ a r q k. search rules) in
    λ i low high. ltb-false _ _ (point.1 i 0 low high)
