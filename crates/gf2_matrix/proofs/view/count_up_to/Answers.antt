use Rattle.std.proofs.Common.{◌≡◌, ℕ, ◌+◌, ◌-◌, ◌<◌, ◌≤◌, zero, suc, List, [], ◌∷◌, length, get_or, leb, arith, rules}
use Rattle.std.specs.List.Sorted.{IsNonDecreasingBy}
use Rattle.std.proofs.lemmas.Bool.{leb-true, leb-false}
use Rattle.std.proofs.lemmas.List.Sorted.{IsPartitionPoint-from_clause, IsPartitionedBy-leb, IsNonDecreasingBy-from_default}
use Rattle.parity_engine.specs.Written.{Rises}
use Rattle.parity_engine.proofs.Rising.{rises_along}
use Rattle.gf2_matrix.proofs.view.count_up_to.Goals as goal

non_decreasing : (numbers : List ℕ) → Rises 1 numbers → IsNonDecreasingBy (λ (n : ℕ). n) numbers
non_decreasing numbers rise = IsNonDecreasingBy-from_default (λ (n : ℕ). n) numbers 0 (λ i j le lt. rises_along 1 numbers i j rise le lt)

pub returns-clause-low : goal.returns-clause-low
returns-clause-low c =
    let parted = IsPartitionedBy-leb (λ (n : ℕ). n) _ c.args.bound (non_decreasing _ c.requires) in
    let point = IsPartitionPoint-from_clause (λ (n : ℕ). leb n c.args.bound) _ _ c.partition_point.ensures.partitioned parted (λ a r q k. search rules) in
    λ i h. leb-true _ _ (point.0 i 0 (omega arith) h)

pub returns-clause-high : goal.returns-clause-high
returns-clause-high c =
    let parted = IsPartitionedBy-leb (λ (n : ℕ). n) _ c.args.bound (non_decreasing _ c.requires) in
    let point = IsPartitionPoint-from_clause (λ (n : ℕ). leb n c.args.bound) _ _ c.partition_point.ensures.partitioned parted (λ a r q k. search rules) in
    λ i low high. leb-false _ _ (point.1 i 0 low high)

far : (least : ℕ) (numbers : List ℕ) (i : ℕ) → Rises least numbers → i < length numbers → least + i ≤ get_or numbers i 0
far least [] i rise lt = absurd (omega arith)
far least (n ∷ ns) zero rise lt = let h = rise.0 in omega arith
far least (n ∷ ns) (suc i) rise lt = let h = rise.0 in let g = far (n + 1) ns i rise.1 (omega arith) in omega arith

pub returns-then-numbers-most-clause-low : goal.returns-then-numbers-most-clause-low
returns-then-numbers-most-clause-low c =
    λ i lt.
    let some = c.if-most-eq0.false in
    let within = c.if-most-numbers.true in
    let last : get_or c.args.numbers.now (c.args.bound - 1) 0 ≡ c.args.bound = c.if-numbers-most.true in
    let h = rises_along 1 c.args.numbers.now i (c.args.bound - 1) c.requires (omega arith) (omega arith) in
    omega arith

pub returns-then-numbers-most-clause-high : goal.returns-then-numbers-most-clause-high
returns-then-numbers-most-clause-high c = λ i ge lt. let h = far 1 c.args.numbers.now i c.requires lt in omega arith

pub returns-then-most-eq0-clause-high : goal.returns-then-most-eq0-clause-high
returns-then-most-eq0-clause-high c =
    λ i ge lt.
    let none = c.if-most-eq0.true in
    let h = far 1 c.args.numbers.now i c.requires lt in
    omega arith
