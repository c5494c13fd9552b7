use Rattle.std.proofs.Common.{◌-◌, ◌∙◌, ℕ, None, get_or, map, sym, ap, arith, refl}
use Rattle.std.proofs.lemmas.List.{length-map}
use Rattle.std.proofs.lemmas.List.Sums.{count_by-le-length}
use Rattle.gauss_incremental.specs.Namings.{as_held}
use Rattle.gauss_incremental.specs.Trail.{is_above, is_held}
use Rattle.gauss_incremental.proofs.Stacks.{held-at, names_kept, set_held}
use Rattle.gauss_incremental.proofs.TrailLaws.{inside, taken_empty, taken_low, taken_more}
use Rattle.gauss_incremental.proofs.names.take_back.Goals as goal

pub is_above-requires : goal.is_above-requires
is_above-requires c =
    let t = c.loop-left.invariant.order in
    let top = t.each (c.loop-left.left - 1) (omega arith) in
    let lt = inside (map as_held c.loop-left.named) (get_or c.args.order.now (c.loop-left.left - 1) 0) top.0 top.1 in
    omega (arith, length-map c.loop-left.named as_held)

pub returns-then-not-is_above-clause-named : goal.returns-then-not-is_above-clause-named
returns-then-not-is_above-clause-named c =
    let row : ℕ = get_or c.args.order.now (c.loop-left.left - 1) 0 in
    names_kept c.args.level c.args.named.now c.loop-left.named c.requires.clashes
    (taken_low c.args.level c.args.order.now (map as_held c.args.named.now) (map as_held c.loop-left.named) c.loop-left.left (c.loop-left.left - 1) row (omega arith) refl c.loop-left.invariant
    (ap (λ o. is_above o c.args.level) (held-at c.loop-left.named row) ∙ sym c.is_above.ensures ∙ c.if-not-is_above.true))

pub loop-left-preserved : goal.loop-left-preserved
loop-left-preserved c =
    let row : ℕ = get_or c.args.order.now (c.loop-left.left - 1) 0 in
    rw (set_held c.loop-left.named row None)
    (taken_more c.args.level c.args.order.now (map as_held c.args.named.now) (map as_held c.loop-left.named) c.loop-left.left (c.loop-left.left - 1) row (omega arith) refl c.loop-left.invariant
    (ap (λ o. is_above o c.args.level) (held-at c.loop-left.named row) ∙ sym c.is_above.ensures ∙ c.if-not-is_above.false))

pub returns-clause-named : goal.returns-clause-named
returns-clause-named c =
    names_kept c.args.level c.args.named.now c.loop-left.named c.requires.clashes
    (taken_empty c.args.level c.args.order.now (map as_held c.args.named.now) (map as_held c.loop-left.named) c.loop-left.left c.loop-left.invariant (omega arith))

pub bounds-order-left : goal.bounds-order-left
bounds-order-left c =
    let t = c.loop-left.invariant.order in
    let few = count_by-le-length is_held (map as_held c.loop-left.named) in
    omega (arith, c.loop-left-test.true, t.number, t.long)

pub returns-then-not-is_above-clause-order : goal.returns-then-not-is_above-clause-order
returns-then-not-is_above-clause-order c = c.loop-left.invariant.order

pub bounds-named-row : goal.bounds-named-row
bounds-named-row c =
    let t = c.loop-left.invariant.order in
    let top = t.each (c.loop-left.left - 1) (omega (arith, c.loop-left-test.true)) in
    let lt = inside (map as_held c.loop-left.named) (get_or c.args.order.now (c.loop-left.left - 1) 0) top.0 top.1 in
    omega (arith, length-map c.loop-left.named as_held)

pub returns-clause-order : goal.returns-clause-order
returns-clause-order c = c.loop-left.invariant.order
