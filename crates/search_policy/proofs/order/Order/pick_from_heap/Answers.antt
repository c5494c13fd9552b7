use Rattle.std.proofs.Common.{◌≡◌, ◌<◌, ◌≤◌, ◌+◌, ℕ, List, length, sym, ap, ◌∙◌, subst, arith}
use Rattle.std.proofs.lemmas.List.{get_or_read}
use Rattle.search_policy.specs.Scores.{Picks, IsBest}
use Rattle.search_policy.specs.Heaps.{AreShuffled, HasOpenOnes, IsHeap, IsOrder}
use Rattle.search_policy.specs.Standing.{OrderState, AllStand}
use Rattle.search_policy.proofs.StandLaws.{open_ones, stand_of, picks_none, picks_top}
use Rattle.search_policy.proofs.order.Order.pick_from_heap.Goals.{then-count-eq0, else-count-eq0}
use Rattle.search_policy.proofs.order.Order.pick_from_heap.Goals as goal

pub settle-count-requires-clause-stand : goal.settle-count-requires-clause-stand
settle-count-requires-clause-stand c =
    let k = c.self.invariant.2 in
    let a = subst (λ (o : OrderState). AllStand o c.args.trail.now) (sym c.self.view_is) c.requires in
    subst (λ (xs : List ℕ). HasOpenOnes (length xs) c.args.trail.now.entries c.self.inside.heap.places.items c.self.inside.count) (sym c.as_slice.ensures.value)
    (open_ones _ _ _ _ _ k.shuffled.place_count a)

pub returns-clause-picks : goal.returns-clause-picks
returns-clause-picks c =
    let k = c.self.invariant.2 in
    let e = c.settle-count.ensures in
    let same = c.as_slice.ensures.value in
    let scores = c.self.inside.scores.items in
    let cells = c.settle-count.new.heap.cells.items in
    let places = c.settle-count.new.heap.places.items in
    let entries = c.args.trail.now.entries in
    let count = c.settle-count.result in
    let shuffled = subst (λ (xs : List ℕ). AreShuffled (length xs) cells places) same e.order.shuffled in
    let heap = subst (λ (xs : List ℕ). IsHeap xs cells count) same e.order.heap in
    let stand = subst (λ (xs : List ℕ). HasOpenOnes (length xs) entries places count) same e.stand in
    subst (λ (o : OrderState). Picks (length o.scores) o.scores entries c.if-count-eq0.result) c.self.view_is (elim c.if-count-eq0.branch [
      | then-count-eq0 w ↦ subst (λ r. Picks (length scores) scores entries r) (sym w.result-is) (picks_none (length scores) entries places count w.if-count-eq0.true stand)
      | else-count-eq0 w ↦
          let some : 0 < count = omega (arith, w.if-count-eq0.false) in
          let few : count ≤ length scores = omega (arith, e.few, k.few) in
          let top = get_or_read cells 0 _ (omega (arith, shuffled.cell_count)) w.index.ensures 0 in
          let best = picks_top scores cells places count entries shuffled heap stand some few (e.top some) in
          subst (λ r. Picks (length scores) scores entries r) (sym w.result-is)
          (subst (λ v. IsBest (length scores) scores entries v) (sym (w.new.ensures ∙ ap (λ x. x + 1) top)) best)
    ])

pub returns-clause-stand : goal.returns-clause-stand
returns-clause-stand c =
    let a = subst (λ (o : OrderState). AllStand o c.args.trail.now) (sym c.self.view_is) c.requires in
    let e = c.settle-count.ensures in
    let same = c.as_slice.ensures.value in
    stand_of _ _ _ _ _ a.variables
    (subst (λ (xs : List ℕ). length c.settle-count.new.heap.places.items ≡ length xs) same e.order.shuffled.place_count)
    (subst (λ (xs : List ℕ). HasOpenOnes (length xs) c.args.trail.now.entries c.settle-count.new.heap.places.items c.settle-count.result) same e.stand)

pub settle-count-requires-clause-order : goal.settle-count-requires-clause-order
settle-count-requires-clause-order c = rw c.as_slice.ensures.value c.self.invariant.2

pub settle-count-requires-clause-few : goal.settle-count-requires-clause-few
settle-count-requires-clause-few c = rw c.as_slice.ensures.value c.self.invariant.0

pub settle-count-requires-clause-variables : goal.settle-count-requires-clause-variables
settle-count-requires-clause-variables c = rw c.as_slice.ensures.value (subst (λ (o : OrderState). length o.scores ≡ c.args.trail.now.variables) (sym c.self.view_is) c.requires.variables)

pub invariant_of-self : goal.invariant_of-self
invariant_of-self c =
    let i = c.self.invariant in
    let e = c.settle-count.ensures in
    let cells = c.settle-count.new.heap.cells.items in
    let places = c.settle-count.new.heap.places.items in
    let order = subst (λ (xs : List ℕ). IsOrder xs cells places c.settle-count.result) c.as_slice.ensures.value e.order in
    (i.0, i.1, order, i.3)

pub new-requires : goal.new-requires
new-requires c =
    let e = c.settle-count.ensures in
    let none = c.if-count-eq0.false in
    let same = ap length c.as_slice.ensures.value in
    let inside : 0 < length c.as_slice.result.now = omega (arith, same, e.few, c.self.invariant.2.few) in
    let top = get_or_read c.settle-count.new.heap.cells.items 0 _ (omega (arith, e.order.shuffled.cell_count)) c.index.ensures 0 in
    let low = e.order.shuffled.inside 0 inside in
    record { low = omega arith; high = omega (arith, top, low, same, c.self.invariant.0) }
