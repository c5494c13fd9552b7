use Rattle.std.proofs.Common.{◌≡◌, ℕ, ◌<◌, List, length, map, nat_lt, sym, ◌∙◌, subst}
use Rattle.search_policy.specs.Heaps.{item_at, HasOpenOnes, IsOrder}
use Rattle.search_policy.specs.Standing.{OrderState, AllStand}
use Rattle.search_policy.proofs.StandLaws.{open_ones, stand_of, back_stand}
use Rattle.search_policy.proofs.order.Order.back_to.Goals.{After-put_back-self-inside}
use Rattle.search_policy.proofs.order.Order.back_to.Goals as goal

-- the variables that were in the heap still are
stays : (c : After-put_back-self-inside) → (v : ℕ) → v < length c.self.inside.scores.items → item_at c.self.inside.heap.places.items v < c.self.inside.count → item_at c.put_back-self-inside.new.heap.places.items v < c.put_back-self-inside.result
stays c = subst (λ (xs : List ℕ). (v : ℕ) → v < length xs → item_at c.self.inside.heap.places.items v < c.self.inside.count → item_at c.put_back-self-inside.new.heap.places.items v < c.put_back-self-inside.result) c.as_slice.ensures.value c.put_back-self-inside.ensures.stays

long : (c : After-put_back-self-inside) → length c.put_back-self-inside.new.heap.places.items ≡ length c.self.inside.scores.items
long c = subst (λ (xs : List ℕ). length c.put_back-self-inside.new.heap.places.items ≡ length xs) c.as_slice.ensures.value c.put_back-self-inside.ensures.order.shuffled.place_count

stood : (c : After-put_back-self-inside) → AllStand (record { scores = c.self.inside.scores.items; standing = map (λ p. nat_lt p c.self.inside.count) c.self.inside.heap.places.items; weight = c.self.inside.weight }) c.args.trail.now
stood c = subst (λ (o : OrderState). AllStand o c.args.trail.now) (sym c.self.view_is) c.requires

open_stood : (c : After-put_back-self-inside) → HasOpenOnes (length c.self.inside.scores.items) c.args.trail.now.entries c.self.inside.heap.places.items c.self.inside.count
open_stood c = open_ones _ _ _ _ _ c.self.invariant.2.shuffled.place_count (stood c)

pub returns-clause-stand : goal.returns-clause-stand
returns-clause-stand c =
    let put = (goal.at.returns-clause-stand c).After-put_back-self-inside in
    stand_of _ _ _ _ _ (stood put).variables (long put) (λ v h o. stays put v h (open_stood put v h o))

pub returns-clause-back : goal.returns-clause-back
returns-clause-back c = λ u b.
    let put = (goal.at.returns-clause-back c).After-put_back-self-inside in
    stand_of _ _ _ _ u ((stood put).variables ∙ sym b.variables) (long put) (back_stand _ c.args.level _ _ _ _ c.args.trail.now u b (open_stood put) (stays put) c.put_back-self-inside.ensures.put)

pub put_back-self-inside-requires : goal.put_back-self-inside-requires
put_back-self-inside-requires c =
    let i = c.self.invariant in
    let variables = subst (λ (o : OrderState). length o.scores ≡ c.args.trail.now.variables) (sym c.self.view_is) c.requires.variables in
    rw c.as_slice.ensures.value
    (record {
      order = i.2;
      few = i.0;
      variables = variables;
    })

pub invariant_of-self : goal.invariant_of-self
invariant_of-self c =
    let i = c.self.invariant in
    let e = c.put_back-self-inside.ensures in
    let cells = c.put_back-self-inside.new.heap.cells.items in
    let places = c.put_back-self-inside.new.heap.places.items in
    let order : IsOrder c.self.inside.scores.items cells places c.put_back-self-inside.result =
    subst (λ (xs : List ℕ). IsOrder xs cells places c.put_back-self-inside.result) c.as_slice.ensures.value e.order in
    (i.0, i.1, order, i.3)
