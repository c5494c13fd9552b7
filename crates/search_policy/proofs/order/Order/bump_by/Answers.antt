use Rattle.std.proofs.Common.{◌≡◌, ℕ, ◌-◌, ◌/◌, ◌<◌, ◌≤◌, Bool, List, length, map, nat_lt, sym, ap, ◌∙◌, subst, arith}
use Rattle.std.proofs.lemmas.List.{get_or_read, length-set, length-map}
use Rattle.std.proofs.lemmas.List.Elements.{All-get_or}
use Rattle.search_policy.specs.declared.scores.TheConstants.{SCORE_LIMIT}
use Rattle.search_policy.specs.Bumps.{IsRaised, IsHalved}
use Rattle.search_policy.specs.Heaps.{AreShuffled, IsHeap, IsOrder, IsRising}
use Rattle.search_policy.specs.Standing.{OrderState, bumped_times}
use Rattle.search_policy.proofs.BumpLaws.{are_raised, are_halved}
use Rattle.search_policy.proofs.HeapLaws.{raised_outside, raised_rises}
use Rattle.search_policy.proofs.ShuffleLaws.{same_standing}
use Rattle.search_policy.proofs.order.Order.bump_by.Goals.{After-raise, After-rebuild, After-sift_up}
use Rattle.search_policy.proofs.order.Order.bump_by.Goals as goal

raised_long : (old new : List ℕ) (i times : ℕ) → IsRaised old i times new → length new ≡ length old
raised_long old new i times r = ap length r.scores ∙ length-set old i _

halved_long : (old new : List ℕ) (i times : ℕ) → IsHalved old i times new → length new ≡ length old
halved_long old new i times h = ap length h.scores ∙ length-set (map (λ s. s / 2) old) i _ ∙ length-map old (λ s. s / 2)

-- the variable is one of the order's
inside : (c : After-raise) → c.args.variable - 1 < length c.self.inside.scores.items
inside c = omega (arith, c.requires.low, subst (λ (o : OrderState). c.args.variable ≤ length o.scores) (sym c.self.view_is) c.requires.high)

place : (c : After-raise) → c.number.result - 1 ≡ c.args.variable - 1
place c = ap (λ x. x - 1) c.number.ensures.number

-- ---- all scores were halved
standing_rebuilt : (c : After-rebuild) → map (λ p. nat_lt p c.self.inside.count) c.rebuild.new.heap.places.items ≡ map (λ p. nat_lt p c.self.inside.count) c.self.inside.heap.places.items
standing_rebuilt c =
    let old = c.self.inside.scores.items in
    let long : length c.as_slice.result.now ≡ length old = ap length c.as_slice.ensures.value ∙ halved_long old _ _ _ c.if-raise.ensures.raised in
    let shuffled = subst (λ n. AreShuffled n c.rebuild.new.heap.cells.items c.rebuild.new.heap.places.items) long c.rebuild.ensures.shuffled in
    same_standing (length old) c.self.inside.count _ _ _ _ c.self.invariant.2.shuffled shuffled c.rebuild.ensures.same

pub returns-then-raise-clause-standing : goal.returns-then-raise-clause-standing
returns-then-raise-clause-standing c =
    let r = (goal.at.returns-then-raise-clause-standing c).After-rebuild in
    standing_rebuilt r ∙ ap (λ (o : OrderState). o.standing) c.self.view_is

pub returns-then-raise-clause-bumped : goal.returns-then-raise-clause-bumped
returns-then-raise-clause-bumped c =
    let r = (goal.at.returns-then-raise-clause-bumped c).After-raise in
    let b = (goal.at.returns-then-raise-clause-bumped c).After-rebuild in
    let old = c.self.inside.scores.items in
    let v = c.args.variable in
    let new = c.raise.new.scores.items in
    let small = All-get_or (λ s. s < SCORE_LIMIT) old (v - 1) 0 (inside r) c.self.invariant.1 in
    let halved = subst (λ i. IsHalved old i c.args.times new) (place r) c.if-raise.ensures.raised in
    ap (λ (b : List Bool). record { scores = new; standing = b; weight = c.self.inside.weight / 2 }) (standing_rebuilt b)
    ∙ are_halved _ _ old v c.args.times new (inside r) small c.requires.few halved
    ∙ ap (λ o. bumped_times o v c.args.times) c.self.view_is

-- ---- none were
pub sift_up-requires-clause-rising : goal.sift_up-requires-clause-rising
sift_up-requires-clause-rising c =
    let k = c.self.invariant.2 in
    let old = c.self.inside.scores.items in
    let v = c.number.result - 1 in
    let r = (goal.at.sift_up-requires-clause-rising c).After-raise in
    let within : v < length old = subst (λ i. i < length old) (sym (place r)) (inside r) in
    let at = get_or_read c.self.inside.heap.places.items v _ (omega (arith, k.shuffled.place_count)) c.index.ensures 0 in
    subst (λ (xs : List ℕ). IsRising xs c.self.inside.heap.cells.items c.self.inside.count c.index.result.now) (sym (c.as_slice-then-place-self.ensures.value ∙ c.if-raise.ensures.raised.scores))
    (raised_rises old _ _ _ v c.args.times _ k.shuffled k.few within (sym at) k.heap)

standing_risen : (c : After-sift_up) → map (λ p. nat_lt p c.self.inside.count) c.sift_up.new.heap.places.items ≡ map (λ p. nat_lt p c.self.inside.count) c.self.inside.heap.places.items
standing_risen c =
    let old = c.self.inside.scores.items in
    let long : length c.as_slice-then-place-self.result.now ≡ length old = ap length c.as_slice-then-place-self.ensures.value ∙ raised_long old _ _ _ c.if-raise.ensures.raised in
    let shuffled = subst (λ n. AreShuffled n c.sift_up.new.heap.cells.items c.sift_up.new.heap.places.items) long c.sift_up.ensures.shuffled in
    same_standing (length old) c.self.inside.count _ _ _ _ c.self.invariant.2.shuffled shuffled c.sift_up.ensures.same

pub returns-then-place-self-clause-standing : goal.returns-then-place-self-clause-standing
returns-then-place-self-clause-standing c = standing_risen (goal.at.returns-then-place-self-clause-standing c).After-sift_up ∙ ap (λ (o : OrderState). o.standing) c.self.view_is

pub returns-then-place-self-clause-bumped : goal.returns-then-place-self-clause-bumped
returns-then-place-self-clause-bumped c =
    let r = (goal.at.returns-then-place-self-clause-bumped c).After-raise in
    let s = (goal.at.returns-then-place-self-clause-bumped c).After-sift_up in
    let old = c.self.inside.scores.items in
    let v = c.args.variable in
    let new = c.raise.new.scores.items in
    let raised = subst (λ i. IsRaised old i c.args.times new) (place r) c.if-raise.ensures.raised in
    ap (λ (b : List Bool). record { scores = new; standing = b; weight = c.self.inside.weight }) (standing_risen s)
    ∙ are_raised _ _ old v c.args.times new (inside r) raised
    ∙ ap (λ o. bumped_times o v c.args.times) c.self.view_is

pub returns-else-place-self-clause-bumped : goal.returns-else-place-self-clause-bumped
returns-else-place-self-clause-bumped c =
    let r = (goal.at.returns-else-place-self-clause-bumped c).After-raise in
    let old = c.self.inside.scores.items in
    let v = c.args.variable in
    let new = c.raise.new.scores.items in
    let raised = subst (λ i. IsRaised old i c.args.times new) (place r) c.if-raise.ensures.raised in
    are_raised _ _ old v c.args.times new (inside r) raised ∙ ap (λ o. bumped_times o v c.args.times) c.self.view_is

-- ---- what the calls need, and what the order keeps
pub raise-requires : goal.raise-requires
raise-requires c =
    let high = subst (λ (o : OrderState). c.args.variable ≤ length o.scores) (sym c.self.view_is) c.requires.high in
    record {
      at = omega (arith, c.requires.low, high, c.number.ensures.number);
      small = c.self.invariant.1;
      few = c.requires.few;
    }

pub rebuild-requires : goal.rebuild-requires
rebuild-requires c =
    let k = c.self.invariant.2 in
    let long : length c.as_slice.result.now ≡ length c.self.inside.scores.items = ap length c.as_slice.ensures.value ∙ halved_long c.self.inside.scores.items _ _ _ c.if-raise.ensures.raised in
    record {
      shuffled = subst (λ n. AreShuffled n c.self.inside.heap.cells.items c.self.inside.heap.places.items) (sym long) k.shuffled;
      few = omega (arith, long, c.self.invariant.0);
      count = omega (arith, long, k.few);
    }

pub invariant_of-self : goal.invariant_of-self
invariant_of-self c =
    let i = c.self.invariant in
    let e = c.rebuild.ensures in
    let cells = c.rebuild.new.heap.cells.items in
    let places = c.rebuild.new.heap.places.items in
    let long = halved_long c.self.inside.scores.items _ _ _ c.if-raise.ensures.raised in
    let few : c.self.inside.count ≤ length c.as_slice.result.now = omega (arith, ap length c.as_slice.ensures.value, long, i.2.few) in
    let order = subst (λ (xs : List ℕ). IsOrder xs cells places c.self.inside.count) c.as_slice.ensures.value (record { shuffled = e.shuffled; heap = e.heap; few = few }) in
    (omega (arith, long, i.0), c.if-raise.ensures.small, order, omega (arith, i.3))

pub returns-then-raise-clause-count : goal.returns-then-raise-clause-count
returns-then-raise-clause-count c = halved_long c.self.inside.scores.items _ _ _ c.if-raise.ensures.raised ∙ ap (λ (o : OrderState). length o.scores) c.self.view_is

pub sift_up-requires-clause-shuffled : goal.sift_up-requires-clause-shuffled
sift_up-requires-clause-shuffled c =
    let long : length c.as_slice-then-place-self.result.now ≡ length c.self.inside.scores.items = ap length c.as_slice-then-place-self.ensures.value ∙ raised_long c.self.inside.scores.items _ _ _ c.if-raise.ensures.raised in
    subst (λ n. AreShuffled n c.self.inside.heap.cells.items c.self.inside.heap.places.items) (sym long) c.self.invariant.2.shuffled

pub sift_up-requires-clause-few : goal.sift_up-requires-clause-few
sift_up-requires-clause-few c =
    let long : length c.as_slice-then-place-self.result.now ≡ length c.self.inside.scores.items = ap length c.as_slice-then-place-self.ensures.value ∙ raised_long c.self.inside.scores.items _ _ _ c.if-raise.ensures.raised in
    omega (arith, long, c.self.invariant.0)

pub sift_up-requires-clause-count : goal.sift_up-requires-clause-count
sift_up-requires-clause-count c =
    let long : length c.as_slice-then-place-self.result.now ≡ length c.self.inside.scores.items = ap length c.as_slice-then-place-self.ensures.value ∙ raised_long c.self.inside.scores.items _ _ _ c.if-raise.ensures.raised in
    omega (arith, long, c.self.invariant.2.few)

pub index-requires : goal.index-requires
index-requires c =
    let high = subst (λ (o : OrderState). c.args.variable ≤ length o.scores) (sym c.self.view_is) c.requires.high in
    omega (arith, c.requires.low, high, c.number.ensures.number, c.self.invariant.2.shuffled.place_count, c.self.inside.heap.places.ok.0)

pub invariant_of-self-then-place-self : goal.invariant_of-self-then-place-self
invariant_of-self-then-place-self c =
    let i = c.self.invariant in
    let e = c.sift_up.ensures in
    let cells = c.sift_up.new.heap.cells.items in
    let places = c.sift_up.new.heap.places.items in
    let long = raised_long c.self.inside.scores.items _ _ _ c.if-raise.ensures.raised in
    let few : c.self.inside.count ≤ length c.as_slice-then-place-self.result.now = omega (arith, ap length c.as_slice-then-place-self.ensures.value, long, i.2.few) in
    let order = subst (λ (xs : List ℕ). IsOrder xs cells places c.self.inside.count) c.as_slice-then-place-self.ensures.value (record { shuffled = e.shuffled; heap = e.heap; few = few }) in
    (omega (arith, long, i.0), c.if-raise.ensures.small, order, i.3)

pub invariant_of-self-else-place-self : goal.invariant_of-self-else-place-self
invariant_of-self-else-place-self c =
    let i = c.self.invariant in
    let k = i.2 in
    let old = c.self.inside.scores.items in
    let v = c.number.result - 1 in
    let cells = c.self.inside.heap.cells.items in
    let places = c.self.inside.heap.places.items in
    let count = c.self.inside.count in
    let r = c.if-raise.ensures.raised in
    let long = raised_long old _ _ _ r in
    let high = subst (λ (o : OrderState). c.args.variable ≤ length o.scores) (sym c.self.view_is) c.requires.high in
    let within : v < length old = omega (arith, c.requires.low, high, c.number.ensures.number) in
    let at = get_or_read places v _ (omega (arith, k.shuffled.place_count)) c.index.ensures 0 in
    let heap = subst (λ (xs : List ℕ). IsHeap xs cells count) (sym r.scores) (raised_outside old cells places count v c.args.times c.index.result.now k.shuffled k.few within (sym at) c.if-place-self.false k.heap) in
    let shuffled = subst (λ n. AreShuffled n cells places) (sym long) k.shuffled in
    (omega (arith, long, i.0), c.if-raise.ensures.small, record { shuffled = shuffled; heap = heap; few = omega (arith, long, k.few) }, i.3)

pub returns-then-place-self-clause-count : goal.returns-then-place-self-clause-count
returns-then-place-self-clause-count c = raised_long c.self.inside.scores.items _ _ _ c.if-raise.ensures.raised ∙ ap (λ (o : OrderState). length o.scores) c.self.view_is

pub returns-else-place-self-clause-count : goal.returns-else-place-self-clause-count
returns-else-place-self-clause-count c = raised_long c.self.inside.scores.items _ _ _ c.if-raise.ensures.raised ∙ ap (λ (o : OrderState). length o.scores) c.self.view_is
