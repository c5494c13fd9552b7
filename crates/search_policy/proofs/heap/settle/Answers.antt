use Rattle.std.proofs.Common.{◌≡◌, ◌<◌, ◌+◌, ◌-◌, length, sym, subst, arith}
use Rattle.std.proofs.lemmas.List.{get_or_read}
use Rattle.cx_trail.specs.Sequence.{IsOpenIn}
use Rattle.search_policy.specs.Heaps.{AreShuffled, HasOpenOnes, IsHeap}
use Rattle.search_policy.proofs.HeapLaws.{popped_sinks}
use Rattle.search_policy.proofs.ShuffleLaws.{popped_stand}
use Rattle.search_policy.proofs.heap.settle.Goals as goal

pub index-requires : goal.index-requires
index-requires c = let i = c.top.invariant in omega (arith, c.top-test.true, i.few, c.requires.order.few, i.shuffled.cell_count)

pub is_assigned-requires : goal.is_assigned-requires
is_assigned-requires c =
    let i = c.top.invariant in
    let in_cells : 0 < length c.top.heap.cells.items = omega (arith, c.top-test.true, i.few, c.requires.order.few, i.shuffled.cell_count) in
    let top = get_or_read c.top.heap.cells.items 0 _ in_cells c.index.ensures 0 in
    let inside = i.shuffled.inside 0 (omega (arith, i.shuffled.cell_count)) in
    omega (arith, top, inside, c.requires.variables)

pub swap-requires : goal.swap-requires
swap-requires c =
    let i = c.top.invariant in
    record {
      shuffled = subst (λ m. AreShuffled m c.top.heap.cells.items c.top.heap.places.items) (sym i.shuffled.cell_count) i.shuffled;
      few = omega (arith, i.shuffled.cell_count, c.requires.few);
      i = omega (arith, c.top-test.true, i.few, c.requires.order.few, i.shuffled.cell_count);
      j = omega (arith, c.top-test.true, i.few, c.requires.order.few, i.shuffled.cell_count);
    }

pub sift_down-requires : goal.sift_down-requires
sift_down-requires c =
    let i = c.top.invariant in
    let left = c.top.left - 1 in
    let scores = c.args.scores.now in
    let back : c.top.left ≡ left + 1 = omega (arith, c.top-test.true) in
    record {
      shuffled = subst (λ m. AreShuffled m c.swap.new.heap.cells.items c.swap.new.heap.places.items) i.shuffled.cell_count c.swap.ensures.shuffled;
      few = c.requires.few;
      count = omega (arith, i.few, c.requires.order.few);
      start = omega arith;
      sinking = popped_sinks scores c.top.heap.cells.items c.swap.new.heap.cells.items left (subst (IsHeap scores c.top.heap.cells.items) back i.ordered) c.swap.ensures.swapped;
    }

pub top-preserved : goal.top-preserved
top-preserved c =
    let i = c.top.invariant in
    let left = c.top.left - 1 in
    let cells = c.top.heap.cells.items in
    let entries = c.args.trail.now.entries in
    let back : c.top.left ≡ left + 1 = omega (arith, c.top-test.true) in
    let in_cells : 0 < length cells = omega (arith, c.top-test.true, i.few, c.requires.order.few, i.shuffled.cell_count) in
    let top = get_or_read cells 0 _ in_cells c.index.ensures 0 in
    record {
      shuffled = c.sift_down.ensures.shuffled;
      ordered = c.sift_down.ensures.heap;
      stand = popped_stand _ entries cells c.top.heap.places.items c.swap.new.heap.cells.items c.sift_down.new.heap.cells.items c.sift_down.new.heap.places.items left i.shuffled c.sift_down.ensures.shuffled c.swap.ensures.swapped c.sift_down.ensures.same
          (subst (λ x. IsOpenIn entries (x + 1) → ⊥) top c.if-is_assigned.ensures)
          (subst (λ k. HasOpenOnes (length c.args.scores.now) entries c.top.heap.places.items k) back i.stand);
      few = omega (arith, i.few);
    }

pub returns-else-is_assigned : goal.returns-else-is_assigned
returns-else-is_assigned c =
    let i = c.top.invariant in
    let in_cells : 0 < length c.top.heap.cells.items = omega (arith, c.top-test.true, i.few, c.requires.order.few, i.shuffled.cell_count) in
    let top = get_or_read c.top.heap.cells.items 0 _ in_cells c.index.ensures 0 in
    record {
      order = record { shuffled = i.shuffled; heap = i.ordered; few = omega (arith, i.few, c.requires.order.few) };
      stand = i.stand;
      few = i.few;
      top = λ some. subst (λ x. IsOpenIn c.args.trail.now.entries (x + 1)) top c.if-is_assigned.ensures;
    }

pub returns-after-top : goal.returns-after-top
returns-after-top c =
    let i = c.top.invariant in
    let none = c.top-test.false in
    record {
      order = record { shuffled = i.shuffled; heap = i.ordered; few = omega (arith, i.few, c.requires.order.few) };
      stand = i.stand;
      few = i.few;
      top = λ some. absurd (omega arith);
    }
