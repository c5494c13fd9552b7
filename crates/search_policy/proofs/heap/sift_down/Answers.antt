use Rattle.std.proofs.Common.{◌<◌, length, sym, subst, arith}
use Rattle.std.proofs.lemmas.List.{get_or_read}
use Rattle.search_policy.specs.Heaps.{item_at, AreShuffled, IsAhead}
use Rattle.search_policy.proofs.HeapLaws.{sinks, sunk, sunk_end}
use Rattle.search_policy.proofs.ShuffleLaws.{same_then, swapped_same}
use Rattle.search_policy.proofs.heap.sift_down.Goals as goal

pub sink-preserved : goal.sink-preserved
sink-preserved c =
    let i = c.sink.invariant in
    let at = c.sink.at in
    let child = c.better_child-child.result in
    let b = c.better_child-child.ensures in
    let count = c.args.count in
    let scores = c.args.scores.now in
    let cells = c.sink.heap.cells.items in
    let n = i.shuffled.cell_count in
    let in_child : child < length cells = omega (arith, b.within, c.requires.count) in
    let below : at < count = omega (arith, c.sink-test.true) in
    let in_at : at < length cells = omega (arith, c.requires.count) in
    let low = get_or_read cells child _ in_child c.index-in-sink.ensures 0 in
    let high = get_or_read cells at _ in_at c.index.ensures 0 in
    let ahead : IsAhead scores (item_at cells child) (item_at cells at) = subst (λ x. IsAhead scores x (item_at cells at)) low (subst (λ x. IsAhead scores c.index-in-sink.result.now x) high c.if-is_ahead.ensures) in
    let s = c.swap.ensures.swapped in
    record {
      shuffled = subst (λ m. AreShuffled m c.swap.new.heap.cells.items c.swap.new.heap.places.items) n c.swap.ensures.shuffled;
      sinking = sinks scores cells c.swap.new.heap.cells.items count at child i.sinking b s ahead;
      inside = omega (arith, b.within);
      same = same_then count _ cells _ i.same (swapped_same count at child cells _ below b.within s);
    }

pub is_ahead-requires : goal.is_ahead-requires
is_ahead-requires c =
    let s = c.sink.invariant.shuffled in
    let cells = c.sink.heap.cells.items in
    let child = c.better_child-child.result in
    let below : c.sink.at < c.args.count = omega (arith, c.sink-test.true) in
    let b = c.better_child-child.ensures in
    let high = get_or_read cells c.sink.at _ (omega (arith, c.requires.count, s.cell_count)) c.index.ensures 0 in
    let low = get_or_read cells child _ (omega (arith, b.within, c.requires.count, s.cell_count)) c.index-in-sink.ensures 0 in
    let high_in = s.inside c.sink.at (omega (arith, c.requires.count)) in
    let low_in = s.inside child (omega (arith, b.within, c.requires.count)) in
    record { one = omega (arith, high, high_in); other = omega (arith, low, low_in) }

pub swap-requires : goal.swap-requires
swap-requires c =
    let s = c.sink.invariant.shuffled in
    record {
      shuffled = subst (λ m. AreShuffled m c.sink.heap.cells.items c.sink.heap.places.items) (sym s.cell_count) s;
      few = omega (arith, s.cell_count, c.requires.few);
      i = omega (arith, c.sink-test.true, c.requires.count, s.cell_count);
      j = omega (arith, c.better_child-child.ensures.within, c.requires.count, s.cell_count);
    }

pub returns-then-is_ahead : goal.returns-then-is_ahead
returns-then-is_ahead c =
    let i = c.sink.invariant in
    let scores = c.args.scores.now in
    let cells = c.sink.heap.cells.items in
    let child = c.better_child-child.result in
    let b = c.better_child-child.ensures in
    let below : c.sink.at < c.args.count = omega (arith, c.sink-test.true) in
    let high = get_or_read cells c.sink.at _ (omega (arith, c.requires.count, i.shuffled.cell_count)) c.index.ensures 0 in
    let low = get_or_read cells child _ (omega (arith, b.within, c.requires.count, i.shuffled.cell_count)) c.index-in-sink.ensures 0 in
    let ahead : IsAhead scores (item_at cells c.sink.at) (item_at cells child) =
    subst (λ x. IsAhead scores x (item_at cells child)) high (subst (λ x. IsAhead scores c.index.result.now x) low c.if-is_ahead.ensures) in
    record { shuffled = i.shuffled; heap = sunk scores cells c.args.count c.sink.at child b ahead i.sinking; same = i.same }

pub returns : goal.returns
returns c =
    let i = c.sink.invariant in
    record {
      shuffled = i.shuffled;
      heap = sunk_end c.args.scores.now c.sink.heap.cells.items c.args.count c.sink.at (omega (arith, c.sink-test.false)) i.sinking;
      same = i.same;
    }
