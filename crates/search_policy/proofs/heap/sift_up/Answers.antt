use Rattle.std.proofs.Common.{◌<◌, ◌-◌, ◌/◌, length, refl, sym, subst, arith}
use Rattle.std.proofs.lemmas.List.{get_or_read}
use Rattle.search_policy.specs.Heaps.{item_at, AreShuffled, IsAhead}
use Rattle.search_policy.proofs.HeapLaws.{rises, risen, risen_top}
use Rattle.search_policy.proofs.ShuffleLaws.{same_then, swapped_same}
use Rattle.search_policy.proofs.heap.sift_up.Goals as goal

pub rise-preserved : goal.rise-preserved
rise-preserved c =
    let i = c.rise.invariant in
    let at = c.rise.at in
    let up = (at - 1) / 2 in
    let count = c.args.count in
    let scores = c.args.scores.now in
    let cells = c.rise.heap.cells.items in
    let some = c.rise-test.true in
    let n = i.shuffled.cell_count in
    let in_at : at < length cells = omega (arith, i.inside, c.requires.count) in
    let in_up : up < length cells = omega (arith, i.inside, c.requires.count) in
    let low = get_or_read cells at _ in_at c.index-in-rise.ensures 0 in
    let high = get_or_read cells up _ in_up c.index.ensures 0 in
    let ahead : IsAhead scores (item_at cells at) (item_at cells up) = subst (λ x. IsAhead scores x (item_at cells up)) low (subst (λ x. IsAhead scores c.index-in-rise.result.now x) high c.if-is_ahead.ensures) in
    let s = c.swap.ensures.swapped in
    record {
      shuffled = subst (λ m. AreShuffled m c.swap.new.heap.cells.items c.swap.new.heap.places.items) n c.swap.ensures.shuffled;
      rising = rises scores cells c.swap.new.heap.cells.items count at up i.rising some refl i.inside s ahead;
      inside = omega (arith, i.inside);
      same = same_then count _ cells _ i.same (swapped_same count up at cells _ (omega (arith, i.inside)) i.inside s);
    }

pub is_ahead-requires : goal.is_ahead-requires
is_ahead-requires c =
    let i = c.rise.invariant in
    let s = i.shuffled in
    let cells = c.rise.heap.cells.items in
    let up = (c.rise.at - 1) / 2 in
    let low = get_or_read cells c.rise.at _ (omega (arith, i.inside, c.requires.count, s.cell_count)) c.index-in-rise.ensures 0 in
    let high = get_or_read cells up _ (omega (arith, i.inside, c.requires.count, s.cell_count)) c.index.ensures 0 in
    let low_in = s.inside c.rise.at (omega (arith, i.inside, c.requires.count)) in
    let high_in = s.inside up (omega (arith, i.inside, c.requires.count)) in
    record { one = omega (arith, high, high_in); other = omega (arith, low, low_in) }

pub swap-requires : goal.swap-requires
swap-requires c =
    let i = c.rise.invariant in
    let s = i.shuffled in
    record {
      shuffled = subst (λ m. AreShuffled m c.rise.heap.cells.items c.rise.heap.places.items) (sym s.cell_count) s;
      few = omega (arith, s.cell_count, c.requires.few);
      i = omega (arith, i.inside, c.requires.count, s.cell_count);
      j = omega (arith, i.inside, c.requires.count, s.cell_count);
    }

pub returns-then-is_ahead : goal.returns-then-is_ahead
returns-then-is_ahead c =
    let i = c.rise.invariant in
    let scores = c.args.scores.now in
    let cells = c.rise.heap.cells.items in
    let up = (c.rise.at - 1) / 2 in
    let low = get_or_read cells c.rise.at _ (omega (arith, i.inside, c.requires.count, i.shuffled.cell_count)) c.index-in-rise.ensures 0 in
    let high = get_or_read cells up _ (omega (arith, i.inside, c.requires.count, i.shuffled.cell_count)) c.index.ensures 0 in
    let ahead : IsAhead scores (item_at cells up) (item_at cells c.rise.at) =
    subst (λ x. IsAhead scores x (item_at cells c.rise.at)) high (subst (λ x. IsAhead scores c.index.result.now x) low c.if-is_ahead.ensures) in
    record { shuffled = i.shuffled; heap = risen scores cells c.args.count c.rise.at up refl ahead i.rising; same = i.same }

pub returns : goal.returns
returns c =
    let i = c.rise.invariant in
    record {
      shuffled = i.shuffled;
      heap = risen_top c.args.scores.now c.rise.heap.cells.items c.args.count c.rise.at (omega (arith, c.rise-test.false)) i.rising;
      same = i.same;
    }
