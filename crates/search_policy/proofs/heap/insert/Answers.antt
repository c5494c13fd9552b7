use Rattle.std.proofs.Common.{◌≡◌, ◌∙◌, ◌+◌, length, ap, sym, subst, arith}
use Rattle.std.proofs.lemmas.List.{get_or_read}
use Rattle.search_policy.specs.Heaps.{item_at, AreShuffled}
use Rattle.search_policy.proofs.HeapLaws.{inserted_rises}
use Rattle.search_policy.proofs.ShuffleLaws.{stays_below}
use Rattle.search_policy.proofs.heap.insert.Goals as goal

pub swap-requires : goal.swap-requires
swap-requires c =
    let s = c.requires.order.shuffled in
    let from = get_or_read c.args.heap.now.places.items c.args.index _ (omega (arith, s.place_count, c.requires.index)) c.index.ensures 0 in
    let inside = s.in_cells c.args.index c.requires.index in
    record {
      shuffled = subst (λ m. AreShuffled m c.args.heap.now.cells.items c.args.heap.now.places.items) (sym s.cell_count) s;
      few = omega (arith, s.cell_count, c.requires.few);
      i = omega (arith, s.cell_count, from, inside, c.if-from-count.false);
      j = omega (arith, s.cell_count, from, inside);
    }

pub sift_up-requires : goal.sift_up-requires
sift_up-requires c =
    let s = c.requires.order.shuffled in
    let from = get_or_read c.args.heap.now.places.items c.args.index _ (omega (arith, s.place_count, c.requires.index)) c.index.ensures 0 in
    let inside = s.in_cells c.args.index c.requires.index in
    record {
      shuffled = subst (λ m. AreShuffled m c.swap.new.heap.cells.items c.swap.new.heap.places.items) s.cell_count c.swap.ensures.shuffled;
      few = c.requires.few;
      count = omega (arith, from, inside, c.if-from-count.false);
      start = omega arith;
      rising = inserted_rises c.args.scores.now c.args.heap.now.cells.items c.swap.new.heap.cells.items c.args.count c.index.result.now c.requires.order.heap c.if-from-count.false c.swap.ensures.swapped;
    }

pub returns : goal.returns
returns c =
    let n = length c.args.scores.now in
    let s = c.requires.order.shuffled in
    let k = c.args.count in
    let cells = c.args.heap.now.cells.items in
    let places = c.args.heap.now.places.items in
    let risen = c.sift_up.ensures in
    let middle = subst (λ m. AreShuffled m c.swap.new.heap.cells.items c.swap.new.heap.places.items) s.cell_count c.swap.ensures.shuffled in
    let w = c.swap.ensures.swapped in
    let from = get_or_read places c.args.index _ (omega (arith, s.place_count, c.requires.index)) c.index.ensures 0 in
    let inside = s.in_cells c.args.index c.requires.index in
    let after = stays_below n (k + 1) c.swap.new.heap.cells.items c.swap.new.heap.places.items c.sift_up.new.heap.cells.items c.sift_up.new.heap.places.items middle risen.shuffled risen.same in
    record {
      order = record { shuffled = risen.shuffled; heap = risen.heap; few = omega (arith, from, inside, c.if-from-count.false) };
      stays = λ v h b.
          let p = item_at places v in
          let here : item_at c.swap.new.heap.cells.items p ≡ v = w.others p (λ e. omega arith) (λ e. omega (arith, c.if-from-count.false)) ∙ s.has v h in
          let place : item_at c.swap.new.heap.places.items v ≡ p = ap (item_at c.swap.new.heap.places.items) (sym here) ∙ middle.placed p (s.in_cells v h) in
          after v h (omega (arith, place));
      put =
          let there : item_at c.swap.new.heap.cells.items k ≡ c.args.index = w.first ∙ ap (item_at cells) from ∙ s.has c.args.index c.requires.index in
          let place : item_at c.swap.new.heap.places.items c.args.index ≡ k = ap (item_at c.swap.new.heap.places.items) (sym there) ∙ middle.placed k (omega (arith, from, inside, c.if-from-count.false)) in
          after c.args.index c.requires.index (omega (arith, place));
    }
