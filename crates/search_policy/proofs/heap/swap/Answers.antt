use Rattle.std.proofs.Common.{◌≡◌, length, sym, arith}
use Rattle.std.proofs.lemmas.List.{get_or_read}
use Rattle.search_policy.specs.Heaps.{item_at}
use Rattle.search_policy.proofs.ShuffleLaws.{cells_swapped, shuffled_swapped}
use Rattle.search_policy.proofs.heap.swap.Goals as goal

pub index_mut-requires-3 : goal.index_mut-requires-3
index_mut-requires-3 c =
    let s = c.requires.shuffled in
    let other = get_or_read c.args.heap.now.cells.items c.args.j _ c.requires.j c.index-other.ensures 0 in
    let inside = s.inside c.args.j c.requires.j in
    omega (arith, other, inside, s.place_count, c.args.heap.now.places.ok.0)

pub index_mut-requires-4 : goal.index_mut-requires-4
index_mut-requires-4 c =
    let s = c.requires.shuffled in
    let one = get_or_read c.args.heap.now.cells.items c.args.i _ c.requires.i c.index-one.ensures 0 in
    let inside = s.inside c.args.i c.requires.i in
    omega (arith, one, inside, s.place_count, c.args.heap.now.places.ok.0)

pub returns : goal.returns
returns c =
    let cells = c.args.heap.now.cells.items in
    let places = c.args.heap.now.places.items in
    let i = c.args.i in
    let j = c.args.j in
    let one : item_at cells i ≡ c.index-one.result.now = sym (get_or_read cells i _ c.requires.i c.index-one.ensures 0) in
    let other : item_at cells j ≡ c.index-other.result.now = sym (get_or_read cells j _ c.requires.j c.index-other.ensures 0) in
    rw (sym one, sym other)
    (record {
      shuffled = shuffled_swapped (length cells) cells places i j c.requires.shuffled c.requires.i c.requires.j;
      swapped = cells_swapped cells i j c.requires.i c.requires.j;
    })
