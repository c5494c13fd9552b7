use Rattle.std.proofs.Common.{◌+◌, subst, arith}
use Rattle.std.proofs.lemmas.List.{get_or_read}
use Rattle.search_policy.specs.Heaps.{item_at, IsAhead}
use Rattle.search_policy.proofs.HeapLaws.{first_is_better, only_child, second_is_better}
use Rattle.search_policy.proofs.heap.better_child.Goals as goal
use Rattle.search_policy.proofs.heap.better_child.Goals.{else-second-count-via-then-second-count+else-is_ahead, else-second-count-via-else-second-count}

pub is_ahead-requires : goal.is_ahead-requires
is_ahead-requires c =
    let s = c.requires.shuffled in
    let cells = c.args.heap.now.cells.items in
    let second = get_or_read cells (c.args.first + 1) _ (omega (arith, s.cell_count, c.requires.count, c.if-second-count.true)) c.index.ensures 0 in
    let first = get_or_read cells c.args.first _ (omega (arith, s.cell_count, c.requires.count, c.requires.first)) c.index-then-second-count.ensures 0 in
    let second_in = s.inside (c.args.first + 1) (omega (arith, c.requires.count, c.if-second-count.true)) in
    let first_in = s.inside c.args.first (omega (arith, c.requires.count, c.requires.first)) in
    record { one = omega (arith, second, second_in); other = omega (arith, first, first_in) }

pub returns-then-is_ahead : goal.returns-then-is_ahead
returns-then-is_ahead c =
    let s = c.requires.shuffled in
    let scores = c.args.scores.now in
    let cells = c.args.heap.now.cells.items in
    let second = get_or_read cells (c.args.first + 1) _ (omega (arith, s.cell_count, c.requires.count, c.if-second-count.true)) c.index.ensures 0 in
    let first = get_or_read cells c.args.first _ (omega (arith, s.cell_count, c.requires.count, c.requires.first)) c.index-then-second-count.ensures 0 in
    second_is_better scores cells c.args.count c.args.first c.if-second-count.true
    (subst (λ x. IsAhead scores x (item_at cells c.args.first)) second (subst (λ x. IsAhead scores c.index.result.now x) first c.if-is_ahead.ensures))

pub returns-else-second-count : goal.returns-else-second-count
returns-else-second-count c =
    let s = c.requires.shuffled in
    let scores = c.args.scores.now in
    let cells = c.args.heap.now.cells.items in
    elim c.else-second-count.branch [
      | else-second-count-via-then-second-count+else-is_ahead w ↦
          let second = get_or_read cells (c.args.first + 1) _ (omega (arith, s.cell_count, c.requires.count, w.if-second-count.true)) w.index.ensures 0 in
          let first = get_or_read cells c.args.first _ (omega (arith, s.cell_count, c.requires.count, c.requires.first)) w.index-then-second-count.ensures 0 in
          first_is_better scores cells c.args.count c.args.first c.requires.first
          (subst (λ x. IsAhead scores x (item_at cells (c.args.first + 1))) first (subst (λ x. IsAhead scores w.index-then-second-count.result.now x) second w.if-is_ahead.ensures))
      | else-second-count-via-else-second-count w ↦ only_child scores cells c.args.count c.args.first c.requires.first w.if-second-count.false
    ]
