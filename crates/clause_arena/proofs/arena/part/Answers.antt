use Rattle.std.proofs.Common.{◌≤◌, length, get_or, arith, rules}
use Rattle.clause_arena.proofs.HeadLaws.{end_within}
use Rattle.clause_arena.proofs.arena.part.Goals.{After-start}
use Rattle.clause_arena.proofs.arena.part.Goals as goal

bounds : (c : After-start) → (c.start.result ≤ get_or c.args.ends.now c.args.place 0) × (get_or c.args.ends.now c.args.place 0 ≤ length c.args.lits.now)
bounds c =
    let p = end_within 0 (length c.args.lits.now) c.args.ends.now c.args.place c.requires.order c.requires.place in
    (omega (arith, p.0, c.start.ensures), p.1)

pub offset_bounds-lits-start : goal.offset_bounds-lits-start
offset_bounds-lits-start c = let b = bounds (goal.at.offset_bounds-lits-start c).After-start in search (rules, b)

pub slice_bounds-result-count : goal.slice_bounds-result-count
slice_bounds-result-count c = let b = bounds (goal.at.slice_bounds-result-count c).After-start in omega (arith, b.0)

pub slice_bounds-result-start : goal.slice_bounds-result-start
slice_bounds-result-start c = let b = bounds (goal.at.slice_bounds-result-start c).After-start in search (rules, b)

pub slice_bounds-result-end : goal.slice_bounds-result-end
slice_bounds-result-end c = let b = bounds (goal.at.slice_bounds-result-end c).After-start in search (rules, b)

pub returns : goal.returns
returns c = search rules
