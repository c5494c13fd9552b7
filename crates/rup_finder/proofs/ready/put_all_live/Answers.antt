use Rattle.std.proofs.Common.{List, ℕ, get_or}
use Rattle.rup_finder.proofs.ReadyLaws.{same_item, holds_first, holds_next, holds_all}
use Rattle.rup_finder.proofs.ready.put_all_live.Goals as goal

pub loop-id-init : goal.loop-id-init
loop-id-init c = holds_first c.args.live.now.clauses c.args.ids.now c.args.engine.now c.requires.empty

pub loop-id-preserved : goal.loop-id-preserved
loop-id-preserved c =
    let ids : List ℕ = c.args.ids.now in
    let index = c.loop-id.id-index in
    let here : ℕ = get_or ids index 0 in
    holds_next c.args.live.now.clauses ids index here c.loop-id.engine c.put_live.new.engine (same_item ids index 0 here c.loop-id-test.true) c.loop-id.invariant c.put_live.ensures

pub returns : goal.returns
returns c = holds_all c.args.live.now.clauses c.args.ids.now c.loop-id.id-index c.loop-id.engine c.loop-id-test.false c.requires.all c.loop-id.invariant
