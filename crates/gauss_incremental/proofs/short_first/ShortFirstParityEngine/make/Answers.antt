use Rattle.std.proofs.Common.{◌+◌, length}
use Rattle.gauss_incremental.proofs.ShortNames.{shorts_fresh, state_fresh}
use Rattle.gauss_incremental.proofs.short_first.ShortFirstParityEngine.make.Goals as goal

pub invariant_of-result : goal.invariant_of-result
invariant_of-result c =
    let e = c.in_ok-engine in
    let beside = c.in-Ok in
    let made = beside.ensures in
    shorts_fresh e.engine.state c.args.vars e.ensures.0 c.args.parities.now beside.shorts.items beside.named e.ensures.1 made.each made.few made.unnamed

pub returns-in-Ok : goal.returns-in-Ok
returns-in-Ok c =
    let e = c.in_ok-engine in
    let beside = c.in-Ok in
    (e.ensures.0 + length beside.shorts.items, state_fresh e.engine.state c.args.vars e.ensures.0 c.args.parities.now beside.shorts.items beside.named e.ensures.1 beside.ensures.unnamed)
