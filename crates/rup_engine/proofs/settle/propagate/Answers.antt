use Rattle.rup_engine.proofs.settle.propagate.Goals as goal

pub returns-in-Conflict-clause-happens : goal.returns-in-Conflict-clause-happens
returns-in-Conflict-clause-happens c =
    let (attached, falsified) = c.in-Conflict.ensures.happens in
    (c.requires.nodes.live _ attached, falsified)
