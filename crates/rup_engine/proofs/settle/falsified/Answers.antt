use Rattle.std.proofs.Common.{arith}
use Rattle.rup_engine.proofs.settle.falsified.Goals as goal

pub settle-requires-clause-low : goal.settle-requires-clause-low
settle-requires-clause-low c = c.requires.rests.low

pub settle-requires-clause-rests : goal.settle-requires-clause-rests
settle-requires-clause-rests c = c.requires.rests.rests
