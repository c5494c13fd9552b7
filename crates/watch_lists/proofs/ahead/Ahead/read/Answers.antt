use Rattle.std.proofs.Common.{arith}
use Rattle.watch_lists.proofs.NodeLaws.{partner_inside}
use Rattle.watch_lists.proofs.ahead.Ahead.read.Goals as goal

pub third_of_short-requires-clause-partner : goal.third_of_short-requires-clause-partner
third_of_short-requires-clause-partner c = partner_inside c.args.node _ _ c.requires.pairs (omega arith)
