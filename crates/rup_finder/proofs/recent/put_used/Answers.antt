use Rattle.rup_finder.proofs.RecentLaws.{some_part, recent_more}
use Rattle.rup_finder.proofs.recent.put_used.Goals as goal

pub put_live-requires : goal.put_live-requires
put_live-requires c = some_part c.args.live.now.clauses c.args.engine.now c.requires

pub returns : goal.returns
returns c = recent_more c.args.live.now.clauses c.args.id c.args.engine.now c.put_live.new.engine c.put_live.ensures c.requires
