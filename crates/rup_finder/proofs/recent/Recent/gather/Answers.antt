use Rattle.rup_finder.proofs.RecentLaws.{recent_at_first}
use Rattle.rup_finder.proofs.recent.Recent.gather.Goals as goal

pub put_all_used-requires : goal.put_all_used-requires
put_all_used-requires c = recent_at_first c.args.live.now.clauses c.start.new.engine c.in_ok-start.ensures.ok
