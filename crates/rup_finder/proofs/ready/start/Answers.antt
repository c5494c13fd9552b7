use Rattle.rup_finder.proofs.ReadyLaws.{started}
use Rattle.rup_finder.proofs.ready.start.Goals as goal

pub returns-clause-ok : goal.returns-clause-ok
returns-clause-ok c = started c.make.result c.put_made.result c.put_made.new.engine c.put_made.ensures.same c.put_made.ensures.made c.make.ensures.rest c.make.ensures.holds
