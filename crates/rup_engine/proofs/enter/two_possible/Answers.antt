use Rattle.rup_engine.proofs.EnterLaws.{one_possible}
use Rattle.rup_engine.proofs.enter.two_possible.Goals as goal

pub returns-in-None : goal.returns-in-None
returns-in-None c l m in_l in_m may_l may_m = absurd (may_l (c.in-None.ensures l in_l))

pub returns-in-None-other_possible : goal.returns-in-None-other_possible
returns-in-None-other_possible c = one_possible c.args.trail.now.entries c.args.lits.now c.in-Some.first c.in-None-other_possible.ensures
