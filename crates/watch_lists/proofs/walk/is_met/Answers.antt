use Rattle.std.proofs.Common.{sym, subst}
use Rattle.cx_trail.specs.Sequence.{IsTrueIn}
use Rattle.cx_trail.proofs.ValueLaws.{not_both, open_not_true}
use Rattle.watch_lists.proofs.walk.is_met.Goals as goal

pub returns-in-True : goal.returns-in-True
returns-in-True c = subst (IsTrueIn c.args.trail.now.entries) c.partner_literal.ensures c.in-True.ensures.means

pub returns-in-Open : goal.returns-in-Open
returns-in-Open c h = open_not_true c.args.trail.now.entries c.partner_literal.result c.in-Open.ensures.means (subst (IsTrueIn c.args.trail.now.entries) (sym c.partner_literal.ensures) h)

pub returns-in-False : goal.returns-in-False
returns-in-False c h = not_both c.args.trail.now c.partner_literal.result c.in-False.ensures.sound (subst (IsTrueIn c.args.trail.now.entries) (sym c.partner_literal.ensures) h) c.in-False.ensures.means
