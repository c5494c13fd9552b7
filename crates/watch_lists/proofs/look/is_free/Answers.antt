use Rattle.std.proofs.Common.{ap, sym, eqb-true}
use Rattle.std.proofs.lemmas.Bool.{eqb-false}
use Rattle.cx_base.specs.Literals.{code_of}
use Rattle.cx_base.proofs.LiteralLaws.{same_code}
use Rattle.cx_trail.proofs.ValueLaws.{not_both, open_not_false}
use Rattle.watch_lists.proofs.look.is_free.Goals as goal

pub returns-then-eq : goal.returns-then-eq
returns-then-eq c apart = absurd (apart (same_code _ _ (eqb-true _ _ (sym c.if-eq.ensures))))

pub returns-in-True : goal.returns-in-True
returns-in-True c = (λ e. eqb-false _ _ (sym c.if-eq.ensures) (ap code_of e), not_both c.args.trail.now c.args.lit c.in-True.ensures.sound c.in-True.ensures.means)

pub returns-in-Open : goal.returns-in-Open
returns-in-Open c = (λ e. eqb-false _ _ (sym c.if-eq.ensures) (ap code_of e), open_not_false c.args.trail.now.entries c.args.lit c.in-Open.ensures.means)

pub returns-in-False : goal.returns-in-False
returns-in-False c apart = c.in-False.ensures.means
