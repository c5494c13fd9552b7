use Rattle.std.proofs.Common.{◌≡◌, ◌≢◌, subst, sym, ⊎_elim}
use Rattle.cx_base.specs.Literals.{Literal}
use Rattle.cx_base.proofs.LiteralLaws.{same_or_other}
use Rattle.cx_trail.specs.Sequence.{IsFalseIn}
use Rattle.watch_lists.proofs.LookLaws.{others_false}
use Rattle.watch_lists.proofs.look.look_at_short.Goals as goal

pub returns-then-is_free-clause-finds : goal.returns-then-is_free-clause-finds
returns-then-is_free-clause-finds c lits mine falsified has each = (has, c.if-is_free.ensures.0, c.if-is_free.ensures.1)

pub returns-in-True-clause-finds : goal.returns-in-True-clause-finds
returns-in-True-clause-finds c = absurd (c.requires.unmet c.in-True.ensures.means)

pub returns-in-Open-clause-finds : goal.returns-in-Open-clause-finds
returns-in-Open-clause-finds c lits mine falsified has each = (c.in-Open.ensures.means, others_false c.args.trail.now.entries lits mine c.args.other c.args.third falsified c.if-is_free.ensures each)

pub returns-in-False-clause-finds : goal.returns-in-False-clause-finds
returns-in-False-clause-finds c lits mine falsified has each m h = ⊎_elim
    (λ (e : m ≡ c.args.other). subst (λ (x : Literal). IsFalseIn c.args.trail.now.entries x) (sym e) c.in-False.ensures.means)
    (λ (ne : m ≢ c.args.other). others_false c.args.trail.now.entries lits mine c.args.other c.args.third falsified c.if-is_free.ensures each m h ne)
    (same_or_other m c.args.other)
