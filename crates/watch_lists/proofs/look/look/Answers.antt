use Rattle.std.proofs.Common.{◌≡◌, ◌≢◌, List, subst, sym, ⊎_elim}
use Rattle.std.specs.List.{Contains}
use Rattle.cx_base.specs.Literals.{Literal}
use Rattle.cx_base.proofs.LiteralLaws.{same_or_other}
use Rattle.cx_trail.specs.Sequence.{IsFalseIn}
use Rattle.watch_lists.specs.Truths.{AreOthersFalse}
use Rattle.watch_lists.proofs.look.look.Goals as goal

pub returns-in-False-clause-finds : goal.returns-in-False-clause-finds
returns-in-False-clause-finds c = λ m h. ⊎_elim
    (λ (e : m ≡ c.args.other). subst (λ (x : Literal). IsFalseIn c.args.trail.now.entries x) (sym e) c.in-False.ensures.means)
    (λ (ne : m ≢ c.args.other). c.in-None.ensures m (subst (λ (xs : List Literal). Contains xs m) (sym c.lits.ensures) h) ne)
    (same_or_other m c.args.other)

pub returns-in-Some-clause-finds : goal.returns-in-Some-clause-finds
returns-in-Some-clause-finds c = subst (λ (xs : List Literal). Contains xs c.in-Some.lit × (c.in-Some.lit ≢ c.args.other) × (IsFalseIn c.args.trail.now.entries c.in-Some.lit → ⊥)) c.lits.ensures c.in-Some.ensures

pub returns-in-True-clause-finds : goal.returns-in-True-clause-finds
returns-in-True-clause-finds c = absurd (c.requires.unmet c.in-True.ensures.means)

pub returns-in-Open-clause-finds : goal.returns-in-Open-clause-finds
returns-in-Open-clause-finds c = (c.in-Open.ensures.means, subst (λ (xs : List Literal). AreOthersFalse c.args.trail.now.entries xs c.args.other) c.lits.ensures c.in-None.ensures)
