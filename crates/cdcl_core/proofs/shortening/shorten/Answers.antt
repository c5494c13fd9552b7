use Rattle.std.proofs.Common.{◌≡◌, ◌∙◌, sym, ap, subst, IfSome}
use Rattle.std.proofs.lemmas.List.{take_all}
use Rattle.cx_base.specs.Literals.{negate}
use Rattle.cdcl_core.specs.Shortening.{ArePartedInto, IsToldUnit, HasNoUnit}
use Rattle.std.specs.List.{AllByRecursion}
use Rattle.cdcl_core.proofs.KnownLaws.{put_unit, put_left}
use Rattle.cdcl_core.proofs.shortening.shorten.Goals as goal
use Rattle.cdcl_core.proofs.shortening.shorten.Goals.{in-Some+in_ok-push-in-Some, in-None+in_ok-push-in-None}

pub loop-lit-preserved : goal.loop-lit-preserved
loop-lit-preserved c =
    let i = c.loop-lit.lit-index in
    let lits = c.args.clause.now in
    elim c.match-unit_against.branch [
      | in-Some+in_ok-push-in-Some w ↦
          put_unit c.args.state.now lits i c.lit-item.result c.loop-lit-test.true c.lit-item.is c.loop-lit.left.items _ c.loop-lit.units.items _ c.loop-lit.invariant w.in-Some.unit
          (subst (λ o. IfSome o (λ u. IsToldUnit c.args.state.now u × (u.literal ≡ negate c.lit-item.result))) w.in-Some.is c.unit_against.ensures.told)
          (ap (λ v. v.items) w.left-is) (ap (λ v. v.items) w.units-is ∙ w.in_ok-push-in-Some.ensures.items)
      | in-None+in_ok-push-in-None w ↦
          put_left c.args.state.now lits i c.lit-item.result c.loop-lit-test.true c.lit-item.is c.loop-lit.left.items _ c.loop-lit.units.items _ c.loop-lit.invariant
          (c.unit_against.ensures.none w.in-None.is) (ap (λ v. v.items) w.left-is ∙ w.in_ok-push-in-None.ensures.items) (ap (λ v. v.items) w.units-is)
    ]

pub returns : goal.returns
returns c =
    let so = c.loop-lit.invariant in
    let left = c.from_vec.ensures in
    record {
      parts = subst (λ ls. ArePartedInto c.args.clause.now ls c.loop-lit.units.items) (sym left) (subst (λ ls. ArePartedInto ls c.loop-lit.left.items c.loop-lit.units.items) (take_all c.loop-lit.lit-index c.args.clause.now c.loop-lit-test.false) so.0);
      told = so.1;
      no_unit = subst (AllByRecursion (λ m. HasNoUnit c.args.state.now (negate m))) (sym left) so.2;
    }
