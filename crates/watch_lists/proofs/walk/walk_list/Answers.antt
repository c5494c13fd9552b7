use Rattle.std.proofs.Common.{◌∙◌, subst, sym, refl, arith}
use Rattle.cx_base.specs.Literals.{Literal}
use Rattle.cx_trail.specs.Sequence.{IsFalseIn}
use Rattle.watch_lists.specs.Walking.{AllPassed}
use Rattle.watch_lists.proofs.WalkLaws.{walk_begins, walk_passed, walk_next, goes_none, goes_next}
use Rattle.watch_lists.proofs.EventLaws.{rest_same}
use Rattle.watch_lists.proofs.walk.walk_list.Goals as goal

pub walk-init : goal.walk-init
walk-init c =
    let e = c.front-cursor.ensures in
    record {
      attached = refl;
      walk = walk_begins _ _ _ _ _ _ _ c.requires.rest e.cursor e.front refl (subst (λ (x : Literal). IsFalseIn c.args.trail.now.entries x) (sym e.literal) c.requires.falsified);
      literal = e.literal;
      goes = goes_none _ _ _ _;
    }

pub take_turn-requires-clause-walk : goal.take_turn-requires-clause-walk
take_turn-requires-clause-walk c =
    let i = c.walk.invariant in
    walk_next _ _ _ _ _ _ _ _ _ (sym i.walk.variables) (sym i.attached) i.walk

pub walk-preserved : goal.walk-preserved
walk-preserved c =
    let i = c.walk.invariant in
    let e = c.in-Passed.ensures in
    record {
      attached = e.attached ∙ i.attached;
      walk = walk_next _ _ _ _ _ _ _ _ _ i.walk.variables i.attached e.turns.0;
      literal = e.turns.1 ∙ i.literal;
      goes = goes_next _ c.walk.lists.held _ _ _ _ _ c.walk.trail _ i.attached i.goes e.goes;
    }

pub returns-in-Stopped-clause-rest : goal.returns-in-Stopped-clause-rest
returns-in-Stopped-clause-rest c =
    let i = c.walk.invariant in
    rest_same _ _ _ _ _ _ _ i.walk.variables i.attached c.in-Stopped.ensures.rest

pub returns-in-Stopped-clause-goes : goal.returns-in-Stopped-clause-goes
returns-in-Stopped-clause-goes c =
    let i = c.walk.invariant in
    goes_next _ c.walk.lists.held _ _ _ _ _ c.walk.trail _ i.attached i.goes c.in-Stopped.ensures.goes

pub returns-clause-walked : goal.returns-clause-walked
returns-clause-walked c =
    let i = c.walk.invariant in
    subst (AllPassed c.walk.lists.held c.args.nodes.now.attached.items c.walk.trail) i.literal (walk_passed _ _ _ _ _ _ _ i.walk (omega (arith, c.walk-test.false)))
