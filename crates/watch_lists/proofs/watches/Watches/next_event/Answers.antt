use Rattle.std.proofs.Common.{◌≡◌, ◌≤◌, ◌+◌, ◌*◌, List, Bool, length, sym, subst, ap, ◌∙◌, arith}
use Rattle.watch_lists.specs.Watching.{WatchState, AreNodes, AreGuarded, IsBehind, Propagates}
use Rattle.watch_lists.specs.Events.{Happens}
use Rattle.watch_lists.specs.Walking.{IsRest, AreListed}
use Rattle.watch_lists.proofs.EventLaws.{guarded_raised, behind_raised}
use Rattle.watch_lists.proofs.watches.Watches.next_event.Goals.{After-raise-arg-1}
use Rattle.watch_lists.proofs.watches.Watches.next_event.Goals as goal

pub returns-clause-fits : goal.returns-clause-fits
returns-clause-fits c =
    let e = c.propagate.ensures in
    let v = c.self.view_is in
    record {
      variables = ap (λ (w : WatchState). w.variables) v ∙ c.requires.variables ∙ sym e.propagates.variables;
      nodes = subst (λ n. AreNodes n c.propagate.new.lists.held c.propagate.new.nodes.attached.items c.args.arena.now) (sym (ap (λ (w : WatchState). w.variables) v ∙ c.requires.variables))
          (subst (λ (b : List Bool). AreNodes c.args.trail.now.variables c.propagate.new.lists.held b c.args.arena.now) (sym e.attached) e.looked.rest.nodes);
      guarded = subst (λ (b : List Bool). AreGuarded c.propagate.new.looked.items c.propagate.new.lists.held b c.propagate.new.trail.entries) (sym e.attached) e.looked.guarded;
      behind = e.looked.behind;
    }

vars_are : (c : After-raise-arg-1) → c.self.inside.vars ≡ c.args.trail.now.variables
vars_are c = ap (λ (w : WatchState). w.variables) c.self.view_is ∙ c.requires.variables

pub raise-requires-clause-low : goal.raise-requires-clause-low
raise-requires-clause-low c =
    let behind = subst (λ (w : WatchState). IsBehind w.looked c.args.trail.now) (sym c.self.view_is) c.requires.behind in
    omega (arith, behind.reach, c.level-level.ensures.level)

pub raise-requires-clause-room : goal.raise-requires-clause-room
raise-requires-clause-room c =
    let t = c.level-level.ensures.sound in
    omega (arith, t.deep, t.short, c.level-level.ensures.level, vars_are c, c.self.invariant.room_for_levels)

pub propagate-requires-clause-looked : goal.propagate-requires-clause-looked
propagate-requires-clause-looked c =
    let inside = c.self.inside in
    let k = c.self.invariant in
    let view = sym c.self.view_is in
    let rest : IsRest inside.vars inside.lists.held inside.nodes.attached.items inside.lists.lists c.args.arena.now =
    record { nodes = subst (λ (w : WatchState). AreNodes w.variables w.held w.attached c.args.arena.now) view c.requires.nodes; listed = k.listed; size = k.size; over = k.over } in
    let b = subst (λ (w : WatchState). IsBehind w.looked c.args.trail.now) view c.requires.behind in
    let g = subst (λ (w : WatchState). AreGuarded w.looked w.held w.attached c.args.trail.now.entries) view c.requires.guarded in
    record {
      rest = subst (λ n. IsRest n inside.lists.held inside.nodes.attached.items inside.lists.lists c.args.arena.now) (vars_are (goal.at.propagate-requires-clause-looked c).After-raise-arg-1) rest;
      behind = behind_raised _ _ _ _ c.level-level.ensures.level c.raise.ensures.raised b;
      guarded = guarded_raised _ _ _ _ _ _ k.some c.raise.ensures.raised g;
    }

pub propagate-requires-clause-top : goal.propagate-requires-clause-top
propagate-requires-clause-top c = c.raise.ensures.raised.long ∙ ap (λ n. n + 1) c.level-level.ensures.level

pub returns-clause-attached : goal.returns-clause-attached
returns-clause-attached c = c.propagate.ensures.attached ∙ ap (λ (w : WatchState). w.attached) c.self.view_is

pub returns-clause-propagates : goal.returns-clause-propagates
returns-clause-propagates c = subst (λ (w : WatchState). Propagates w.attached c.args.arena.now c.args.trail.now c.propagate.new.trail) c.self.view_is c.propagate.ensures.propagates

pub returns-clause-happens : goal.returns-clause-happens
returns-clause-happens c = subst (λ (w : WatchState). Happens w.attached c.args.arena.now c.propagate.new.trail c.propagate.result) c.self.view_is c.propagate.ensures.happens

pub invariant_of-self : goal.invariant_of-self
invariant_of-self c =
    let k = c.self.invariant in
    let e = c.propagate.ensures in
    let lists = c.propagate.new.lists in
    let rest = subst (λ n. IsRest n lists.held c.self.inside.nodes.attached.items lists.lists c.args.arena.now) (sym (vars_are (goal.at.invariant_of-self c).After-raise-arg-1)) e.looked.rest in
    record {
      few = k.few;
      room_for_levels = subst (λ n. c.self.inside.vars + 1 ≤ n) (sym (e.room ∙ c.raise.ensures.room)) k.room_for_levels;
      some = omega (arith, e.top, c.raise.ensures.raised.long);
      listed = subst (λ (b : List Bool). AreListed lists.held b lists.lists) (sym e.attached) rest.listed;
      size = rest.size;
      over = rest.over;
      pairs = rest.nodes.pairs ∙ ap (λ (b : List Bool). 2 * length b) (sym e.attached);
    }
