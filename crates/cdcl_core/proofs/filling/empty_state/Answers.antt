use Rattle.std.proofs.Common.{refl, ap, arith}
use Rattle.cdcl_core.proofs.FillingLaws.{empty_fits, empty_stands}
use Rattle.cdcl_core.proofs.filling.empty_state.Goals as goal

pub returns : goal.returns
returns c =
    let many = c.in_ok-phases.ensures.len in
    let items = c.in_ok-phases.phases.ok in
    record {
      trail = c.in_ok-trail.ensures;
      clauses = c.make-4.ensures;
      attached = ap (λ w. w.attached) c.in_ok-watches.ensures;
      fits = empty_fits c.args.vars c.in_ok-watches.watches c.make-4.result c.in_ok-trail.trail c.in_ok-watches.ensures c.in_ok-trail.ensures;
      stand = empty_stands c.args.vars c.in_ok-order.order c.in_ok-trail.trail c.in_ok-order.ensures c.in_ok-trail.ensures;
      phases = omega (arith, many, items);
      units = c.new.ensures.items;
      next = refl;
      given = refl;
      conflicts = refl;
      none_learned = refl;
      not_reduced = refl;
      never_tidies = refl;
      none_tidy = refl;
    }
