use Rattle.std.proofs.Common.{sym}
use Rattle.cdcl_core.proofs.TautologyLaws.{are_watchable, none_is_added, stands_then}
use Rattle.cdcl_core.proofs.tautologies.begin_tidying.Goals as goal

pub attach_anew-requires : goal.attach_anew-requires
attach_anew-requires c =
    let (engines, told, stands) = c.requires.stands in
    are_watchable c.args.formula.now c.args.state.now c.requires.plain engines told stands c.add_tautologies.new.arena
    (c.in_ok-add_tautologies.ensures c.args.state.now.arena (none_is_added c.args.formula.now c.args.state.now c.requires.plain engines told stands))

pub returns-clause-stands : goal.returns-clause-stands
returns-clause-stands c = λ engines told stands.
    let added = c.in_ok-add_tautologies.ensures c.args.state.now.arena (none_is_added c.args.formula.now c.args.state.now c.requires.plain engines told stands) in
    let w = c.in_ok-attach_anew.ensures in
    stands_then c.args.formula.now c.args.state.now c.requires.plain engines told stands c.add_tautologies.new.arena added c.attach_anew.new.self
    (w.fits c.args.state.now.trail (sym stands.3.watched.fits.variables)) w.attached
