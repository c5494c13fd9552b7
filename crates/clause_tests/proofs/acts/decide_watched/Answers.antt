use Rattle.clause_tests.proofs.Deciding.{fits_decided}
use Rattle.clause_tests.proofs.acts.decide_watched.Goals as goal

pub returns : goal.returns
returns c = fits_decided c.args.watches.now c.args.arena.now c.args.trail.now c.decide.new.trail _ c.decide.result c.longer_trail_fits.ensures c.decide.ensures.put c.requires
