use Rattle.clause_tests.proofs.Deciding.{fits_implied}
use Rattle.clause_tests.proofs.acts.imply_watched.Goals as goal

pub returns : goal.returns
returns c = fits_implied c.args.watches.now c.args.arena.now c.args.trail.now c.imply.new.trail _ _ c.imply.result c.longer_trail_fits.ensures c.imply.ensures.put c.requires
