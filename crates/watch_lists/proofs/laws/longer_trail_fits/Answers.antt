use Rattle.watch_lists.proofs.EventLaws.{fits_pushed}
use Rattle.watch_lists.proofs.laws.longer_trail_fits.Goals as goal

pub returns : goal.returns
returns c = fits_pushed
