use Rattle.lines_found.proofs.WalkLaws.{last_fits}
use Rattle.lines_found.proofs.fits.Goals as goal

pub returns : goal.returns
returns c = search last_fits
