-- What is left of the word without its mark.
use Rattle.lines_lookup.proofs.LookupLaws.{station_is, station_small}
use Rattle.lines_lookup.proofs.station_at.Goals as goal

pub returns : goal.returns
returns c = (search station_is, search station_small)
