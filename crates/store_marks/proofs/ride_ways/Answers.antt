-- The change at the station itself and the walk between the two are all ways there are.
use Rattle.store_marks.specs.Ways.{rides_between}
use Rattle.store_marks.proofs.ride_ways.Goals as goal

pub returns-clause-rides_between : goal.returns-clause-rides_between
returns-clause-rides_between c = search rides_between
