-- The bound of the change is that of the departure that the walk reaches.
use borrow.Author.Rules.{rules}
use Rattle.timetable.specs.Access.{stations_few, trips_few, stops_few}
use Rattle.store_stops.specs.OpenWays.{walk_within, walk_listed_lem}
use Rattle.store_marks.proofs.ArrivalLaws.{walk_fits_lem, walk_tried}
use Rattle.store_marks.proofs.mark_walk.Goals as goal

pub walk_at-walk-requires : goal.walk_at-walk-requires
walk_at-walk-requires c = (search rules, search stations_few, search trips_few, search stops_few, search walk_within)

pub sum-paid-requires : goal.sum-paid-requires
sum-paid-requires c = search walk_fits_lem

pub walk_slot-requires : goal.walk_slot-requires
walk_slot-requires c = (search rules, search rules, search walk_listed_lem)

pub returns-clause-kids_after : goal.returns-clause-kids_after
returns-clause-kids_after c = search walk_tried
