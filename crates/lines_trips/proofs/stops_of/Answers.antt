-- Words with a yes have at most 64 stations, 256 trips and 2,048 stops, and no trip without a stop.
use borrow.Author.Rules.{rules}
use Rattle.lines_trips.proofs.TripLaws.{few_stations, few_stops, few_trips, few_ends, end_fits, some_stops}
use Rattle.lines_trips.proofs.TripLaws.{end_most}
use Rattle.lines_trips.proofs.stops_of.Goals as goal

pub start_at-requires : goal.start_at-requires
start_at-requires c = (search rules, search few_stations, search few_stops, search few_trips)

pub overflow_add-z : goal.overflow_add-z
overflow_add-z c = record { fits = search end_fits }

pub start_at-requires-2 : goal.start_at-requires-2
start_at-requires-2 c = (search rules, search few_stations, search few_stops, search few_ends)

pub returns-clause-first_lt_end : goal.returns-clause-first_lt_end
returns-clause-first_lt_end c = (search some_stops, search end_most, search few_stations)
