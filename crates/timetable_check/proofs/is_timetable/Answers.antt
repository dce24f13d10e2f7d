-- The tests are those of `decision`, in its order, and `decided` shows that they come to question 9.
use Rattle.timetable_check.proofs.DecideLaws.{no_stations, many_stations, many_trips, many_stops, late_start}
use Rattle.timetable_check.proofs.DecideLaws.{bad_numbers, bad_stations, many_walks, bad_walks, bad_feet, trips_decide}
use Rattle.timetable_check.proofs.is_timetable.Goals as goal

pub returns-then-stations-lt1 : goal.returns-then-stations-lt1
returns-then-stations-lt1 c = search no_stations

pub returns-then-stations-gt-STATIONS_MOST : goal.returns-then-stations-gt-STATIONS_MOST
returns-then-stations-gt-STATIONS_MOST c = search many_stations

pub returns-then-trips-gt-TRIPS_MOST : goal.returns-then-trips-gt-TRIPS_MOST
returns-then-trips-gt-TRIPS_MOST c = search many_trips

pub returns-then-stops-gt-STOPS_MOST : goal.returns-then-stops-gt-STOPS_MOST
returns-then-stops-gt-STOPS_MOST c = search many_stops

pub returns-then-start_at-ne0 : goal.returns-then-start_at-ne0
returns-then-start_at-ne0 c = search late_start

pub returns-then-not-numbers_climb : goal.returns-then-not-numbers_climb
returns-then-not-numbers_climb c = search bad_numbers

pub returns-then-not-stations_are_valid : goal.returns-then-not-stations_are_valid
returns-then-not-stations_are_valid c = search bad_stations

pub returns-then-walks : goal.returns-then-walks
returns-then-walks c = search many_walks

pub returns-then-not-walks_are_valid : goal.returns-then-not-walks_are_valid
returns-then-not-walks_are_valid c = search bad_walks

pub returns-then-not-walks_are_counted : goal.returns-then-not-walks_are_counted
returns-then-not-walks_are_counted c = search bad_feet

pub returns : goal.returns
returns c = search trips_decide
