-- An accepted trip is written as a timetable of its own.
use Rattle.std.proofs.Common.{refl}
use Rattle.std.proofs.lemmas.Result.{err_from_is_err_and}
use borrow.Author.Rules.{rules}
use Rattle.changes_extra.proofs.TripLaws.{trip_refused, number_small, trip_stations, trip_trips, trip_stops_lem}
use Rattle.changes_extra.proofs.TripLaws.{trip_whole}
use Rattle.changes_extra.proofs.read_trip.Goals as goal

pub returns-in_err-p-clause-trip_read : goal.returns-in_err-p-clause-trip_read
returns-in_err-p-clause-trip_read c =
    let p = err_from_is_err_and c.from_residual.result c.from_residual.ensures.1 in
    rw (p.1, p.2) (search (trip_refused, refl, c.in_err-p.ensures))

pub put_number-requires : goal.put_number-requires
put_number-requires c = (search rules, number_small _ _ _ _ _ c.in_ok-p.ensures c.in_ok-p.p _ refl)

pub write_words-requires : goal.write_words-requires
write_words-requires c = (
  trip_stations _ _ _ _ _ c.in_ok-p.ensures c.in_ok-p.p _ refl,
  trip_trips _ _ _ _ _ c.in_ok-p.ensures c.in_ok-p.p _ refl,
  trip_stops_lem _ _ _ _ _ c.in_ok-p.ensures c.in_ok-p.p _ refl,
  search rules,
  search rules,
  search rules,
  search rules,
  search rules,
  search rules,
)

pub returns-clause-trip_read : goal.returns-clause-trip_read
returns-clause-trip_read c = search (trip_whole _ _ _ _ _ c.in_ok-p.ensures c.in_ok-p.p _ refl)
