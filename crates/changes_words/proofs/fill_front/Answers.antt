-- Stations first, then the trips before the place.
use borrow.Author.Rules.{rules}
use Rattle.timetable.specs.Access.{stations_few}
use Rattle.changes_words.proofs.FillLaws.{front_few, front_stops, front_trips, front_starts, filled_front}
use Rattle.changes_words.proofs.fill_front.Goals as goal

pub copy_stations-requires : goal.copy_stations-requires
copy_stations-requires c = (search rules, search stations_few, search rules)

pub append-requires : goal.append-requires
append-requires c = (
  search rules,
  search rules,
  search rules,
  search rules,
  search rules,
  search rules,
  search rules,
  search front_few,
  search front_stops,
)

pub returns-clause-front : goal.returns-clause-front
returns-clause-front c = search filled_front

pub returns-clause-body_len_unchanged : goal.returns-clause-body_len_unchanged
returns-clause-body_len_unchanged c = (
  search rules,
  search rules,
  search rules,
  search front_trips,
  search
      front_starts,
)
