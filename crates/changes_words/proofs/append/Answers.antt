-- Stops, numbers and ends are written behind those that stand there.
use borrow.Author.Rules.{rules}
use Rattle.timetable.specs.Access.{stations_few, trips_few, stops_few}
use Rattle.changes_words.proofs.AppendLaws.{place_most, last_most, run_up, run_few, run_room, run_sum, extends}
use Rattle.changes_words.proofs.append.Goals as goal

pub start_at-first-requires : goal.start_at-first-requires
start_at-first-requires c = (search rules, search stations_few, search stops_few, search place_most)

pub start_at-end-requires : goal.start_at-end-requires
start_at-end-requires c = (search rules, search stations_few, search stops_few, search last_most)

pub copy_stops-requires : goal.copy_stops-requires
copy_stops-requires c = (
  search rules,
  search stations_few,
  search run_up,
  search run_few,
  search rules,
  search run_room,
)

pub copy_numbers-requires : goal.copy_numbers-requires
copy_numbers-requires c = (
  search rules,
  search stations_few,
  search trips_few,
  search stops_few,
  search rules,
  search last_most,
  search rules,
  search rules,
)

pub overflow_sub-result-2 : goal.overflow_sub-result-2
overflow_sub-result-2 c = search run_up

pub returns-clause-extends : goal.returns-clause-extends
returns-clause-extends c = search extends

pub returns-clause-body_len_unchanged : goal.returns-clause-body_len_unchanged
returns-clause-body_len_unchanged c = (search rules, search rules, search rules, search rules, search run_sum)
