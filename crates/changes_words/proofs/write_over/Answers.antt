-- The walks are copied, and the words of what the arrays hold are written over the old ones.
use borrow.Author.Rules.{rules}
use Rattle.timetable.specs.Access.{stations_few, trips_few, stops_few}
use Rattle.timetable.specs.Walks.{walks_few}
use Rattle.changes_words.proofs.FillLaws.{few_stations, few_walks_lem, written_over}
use Rattle.changes_words.proofs.write_over.Goals as goal

pub copy_walks-walks-requires : goal.copy_walks-walks-requires
copy_walks-walks-requires c = (
  search rules,
  search stations_few,
  search trips_few,
  search stops_few,
  search walks_few,
  search rules,
)

pub write_words-requires : goal.write_words-requires
write_words-requires c = (
  search few_stations,
  search rules,
  search rules,
  search few_walks_lem,
  search rules,
  search rules,
  search rules,
  search rules,
  search rules,
)

pub returns-clause-written_over : goal.returns-clause-written_over
returns-clause-written_over c = search written_over
