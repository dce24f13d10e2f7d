-- The stations are copied, and the lines read behind them.
use borrow.Author.Rules.{rules}
use Rattle.timetable.specs.Access.{stations_few}
use Rattle.changes_extra.proofs.TripLaws.{rules_run, stations_most_lem, stops_read_lem}
use Rattle.changes_extra.proofs.read_stops.Goals as goal

pub copy_stations-requires : goal.copy_stations-requires
copy_stations-requires c = (search rules, search stations_few, search rules)

pub read_lines-requires : goal.read_lines-requires
read_lines-requires c = (search rules_run, search stations_most_lem, search rules, search rules, search rules)

pub returns : goal.returns
returns c = search stops_read_lem
