-- The limits leave room in both arrays, and what is in them makes the words.
use borrow.Author.Rules.{rules}
use Rattle.lines_alone.proofs.SomeLaws.{few_stations, stations_room, few_counted, stops_room, drawn_written}
use Rattle.lines_alone.proofs.draw.Goals as goal

pub draw_stations-requires : goal.draw_stations-requires
draw_stations-requires c = search stations_room

pub draw_trips-stops-requires-clause-trips_in_bounds : goal.draw_trips-stops-requires-clause-trips_in_bounds
draw_trips-stops-requires-clause-trips_in_bounds c = (search rules, search rules, search rules, search stops_room)

pub write_words-requires : goal.write_words-requires
write_words-requires c = (
  search few_stations,
  search rules,
  search few_counted,
  search rules,
  search rules,
  search rules,
  search rules,
  search rules,
  search rules,
)

pub returns-clause-out_after : goal.returns-clause-out_after
returns-clause-out_after c = search drawn_written
