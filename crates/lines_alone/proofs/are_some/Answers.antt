-- Four tests come before the tables are compared: the counts, the trips and the stops in all, and the timetable drawn.
use mathlib.Core.Path.{ap}
use mathlib.Core.Bool.{not}
use mathlib.Core.Path.{◌∙◌}
use borrow.Author.Rules.{rules}
use Rattle.lines_tables.specs.Copied.{asked_yes}
use Rattle.lines_alone.proofs.NumberLaws.{numbers_drawn}
use Rattle.lines_alone.proofs.SomeLaws.{counts_no, counts_yes, lines_few, trips_no, stops_few, stops_no}
use Rattle.lines_alone.proofs.SomeLaws.{drawn_no, some_asked}
use Rattle.lines_alone.proofs.are_some.Goals as goal

pub returns-then-not-counts_fit : goal.returns-then-not-counts_fit
returns-then-not-counts_fit c = search counts_no

pub mark_lines-requires : goal.mark_lines-requires
mark_lines-requires c = (search rules, search lines_few, search rules)

pub returns-then-trips-gt-TRIPS_MOST : goal.returns-then-trips-gt-TRIPS_MOST
returns-then-trips-gt-TRIPS_MOST c = search trips_no

pub count_stops-stops-requires-clause-v_value : goal.count_stops-stops-requires-clause-v_value
count_stops-stops-requires-clause-v_value c = (search counts_yes, search rules, search rules)

pub count_stops-stops-requires-clause-numbers_value : goal.count_stops-stops-requires-clause-numbers_value
count_stops-stops-requires-clause-numbers_value c = (search numbers_drawn, search rules, search rules)

pub returns-then-stops-gt-STOPS_MOST : goal.returns-then-stops-gt-STOPS_MOST
returns-then-stops-gt-STOPS_MOST c = search stops_no

pub draw-requires-clause-v_value : goal.draw-requires-clause-v_value
draw-requires-clause-v_value c = (
  search counts_yes,
  search rules,
  c.mark_lines.ensures.marks_len_unchanged ∙
      c.requires.1,
)

pub draw-requires-clause-numbers_value : goal.draw-requires-clause-numbers_value
draw-requires-clause-numbers_value c = (search numbers_drawn, search rules, search rules)

pub draw-requires-clause-trips_len_bound : goal.draw-requires-clause-trips_len_bound
draw-requires-clause-trips_len_bound c = (
  stops_few c.args.lines.now c.list_numbers-trips.result c.count_stops-stops.result
      c.count_stops-stops.ensures c.if-stops-gt-STOPS_MOST.false,
  search rules,
)

pub returns-then-not-is_timetable : goal.returns-then-not-is_timetable
returns-then-not-is_timetable c = search drawn_no

pub are_tables-requires : goal.are_tables-requires
are_tables-requires c = (
  search rules,
  asked_yes c.draw.new.out c.is_timetable.result c.is_timetable.ensures
      (ap not c.if-not-is_timetable.false),
  c.requires.0,
  c.mark_lines.ensures.marks_len_unchanged ∙ c.requires.1,
)

pub returns : goal.returns
returns c = search some_asked
