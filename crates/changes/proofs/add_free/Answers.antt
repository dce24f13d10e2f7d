-- Lines that are refused change nothing; a trip that was read is put in, and the tables are built again.
use Rattle.std.proofs.Common.{refl}
use Rattle.std.proofs.lemmas.Result.{err_from_is_err_and}
use borrow.Author.Rules.{rules}
use Rattle.changes.proofs.AskedLaws.{granted, words_room, lines_room, work_room, after_room, narrow_place}
use Rattle.changes.proofs.AddLaws.{refused_reply, refused_timetable_lem, refused_lines, fitting, added_yes}
use Rattle.changes.proofs.AddLaws.{added_inside, added_order, added_reply, added_timetable, added_lines}
use Rattle.changes.proofs.add_free.Goals as goal

pub read_trip-requires : goal.read_trip-requires
read_trip-requires c = (search words_room, search granted, search rules, search rules)

pub returns-in_err-read_trip-clause-value : goal.returns-in_err-read_trip-clause-value
returns-in_err-read_trip-clause-value c =
    let p = err_from_is_err_and c.from_residual.result c.from_residual.ensures.1 in
    rw (p.1, p.2) (search (refused_reply, refl, c.in_err-read_trip.ensures.trip_read))

pub returns-in_err-read_trip-clause-timetable_after : goal.returns-in_err-read_trip-clause-timetable_after
returns-in_err-read_trip-clause-timetable_after c =
    refused_timetable_lem _ _ _ _ _ c.requires.work_value.0 c.requires.work_value.3 _ _ _
    c.in_err-read_trip.ensures.trip_read _ _ refl

pub returns-in_err-read_trip-clause-lines_after : goal.returns-in_err-read_trip-clause-lines_after
returns-in_err-read_trip-clause-lines_after c =
    refused_lines _ _ _ _ _ c.requires.work_value.0 c.requires.work_value.3 _ _ _
    c.in_err-read_trip.ensures.trip_read _ _ refl

pub put_in-requires : goal.put_in-requires
put_in-requires c = let a = c.args in (
  search words_room,
  search rules,
  search granted,
  search rules,
  fitting a.timetable.now a.lines.now _ a.trip a.text.now c.requires.work_value.0 c.requires.work_value.3 _ _ _
      c.in_ok-read_trip.ensures.trip_read refl a.place c.requires.work_value.1,
)

pub overflow_cast-place : goal.overflow_cast-place
overflow_cast-place c = record { fits = search narrow_place }

pub put_in-requires-2-clause-in_bounds : goal.put_in-requires-2-clause-in_bounds
put_in-requires-2-clause-in_bounds c = (
  search after_room,
  search (
    added_yes,
    refl,
    c.in_ok-read_trip.ensures.trip_read,
  ),
  search (added_inside, refl, c.in_ok-read_trip.ensures.trip_read),
)

pub put_in-requires-2-clause-order_len : goal.put_in-requires-2-clause-order_len
put_in-requires-2-clause-order_len c = (search rules, search (added_order, refl, c.in_ok-read_trip.ensures.trip_read))

pub rebuild-count-requires : goal.rebuild-count-requires
rebuild-count-requires c = (
  search after_room,
  search (added_yes, refl, c.in_ok-read_trip.ensures.trip_read),
  search rules,
  search rules,
  search lines_room,
  search
      work_room,
)

pub returns-clause-value : goal.returns-clause-value
returns-clause-value c = search (added_reply, refl, c.in_ok-read_trip.ensures.trip_read)

pub returns-clause-timetable_after : goal.returns-clause-timetable_after
returns-clause-timetable_after c = search (added_timetable, refl, c.in_ok-read_trip.ensures.trip_read)

pub returns-clause-lines_after : goal.returns-clause-lines_after
returns-clause-lines_after c = search (added_lines, refl, c.in_ok-read_trip.ensures.trip_read)
