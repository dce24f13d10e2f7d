-- A trip that does not run is refused, and nothing written; one that runs is left out, and the tables are built again.
use borrow.Author.Rules.{rules}
use Rattle.changes.proofs.AskedLaws.{granted, words_room, lines_room, work_room, after_room}
use Rattle.changes.proofs.CancelLaws.{idle_reply, idle_timetable, idle_lines, place_inside, done_yes, done_order}
use Rattle.changes.proofs.CancelLaws.{done_reply, done_timetable, done_lines}
use Rattle.changes.proofs.cancel_asked.Goals as goal

pub place_of-place-requires : goal.place_of-place-requires
place_of-place-requires c = (search words_room, search granted)

pub is_running-requires : goal.is_running-requires
is_running-requires c = (search words_room, search granted, search rules)

pub returns-then-not-is_running-clause-value : goal.returns-then-not-is_running-clause-value
returns-then-not-is_running-clause-value c = search idle_reply

pub returns-then-not-is_running-clause-timetable_after : goal.returns-then-not-is_running-clause-timetable_after
returns-then-not-is_running-clause-timetable_after c = search idle_timetable

pub returns-then-not-is_running-clause-lines_after : goal.returns-then-not-is_running-clause-lines_after
returns-then-not-is_running-clause-lines_after c = search idle_lines

pub take_out-requires : goal.take_out-requires
take_out-requires c = (search words_room, search granted, search place_inside, search rules, search rules)

pub rebuild-count-requires : goal.rebuild-count-requires
rebuild-count-requires c = (
  search after_room,
  search done_yes,
  search rules,
  search done_order,
  search lines_room,
  search work_room,
)

pub returns-clause-value : goal.returns-clause-value
returns-clause-value c = search done_reply

pub returns-clause-timetable_after : goal.returns-clause-timetable_after
returns-clause-timetable_after c = search done_timetable

pub returns-clause-lines_after : goal.returns-clause-lines_after
returns-clause-lines_after c = search done_lines
