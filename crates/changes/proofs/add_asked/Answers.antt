-- A trip that runs is refused before its lines are looked at.
use borrow.Author.Rules.{rules}
use Rattle.changes.proofs.AskedLaws.{granted, words_room, is_free}
use Rattle.changes.proofs.AddLaws.{running_reply, running_timetable, running_lines}
use Rattle.changes.proofs.add_asked.Goals as goal

pub place_of-place-requires : goal.place_of-place-requires
place_of-place-requires c = (search words_room, search granted)

pub is_running-requires : goal.is_running-requires
is_running-requires c = (search words_room, search granted, search rules)

pub returns-then-is_running-clause-value : goal.returns-then-is_running-clause-value
returns-then-is_running-clause-value c = search running_reply

pub returns-then-is_running-clause-timetable_after : goal.returns-then-is_running-clause-timetable_after
returns-then-is_running-clause-timetable_after c = search running_timetable

pub returns-then-is_running-clause-lines_after : goal.returns-then-is_running-clause-lines_after
returns-then-is_running-clause-lines_after c = search running_lines

pub add_free-requires-clause-work_value : goal.add_free-requires-clause-work_value
add_free-requires-clause-work_value c = (
  search rules,
  search rules,
  search rules,
  is_free _ _ c.is_running.result c.is_running.ensures c.if-is_running.false,
)
