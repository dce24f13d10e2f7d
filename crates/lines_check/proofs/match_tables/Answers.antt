-- The tables of the timetable are written to working space, and compared with those lent.
use borrow.Author.Rules.{rules}
use Rattle.lines_tables.specs.Copied.{lines_room, work_room}
use Rattle.lines_check.proofs.TableLaws.{compared}
use Rattle.lines_check.proofs.match_tables.Goals as goal

pub same_words-requires : goal.same_words-requires
same_words-requires c = (search lines_room, search work_room, search rules)

pub returns : goal.returns
returns c = search compared
