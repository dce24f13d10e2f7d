-- Three ways out: the stop is not reached, or open, or closed.
use Rattle.timetable.specs.Access.{stations_few}
use Rattle.query_minutes.specs.Compared.{at_least_yes, at_least_no}
use borrow.Author.Rules.{rules}
use Rattle.store_marks.proofs.RideLaws.{label_none, label_open, label_closed}
use Rattle.store_marks.proofs.label_at.Goals as goal

pub returns-then-at_least : goal.returns-then-at_least
returns-then-at_least c = search (label_none, at_least_yes)

pub stop_at-requires : goal.stop_at-requires
stop_at-requires c = (search rules, search stations_few, search rules)

pub returns-then-may_board : goal.returns-then-may_board
returns-then-may_board c = search (label_open, at_least_no)

pub returns : goal.returns
returns c = search label_closed
