-- A departure before minute d is not reached.
use borrow.Author.Rules.{rules}
use Rattle.timetable.specs.Access.{stations_few}
use Rattle.store_marks.proofs.WordLaws.{early, late}
use Rattle.store_marks.proofs.root_label.Goals as goal

pub stop_at-requires : goal.stop_at-requires
stop_at-requires c = (search rules, search stations_few, search rules)

pub returns-then-stop_at-d : goal.returns-then-stop_at-d
returns-then-stop_at-d c = search early

pub returns : goal.returns
returns c = search late
