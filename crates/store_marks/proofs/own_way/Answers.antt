-- The minutes and points are those of a change there.
use borrow.Author.Rules.{rules}
use Rattle.store_marks.proofs.ArrivalLaws.{own_is}
use Rattle.store_marks.proofs.WholeLaws.{station_fits}
use Rattle.store_marks.proofs.own_way.Goals as goal

pub overflow_cast-result : goal.overflow_cast-result
overflow_cast-result c = search (rules, station_fits)

pub overflow_cast-result-2 : goal.overflow_cast-result-2
overflow_cast-result-2 c = search (rules, station_fits)

pub returns : goal.returns
returns c = search own_is
