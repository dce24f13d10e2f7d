-- The array has the departures caught by changes at the station itself.
use borrow.Author.Rules.{rules}
use Rattle.store_departures.specs.Held.{held_standing}
use Rattle.store_marks.proofs.ArrivalLaws.{arrival_room, arrival_few, arrival_minute, way_near, caught_own}
use Rattle.store_marks.proofs.caught_at.Goals as goal

pub word-requires : goal.word-requires
word-requires c = search arrival_room

pub returns-then-own : goal.returns-then-own
returns-then-own c = search caught_own

pub seek_by_walk-requires : goal.seek_by_walk-requires
seek_by_walk-requires c = (
  search rules,
  search rules,
  search held_standing,
  search arrival_few,
  search arrival_minute,
  search way_near,
)
