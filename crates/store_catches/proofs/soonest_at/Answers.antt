-- The station's departures stand in the chain from where they begin to where the next station's begin.
use Rattle.timetable.specs.Access.{stations_few}
use Rattle.store_catches.proofs.CatchLaws.{listed_at, listed_to, waiting_rises, waiting_inside, waiting_by_minute}
use Rattle.store_catches.proofs.CatchLaws.{waiting_first}
use borrow.Author.Rules.{rules}
use Rattle.store_catches.proofs.soonest_at.Goals as goal

pub index_at-from-requires : goal.index_at-from-requires
index_at-from-requires c = search listed_at

pub index_at-end-requires : goal.index_at-end-requires
index_at-end-requires c = search listed_to

pub first_ready-requires : goal.first_ready-requires
first_ready-requires c = (
  search rules,
  search stations_few,
  search waiting_rises,
  search waiting_inside,
  search waiting_by_minute,
)

pub returns : goal.returns
returns c = (search waiting_first, search rules)
