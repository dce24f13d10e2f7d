use Prim.Native.Nat.{◌-◌}
use borrow.Author.Rules.{rules}
use Rattle.timetable.specs.Access.{stations_few, trips_few, stops_few}
use Rattle.changes_places.proofs.PlaceLaws.{trip_few, place_first, place_found, place_more, place_last}
use Rattle.changes_places.proofs.place_of.Goals as goal

pub loop-k-init : goal.loop-k-init
loop-k-init c = (search rules, search place_first)

pub number_at-requires : goal.number_at-requires
number_at-requires c = (
  search rules,
  search stations_few,
  search trips_few,
  search stops_few,
  search trip_few,
)

pub returns-then-number-number_at : goal.returns-then-number-number_at
returns-then-number-number_at c = (search place_found, search rules)

pub loop-k-preserved : goal.loop-k-preserved
loop-k-preserved c = (search rules, search place_more)

pub returns : goal.returns
returns c = (search place_last, search rules)
