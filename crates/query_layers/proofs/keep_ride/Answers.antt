-- There is room for each ride that it is kept for.
use borrow.Author.Rules.{rules}
use Rattle.query_layers.proofs.LayerLaws.{ride_room, ride_none, ride_kept}
use Rattle.query_layers.proofs.keep_ride.Goals as goal

pub returns-then-kept-j-clause-kept_ride : goal.returns-then-kept-j-clause-kept_ride
returns-then-kept-j-clause-kept_ride c = search ride_none

pub keep-requires : goal.keep-requires
keep-requires c = (search rules, search rules, search rules, search ride_room, search rules)

pub returns-clause-kept_ride : goal.returns-clause-kept_ride
returns-clause-kept_ride c = search ride_kept
