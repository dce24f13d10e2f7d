-- Without a ride one stops; else it is written, and one has paid for it and for the change in front of it.
use Rattle.query_shown.proofs.WayLaws.{next_inside, next_few, next_room, chosen_none, chosen_one}
use Rattle.query_shown.proofs.rides.ride_on.Goals as goal

pub returns-then-ride-eq-NO_TRIP-clause-rode : goal.returns-then-ride-eq-NO_TRIP-clause-rode
returns-then-ride-eq-NO_TRIP-clause-rode c = search chosen_none

pub front_price-price-requires : goal.front_price-price-requires
front_price-price-requires c = c.requires.2.soon

pub move_on-next-requires : goal.move_on-next-requires
move_on-next-requires c = let given = c.requires.0 in
    let inside = c.requires.1 in (
      next_inside _ _ _ _ _ _ given inside,
      next_few _ _ _ _ _ _ given inside,
      next_room _ _ _ _ _ _ given inside _ c.requires.3,
      c.choose-ride.ensures.1,
    )

pub returns-clause-rode : goal.returns-clause-rode
returns-clause-rode c = chosen_one _ _ _ _ _ _ _ c.requires.0 c.requires.1 _ _ c.requires.2 _ c.requires.4 _
    c.boarded-from.ensures _ c.way_between-way.ensures _ c.station-to.ensures.0 _
    c.choose-ride.ensures.0 _ c.front_price-price.ensures _ _ _ c.if-ride-eq-NO_TRIP.false
    c.move_on-next.ensures.moved
