use mathlib.Core.Path.{refl}
use Prim.Native.Nat.{◌-◌}
use native.Mathlib.Nat.{add-zero, sub-zero}
use Rattle.lines_turned.proofs.WriteLaws.{trips_begin, trip_room, trip_on_lem, trips_more, trips_done}
use borrow.Author.Rules.{rules}
use Rattle.lines_turned.proofs.write_trips.Goals as goal

pub loop-j-init : goal.loop-j-init
loop-j-init c = (search rules, search trips_begin, refl, simp (add-zero, sub-zero))

pub write_trip-requires : goal.write_trip-requires
write_trip-requires c = (search rules, search rules, search rules, search trip_room)

pub loop-j-preserved : goal.loop-j-preserved
loop-j-preserved c = let turn = c.loop-j in (
  search rules,
  search trip_on_lem,
  search rules,
  trips_more _ _ _ _ _ _ _ _ turn.invariant.3 _ (search rules) (search trip_room) c.write_trip.ensures.out_after,
)

pub returns-clause-out_after : goal.returns-clause-out_after
returns-clause-out_after c = search trips_done
