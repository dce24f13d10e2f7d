use Prim.Native.Nat.{◌-◌}
use native.Mathlib.Nat.{add-zero, sub-zero}
use Rattle.lines_turned.proofs.WriteLaws.{trips_begin, trip_inside, trip_on_lem}
use Rattle.lines_turned.proofs.SameLaws.{trips_differ, trips_agree, trips_same}
use borrow.Author.Rules.{rules}
use Rattle.lines_turned.proofs.same_trips.Goals as goal

pub loop-j-init : goal.loop-j-init
loop-j-init c = (search rules, search trips_begin, simp (add-zero, sub-zero))

pub same_trip-requires : goal.same_trip-requires
same_trip-requires c = (search rules, search rules, search rules, search trip_inside)

pub returns-then-not-same_trip : goal.returns-then-not-same_trip
returns-then-not-same_trip c = search trips_differ

pub loop-j-preserved : goal.loop-j-preserved
loop-j-preserved c = let left = c.loop-j.invariant.2 in
    let same = c.same_trip.ensures in
    (search rules, search trip_on_lem, trips_agree _ _ _ _ _ _ _ left (search rules) _ same (search rules))

pub returns : goal.returns
returns c = search trips_same
