use Prim.Native.Nat.{◌-◌}
use native.Mathlib.Nat.{add-zero, sub-zero}
use Rattle.lines_turned.proofs.SameLaws.{trip_differs, trip_agrees, trip_same}
use borrow.Author.Rules.{rules}
use Rattle.lines_turned.proofs.same_trip.Goals as goal

pub loop-p-init : goal.loop-p-init
loop-p-init c = (search rules, search rules, simp (add-zero, sub-zero))

pub returns-then-not-same_stop : goal.returns-then-not-same_stop
returns-then-not-same_stop c = search trip_differs

pub loop-p-preserved : goal.loop-p-preserved
loop-p-preserved c = (search rules, search rules, search trip_agrees)

pub returns : goal.returns
returns c = search trip_same
