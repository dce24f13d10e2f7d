-- The slots that begin with the stations before y have been listed.
use mathlib.Core.Path.{◌≡◌}
use Prim.Native.Nat.{suc}
use lib.ListN.{length}
use Rattle.store_slots.specs.Listing.{slots_to}
use Rattle.store_slots.specs.Writing.{Writing}
use Rattle.store_slots.proofs.list_slots.Given as goal

abbrev pub invariant-loop-y : goal.invariant-loop-y
invariant-loop-y l = (length l.list ≡ length l.initial.list)
    × Writing (slots_to l.words 1 (suc l.stations)) (slots_to l.words l.y (suc l.stations)) l.initial.list l.list 0
    l.here
