-- The walks before k have been looked at.
use mathlib.Core.Path.{◌≡◌}
use lib.ListN.{length}
use Rattle.store_slots.specs.Listing.{side_slots}
use Rattle.store_slots.specs.Writing.{Writing}
use Rattle.store_slots.proofs.list_walks.Given as goal

abbrev pub invariant-loop-k : goal.invariant-loop-k
invariant-loop-k l = (length l.list ≡ length l.initial.list)
    × Writing (side_slots l.words l.above l.y l.first l.end) (side_slots l.words l.above l.y l.k l.end) l.initial.list
    l.list l.at l.here
