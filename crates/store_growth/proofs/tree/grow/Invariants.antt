-- The nodes below lo have been taken.
use mathlib.Core.Path.{◌≡◌}
use Prim.Native.Nat.{◌-◌, ◌≤◌}
use lib.ListN.{length}
use Rattle.timetable.specs.Words.{station_count}
use Rattle.store_frontier.specs.Routes.{Routes}
use Rattle.store_frontier.specs.Arrivals.{Arrivals}
use Rattle.store_departures.specs.Held.{Departures}
use Rattle.store_tree.specs.Tree.{Grown}
use Rattle.stores.specs.Stored.{sequences}
use Rattle.store_slots.specs.Slots.{slots}
use Rattle.store_minutes.specs.Looking.{LookedTo}
use Rattle.store_growth.proofs.tree.grow.Given as goal

abbrev pub invariant-loop-lo : goal.invariant-loop-lo
invariant-loop-lo l = Routes l.words l.order l.count l.catch
    × Arrivals l.words l.arrivals l.begins
    × Departures l.words l.chain l.first
    × (1 ≤ l.source)
    × (l.source ≤ station_count l.words)
    × (length l.work ≡ length l.initial.work)
    × (length l.targets ≡ length l.initial.targets)
    × Grown l.words (sequences l.words l.source) l.source l.work l.targets l.n l.m l.lo
    × (l.list ≡ slots l.words)
    × LookedTo l.words l.source l.lo l.reach
    × (length l.reach ≡ 2880)

abbrev pub decreases-loop-lo : goal.decreases-loop-lo
decreases-loop-lo l = 16384 - l.lo
