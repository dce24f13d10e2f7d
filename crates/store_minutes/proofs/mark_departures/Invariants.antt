-- The departures of the source up to place p have been looked at.
use mathlib.Core.Path.{◌≡◌}
use Prim.Native.Nat.{◌+◌, ◌≤◌}
use lib.ListN.{length, get_or}
use Rattle.timetable.specs.Words.{station_count}
use Rattle.store_frontier.specs.Routes.{Routes}
use Rattle.store_frontier.specs.Arrivals.{Arrivals}
use Rattle.store_departures.specs.Held.{Departures}
use Rattle.store_nodes.specs.Standing.{StandingTo}
use Rattle.store_minutes.specs.Seeking.{Sought}
use Rattle.store_minutes.specs.Looking.{Parents, Sounded}
use Rattle.store_minutes.proofs.mark_departures.Given as goal

abbrev pub invariant-loop-p : goal.invariant-loop-p
invariant-loop-p l = Routes l.words l.order l.n l.catch
    × Arrivals l.words l.arrivals l.begins
    × Departures l.words l.chain l.first
    × (l.chunk.source ≤ station_count l.words)
    × StandingTo l.words l.chunk.source l.work l.chunk.hi
    × (l.chunk.lo ≤ l.chunk.hi)
    × (l.chunk.hi ≤ l.chunk.lo + 96)
    × Parents l.work l.chunk.lo l.chunk.hi l.chunk.least
    × (l.end ≡ get_or l.first (l.chunk.source + 1) 0)
    × (get_or l.first l.chunk.source 0 ≤ l.p)
    × (l.p ≤ get_or l.first (l.chunk.source + 1) 0)
    × (length l.reach ≡ 2880)
    × (length l.v ≡ 2048)
    × (length l.q ≡ 2048)
    × (length l.x ≡ 2048)
    × (length l.arcs ≡ 6144)
    × (length l.kids ≡ 30720)
    × Sought l.words l.chunk.source l.chain (get_or l.first l.chunk.source 0) l.p l.last l.chunk.lo l.chunk.hi l.arcs
    l.kids
    × Sounded l.words l.chunk.source l.chain (get_or l.first l.chunk.source 0) l.p l.chunk.lo l.chunk.hi l.reach
