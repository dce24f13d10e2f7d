-- Document 02, Nine, seen from One, which had it that "From and to may be equal, for a long platform, and then both
-- ways of changing are open." Where no W line leads from a station to itself, the ways of changing are the same, and
-- with them all connections, rows and stores. For a reader.
use Rattle.std.specs.Prelude.{◌≢◌, length}
use mathlib.Core.List.{List, ◌++◌, map}
use Rattle.timetable.specs.Timetable.{Walk, Timetable}
use Rattle.lists.specs.Lists.{◌∈◌, range}
use Rattle.connections.specs.Rides.{rides_of}
use Rattle.connections.specs.Connections.{Change, change_at, on_foot, Net, net}

-- the ways of changing of request One: at each station, and by each walk
unfoldable pub both_open : Timetable → List Change
both_open t = map (change_at t.stations) (range 0 (length t.stations)) ++ map on_foot t.walks

-- the net of request One
abbrev pub net_of_one : Timetable → Net
net_of_one t =
    record { stations = length t.stations; rides = rides_of t; changes = both_open t }

-- "A timetable without such a line"
abbrev pub NoneAlong : Timetable → Type 0
NoneAlong t = (v : Walk) → v ∈ t.walks → v.from ≢ v.to
