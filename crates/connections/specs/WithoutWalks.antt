-- Where a timetable has no walk, all is as document 01 has it: "at each change alights and boards at one station". The
-- connections, their costs and their rows are the same, and a sequence of document 02 is one of document 01 in which
-- each station of a change stands twice, as alighted at and as boarded at. For a reader.
use Rattle.std.specs.Prelude.{ℕ, length}
use mathlib.Core.List.Memᴰ
use mathlib.Core.List.{List, [], ◌∷◌, map}
use Rattle.timetable.specs.Timetable.{Station, Timetable}
use Rattle.lists.specs.Lists.{range}
use Rattle.connections.specs.Rides.{rides_of}
use Rattle.connections.specs.Connections.{Change, change_at, Net, net, Connection, direct}
use Rattle.connections.specs.Connections.{onward, stations}

-- the ways of changing of document 01: one for each station
unfoldable pub own_changes : List Station → List Change
own_changes l = map (change_at l) (range 0 (length l))

-- the net of document 01
abbrev pub former_net : Timetable → Net
former_net t =
    record { stations = length t.stations; rides = rides_of t; changes = own_changes t.stations }

-- "the stations of the changes in order, then B", as document 01 has it
abbrev pub changed_stations : Connection → List ℕ
changed_stations (direct r) = r.to ∷ []
changed_stations (onward r w c) = w.from ∷ changed_stations c

-- each station of a change twice, the target once
abbrev pub doubled : List ℕ → List ℕ
doubled [] = []
doubled (x ∷ []) = x ∷ []
doubled (x ∷ y ∷ l) = x ∷ x ∷ doubled (y ∷ l)
