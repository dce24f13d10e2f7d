-- Connections, what makes one feasible, what it costs, and its pattern: Definitions 1 to 3 of the 2010 paper in the
-- words of document 01. They speak of a net: the rides of a timetable and the ways of changing.
use Rattle.std.specs.Prelude.{◌≡◌, Bool, not, ◌&&◌, List, [], ◌∷◌, ◌++◌, map, ℕ, suc, ◌+◌, ◌-◌, ◌≤◌, T, eqb, length}
use Rattle.std.specs.Prelude.{get_or}
use Rattle.timetable.specs.Timetable.{Station, Walk, Timetable}
use Rattle.lists.specs.Lists.{◌∈◌, filter, any, range}
use Rattle.results.specs.Results.{Cost, dominates}
use Rattle.connections.specs.Rides.{Ride, rides_of}

-- A way of changing: from the station alighted at to the station boarded at, with the minutes it takes and the points
-- it costs. Document 02, One: "a change is made either at the station itself or by walking".
pub record Change : Type 0 where
  pub from : ℕ
  pub to : ℕ
  pub minutes : ℕ
  pub points : ℕ

abbrev pub no_station : Station
no_station = record { minutes = 0; points = 0 }

abbrev pub change_at : List Station → (z : ℕ) → Change
change_at l z =
    record {
      from = suc z;
      to = suc z;
      minutes = (get_or l z no_station).minutes;
      points = (get_or l z no_station).points;
    }

-- "The walk's minutes and penalty replace the station's."
abbrev pub on_foot : Walk → Change
on_foot w = record { from = w.from; to = w.to; minutes = w.minutes; points = w.points }

-- "a W line from the station to itself", station c
abbrev pub along : (c : ℕ) → Walk → Bool
along c w = eqb w.from c && eqb w.to c

-- The S values of station z + 1 apply. Document 02, Nine: "From now on such a W line goes first: the S values do not
-- apply to changes there."
abbrev pub applies : List Walk → (z : ℕ) → Bool
applies walks z = not (any (along (suc z)) walks)

-- at each station of which the S values apply, and by each walk
unfoldable pub changes_of : Timetable → List Change
changes_of t =
    map (change_at t.stations) (filter (applies t.walks) (range 0 (length t.stations)))
    ++ map on_foot t.walks

-- what a pattern names of a change
pub record Transfer : Type 0 where
  pub alighted : ℕ
  pub boarded : ℕ

abbrev pub transfer : Change → Transfer
transfer w = record { alighted = w.from; boarded = w.to }

pub record Net : Type 0 where
  -- how many stations are listed
  pub stations : ℕ
  pub rides : List Ride
  pub changes : List Change

abbrev pub net : Timetable → Net
net t =
    record { stations = length t.stations; rides = rides_of t; changes = changes_of t }

-- "A connection is one or more rides": a single ride, or a ride, a change and a connection from there.
pub data Connection : Type 0 where
  direct : Ride → Connection
  onward : Ride → Change → Connection → Connection

-- one who is at station a from minute t on can take this ride
pub record Boards (n : Net) (a t : ℕ) (r : Ride) : Type 0 where
  pub listed : r ∈ n.rides
  pub here : r.from ≡ a
  pub timely : t ≤ r.depart

-- one who has taken this ride can change so
pub record Changes (n : Net) (r : Ride) (w : Change) : Type 0 where
  pub listed : w ∈ n.changes
  pub here : w.from ≡ r.to

-- the minute from which one who came by r and changes by w can leave again
abbrev pub ready : Ride → Change → ℕ
ready r w = r.arrive + w.minutes

-- "It is feasible for A at minute t to B if it boards at A at t or later, alights at B, and at each change alights and
-- boards at one station, leaving no earlier than arrival plus that station's change minutes", where a walk takes the
-- place of the station. "Staying aboard needs no change minutes": it is part of a ride. "No walk stands before the
-- first ride or after the last."
abbrev pub Feasible : Net → (a t b : ℕ) → Connection → Type 0
Feasible n a t b (direct r) = Boards n a t r × (r.to ≡ b)
Feasible n a t b (onward r w c) = Boards n a t r × Changes n r w × Feasible n w.to (ready r w) b c

abbrev pub departure : Connection → ℕ
departure (direct r) = r.depart
departure (onward r w c) = r.depart

abbrev pub arrival : Connection → ℕ
arrival (direct r) = r.arrive
arrival (onward r w c) = arrival c

-- "Duration is last arrival minus t."
abbrev pub duration : ℕ → Connection → ℕ
duration t c = arrival c - t

-- "Penalty is the sum of ride penalties over every stop ridden from, plus the change penalty of each change."
abbrev pub penalty : Connection → ℕ
penalty (direct r) = r.points
penalty (onward r w c) = r.points + w.points + penalty c

abbrev pub cost : ℕ → Connection → Cost
cost t c = record { minutes = duration t c; points = penalty c }

-- "Optimal: no feasible connection for the query dominates it."
pub record Optimal (n : Net) (a t b : ℕ) (c : Connection) : Type 0 where
  pub feasible : Feasible n a t b c
  pub undominated : (e : Connection) → Feasible n a t b e → ¬ T (dominates (cost t e) (cost t c))

-- "the stations of the changes in order, then B": "Patterns now name the station alighted at and the one boarded at"
abbrev pub stations : Connection → List ℕ
stations (direct r) = r.to ∷ []
stations (onward r w c) = w.from ∷ w.to ∷ stations c

-- "The pattern is A, the stations of the changes in order, then B."
abbrev pub pattern : ℕ → Connection → List ℕ
pattern a c = a ∷ stations c
