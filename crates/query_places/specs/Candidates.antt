-- The rides that the code finds in line tables, in the order in which it finds them. The lists of both stations rise,
-- so that one walk along each finds all places to board and to alight at. Of the places on one line after the one
-- boarded at that are open to alighting, only the nearest can be optimal. No reader of the promise needs this file:
-- Gathered shows that these are the direct rides of the timetable, and that the nearest of them have the result of all.
use Rattle.std.specs.Prelude.{Bool, cond, ◌&&◌, List, [], ◌∷◌, map, ℕ, ◌+◌, ◌-◌, ltb, eqb}
use Rattle.lists.specs.Lists.{concat_map, range}
use Rattle.connections.specs.Rides.{Ride}
use Rattle.lines_lookup.specs.Lookup.{Line, line_at, number_at, station_at, boards_at, alights_at, points_between}
use Rattle.lines_lookup.specs.Lookup.{arrive_at}
use Rattle.lines_lookup.specs.Lookup.{depart_at}
use Rattle.lines_lookup.specs.First.{first_trip}
use Rattle.lines_lookup.specs.Calls.{Call, Boarding, calls_of, calls_in, after}

-- a later position on a line, and the penalty of the ride to it
pub record Reach : Type 0 where
  pub place : ℕ
  pub points : ℕ

-- "no ride may use a stop against its mark": place x of a line is open to boarding, place y to alighting
unfoldable pub opens : List ℕ → Line → (x y : ℕ) → Bool
opens v l x y = boards_at v l x && alights_at v l y

-- the place of call d, as one to ride to from call c
abbrev pub reach_to : List ℕ → Line → (c d : Call) → Reach
reach_to v l c d = record { place = d.place; points = points_between v l c.place d.place }

-- the calls at the front of a list that are on the line l of call c, as places to ride to: those that are open
unfoldable pub reach_of : List ℕ → (l : Line) (c : Call) → List Call → List Reach
reach_of v l c [] = []
reach_of v l c (d ∷ ds) =
    cond
    (eqb d.line c.line)
    (cond (opens v l c.place d.place) (reach_to v l c d ∷ reach_of v l c ds) (reach_of v l c ds))
    []

-- the first of them: who goes on to a later one arrives later, and pays no less
unfoldable pub nearest : List Reach → List Reach
nearest [] = []
nearest (r ∷ rs) = r ∷ []

-- those of the line that is boarded
abbrev pub reach_by : List ℕ → Boarding → List Reach
reach_by v g = reach_of v g.line g.call (calls_in v g.rest)

-- a call to board at, and the places that one can ride to
pub record Leg : Type 0 where
  pub call : Call
  pub reach : List Reach

-- where the calls ds are left to alight at
abbrev pub leg_of : List ℕ → Call → List Call → Leg
leg_of v c ds = record { call = c; reach = reach_of v (line_at v c.line) c ds }

-- from the calls cs to the calls ds: for each, what is left after it is looked at
unfoldable pub legs : List ℕ → (cs ds : List Call) → List Leg
legs v [] ds = []
legs v (c ∷ cs) ds = leg_of v c (after c ds) ∷ legs v cs (after c ds)

-- the ride on the trip at place j of a line
abbrev pub ride_on : List ℕ → Line → (x j : ℕ) → Reach → Ride
ride_on v l x j r =
    record {
      trip = number_at v l j;
      board = x + 1;
      alight = r.place + 1;
      from = station_at v l x;
      to = station_at v l r.place;
      depart = depart_at v l x j;
      arrive = arrive_at v l r.place j;
      points = r.points;
    }

-- from place x of a line, with the first trip that leaves at minute u or later, if there is one
abbrev pub first_on : List ℕ → (u : ℕ) → Line → (x : ℕ) → List Reach → List Ride
first_on v u l x rs = cond (ltb (first_trip v l x u) l.trips) (map (ride_on v l x (first_trip v l x u)) rs) []

-- with that trip and all after it
abbrev pub trips_to : List ℕ → (u : ℕ) → Line → (x : ℕ) → Reach → List Ride
trips_to v u l x r =
    map (λ j. ride_on v l x j r) (range (first_trip v l x u) (l.trips - first_trip v l x u))

abbrev pub all_on : List ℕ → (u : ℕ) → Line → (x : ℕ) → List Reach → List Ride
all_on v u l x rs = concat_map (trips_to v u l x) rs

-- on a leg, to the nearest place
abbrev pub first_leg : List ℕ → (u : ℕ) → Leg → List Ride
first_leg v u g = first_on v u (line_at v g.call.line) g.call.place (nearest g.reach)

abbrev pub near_leg : List ℕ → (u : ℕ) → Leg → List Ride
near_leg v u g = all_on v u (line_at v g.call.line) g.call.place (nearest g.reach)

-- to all places
abbrev pub all_leg : List ℕ → (u : ℕ) → Leg → List Ride
all_leg v u g = all_on v u (line_at v g.call.line) g.call.place g.reach

-- from station a to station b at minute u, on all lines
unfoldable pub first_read : List ℕ → (a u b : ℕ) → List Ride
first_read v a u b = concat_map (first_leg v u) (legs v (calls_of v a) (calls_of v b))

unfoldable pub near_read : List ℕ → (a u b : ℕ) → List Ride
near_read v a u b = concat_map (near_leg v u) (legs v (calls_of v a) (calls_of v b))

unfoldable pub all_read : List ℕ → (a u b : ℕ) → List Ride
all_read v a u b = concat_map (all_leg v u) (legs v (calls_of v a) (calls_of v b))
