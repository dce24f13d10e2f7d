-- Rides. Document 01: "A ride is a trip, a stop to board at and a later stop to alight at." Document 02, Two: "no ride
-- may use a stop against its mark". A ride carries what the timetable says of it, so that nobody has to look it up
-- again. Places count from 0; stops have numbers from 1, trips have numbers of their own.
use Rattle.std.specs.Prelude.{Bool, not, ◌&&◌, List, [], ◌∷◌, map, ℕ, zero, suc, ◌+◌, ltb, eqb, length, get_or}
use Rattle.timetable.specs.Timetable.{Stop, Trip, Timetable, number_of}
use Rattle.lists.specs.Lists.{filter, concat_map, range}

pub record Ride : Type 0 where
  -- the numbers by which it is shown
  pub trip : ℕ
  pub board : ℕ
  pub alight : ℕ
  -- the stations
  pub from : ℕ
  pub to : ℕ
  pub depart : ℕ
  pub arrive : ℕ
  -- what the ride itself costs
  pub points : ℕ

abbrev pub no_stop : Stop
no_stop = record { station = 0; arrive = 0; depart = 0; points = 0; mark = 0 }

-- "the sum of ride penalties over every stop ridden from": the stops from place x on, to before place y
unfoldable pub ride_points : Trip → (x y : ℕ) → ℕ
ride_points [] x y = 0
ride_points (s ∷ l) x zero = 0
ride_points (s ∷ l) zero (suc y) = s.points + ride_points l zero y
ride_points (s ∷ l) (suc x) (suc y) = ride_points l x y

-- the ride on trip l, which has number n, from the stop at place x to the stop at place y
abbrev pub ride_at : (l : Trip) (n x y : ℕ) → Ride
ride_at l n x y =
    record {
      trip = n;
      board = suc x;
      alight = suc y;
      from = (get_or l x no_stop).station;
      to = (get_or l y no_stop).station;
      depart = (get_or l x no_stop).depart;
      arrive = (get_or l y no_stop).arrive;
      points = ride_points l x y;
    }

-- the ride on the trip at place z
abbrev pub ride_in : Timetable → (z x y : ℕ) → Ride
ride_in t z x y = ride_at (get_or t.trips z []) (number_of t z) x y

-- "0 both, 1 boarding only, 2 setting down only": a rider may board where the mark is not 2, and alight where it is
-- not 1
unfoldable pub may_board : Stop → Bool
may_board s = not (eqb s.mark 2)

unfoldable pub may_alight : Stop → Bool
may_alight s = not (eqb s.mark 1)

-- "a stop to board at and a later stop to alight at"
abbrev pub is_later : (l : Trip) (x y : ℕ) → Bool
is_later l x y = ltb x y && ltb y (length l)

-- "no ride may use a stop against its mark": who boards trip l at place x may alight at place y. All that lists rides,
-- from trips or from lines, asks here.
abbrev pub may_ride : (l : Trip) (x y : ℕ) → Bool
may_ride l x y = is_later l x y && may_board (get_or l x no_stop) && may_alight (get_or l y no_stop)

-- the rides on a trip that board at place x
abbrev pub rides_from : (l : Trip) (n x : ℕ) → List Ride
rides_from l n x = map (ride_at l n x) (filter (may_ride l x) (range 0 (length l)))

abbrev pub trip_rides : (l : Trip) (n : ℕ) → List Ride
trip_rides l n = concat_map (rides_from l n) (range 0 (length l))

-- every ride of the trips
unfoldable pub rides_of : Timetable → List Ride
rides_of t = concat_map (λ z. trip_rides (get_or t.trips z []) (number_of t z)) (range 0 (length t.trips))
