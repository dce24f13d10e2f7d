-- The rides from one station to another, one after the other, as line tables tell them: a cursor stands at one of them,
-- and what is left is that ride and those after it.
use Rattle.std.specs.Prelude.{◌≡◌, List, [], ◌∷◌, ◌++◌, ℕ, ◌≤◌, ◌<◌, length, Option, None, Some, IfSome}
use Rattle.std.proofs.Common.{ap, subst, ◌∙◌, arith}
use Rattle.connections.specs.Rides.{Ride}
use Rattle.lines_lookup.specs.Calls.{Piece, Boarding, calls_in, Inside, Within}
use Rattle.query_places.specs.Candidates.{Reach, ride_on}
use Rattle.query_places.specs.Places.{reach_at}
use Rattle.query_places.specs.Turns.{trips_from, near_calls}
use Rattle.query_rides.specs.declared.Ride.{Ride as RideStruct}
use Rattle.query_rides.specs.declared.Cursor.{Cursor}

-- the rides from the calls in one piece to the nearest places of those in another
unfoldable pub near_from : List ℕ → (u : ℕ) (calls others : Piece) → List Ride
near_from v u calls others = near_calls v u (calls_in v calls) (calls_in v others)

-- the rides on the trips from place j on, from where one boards to a place
abbrev pub trips_of : List ℕ → Boarding → (j : ℕ) → Reach → List Ride
trips_of v g j r = trips_from v g.line g.call.place j r

-- the ride at which a cursor stands
unfoldable pub ride_of : List ℕ → Cursor → Ride
ride_of v c = ride_on v c.boarding.line c.boarding.call.place c.j (reach_at c.to)

-- the rides from the one at which a cursor stands on: on the trips left to its place, and from the calls left; with no
-- cursor none is left
unfoldable pub near_left : List ℕ → (u : ℕ) → Option Cursor → List Ride
near_left v u None = []
near_left v u (Some c) = trips_of v c.boarding c.j (reach_at c.to) ++ near_from v u c.calls c.boarding.rest

-- what is known of a cursor: how large its numbers get, and that it stands at a trip
pub record Good (v : List ℕ) (c : Cursor) : Type 0 where
  pub calls_inside : Inside v c.calls
  pub within : Within v c.boarding
  pub place_few : c.to.place < 65536
  pub j_few : c.j < 65536
  pub at_trip : c.j < c.boarding.line.trips

-- what is known of it wherever it stands, be it past the last trip
pub record Bounded (v : List ℕ) (c : Cursor) : Type 0 where
  pub within : Within v c.boarding
  pub place_few : c.to.place < 65536
  pub j_few : c.j < 65536

-- a ride as the code tells it, and how large its numbers get
pub record Tells (s : RideStruct) (r : Ride) : Type 0 where
  pub trip : s.trip ≡ r.trip
  pub board : s.board ≡ r.board
  pub alight : s.alight ≡ r.alight
  pub depart : s.depart ≡ r.depart
  pub arrive : s.arrive ≡ r.arrive
  pub points : s.points.0 ≡ r.points
  pub trip_few : s.trip < 65536
  pub board_few : s.board ≤ 65536
  pub alight_few : s.alight ≤ 65536
  pub depart_few : s.depart < 65536
  pub arrive_few : s.arrive < 65536

-- where no ride is left
pub near_none : (v : List ℕ) (u : ℕ) (o : Option Cursor) → o ≡ None → near_left v u o ≡ []
unfolding near_left
near_none v u o e = ap (near_left v u) e

-- where a cursor stands at one
module _ (v : List ℕ) (o : Option Cursor) (c : Cursor) (at : o ≡ Some c) where
  pub good_some : IfSome o (Good v) → Good v c
  good_some = subst (λ o. IfSome o (Good v)) at

  -- so its ride can be told
  pub good_told : IfSome o (Good v) → Bounded v c
  good_told all =
      let good = good_some all in
      record { within = good.within; place_few = good.place_few; j_few = good.j_few }

  module _ (u : ℕ) (d : Option Cursor) (is : near_left v u (Some c) ≡ ride_of v c ∷ near_left v u d) where
    pub near_goes : near_left v u o ≡ ride_of v c ∷ near_left v u d
    near_goes = ap (near_left v u) at ∙ is

    -- after a ride, one less is left
    pub near_falls : length (near_left v u d) < length (near_left v u o)
    near_falls = omega (arith, ap length near_goes)
