-- What is left of the rides from call to call, and after the ride at which a cursor stands.
use mathlib.Core.Path.{◌≡◌, refl, sym, ap, subst, ◌∙◌}
use mathlib.Core.List.{List, [], ◌∷◌, ◌++◌, append-nil, map}
use Prim.Native.Nat.{ℕ, ◌+◌, ◌≤◌, ◌<◌}
use native.Mathlib.Omega.{arith}
use lib.ListN.{length}
use Rattle.lists.specs.Lists.{concat_map}
use Rattle.lists.specs.Ranges.{range_more, range_none}
use Rattle.timetable.specs.Timetable.{Station}
use Rattle.timetable.specs.Words.{station_at}
use Rattle.connections.specs.Rides.{Ride}
use Rattle.lines_lookup.specs.Lookup.{Line, number_at, arrive_at, depart_at}
use Rattle.lines_lookup.specs.First.{first_trip}
use Rattle.lines_lookup.specs.Calls.{Piece, Boarding, calls_of, calls_in, BoardsAt, Within}
use Rattle.query_places.specs.Candidates.{Reach, nearest, reach_by, legs, ride_on, near_leg, near_read}
use Rattle.query_places.specs.Turns.{near_calls, legs_none, legs_more}
use Rattle.query_places.specs.Places.{reach_at, found_at}
use Rattle.query_places.specs.declared.Place.{Place}
use Rattle.query_rides.specs.declared.Ride.{Ride as RideStruct}
use Rattle.query_rides.specs.declared.Cursor.{Cursor}
use Rattle.std.specs.Prelude.{Option, None, Some}
use Rattle.query_rides.specs.Riding.{trips_of, ride_of, near_from, near_left, Good, Tells, near_none}

-- no trip of the line leaves in time
no_trips_lem : (v : List ℕ) (g : Boarding) (first : ℕ) (rs : List Reach) → g.line.trips ≤ first
    → concat_map (trips_of v g first) rs ≡ []
no_trips_lem v g first [] h = refl
no_trips_lem v g first (r ∷ rs) h =
    (λ i.
    map (λ j. ride_on v g.line g.call.place j r) (range_none first g.line.trips h i)
    ++ concat_map (trips_of v g first) rs)
    ∙ no_trips_lem v g first rs h

-- ---- from call to call
module _
    (v : List ℕ)
    (u k end : ℕ)
    (others : Piece)
    (whole : List Ride)
    (so_far : whole ≡ near_from v u (record { from = k; end = end }) others)
  where
    pub near_calls_none : end ≤ k + 1 → near_left v u None ≡ whole
    unfolding near_from near_calls
    near_calls_none h =
        near_none v u None refl ∙ sym (so_far ∙ ap (concat_map (near_leg v u)) (legs_none v u k end others h))

    module _
        (more : k + 1 < end)
        (inside : end ≤ length v)
        (g : Boarding)
        (is : BoardsAt v k others g)
        (o : Option Place)
        (is-o : nearest (reach_by v g) ≡ found_at o)
      where
        abbrev beyond : List Ride
        beyond = near_from v u (record { from = k + 2; end = end }) g.rest

        near_step : (first : ℕ) → first ≡ first_trip v g.line g.call.place u
            → whole ≡ concat_map (trips_of v g first) (nearest (reach_by v g)) ++ beyond
        unfolding near_from near_calls
        near_step first is-first =
            so_far
            ∙ ap (concat_map (near_leg v u)) (legs_more v u k end others more inside g is)
            ∙ rw (is-first, is.line)

        near_placed : (first : ℕ) → first ≡ first_trip v g.line g.call.place u
            → whole ≡ concat_map (trips_of v g first) (found_at o) ++ beyond
        near_placed first is-first =
            near_step first is-first ∙ ap (λ m. concat_map (trips_of v g first) m ++ beyond) is-o

        pub near_past : o ≡ None → whole ≡ beyond
        unfolding found_at
        near_past e =
            let first = first_trip v g.line g.call.place u in
            near_placed first refl ∙ ap (λ o. concat_map (trips_of v g first) (found_at o) ++ beyond) e

        module _ (first : ℕ) (is-first : first ≡ first_trip v g.line g.call.place u) where
          pub near_late : g.line.trips ≤ first → whole ≡ beyond
          near_late h =
              near_placed first is-first ∙ ap (λ m. m ++ beyond) (no_trips_lem v g first (found_at o) h)

          pub near_found : (s : Place) → o ≡ Some s
              → near_left v u
              (Some (record {
                calls = record { from = k + 2; end = end };
                boarding = g;
                to = s;
                j = first;
              }))
              ≡ whole
          unfolding near_left found_at
          near_found s e =
              sym
              (near_placed first is-first
              ∙ ap
              (λ m. m ++ beyond)
              (ap (λ o. concat_map (trips_of v g first) (found_at o)) e
              ∙ append-nil (trips_of v g first (reach_at s))))

pub near_first : (v : List ℕ) (a b u : ℕ) (calls others : Piece) (whole : List Ride)
    → whole ≡ near_from v u calls others → calls_in v calls ≡ calls_of v a → calls_in v others ≡ calls_of v b
    → whole ≡ near_read v a u b
unfolding near_from near_calls near_read
near_first v a b u calls others whole so_far e f =
    so_far ∙ (λ i. concat_map (near_leg v u) (legs v (e i) (f i)))

-- ---- after a ride
module _ (v : List ℕ) (u : ℕ) (c : Cursor) where
  near_some : near_left v u (Some c)
      ≡ trips_of v c.boarding c.j (reach_at c.to) ++ near_from v u c.calls c.boarding.rest
  unfolding near_left
  near_some = refl

module _ (v : List ℕ) (u : ℕ) (c : Cursor) (good : Good v c) where
  near_on : near_left v u (Some c)
      ≡ ride_of v c
      ∷ (trips_of v c.boarding (c.j + 1) (reach_at c.to) ++ near_from v u c.calls c.boarding.rest)
  unfolding ride_of
  near_on =
      near_some v u c
      ∙ ap
      (λ js.
      map (λ i. ride_on v c.boarding.line c.boarding.call.place i (reach_at c.to)) js
      ++ near_from v u c.calls c.boarding.rest)
      (range_more c.j c.boarding.line.trips good.at_trip)

  pub near_trip : near_left v u (Some c) ≡ ride_of v c ∷ near_left v u (Some (record c { j = c.j + 1 }))
  unfolding near_left
  near_trip = near_on

  module _ (g : Boarding) (is-g : g ≡ c.boarding) where
    pub near_call : g.line.trips ≤ c.j + 1 → (r : Option Cursor) → near_left v u r ≡ near_from v u c.calls g.rest
        → near_left v u (Some c) ≡ ride_of v c ∷ near_left v u r
    near_call last r e =
        near_on
        ∙ ap
        (λ js.
        ride_of v c
        ∷ (map (λ i. ride_on v c.boarding.line c.boarding.call.place i (reach_at c.to)) js
        ++ near_from v u c.calls c.boarding.rest))
        (range_none (c.j + 1) c.boarding.line.trips (subst (λ g. g.line.trips ≤ c.j + 1) is-g last))
        ∙ ap (λ l. ride_of v c ∷ l) (ap (λ g. near_from v u c.calls g.rest) (sym is-g) ∙ sym e)

module _ (v : List ℕ) (c : Cursor) (good : Good v c) where
  pub trip_good : c.j + 1 < c.boarding.line.trips → Good v (record c { j = c.j + 1 })
  trip_good runs =
      record {
        calls_inside = good.calls_inside;
        within = good.within;
        place_few = good.place_few;
        j_few = omega (arith, good.within.trips_few);
        at_trip = runs;
      }

-- ---- what the code tells of a ride
pub told : (v : List ℕ) (g : Boarding) → Within v g → (to : Place) → to.place < 65536 → (l : Line) → l ≡ g.line
    → (j z d m : ℕ)
    → z ≡ number_at v l j → z < 65536
    → d ≡ depart_at v l g.call.place j → d < 65536
    → m ≡ arrive_at v l to.place j → m < 65536
    → Tells
    (record {
      trip = z;
      board = g.call.place + 1;
      alight = to.place + 1;
      depart = d;
      arrive = m;
      points = to.points;
    })
    (ride_on v g.line g.call.place j (reach_at to))
told v g within to to-few l is-l j z d m is-z z-few is-d d-few is_m m-few =
    record {
      trip = is-z ∙ ap (λ l. number_at v l j) is-l;
      board = refl;
      alight = refl;
      depart = is-d ∙ ap (λ l. depart_at v l g.call.place j) is-l;
      arrive = is_m ∙ ap (λ l. arrive_at v l to.place j) is-l;
      points = refl;
      trip_few = z-few;
      board_few = omega (arith, within.place_few);
      alight_few = omega (arith, to-few);
      depart_few = d-few;
      arrive_few = m-few;
    }

pub cursor_told : (v : List ℕ) (c : Cursor) (s : RideStruct)
    → Tells s (ride_on v c.boarding.line c.boarding.call.place c.j (reach_at c.to))
    → Tells s (ride_of v c)
unfolding ride_of
cursor_told v c s t = t

-- ---- what a change takes and costs
module _ (w : List ℕ) (i : ℕ) (s : Station) (is : s ≡ station_at w i) where
  pub change_minutes_lem : s.minutes ≡ (station_at w i).minutes
  change_minutes_lem = ap (λ s. s.minutes) is

  pub change_points_lem : s.points ≡ (station_at w i).points
  change_points_lem = ap (λ s. s.points) is
