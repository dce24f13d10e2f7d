-- One turn of each loop of the code, over rides as the code tells them. No reader of the promise needs this file.
use Rattle.std.specs.Prelude.{◌≡◌, refl, Bool, true, false, cond, ◌&&◌, List, [], ◌∷◌, ℕ, ◌+◌, ◌-◌, ◌*◌, leb, ltb}
use Rattle.std.specs.Prelude.{get_or}
use Rattle.connections.specs.Rides.{Ride}
use Rattle.query_minutes.specs.Minutes.{no_points, note_all, blank, lowered}
use Rattle.query_rides.specs.declared.Ride.{Ride as RideStruct}
use Rattle.query_rides.specs.Riding.{Tells}
use Rattle.query_rides.specs.Ways.{way_between}
use Rattle.query_rests.specs.Settling.{settled_from}
use Rattle.query_rests.specs.Stepping.{catchable, catches, rides_to, caught_way}

-- a ride as the code tells it
abbrev pub tells_of : Ride → RideStruct
tells_of r =
    record {
      trip = r.trip;
      board = r.board;
      alight = r.alight;
      depart = r.depart;
      arrive = r.arrive;
      points = record { 0 = r.points };
    }

pub tells_is : (s : RideStruct) (r : Ride) → Tells s r → s ≡ tells_of r
tells_is s r t =
    λ i.
    record {
      trip = t.trip i;
      board = t.board i;
      alight = t.alight i;
      depart = t.depart i;
      arrive = t.arrive i;
      points = record { 0 = t.points i };
    }

-- ---- what is left, once one ride more is counted
unfoldable pub caught_by : (cm cp : ℕ) (old z : List ℕ) → RideStruct → List ℕ
caught_by cm cp old z s =
    cond
    (ltb (get_or old s.arrive no_points) no_points && leb cm s.depart)
    (lowered z (s.depart - cm) (cp + s.points.0 + get_or old s.arrive no_points))
    z

pub catches_none : (cm cp : ℕ) (old z : List ℕ) → note_all z (catches cm cp old []) ≡ z
unfolding catches note_all
catches_none cm cp old z = refl

pub catches_more : (cm cp : ℕ) (old z : List ℕ) (r : Ride) (l : List Ride)
    → note_all z (catches cm cp old (r ∷ l)) ≡ note_all (caught_by cm cp old z (tells_of r)) (catches cm cp old l)
unfolding catches note_all caught_by
catches_more cm cp old z r l = go (catchable cm old r) refl
  where
    go : (b : Bool) → catchable cm old r ≡ b
        → note_all z (catches cm cp old (r ∷ l)) ≡ note_all (caught_by cm cp old z (tells_of r)) (catches cm cp old l)
    go true e = rw e
    go false e = rw e

-- z once the rides that can be ride j of a path, to the nearest places, are noted by the way of changing before them,
-- old being what is left behind
unfoldable pub gather_back : (w lines : List ℕ) (minute : ℕ) (path : List ℕ) (j : ℕ) (old z : List ℕ) → List ℕ
gather_back w lines minute path j old z =
    let y = get_or path (2 * j - 2) 0 in
    let x = get_or path (2 * j - 1) 0 in
    note_all z (caught_way minute (way_between w y x) old (rides_to lines x (get_or path (2 * j) 0)))

-- what is left behind the ride before ride j of a path
unfoldable pub step_back : (w lines : List ℕ) (minute : ℕ) (path : List ℕ) (j : ℕ) (z : List ℕ) → List ℕ
step_back w lines minute path j z = settled_from no_points minute (gather_back w lines minute path j z blank)
