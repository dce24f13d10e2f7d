-- How the code comes from the least penalties before a ride to those behind it. No reader of the promise needs this
-- file: Readies shows what these words say.
use Rattle.std.specs.Prelude.{◌≡◌, cond, List, map, ℕ, ◌+◌, ◌<◌, ltb, get_or, set}
use Rattle.connections.specs.Rides.{Ride}
use Rattle.lists.specs.First.{first_from}
use Rattle.query_minutes.specs.Minutes.{no_points, blank, note_all}
use Rattle.query_rides.specs.declared.Way.{Way}
use Rattle.query_rides.specs.Ways.{cost_in}
use Rattle.query_costs.specs.Lowest.{lowest}

-- Words p hold the penalty paid before a departure at each minute. A ride, as it is noted for one who takes it: at the
-- minute from which he can leave again, with all that he has paid, where what follows takes so many minutes and points.
abbrev pub taken : (p : List ℕ) (minutes points : ℕ) → Ride → Ride
taken p minutes points r =
    record {
      trip = r.trip;
      board = r.board;
      alight = r.alight;
      from = r.from;
      to = r.to;
      depart = r.depart;
      arrive = r.arrive + minutes;
      points = get_or p r.depart 0 + r.points + points;
    }

-- the words with some rides noted
unfoldable pub taken_all : (p : List ℕ) (minutes points : ℕ) → (best : List ℕ) → List Ride → List ℕ
taken_all p minutes points best l = note_all best (map (taken p minutes points) l)

-- if there is a way of changing behind them
unfoldable pub taken_way : (p : List ℕ) → Way → (best : List ℕ) → List Ride → List ℕ
taken_way p g best l = cond g.found (taken_all p (cost_in g).minutes.0 (cost_in g).points.0 best l) best

-- before the first ride
unfoldable pub start_of : (minute : ℕ) → List ℕ
start_of minute = lowest no_points (set blank minute 0)

-- behind some rides and a change
unfoldable pub step_of : (p : List ℕ) → Way → List Ride → List ℕ
step_of p g l = lowest no_points (taken_way p g blank l)

-- the first minute with a penalty, or the one behind all
unfoldable pub first_value : List ℕ → ℕ
first_value p = first_from (λ m. ltb (get_or p m 0) no_points) 0 2880

-- no one is ready before minute e
pub record NoneBefore (e : ℕ) (p : List ℕ) : Type 0 where
  pub none : (m : ℕ) → m < e → get_or p m no_points ≡ no_points
