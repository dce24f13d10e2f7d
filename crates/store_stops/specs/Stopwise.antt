-- The timetable stop by stop, by its words: stops count from 0 over all trips, so that the stop behind a stop that is
-- left again is the next one.
use Rattle.std.specs.Prelude.{◌≡◌, List, ℕ, zero, suc, ◌+◌, ◌≤◌, ◌<◌, T}
use Rattle.timetable.specs.Words.{trip_count, stop_at, start_at, timetable_of}
use Rattle.timetable.specs.WalkTo.{stay_at}
use Rattle.lists.specs.Lists.{◌∈◌}
use Rattle.connections.specs.Rides.{may_board, may_alight}
use Rattle.connections.specs.Connections.{Change, changes_of}

-- 2,879 * 1,100 + 1: no one who is on the way has paid as much, by the laws of reckoning/Bounds
abbrev pub unreached : ℕ
unreached = 3166901

-- no stop
abbrev pub nowhere : ℕ
nowhere = 65535

module _ (w : List ℕ) where
  -- station, arrival, departure and ride penalty of a stop
  abbrev pub station : ℕ → ℕ
  station i = (stop_at w i).station

  abbrev pub arrive : ℕ → ℕ
  arrive i = (stop_at w i).arrive

  abbrev pub depart : ℕ → ℕ
  depart i = (stop_at w i).depart

  abbrev pub points : ℕ → ℕ
  points i = (stop_at w i).points

  -- what a change at station c itself, counted from 1, takes and costs
  abbrev pub change_minutes : ℕ → ℕ
  change_minutes c = (stay_at w c).minutes

  abbrev pub change_points : ℕ → ℕ
  change_points c = (stay_at w c).points

  -- the change at station c itself
  abbrev pub stay : (c : ℕ) → Change
  stay c = record { from = c; to = c; minutes = change_minutes c; points = change_points c }

  -- the ways of changing
  abbrev pub ways_of : List Change
  ways_of = changes_of (timetable_of w)

  -- the minute from which one who arrives at stop j and changes so can leave by another trip
  abbrev pub ready : ℕ → Change → ℕ
  ready j way = arrive j + way.minutes

  -- stop i is left again: it is not the last of its trip, and the trip's next stop is i + 1
  pub record Goes (i : ℕ) : Type 0 where
    pub trip : ℕ
    pub listed : trip < trip_count w
    pub begun : start_at w trip ≤ i
    pub inside : suc i < start_at w (trip + 1)

  -- a trip arrives at stop j
  pub record Arrival (j : ℕ) : Type 0 where
    pub i : ℕ
    pub goes : Goes i
    pub is : suc i ≡ j

  -- riders may board there, and may alight at a stop: "no ride may use a stop against its mark"
  pub record Boards (i : ℕ) : Type 0 where
    pub goes : Goes i
    pub opens : T (may_board (stop_at w i))

  abbrev pub Alights : ℕ → Type 0
  Alights j = T (may_alight (stop_at w j))

  -- one who boards at stop i rides n stops on
  abbrev pub Ridden : (i n : ℕ) → Type 0
  Ridden i n = (k : ℕ) → k < n → Goes (i + k)

  -- the penalty of that ride
  unfoldable pub ridden : (i n : ℕ) → ℕ
  ridden i zero = 0
  ridden i (suc n) = points i + ridden (suc i) n

  -- one who arrives at stop j can board at stop g by this way of changing
  pub record CatchesBy (way : Change) (j g : ℕ) : Type 0 where
    pub listed : way ∈ ways_of
    pub alights : Alights j
    pub boards : Boards g
    pub from : station j ≡ way.from
    pub to : station g ≡ way.to
    pub timely : ready j way ≤ depart g

  -- one who arrives at stop j can board at stop g by a change that costs p
  pub record Catches (j g p : ℕ) : Type 0 where
    pub way : Change
    pub catches : CatchesBy way j g
    pub price : p ≡ way.points
