-- What the code knows on its way along a path: the ride to take next, where one is behind it, and that the rides taken
-- so far begin the connection that is shown. No reader of the promise needs this file.
use Rattle.std.specs.Prelude.{◌≡◌, Bool, true, false, cond, ◌⊎◌, List, [], ◌∷◌, ℕ, ◌+◌, ◌-◌, ◌*◌, ◌≤◌, get_or, take}
use Rattle.std.proofs.Math.Seq.{slice}
use Rattle.words.specs.Put.{put}
use Rattle.timetable.specs.Words.{station_count, timetable_of}
use Rattle.connections.specs.Rides.{Ride}
use Rattle.connections.specs.Connections.{net, Connection}
use Rattle.optimality.specs.Greedy.{Starting, Changing, Continues}
use Rattle.query_rides.specs.declared.Ride.{Ride as RideStruct}
use Rattle.query_rides.specs.Ways.{way_between}
use Rattle.query_shown.specs.declared.At.{At}
use Rattle.query_shown.specs.declared.Next.{Next}
use Rattle.query_shown.specs.Prices.{front_price}
use Rattle.query_shown.specs.Heads.{Chosen}
use Rattle.query_shown.specs.Going.{Going}
use Rattle.query_rests.specs.Turns.{tells_of}

-- the station at which ride i of a path is boarded: the first one at the source, where one is
unfoldable pub boarded_at : (path : List ℕ) (first : Bool) (i alighted : ℕ) → ℕ
boarded_at path first i alighted = cond first alighted (get_or path (2 * i - 1) 0)

-- One is at a listed station, and has come there no earlier than minute t; ride i of the path is the next, and only the
-- first needs none before it.
pub record Standing (w : List ℕ) (t : ℕ) (first : Bool) (i : ℕ) (at : At) : Type 0 where
  pub least : 1 ≤ at.alighted
  pub most : at.alighted ≤ station_count w
  pub later : t ≤ at.arrive
  pub soon : at.arrive ≤ 65536
  pub rode : cond first 0 1 ≤ i

-- a path of r rides, to the end of which one is to come by minute v
module _ (w path : List ℕ) (r v : ℕ) where
  abbrev b : ℕ
  b = get_or path (2 * r - 2) 0

  -- how one comes to ride i of the path from where one is
  abbrev pub FrontAt : (first : Bool) (i : ℕ) (at : At) → (r : Ride) (k : ℕ) → Type 0
  FrontAt true i at = Starting (net (timetable_of w)) at.alighted at.arrive
  FrontAt false i at = Changing (net (timetable_of w)) at.alighted at.arrive (get_or path (2 * i - 1) 0)

  -- what one pays in front of it, by its departure
  abbrev pub price_at : (first : Bool) (i : ℕ) (at : At) (depart : ℕ) → ℕ
  price_at first i at =
      front_price first (way_between w at.alighted (boarded_at path first i at.alighted)) at.arrive

  -- s is ride i of the path, the one to take
  pub record Taken (first : Bool) (i : ℕ) (at : At) (s : RideStruct) : Type 0 where
    pub ride : Ride
    pub tells : s ≡ tells_of ride
    pub chosen : Chosen (timetable_of w) b v (FrontAt first i at) first at.arrive (get_or path (2 * i) 0)
        (slice (2 * i + 1) (2 * r - 1) path) at.left.0 ride (price_at first i at ride.depart)

  -- no connection fits
  abbrev pub None : (first : Bool) (i : ℕ) (at : At) → Type 0
  None first i at =
      (c : Connection)
      → ¬ Continues (net (timetable_of w)) b v (FrontAt first i at)
      (get_or path (2 * i) 0 ∷ slice (2 * i + 1) (2 * r - 1) path) at.left.0 c

  pub record Nothing (first : Bool) (i : ℕ) (at : At) (s : RideStruct) : Type 0 where
    pub trip : s.trip ≡ 65536
    pub none : None first i at

  unfoldable pub Headed : (first : Bool) (i : ℕ) (at : At) (s : RideStruct) → Type 0
  Headed first i at s = Nothing first i at s ⊎ Taken first i at s

  -- the first i rides of the path are written, for a query from a at minute t and p points, and one is at a listed
  -- station
  pub record Under (a t p d i : ℕ) (rides : List ℕ) (at : At) : Type 0 where
    pub least : 1 ≤ at.alighted
    pub most : at.alighted ≤ station_count w
    pub later : t ≤ at.arrive
    pub soon : at.arrive ≤ 65536
    pub going : Going (timetable_of w) b v (take (2 * r - 1) path) a t p (take (3 * i) rides) d
        (slice (2 * i - 1) (2 * r - 1) path) at.alighted at.arrive at.left.0

-- ride s is written as ride i of the path, for which and for the change in front of it one has paid
pub record Moved (path : List ℕ) (i left price : ℕ) (s : RideStruct) (old new : List ℕ) (next : At) : Type 0 where
  pub wrote : new ≡ put (3 * i) (s.trip ∷ s.board ∷ s.alight ∷ []) old
  pub alighted : next.alighted ≡ get_or path (2 * i) 0
  pub arrive : next.arrive ≡ s.arrive
  pub left_then : next.left.0 ≡ left - (price + s.points.0)

-- what became of ride i of the path: there is none to take
pub record Stopped (w path : List ℕ) (r v : ℕ) (first : Bool) (i : ℕ) (at : At) (step : Next) : Type 0 where
  pub found : step.found ≡ false
  pub none : None w path r v first i at

-- or it is taken
pub record Gone (w path : List ℕ) (r v : ℕ) (first : Bool) (i : ℕ) (at : At) (old new : List ℕ) (step : Next) : Type 0
  where
    pub found : step.found ≡ true
    pub ride : RideStruct
    pub departs : step.depart ≡ ride.depart
    pub taken : Taken w path r v first i at ride
    pub moved : Moved path i at.left.0 (price_at w path r v first i at ride.depart) ride old new step.at

unfoldable pub Rode : (w path : List ℕ) (r v : ℕ) (first : Bool) (i : ℕ) (at : At) (old new : List ℕ) (step : Next)
    → Type 0
Rode w path r v first i at old new step =
    Stopped w path r v first i at step ⊎ Gone w path r v first i at old new step
