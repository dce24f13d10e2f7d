-- Riding along a trip, as the code does it: one who boards at a stop rides on until the trip ends or comes back to the
-- station of boarding where one can board again, and at each arrival something is done to an array.
use Rattle.std.specs.Prelude.{Bool, cond, not, ◌&&◌, List, [], ◌∷◌, map, ℕ, zero, suc, ◌+◌, ◌-◌, min, ltb, eqb, get_or}
use Rattle.lists.specs.Lists.{concat_map}
use Rattle.timetable.specs.Timetable.{Stop, Walk}
use Rattle.timetable.specs.Words.{stop_at, walks_to, walk_at}
use Rattle.connections.specs.Rides.{may_board}
use Rattle.connections.specs.Connections.{Change, on_foot}
use Rattle.store_stops.specs.Stopwise.{station, depart, points, change_minutes, change_points, stay, unreached}
use Rattle.store_slots.specs.Slots.{here_slot, walk_slot, walks_from}
use Rattle.store_departures.specs.Order.{waiting, catch_by}
use Rattle.store_points.specs.Lowered.{lowered}
use Rattle.store_marks.specs.Arrays.{fill, fall, raised}

-- one arrives at a stop, having paid so much
pub record Visit : Type 0 where
  pub stop : ℕ
  pub paid : ℕ

abbrev pub visit : (j y : ℕ) → Visit
visit j y = record { stop = j; paid = y }

-- a stop at station c where one can board again
unfoldable pub comes_back : Stop → (c : ℕ) → Bool
comes_back s c = eqb s.station c && may_board s

-- the points of the ride onward from a stop, 101 where the trip ends or comes back to station c: no ride costs as much
unfoldable pub onward_points : Stop → (c : ℕ) → ℕ
onward_points s c = cond (ltb 0 s.depart && not (comes_back s c)) s.points 101

-- what one has paid who boards at stop i, where x has the labels: no one boards where it is closed
unfoldable pub label_at : (w x : List ℕ) (i : ℕ) → ℕ
label_at w x i = cond (may_board (stop_at w i)) (min (get_or x i 0) unreached) unreached

module _ (w : List ℕ) (c : ℕ) where
  -- behind stop j one rides on
  abbrev pub goes_on : ℕ → Bool
  goes_on j = ltb 0 (depart w j) && not (comes_back (stop_at w j) c)

  -- the arrivals of one who leaves stop j, having paid y, up to the next one where the trip comes back to c, n at most
  unfoldable pub visits : (n j y : ℕ) → List Visit
  visits zero j y = []
  visits (suc n) j y =
      visit (suc j) (y + points w j) ∷ cond (goes_on (suc j)) (visits n (suc j) (y + points w j)) []

  -- those of one who boards at stop i, having paid what x says there
  unfoldable pub boarding : (x : List ℕ) (i : ℕ) → List Visit
  boarding x i = cond (ltb (label_at w x i) unreached) (visits (2048 - i) i (label_at w x i)) []

  -- of all who board at the stops of a list
  unfoldable pub boardings : (x l : List ℕ) → List Visit
  boardings x l = concat_map (boarding x) l

-- an array, once something was done to it at each arrival
unfoldable pub run : (act : Visit → List ℕ → List ℕ) → List Visit → List ℕ → List ℕ
run act [] s = s
run act (v ∷ l) s = run act l (act v s)

-- ---- labels
-- of a departure of the source, from minute d on
unfoldable pub root_label : (w : List ℕ) (d g : ℕ) → ℕ
root_label w d g = cond (ltb (depart w g) d) unreached 0

module _ (w : List ℕ) (way : Change) where
  -- who arrives where this way of changing begins can change to the departure caught
  unfoldable pub offer : Visit → List ℕ → List ℕ
  offer v x =
      cond (eqb (station w v.stop) way.from) (lowered (catch_by w way v.stop) (v.paid + way.points) x) x

module _ (w : List ℕ) (c : ℕ) where
  -- all who board at the stops of a list at station c, one after the other, and change so
  unfoldable pub rides : (way : Change) (l x : List ℕ) → List ℕ
  rides way [] x = x
  rides way (i ∷ l) x = rides way l (run (offer w way) (boarding w c x i) x)

  -- all who board at station c, by each of some ways of changing
  unfoldable pub rides_by : (ways : List Change) (x : List ℕ) → List ℕ
  rides_by [] x = x
  rides_by (way ∷ ways) x = rides_by ways (rides way (waiting w c) x)

  -- from the labels at station c to those at station e, where these are the ways of changing
  unfoldable pub stepped : (ways : List Change) (e : ℕ) → List ℕ → List ℕ
  stepped ways e x = fall unreached (waiting w e) (rides_by ways (fill (λ g. unreached) (waiting w e) x))

-- the change at station y itself, as code holds a way of changing
abbrev pub staying : (w : List ℕ) (y : ℕ) → Walk
staying w y = record { from = y; to = y; minutes = change_minutes w y; points = change_points w y }

-- the ways of changing from station y to station e: at the station itself, if they are one, and by walk k, if it is one
-- of those from y
unfoldable pub stays : (w : List ℕ) (y e : ℕ) → List Change
stays w y e = cond (eqb y e) (stay w y ∷ []) []

unfoldable pub foots : (w : List ℕ) (y k : ℕ) → List Change
foots w y k = cond (ltb k (walks_to w y)) (on_foot (walk_at w k) ∷ []) []

-- ---- marks
-- a flag that goes up if a test passes
pub record Try : Type 0 where
  pub flag : ℕ
  pub passes : Bool

unfoldable pub raise_try : Try → List ℕ → List ℕ
raise_try t l = raised t.passes t.flag l

unfoldable pub raise_all : List Try → List ℕ → List ℕ
raise_all [] l = l
raise_all (t ∷ ts) l = raise_all ts (raise_try t l)

-- the flag of the station of an arrival goes up if it ends well
unfoldable pub ends_try : (w allowed : List ℕ) → Visit → Try
ends_try w allowed v =
    record { flag = station w v.stop - 1; passes = ltb v.paid (get_or allowed v.stop 0) }

-- a way of changing after an arrival, with its slot: the flag goes up if one who changes so can still end well
unfoldable pub change_try : (w q : List ℕ) → Visit → (way : Change) (slot : ℕ) → Try
change_try w q v way s =
    record { flag = s; passes = ltb (v.paid + way.points) (get_or q (catch_by w way v.stop) 0) }

-- all ways of changing: at the station itself, and by each walk from it
unfoldable pub walk_tries : (w q : List ℕ) → Visit → (walks : List ℕ) → List Try
walk_tries w q v ks = map (λ k. change_try w q v (on_foot (walk_at w k)) (walk_slot w k)) ks

unfoldable pub change_tries : (w q : List ℕ) → Visit → List Try
change_tries w q v =
    let b = station w v.stop in
    change_try w q v (stay w b) (here_slot b) ∷ walk_tries w q v (walks_from w b)

-- what an arrival does to the flags of arcs, and to those of kids
unfoldable pub flag_arc : (w allowed : List ℕ) → Visit → List ℕ → List ℕ
flag_arc w allowed v l = raise_all (ends_try w allowed v ∷ []) l

unfoldable pub flag_kids : (w q : List ℕ) → Visit → List ℕ → List ℕ
flag_kids w q v l = raise_all (change_tries w q v) l
