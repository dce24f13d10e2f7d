-- Where every stop is open to both, the rides are those of document 01: "a trip, a stop to board at and a later stop to
-- alight at". For a reader.
use Rattle.std.specs.Prelude.{◌≡◌, List, [], map, ℕ, length, get_or}
use Rattle.timetable.specs.Timetable.{Trip, Timetable, number_of}
use Rattle.lists.specs.Lists.{filter, concat_map, range}
use Rattle.lists.specs.Tests.{and_true}
use Rattle.connections.specs.Rides.{Ride, no_stop, ride_at, may_board, may_alight, is_later, may_ride, rides_of}

-- every ride to a later stop, whatever the marks
unfoldable pub later_rides : Timetable → List Ride
later_rides t =
    concat_map
    (λ z.
    let l = get_or t.trips z [] in
    concat_map (λ x. map (ride_at l (number_of t z) x) (filter (is_later l x) (range 0 (length l))))
    (range 0 (length l)))
    (range 0 (length t.trips))

-- "0 both" at every stop
abbrev pub Unmarked : Trip → Type 0
Unmarked l = (p : ℕ) → (get_or l p no_stop).mark ≡ 0

unmarked_ride : (l : Trip) → Unmarked l → (x y : ℕ) → may_ride l x y ≡ is_later l x y
unfolding may_board may_alight
unmarked_ride l none x y = simp (none x, none y, and_true)

pub unmarked_rides : (t : Timetable) → ((z : ℕ) → Unmarked (get_or t.trips z [])) → rides_of t ≡ later_rides t
unfolding rides_of later_rides
unmarked_rides t none =
    λ i.
    concat_map
    (λ z.
    let l = get_or t.trips z [] in
    concat_map
    (λ x. map (ride_at l (number_of t z) x) (filter (λ y. unmarked_ride l (none z) x y i) (range 0 (length l))))
    (range 0 (length l)))
    (range 0 (length t.trips))
