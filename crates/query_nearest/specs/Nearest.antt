-- Of two rides from one stop of a trip, the one to the nearer stop leaves at the same minute, arrives earlier and costs
-- no more.
use Rattle.std.specs.Prelude.{◌≡◌, refl, ◌⊎◌, List, [], ◌∷◌, ℕ, zero, suc, ◌≤◌, ◌<◌, T, length, get_or}
use Rattle.std.proofs.Common.{ap, inl, inr, arith}
use Rattle.std.proofs.Math.Decide.{ℕ_discrete}
use Rattle.lists.specs.Tests.{T_right, reads}
use Rattle.timetable.specs.Timetable.{Stop, Trip, Timetable, runs, valid_trip, valid}
use Rattle.connections.specs.Rides.{Ride, no_stop, ride_in}
use Rattle.connections.proofs.RideLaws.{points_split}
use Rattle.connections.proofs.Sound.{trips_valid_lem, valid_trip_lem, trip_forward}

-- ride e is r, or one on the same trip from the same stop to a nearer one
pub record Nearer (e r : Ride) : Type 0 where
  pub trip : e.trip ≡ r.trip
  pub board : e.board ≡ r.board
  pub depart : e.depart ≡ r.depart
  pub alight : e.alight ≤ r.alight
  pub points : e.points ≤ r.points
  pub arrive : (e ≡ r) ⊎ (e.arrive < r.arrive)

pub nearer_sooner : (e r : Ride) → Nearer e r → e.arrive ≤ r.arrive
nearer_sooner e r k = elim k.arrive [ inl q ↦ omega (arith, ap (λ r. r.arrive) q) | inr h ↦ omega arith ]

-- between its first and its last stop a trip waits for its departure
waits_at : (n : ℕ) (b : Stop) (l : List Stop) → T (runs n b l) → (p : ℕ) → suc p < length l
    → (get_or l p no_stop).arrive ≤ (get_or l p no_stop).depart
unfolding runs
waits_at n b [] t p h = absurd (omega arith)
waits_at n b (s ∷ []) t p h = absurd (omega arith)
waits_at n b (s ∷ u ∷ l) t zero h = search reads
waits_at n b (s ∷ u ∷ l) t (suc p) h = waits_at n s (u ∷ l) (search T_right) p (omega arith)

trip_waits : (n : ℕ) (l : Trip) → T (valid_trip n l) → (x p : ℕ) → x < p → suc p < length l
    → (get_or l p no_stop).arrive ≤ (get_or l p no_stop).depart
unfolding valid_trip
trip_waits n [] t x p g h = absurd t
trip_waits n (b ∷ l) t x zero g h = absurd (omega arith)
trip_waits n (b ∷ l) t x (suc p) g h = waits_at n b l (search T_right) p (omega arith)

module _ (timetable : Timetable) (okay : T (valid timetable)) (k : ℕ) (listed : k < length timetable.trips) where
  abbrev trip : Trip
  trip = get_or timetable.trips k []

  module _ (x z y : ℕ) (later : x < z) (nearer : z ≤ y) (inside : y < length trip) where
    sooner : z < y → (get_or trip z no_stop).arrive < (get_or trip y no_stop).arrive
    sooner h =
        let n = length timetable.stations in
        let is_valid = valid_trip_lem n timetable.trips (trips_valid_lem timetable okay) k listed in
        omega (
          arith,
          trip_forward n trip is_valid z y h inside,
          trip_waits n trip is_valid x z later (omega arith),
        )

    pub nearer_ride : Nearer (ride_in timetable k x z) (ride_in timetable k x y)
    nearer_ride =
        record {
          trip = refl;
          board = refl;
          depart = refl;
          alight = omega arith;
          points = omega (arith, points_split trip x z y (omega arith) nearer);
          arrive =
              elim (ℕ_discrete z y) [
                | yes e ↦ inl (ap (ride_in timetable k x) e)
                | no e ↦ inr (sooner (omega arith))
              ];
        }
