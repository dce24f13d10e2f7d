-- What a trip shows at a glance: a number that trips of one course have alike, and when it arrives at its last stop. A
-- trip that can run behind another has the same number and arrives no earlier, so that most lines need not be tried
-- stop by stop.
use Rattle.std.specs.Prelude.{◌≡◌, ℕ, ◌+◌, ◌-◌, ◌*◌, ◌/◌, ◌%◌, ◌≤◌, ◌<◌, T, get_or}
use Rattle.std.proofs.Math.Path.{ap}
use Rattle.std.proofs.Common.{mod-lt, arith}
use Rattle.std.proofs.Math.ListN.{length}
use Rattle.timetable.specs.Timetable.{Trip}
use Rattle.connections.specs.Rides.{no_stop}
use Rattle.lines.specs.Lines.{behind}
use Rattle.lines.proofs.Behind.{behind_length, behind_at}

-- numbers of courses are below this; unlike courses may have the same
abbrev pub courses : ℕ
courses = 256

-- the number of a course of so many stops, from its first station, one in the middle and its last
unfoldable pub mixed : (stops first middle last : ℕ) → ℕ
mixed stops first middle last =
    (stops % courses + 17 * (middle % courses) + (5 * (first % courses) + 33 * (last % courses))) % courses

-- the station at place p
abbrev pub station_at : Trip → (p : ℕ) → ℕ
station_at t p = (get_or t p no_stop).station

unfoldable pub course_of : Trip → ℕ
course_of t = mixed (length t) (station_at t 0) (station_at t (length t / 2)) (station_at t (length t - 1))

unfoldable pub last_arrival : Trip → ℕ
last_arrival t = (get_or t (length t - 1) no_stop).arrive

pub mixed_few : (stops first middle last : ℕ) → mixed stops first middle last < courses
unfolding mixed
mixed_few stops first middle last =
    mod-lt (stops % courses + 17 * (middle % courses) + (5 * (first % courses) + 33 * (last % courses))) (omega arith)

pub course_few : (t : Trip) → course_of t < courses
unfolding course_of
course_few t = mixed_few (length t) (station_at t 0) (station_at t (length t / 2)) (station_at t (length t - 1))

-- ---- a trip behind another
module _ (u v : Trip) (t : T (behind u v)) where
  pub behind_course : course_of u ≡ course_of v
  unfolding course_of
  behind_course =
      rw (
        behind_length u v t,
        (behind_at u v t 0).station,
        (behind_at u v t (length v / 2)).station,
        (behind_at u v t (length v - 1)).station,
      )

  pub behind_arrives : last_arrival u ≤ last_arrival v
  unfolding last_arrival
  behind_arrives =
      let same : length u - 1 ≡ length v - 1 = omega (arith, behind_length u v t) in
      let place : (get_or u (length u - 1) no_stop).arrive ≡ (get_or u (length v - 1) no_stop).arrive =
      ap (λ i. (get_or u i no_stop).arrive) same in
      omega (arith, (behind_at u v t (length v - 1)).arrive)
