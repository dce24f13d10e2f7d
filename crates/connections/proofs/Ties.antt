-- The rule for equal cost in words: of the connections of one cost on a list the picked one departs latest; of those
-- that depart then, it has fewest rides; of those, none has rides that come first. This is for a reader: no proof rests
-- on it.
use Rattle.std.specs.Prelude.{◌≡◌, List, ◌∷◌, ℕ, ◌-◌, ◌≤◌, ◌<◌}
use native.Mathlib.Omega.{arith, by_contra}
use Rattle.std.proofs.Math.Dec.{T}
use Rattle.timetable.specs.Timetable.{last_minute}
use Rattle.lists.specs.Lists.{◌∈◌, before}
use Rattle.lists.specs.Order.{before_head, before_tail}
use Rattle.results.specs.Results.{Picked}
use Rattle.connections.specs.Connections.{Connection, departure, cost}
use Rattle.connections.specs.Planner.{ride_count, numbers, tie_key, measure}

-- c is picked from a list of connections within the two days, on which e has its cost
pub record Tied (t : ℕ) (l : List Connection) (c e : Connection) : Type 0 where
  pub picked : Picked (measure t) l c
  pub member : e ∈ l
  pub equal : cost t e ≡ cost t c
  pub in_time_lem : departure c ≤ last_minute
  pub also_in_time : departure e ≤ last_minute

module _ (t : ℕ) (l : List Connection) (c e : Connection) (tied : Tied t l c e) where
  abbrev rest : Connection → List ℕ
  rest c = ride_count c ∷ numbers c

  not_ahead : ¬ T (before (tie_key e) (tie_key c))
  not_ahead = tied.picked.first e tied.member tied.equal

  pub departs_latest : departure e ≤ departure c
  unfolding tie_key
  departs_latest = by_contra (departure e) (departure c) (λ h. not_ahead (later h))
    where
      later : departure c < departure e → T (before (tie_key e) (tie_key c))
      later h = before_head (last_minute - departure e) (last_minute - departure c) (rest e) (rest c) (omega arith)

  module _ (together : departure e ≡ departure c) where
    rest_not_ahead : ¬ T (before (rest e) (rest c))
    unfolding tie_key
    rest_not_ahead b =
        not_ahead
        (before_tail (last_minute - departure e) (last_minute - departure c) (rest e) (rest c) (omega arith) b)

    pub fewest_rides : ride_count c ≤ ride_count e
    fewest_rides =
        by_contra
        (ride_count c)
        (ride_count e)
        (λ h. rest_not_ahead (before_head (ride_count e) (ride_count c) (numbers e) (numbers c) h))

    pub rides_first : ride_count e ≡ ride_count c → ¬ T (before (numbers e) (numbers c))
    rides_first q b = rest_not_ahead (before_tail (ride_count e) (ride_count c) (numbers e) (numbers c) q b)
