-- One turn of each loop of the code, and what a loop over the calls of a station has before it. No reader of the
-- promise needs this file.
use Rattle.std.specs.Prelude.{List, [], map, ◌∷◌, ◌≡◌, ℕ, ◌-◌, ◌+◌, ◌≤◌, ◌<◌, length}
use Rattle.std.proofs.Common.{sym, ◌∙◌}
use Rattle.std.proofs.Math.Path.{ap}
use Rattle.lists.specs.Lists.{concat_map, range}
use Rattle.connections.specs.Rides.{Ride}
use Rattle.lines_lookup.specs.Lookup.{Line}
use Rattle.lines_lookup.specs.Calls.{Call, Piece, Boarding, calls_in, BoardsAt}
use Rattle.lines_lookup.proofs.LookupLaws.{pairs_more, pairs_none}
use Rattle.query_places.specs.Candidates.{Reach, ride_on, legs, first_leg, near_leg, leg_of}

-- the first rides from the calls cs to the calls ds
unfoldable pub first_calls : List ℕ → (u : ℕ) (cs ds : List Call) → List Ride
first_calls v u cs ds = concat_map (first_leg v u) (legs v cs ds)

-- the rides to a later place on the trips from place j of the line on
abbrev pub trips_from : List ℕ → Line → (x j : ℕ) → Reach → List Ride
trips_from v l x j r = map (λ i. ride_on v l x i r) (range j (l.trips - j))

-- all rides from the calls cs to the nearest places of the calls ds
unfoldable pub near_calls : List ℕ → (u : ℕ) (cs ds : List Call) → List Ride
near_calls v u cs ds = concat_map (near_leg v u) (legs v cs ds)

-- a piece from index k on
abbrev pub from : (k end : ℕ) → Piece
from k end = record { from = k; end = end }

-- ---- from call to call, with what is left to alight at
module _ (v : List ℕ) (u k end : ℕ) (rest : Piece) where
  pub legs_none : end ≤ k + 1 → legs v (calls_in v (from k end)) (calls_in v rest) ≡ []
  unfolding legs
  legs_none h = ap (λ cs. legs v cs (calls_in v rest)) (pairs_none v k end h)

  pub legs_more : k + 1 < end → end ≤ length v → (g : Boarding) → BoardsAt v k rest g
      → legs v (calls_in v (from k end)) (calls_in v rest)
      ≡ leg_of v g.call (calls_in v g.rest) ∷ legs v (calls_in v (from (k + 2) end)) (calls_in v g.rest)
  unfolding legs
  legs_more more inside g is =
      ap (λ cs. legs v cs (calls_in v rest))
      (pairs_more v k end more inside ∙ ap (λ d. d ∷ calls_in v (from (k + 2) end)) (sym is.call))
      ∙ rw (← is.left)
