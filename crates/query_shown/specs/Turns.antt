-- The ride to take, once one ride more is seen, as the code tells rides. No reader of the promise needs this file.
use Rattle.std.specs.Prelude.{◌≡◌, Bool, true, false, cond, ◌&&◌, ℕ, ◌+◌, ◌-◌, ◌≤◌, leb, ltb, get_or}
use Rattle.std.proofs.Math.Path.{refl}
use Rattle.std.proofs.Common.{ap, ◌∙◌}
use mathlib.Core.List.{List, [], ◌∷◌}
use Rattle.lists.specs.Lists.{before, keep, filter, concat_map}
use Rattle.connections.specs.Rides.{Ride}
use Rattle.lines_lookup.specs.Calls.{Boarding}
use Rattle.lines_lookup.specs.First.{first_trip}
use Rattle.query_places.specs.Candidates.{nearest, reach_by}
use Rattle.query_places.specs.Turns.{trips_from}
use Rattle.query_minutes.specs.Minutes.{no_points}
use Rattle.query_rides.specs.declared.Ride.{Ride as RideStruct}
use Rattle.query_rests.specs.Turns.{tells_of}
use Rattle.query_shown.specs.Foremost.{former, foremost}
use Rattle.query_shown.specs.Heads.{lateness, head_key, no_ride, payable, endable, takeable, head_of}

abbrev key_of : (first : Bool) → RideStruct → List ℕ
key_of first s = lateness first s.depart ∷ s.trip ∷ s.board ∷ s.alight ∷ []

unfoldable pub numbers_before : (g f : RideStruct) → Bool
numbers_before g f = before (g.trip ∷ g.board ∷ g.alight ∷ []) (f.trip ∷ f.board ∷ f.alight ∷ [])

unfoldable pub comes_before : (first : Bool) (g f : RideStruct) → Bool
comes_before first g f = before (key_of first g) (key_of first f)

unfoldable pub tried : (first : Bool) (z : List ℕ) (p : ℕ) (best s : RideStruct) → RideStruct
tried first z p best s =
    cond
    (ltb (get_or z s.arrive no_points) no_points && leb (s.points.0 + get_or z s.arrive no_points) p)
    (cond (comes_before first s best) s best)
    best

-- where one pays k in front of it
unfoldable pub tried_onto : (first : Bool) (z : List ℕ) (p k : ℕ) (best s : RideStruct) → RideStruct
tried_onto first z p k best s = cond (payable k p) (tried first z (p - k) best s) best

unfoldable pub tried_all : (first : Bool) (price : ℕ → ℕ) (z : List ℕ) (p : ℕ) → RideStruct → List Ride → RideStruct
tried_all first price z p best [] = best
tried_all first price z p best (r ∷ l) =
    tried_all first price z p (tried_onto first z p (price r.depart) best (tells_of r)) l

module _ (first : Bool) (price : ℕ → ℕ) (z : List ℕ) (p : ℕ) where
  abbrev all : RideStruct → List Ride → RideStruct
  all = tried_all first price z p

  cond_both : (a b : Bool) (s f : RideStruct) → cond a (cond b s f) f ≡ cond (a && b) s f
  cond_both true b s f = refl
  cond_both false b s f = refl

  tried_one : (f : RideStruct) (r : Ride)
      → tried_onto first z p (price r.depart) f (tells_of r)
      ≡ cond (takeable price z p r) (cond (comes_before first (tells_of r) f) (tells_of r) f) f
  unfolding tried_onto tried
  tried_one f r =
      let k = price r.depart in
      cond_both (payable k p) (endable z (p - k) r) (cond (comes_before first (tells_of r) f) (tells_of r) f) f

  tried_head : (l : List Ride) (f : Ride)
      → all (tells_of f) l ≡ tells_of (foremost (head_key first) f (filter (takeable price z p) l))
  unfolding tried_all comes_before foremost
  tried_head [] f = refl
  tried_head (r ∷ l) f = go (takeable price z p r) refl (tried_head l)
    where
      one : RideStruct
      one = tried_onto first z p (price r.depart) (tells_of f) (tells_of r)

      better : RideStruct
      better = cond (comes_before first (tells_of r) (tells_of f)) (tells_of r) (tells_of f)

      go : (b : Bool) → takeable price z p r ≡ b
          → ((f : Ride)
          → all (tells_of f) l ≡ tells_of (foremost (head_key first) f (filter (takeable price z p) l)))
          → all one l ≡ tells_of (foremost (head_key first) f (keep b r (filter (takeable price z p) l)))
      go true e ih = ap (λ s. all s l) same ∙ ih (former (head_key first) f r)
        where
          choice : (b : Bool) → cond b (tells_of r) (tells_of f) ≡ tells_of (cond b r f)
          choice true = refl
          choice false = refl

          same : one ≡ tells_of (former (head_key first) f r)
          same =
              tried_one (tells_of f) r
              ∙ ap (λ b. cond b better (tells_of f)) e
              ∙ choice (before (head_key first r) (head_key first f))
      go false e ih = ap (λ s. all s l) same ∙ ih f
        where
          same : one ≡ tells_of f
          same = tried_one (tells_of f) r ∙ ap (λ b. cond b better (tells_of f)) e

  pub tried_all_lem : (l : List Ride)
      → tried_all first price z p (tells_of no_ride) l ≡ tells_of (head_of first price z p l)
  unfolding head_of
  tried_all_lem l = tried_head l no_ride

-- the rides from a call to the nearest place of its line, on the trips that leave at minute u or later
unfoldable pub call_rides : List ℕ → Boarding → (u : ℕ) → List Ride
call_rides v g u =
    concat_map
    (trips_from v g.line g.call.place (first_trip v g.line g.call.place u))
    (nearest (reach_by v g))

-- its numbers fit words of 32 bits
pub record Sized (s : RideStruct) : Type 0 where
  pub trip : s.trip ≤ 65536
  pub board : s.board ≤ 65536
  pub alight : s.alight ≤ 65536
  pub arrive : s.arrive ≤ 65536
