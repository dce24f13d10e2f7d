-- One ride more is tried, and all rides one after the other: from trip to trip of a line, and from call to call.
use mathlib.Core.Path.{◌≡◌, refl, sym, ap, ◌∙◌}
use mathlib.Core.Bool.{Bool, true, false, not, cond, ◌&&◌}
use mathlib.Core.List.{List, [], ◌∷◌, ◌++◌, map, append-nil}
use Prim.Native.Nat.{ℕ, ◌+◌, ◌-◌, ◌≤◌, ◌<◌}
use native.Mathlib.Omega.{arith}
use borrow.Author.Tests.{le-leb, lt-leb, ltb-true, ltb-false, not-true, not-false}
use lib.Dec.{leb, ltb}
use lib.ListN.{length, get_or}
use Rattle.lists.specs.Lists.{concat_map, range}
use Rattle.lists.specs.Ranges.{range_more, range_none}
use Rattle.connections.specs.Rides.{Ride}
use Rattle.lines_lookup.specs.Calls.{Piece, Boarding, calls_of, calls_in, BoardsAt, Within}
use Rattle.lines_lookup.specs.First.{first_trip}
use Rattle.query_places.specs.Candidates.{nearest, reach_by, legs, ride_on, near_leg, near_read}
use Rattle.query_places.specs.Places.{reach_at, found_at, nearest_none, nearest_found}
use Rattle.query_places.specs.Turns.{trips_from, near_calls, from, legs_none, legs_more}
use Rattle.query_places.specs.declared.Place.{Place}
use Rattle.std.specs.Prelude.{Option, None, Some}
use Rattle.query_minutes.specs.Minutes.{no_points}
use Rattle.query_rides.specs.declared.Ride.{Ride as RideStruct}
use Rattle.query_rides.specs.declared.Way.{Way}
use Rattle.query_rides.specs.Riding.{Tells}
use Rattle.query_shown.specs.Prices.{front_price}
use Rattle.query_shown.specs.Heads.{no_ride, payable, head_of}
use Rattle.query_rests.specs.Turns.{tells_of, tells_is}
use Rattle.query_shown.specs.Turns.{comes_before, tried, tried_onto, tried_all, tried_all_lem, call_rides, Sized}

pub sized_told : (s : RideStruct) (r : Ride) → Tells s r → Sized s
sized_told s r t =
    record {
      trip = omega (arith, t.trip_few);
      board = t.board_few;
      alight = t.alight_few;
      arrive = omega (arith, t.arrive_few);
    }

-- ---- what stands in front of it
module _
    (first : Bool)
    (z : List ℕ)
    (p k : ℕ)
    (best s : RideStruct)
    (priced : Bool)
    (is-priced : priced ≡ ltb k no_points)
  where
    pub onto_shut : not priced ≡ true → best ≡ tried_onto first z p k best s
    unfolding tried_onto
    onto_shut h = simp (sym is-priced, not-true priced h)

    module _ (g : not priced ≡ false) (poor : Bool) (is-poor : poor ≡ ltb p k) where
      some_way : ltb k no_points ≡ true
      some_way = sym is-priced ∙ not-false priced g

      pub onto_poor : poor ≡ true → best ≡ tried_onto first z p k best s
      unfolding tried_onto
      onto_poor e = simp (some_way, lt-leb k p (ltb-true p k (sym is-poor ∙ e)))

      pub onto_paid : poor ≡ false → (over : ℕ) → over ≡ p - k → (r : RideStruct) → r ≡ tried first z over best s
          → r ≡ tried_onto first z p k best s
      unfolding tried_onto
      onto_paid e over is r f =
          rw (some_way, le-leb k p (ltb-false p k (sym is-poor ∙ e)))
          (f ∙ ap (λ p. tried first z p best s) is)

-- ---- the ride, and what is left behind it
module _
    (first : Bool)
    (z : List ℕ)
    (p : ℕ)
    (best s : RideStruct)
    (rest : ℕ)
    (is : rest ≡ get_or z s.arrive no_points)
    (some : Bool)
    (is_some : some ≡ ltb rest no_points)
  where
    something : ltb (get_or z s.arrive no_points) no_points ≡ some
    something = ap (λ k. ltb k no_points) (sym is) ∙ sym is_some

    pub try_none : not some ≡ true → best ≡ tried first z p best s
    unfolding tried
    try_none h = simp (something, not-true some h)

    module _ (h : not some ≡ false) (short : Bool) (is-short : short ≡ ltb p s.points.0) where
      pub try_short : short ≡ true → best ≡ tried first z p best s
      unfolding tried
      try_short e =
          let less = ltb-true p s.points.0 (sym is-short ∙ e) in
          let dear = lt-leb (s.points.0 + get_or z s.arrive no_points) p (omega arith) in
          simp (something, not-false some h, dear)

      module _ (e : short ≡ false) (over : ℕ) (is-over : over ≡ p - s.points.0) where
        enough : s.points.0 ≤ p
        enough = ltb-false p s.points.0 (sym is-short ∙ e)

        module _ (lacks : Bool) (is-lacks : lacks ≡ ltb over rest) where
          pub try_dear : lacks ≡ true → best ≡ tried first z p best s
          unfolding tried
          try_dear g =
              let less = ltb-true over rest (sym is-lacks ∙ g) in
              let dear = lt-leb (s.points.0 + get_or z s.arrive no_points) p
              (omega (arith, less, is-over, is, enough)) in
              simp (something, not-false some h, dear)

          module _ (g : lacks ≡ false) (r : Bool) (goes : r ≡ comes_before first s best) where
            tried_is : tried first z p best s ≡ cond r s best
            unfolding tried
            tried_is =
                let more = ltb-false over rest (sym is-lacks ∙ g) in
                let pays = le-leb (s.points.0 + get_or z s.arrive no_points) p
                (omega (arith, more, is-over, is, enough)) in
                rw (something, not-false some h, pays) (ap (λ b. cond b s best) (sym goes))

            pub try_takes : r ≡ true → s ≡ tried first z p best s
            try_takes t = sym (tried_is ∙ ap (λ b. cond b s best) t)

            pub try_keeps : r ≡ false → best ≡ tried first z p best s
            try_keeps t = sym (tried_is ∙ ap (λ b. cond b s best) t)

-- ---- one ride after the other
pub trips_few : (v : List ℕ) (g : Boarding) → Within v g → g.line.trips < 65536
trips_few v g within = within.trips_few

module _ (first : Bool) (way : Way) (u : ℕ) (z : List ℕ) (p : ℕ) where
  -- the choice, once some rides are tried too
  abbrev pub with : RideStruct → List Ride → RideStruct
  with = tried_all first (front_price first way u) z p

  with_both : (a b : List Ride) (best : RideStruct) → with best (a ++ b) ≡ with (with best a) b
  unfolding tried_all
  with_both [] b best = refl
  with_both (r ∷ a) b best =
      with_both a b (tried_onto first z p (front_price first way u r.depart) best (tells_of r))

  -- those of a line from trip to trip
  module _
      (v : List ℕ)
      (g : Boarding)
      (to : Place)
      (old best : RideStruct)
      (start j : ℕ)
      (so_far :
      tried_all first (front_price first way u) z p old
      (trips_from v g.line g.call.place start (reach_at to))
      ≡ tried_all first (front_price first way u) z p best
      (trips_from v g.line g.call.place j (reach_at to)))
    where
      abbrev on : ℕ → Ride
      on i = ride_on v g.line g.call.place i (reach_at to)

      pub trips_more : j < g.line.trips → (s new : RideStruct) (k : ℕ)
          → Tells s (ride_on v g.line g.call.place j (reach_at to))
          → k ≡ front_price first way u s.depart
          → new ≡ tried_onto first z p k best s
          → tried_all first (front_price first way u) z p old
          (trips_from v g.line g.call.place start (reach_at to))
          ≡ tried_all first (front_price first way u) z p new
          (trips_from v g.line g.call.place (j + 1) (reach_at to))
      unfolding tried_all
      trips_more h s new k t is n =
          so_far
          ∙ ap (λ js. with best (map on js)) (range_more j g.line.trips h)
          ∙ ap (λ b. with b (trips_from v g.line g.call.place (j + 1) (reach_at to)))
          (sym
          (n
          ∙ ap (λ k. tried_onto first z p k best s) is
          ∙ ap (λ s. tried_onto first z p (front_price first way u s.depart) best s) (tells_is s (on j) t)))

      pub trips_done : g.line.trips ≤ j
          → best
          ≡ tried_all first (front_price first way u) z p old
          (trips_from v g.line g.call.place start (reach_at to))
      unfolding tried_all
      trips_done h = sym (so_far ∙ ap (λ js. with best (map on js)) (range_none j g.line.trips h))

  -- a ride that costs more than is left
  module _ (k : ℕ) (best s : RideStruct) (h : p < s.points.0) where
    not_taken : (b : Bool) (x : RideStruct) → cond (b && false) x best ≡ best
    not_taken true x = refl
    not_taken false x = refl

    either_way : (b : Bool) → cond b best best ≡ best
    either_way true = refl
    either_way false = refl

    too_dear : tried_onto first z p k best s ≡ best
    unfolding tried_onto tried
    too_dear =
        let rest = get_or z s.arrive no_points in
        let dear : leb (s.points.0 + rest) (p - k) ≡ false = lt-leb (s.points.0 + rest) (p - k) (omega arith) in
        let same : tried first z (p - k) best s ≡ best
        = rw dear (not_taken (ltb rest no_points) (cond (comes_before first s best) s best)) in
        ap (λ b. cond (payable k p) b best) same ∙ either_way (payable k p)

  -- on no trip of the line is it taken
  trips_dear : (v : List ℕ) (g : Boarding) (to : Place) → p < to.points.0 → (js : List ℕ) (best : RideStruct)
      → best ≡ with best (map (λ i. ride_on v g.line g.call.place i (reach_at to)) js)
  unfolding tried_all
  trips_dear v g to h [] best = refl
  trips_dear v g to h (i ∷ js) best =
      let r = ride_on v g.line g.call.place i (reach_at to) in
      trips_dear v g to h js best
      ∙ ap (λ b. with b (map (λ i. ride_on v g.line g.call.place i (reach_at to)) js))
      (sym (too_dear (front_price first way u r.depart) best (tells_of r) h))

  -- from a call to the nearest place
  module _ (v : List ℕ) (g : Boarding) (best : RideStruct) (o : Option Place) (is : nearest (reach_by v g) ≡ found_at o)
    where
      pub call_none : o ≡ None
          → best ≡ tried_all first (front_price first way u) z p best (call_rides v g u)
      unfolding tried_all call_rides
      call_none e = rw (nearest_none v g o is e)

      pub call_dear : (to : Place) → o ≡ Some to → (poor : Bool) → poor ≡ ltb p to.points.0 → poor ≡ true
          → best ≡ tried_all first (front_price first way u) z p best (call_rides v g u)
      unfolding call_rides
      call_dear to e poor is-poor h =
          let start = first_trip v g.line g.call.place u in
          let dear = ltb-true p to.points.0 (sym is-poor ∙ h) in
          trips_dear v g to dear (range start (g.line.trips - start)) best
          ∙ rw (nearest_found v g o is to e, append-nil)

      pub call_tried : (to : Place) → o ≡ Some to → (start : ℕ)
          → start ≡ first_trip v g.line g.call.place u
          → (next : RideStruct)
          → next
          ≡ tried_all first (front_price first way u) z p best
          (trips_from v g.line g.call.place start (reach_at to))
          → next ≡ tried_all first (front_price first way u) z p best (call_rides v g u)
      unfolding call_rides
      call_tried to e start is-start next f =
          f
          ∙ ap (λ i. with best (trips_from v g.line g.call.place i (reach_at to))) is-start
          ∙ rw (nearest_found v g o is to e, append-nil)

  -- from call to call
  module _ (v : List ℕ) (a b : ℕ) where
    abbrev whole : RideStruct
    whole = tried_all first (front_price first way u) z p (tells_of no_ride) (near_read v a u b)

    pub calls_begin : (list rest : Piece) → calls_in v list ≡ calls_of v a → calls_in v rest ≡ calls_of v b
        → tried_all first (front_price first way u) z p (tells_of no_ride) (near_read v a u b)
        ≡ tried_all first (front_price first way u) z p (tells_of no_ride)
        (near_calls v u (calls_in v list) (calls_in v rest))
    unfolding near_read near_calls
    calls_begin list rest e f = rw (e, f)

    module _
        (best : RideStruct)
        (k end : ℕ)
        (rest : Piece)
        (so_far :
        tried_all first (front_price first way u) z p (tells_of no_ride) (near_read v a u b)
        ≡ tried_all first (front_price first way u) z p best
        (near_calls v u (calls_in v (from k end)) (calls_in v rest)))
      where
        pub calls_more : k + 1 < end → end ≤ length v → (g : Boarding) → BoardsAt v k rest g → (next : RideStruct)
            → next ≡ tried_all first (front_price first way u) z p best (call_rides v g u)
            → tried_all first (front_price first way u) z p (tells_of no_ride) (near_read v a u b)
            ≡ tried_all first (front_price first way u) z p next
            (near_calls v u (calls_in v (from (k + 2) end)) (calls_in v g.rest))
        unfolding near_calls call_rides
        calls_more more inside g is next e =
            so_far
            ∙ ap (λ g. with best (concat_map (near_leg v u) g)) (legs_more v u k end rest more inside g is)
            ∙ rw (e, is.line)
            (with_both _ (concat_map (near_leg v u) (legs v (calls_in v (from (k + 2) end)) (calls_in v g.rest))) best)

        pub calls_done : end ≤ k + 1
            → best ≡ tells_of (head_of first (front_price first way u) z p (near_read v a u b))
        unfolding tried_all near_calls
        calls_done h =
            sym
            (sym (tried_all_lem first (front_price first way u) z p (near_read v a u b))
            ∙ so_far
            ∙ ap (λ g. with best (concat_map (near_leg v u) g)) (legs_none v u k end rest h))
