-- The rows that the code chooses are the result over the rides: from the first rides it finds the costs, and from all
-- rides the one that is shown for each cost.
use Rattle.std.specs.Prelude.{◌≡◌, ◌↔◌, ℕ, suc, ◌+◌, ◌*◌, ◌-◌, ◌≤◌, ◌<◌, T, get_or}
use Rattle.std.proofs.Math.Path.{refl, sym, ap}
use Rattle.std.proofs.Common.{subst, ◌∙◌}
use mathlib.Core.List.Memᴰ
use mathlib.Core.List.Memᴰ.{head as here}
use mathlib.Core.List.Memᴰ.{tail as there}
use mathlib.Core.List.{List, [], ◌∷◌, map}
use native.Mathlib.Omega.{arith, by_contra}
use Rattle.std.proofs.Math.ListN.{length, get_or-eq_default}
use Rattle.std.proofs.lemmas.List.{length-map}
use Rattle.lists.specs.Lists.{◌∈◌, before, concat_map, tail}
use Rattle.results.specs.Results.{Cost, Measure, pair, row, costs, Undominated, Picked, Climbs}
use Rattle.results.proofs.Best.{ByThen, Has, LeastPoints, Leads, leads_exactly}
use Rattle.results.proofs.Picks.{lead, costs_in, costs_out, undominated_cost}
use Rattle.results.proofs.Answered.{result_is, result_none}
use Rattle.connections.specs.Rides.{Ride}
use Rattle.connections.specs.Connections.{Connection, direct, duration, penalty, cost}
use Rattle.connections.specs.Planner.{tie_key, measure, rows_of}
use Rattle.query_nearest.specs.Bounds.{Bounds}
use Rattle.query_minutes.specs.Minutes.{no_points, note_all, blank, leads}
use Rattle.query_kept.specs.Choosing.{pick_for, row_for, rows_from}
use Rattle.query_minutes.specs.Noted.{LeastNoted, least_noted, Led, led_exactly, Rises, leads_rise}
use Rattle.query_direct.specs.Picking.{ride_for, found_for, Shown, ride_for_lem}

-- an undominated cost of a list is one of each list with the same costs
undominated_there : {X : Type 0} (m : Measure X) (l k : List X) → costs m l ≡ costs m k → (c : X) → Undominated m l c
    → (e : X) × Undominated m k e × (pair m e ≡ pair m c)
undominated_there m l k same c h = costs_out m k (pair m c) (subst (λ z. pair m c ∈ z) same (costs_in m l c h))

-- what holds of each ride of a list, as a connection
of_directs : (P : Connection → Type 0) (l : List Ride) → ((r : Ride) → r ∈ l → P (direct r))
    → (c : Connection) → c ∈ map direct l → P c
of_directs P l f c i = let r = Memᴰ.of_map direct l i in subst P r.2 (f r.0 r.1)

-- ---- the costs that the first rides lead to
module _ (u : ℕ) (firsts : List Ride) (bounds : (r : Ride) → r ∈ firsts → Bounds u r)
    (w : List ℕ) (noted : LeastNoted no_points w firsts) where
  -- by duration
  abbrev best : ℕ → ℕ
  best e = get_or w (u + e) no_points

  least_points : LeastPoints (measure u) (map direct firsts) best no_points
  least_points =
      record {
        attained = attained;
        below = of_directs (λ c. ByThen best (duration u c) (penalty c)) firsts below;
        small = of_directs (λ c. penalty c < no_points) firsts (λ r i. (bounds r i).few);
      }
    where
      attained : (e : ℕ) → best e < no_points → Has (measure u) (map direct firsts) best no_points e (best e)
      attained e h =
          let a = noted.arrives (u + e) h in
          record {
            one = direct a.ride;
            listed = Memᴰ.map direct a.listed;
            minutes = omega (arith, a.at);
            points = a.costs;
          }

      below : (r : Ride) → r ∈ firsts → ByThen best (r.arrive - u) r.points
      below r i =
          let b = bounds r i in
          let at : u + (r.arrive - u) ≡ r.arrive = omega (arith, b.leaves, b.later) in
          record { minute = r.arrive - u; until = omega arith; low = rw at (noted.low r i) }

  -- a cost leads exactly if the array has it below all that are earlier; before minute u nothing arrives
  led_leads : (c : Cost) → c ∈ leads no_points 0 w
      → (u ≤ c.minutes) × Leads (measure u) (map direct firsts) best no_points (c.minutes - u) c.points
  led_leads c i =
      (from, record { is = rw back (ap (λ z. get_or w z no_points) place ∙ k.is); found = k.less; first = first })
    where
      k : Led no_points no_points 0 w c
      k = (led_exactly no_points w no_points 0 c).0 i

      place : c.minutes ≡ k.place
      place = omega (arith, k.at)

      from : u ≤ c.minutes
      from =
          let a = noted.arrives k.place (omega (arith, k.is, k.less)) in
          let b = bounds a.ride a.listed in
          omega (arith, a.at, place, b.leaves, b.later)

      back : u + (c.minutes - u) ≡ c.minutes
      back = omega (arith, from)

      first : (e : ℕ) → e < c.minutes - u → c.points < best e
      first e h = k.first (u + e) (omega (arith, place))

  leads_led : (c : Cost) → u ≤ c.minutes
      → Leads (measure u) (map direct firsts) best no_points (c.minutes - u) c.points → c ∈ leads no_points 0 w
  leads_led c from k =
      (led_exactly no_points w no_points 0 c).1
      (record { place = c.minutes; there = there; at = omega arith; is = is; less = k.found; first = first })
    where
      back : u + (c.minutes - u) ≡ c.minutes
      back = omega (arith, from)

      is : get_or w c.minutes no_points ≡ c.points
      is = rw back at k.is

      there : c.minutes < length w
      there = by_contra (suc c.minutes) (length w) past
        where
          past : length w < suc c.minutes → ⊥
          past h =
              let nothing = get_or-eq_default w no_points {n = c.minutes} (omega arith) in
              omega (arith, is, k.found, nothing)

      first : (e : ℕ) → e < c.minutes → c.points < get_or w e no_points
      first e h = by_contra (suc c.points) (get_or w e no_points) earlier
        where
          -- a ride would arrive then, and so no earlier than u
          earlier : get_or w e no_points < suc c.points → ⊥
          earlier q =
              let a = noted.arrives e (omega (arith, k.found)) in
              let b = bounds a.ride a.listed in
              let same : u + (e - u) ≡ e = omega (arith, a.at, b.leaves, b.later) in
              omega (arith, k.first (e - u) (omega arith), ap (λ z. get_or w z no_points) same)

  -- the costs that lead are the undominated ones
  led_cost : (e p : ℕ) → Leads (measure u) (map direct firsts) best no_points e p
      ↔ ((c : Connection) × Undominated (measure u) (map direct firsts) c × (pair (measure u) c ≡ e ∷ p ∷ []))
  led_cost = leads_exactly (measure u) (map direct firsts) best no_points least_points

-- ---- the rides that are shown

-- The list d is that of all rides, and the first rides have its costs.
module _ (u : ℕ) (firsts all : List Ride) (d : List Connection)
    (members : (c : Connection) → c ∈ map direct all ↔ c ∈ d)
    (same_costs : costs (measure u) (map direct firsts) ≡ costs (measure u) d)
    (first_bounds : (r : Ride) → r ∈ firsts → Bounds u r)
    (all_bounds : (r : Ride) → r ∈ all → Bounds u r) where
  -- for arrival minute and penalty c
  abbrev shown_for : Cost → Connection
  shown_for c = direct (ride_for all c)

  -- the ride shown for a cost that no other on the list dominates
  record Stands (c : Cost) : Type 0 where
    from : u ≤ c.minutes
    shown : Shown all c (ride_for all c)
    best : Undominated (measure u) d (shown_for c)

  -- what holds of each ride, as a connection of the list
  of_list : (P : Connection → Type 0) → ((r : Ride) → r ∈ all → P (direct r)) → (c : Connection) → c ∈ d → P c
  of_list P f c i = of_directs P all f c ((members c).1 i)

  -- it is the one that the rule for equal cost picks
  picked : (c : Cost) → Stands c → Picked (measure u) d (shown_for c)
  picked c s = record { best = s.best; first = of_list First first }
    where
      First : Connection → Type 0
      First e = cost u e ≡ cost u (shown_for c) → ¬ T (before (tie_key e) (tie_key (shown_for c)))

      first : (r : Ride) → r ∈ all → First (direct r)
      first r i q =
          let b = all_bounds r i in
          let m : r.arrive - u ≡ (ride_for all c).arrive - u = ap (λ z. z.minutes) q in
          let at : r.arrive ≡ c.minutes = omega (arith, s.shown.arrives, s.from, b.leaves, b.later) in
          s.shown.first r i at (ap (λ z. z.points) q ∙ s.shown.costs)

  climbs : (cs : List Cost) → ((c : Cost) → c ∈ cs → Stands c) → Rises cs → Climbs (measure u) (map shown_for cs)
  climbs [] s r = tt
  climbs (c ∷ cs) s r = (above, climbs cs (λ e i. s e (there i)) r.1)
    where
      above : (e : Connection) → e ∈ map shown_for cs → duration u (shown_for c) < duration u e
      above e i =
          let x = Memᴰ.of_map shown_for cs i in
          let a = s c (here refl) in
          let b = s x.0 (there x.1) in
          let h = r.0 x.0 x.1 in
          let less : duration u (shown_for c) < duration u (shown_for x.0)
          = omega (arith, a.shown.arrives, b.shown.arrives, a.from)
          in subst (λ z. duration u (shown_for c) < duration u z) x.2 less

  row_is : (c : Cost) → Stands c → row_for u c (pick_for all c) ≡ row (measure u) (shown_for c)
  unfolding tie_key
  row_is c s =
      let a = sym s.shown.arrives in
      let p = sym s.shown.costs in
      let f = found_for all c in
      λ i. (a i - u) ∷ p i ∷ 1 ∷ (f i).trip ∷ (f i).board ∷ (f i).alight ∷ []

  rows_are : (cs : List Cost) → ((c : Cost) → c ∈ cs → Stands c)
      → rows_from u all cs ≡ map (row (measure u)) (map shown_for cs)
  unfolding rows_from
  rows_are [] s = refl
  rows_are (c ∷ cs) s = cc (row_is c (s c (here refl)), rows_are cs (λ e i. s e (there i)))

  module _ (w : List ℕ) (noted : LeastNoted no_points w firsts) where
    stands : (c : Cost) → c ∈ leads no_points 0 w → Stands c
    stands c i =
        let k = led_leads u firsts first_bounds w noted c i in
        let x = (led_cost u firsts first_bounds w noted (c.minutes - u) c.points).0 k.1 in
        let y = undominated_there (measure u) (map direct firsts) d same_costs x.0 x.1 in
        of_list Shows (by_ride_lem k.0) y.0 y.1.listed y.1 (y.2 ∙ x.2)
      where
        Shows : Connection → Type 0
        Shows e = Undominated (measure u) d e → pair (measure u) e ≡ (c.minutes - u) ∷ c.points ∷ [] → Stands c

        by_ride_lem : u ≤ c.minutes → (r : Ride) → r ∈ all → Shows (direct r)
        by_ride_lem from r j h e =
            let b = all_bounds r j in
            let m : r.arrive - u ≡ c.minutes - u = ap lead e in
            let at : r.arrive ≡ c.minutes = omega (arith, b.leaves, b.later) in
            let points : r.points ≡ c.points = ap (λ l. lead (tail l)) e in
            let s = ride_for_lem u all all_bounds c r j at points in
            let a : (ride_for all c).arrive ≡ r.arrive = s.arrives ∙ sym at in
            let p : (ride_for all c).points ≡ r.points = s.costs ∙ sym points in
            let same : cost u (shown_for c) ≡ cost u (direct r) = (λ i. record { minutes = a i - u; points = p i }) in
            let listed = (members (shown_for c)).0 (Memᴰ.map direct s.listed) in
            let best = undominated_cost (measure u) d (direct r) (shown_for c) h listed same in
            record { from = from; shown = s; best = best }

    -- each picked cost is among those that lead
    every : (c : Connection) → Picked (measure u) d c
        → (e : Connection) × (e ∈ map shown_for (leads no_points 0 w)) × (cost u e ≡ cost u c)
    every c p =
        let x = undominated_there (measure u) d (map direct firsts) (sym same_costs) c p.best in
        let k = (led_cost u firsts first_bounds w noted minutes points).1 x in
        let back : minutes ≡ u + minutes - u = omega arith in
        let i = leads_led u firsts first_bounds w noted sought (omega arith) (rw back at k) in
        let s = stands sought i in
        let m : (ride_for all sought).arrive - u ≡ minutes = omega (arith, s.shown.arrives) in
        (shown_for sought, Memᴰ.map shown_for i, λ j. record { minutes = m j; points = s.shown.costs j })
      where
        minutes : ℕ
        minutes = duration u c

        points : ℕ
        points = penalty c

        sought : Cost
        sought = record { minutes = u + minutes; points = points }

    chosen : rows_from u all (leads no_points 0 w) ≡ rows_of u d
    unfolding rows_of
    chosen =
        rows_are cs stands
        ∙ result_is (measure u) d (map shown_for cs) (climbs cs stands (leads_rise w no_points 0)) each every
      where
        cs : List Cost
        cs = leads no_points 0 w

        each : (c : Connection) → c ∈ map shown_for cs → Picked (measure u) d c
        each c i =
            let x = Memᴰ.of_map shown_for cs i in
            subst (Picked (measure u) d) x.2 (picked x.0 (stands x.0 x.1))

  pub rows_chosen : rows_from u all (leads no_points 0 (note_all blank firsts)) ≡ rows_of u d
  rows_chosen = chosen (note_all blank firsts) (least_noted no_points 2880 firsts (λ r i. (first_bounds r i).minute))

  pub rows_count : length (leads no_points 0 (note_all blank firsts)) ≡ length (rows_of u d)
  unfolding rows_from
  rows_count = sym (length-map cs (λ c. row_for u c (pick_for all c))) ∙ ap length rows_chosen
    where
      cs : List Cost
      cs = leads no_points 0 (note_all blank firsts)

  pub none_chosen : (leads no_points 0 (note_all blank firsts) ≡ []) ↔ (d ≡ [])
  unfolding rows_from rows_of
  none_chosen = (to, from)
    where
      cs : List Cost
      cs = leads no_points 0 (note_all blank firsts)

      to : cs ≡ [] → d ≡ []
      to e = (result_none (measure u) d).0 (sym rows_chosen ∙ ap (rows_from u all) e)

      empty : (l : List Cost) → length l ≡ 0 → l ≡ []
      empty [] e = refl
      empty (c ∷ l) e = absurd (omega arith)

      from : d ≡ [] → cs ≡ []
      from e = empty cs (rows_count ∙ ap length ((result_none (measure u) d).1 e))

-- each row has six words
pub rows_long : (u : ℕ) (l : List Ride) (cs : List Cost) → length (concat_map (λ r. r) (rows_from u l cs)) ≡ 6 * length
    cs
unfolding rows_from
rows_long u l [] = omega arith
rows_long u l (c ∷ cs) = omega (arith, rows_long u l cs)
