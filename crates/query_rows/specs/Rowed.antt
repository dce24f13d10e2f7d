-- From the least penalty for each minute of arrival to the rows: the costs that lead are the undominated ones, and a
-- row for each of them, of the connection that the rule for equal cost picks, makes the result of the list.
use Rattle.std.specs.Prelude.{◌≡◌, refl, ◌↔◌, List, [], ◌∷◌, map, ℕ, suc, ◌+◌, ◌-◌, ◌≤◌, ◌<◌, T, length, get_or}
use Rattle.std.proofs.Math.Path.{sym, ap}
use Rattle.std.proofs.Common.{◌∙◌}
use mathlib.Core.List.Memᴰ.{head as here}
use mathlib.Core.List.Memᴰ.{tail as there}
use native.Mathlib.Omega.{arith, by_contra}
use Rattle.std.proofs.Math.ListN.{get_or-eq_default}
use Rattle.lists.specs.Lists.{◌∈◌, before, tail}
use Rattle.lists.specs.Members.{none, cons_cases}
use Rattle.results.specs.Results.{Cost, pair, row, Undominated, Picked, Climbs}
use Rattle.results.proofs.Best.{ByThen, Has, LeastPoints, Leads, leads_exactly}
use Rattle.results.proofs.Picks.{lead, undominated_cost}
use Rattle.results.proofs.Answered.{result_is}
use Rattle.connections.specs.Connections.{Connection, arrival, duration, penalty, cost}
use Rattle.connections.specs.Planner.{tie_key, measure, rows_of}
use Rattle.query_minutes.specs.Minutes.{no_points, leads}
use Rattle.query_minutes.specs.Noted.{Led, led_exactly, Rises, leads_rise}
use Rattle.query_arcs.specs.Kept.{Bounds, At, LeastKept}
use Rattle.query_winner.specs.Winning.{Shows}

-- for a query at minute u, over the list d
module _ (u : ℕ) (d : List Connection) where
  pub record RowFor (c : Cost) (r : List ℕ) : Type 0 where
    pub one : Connection
    pub shows : Shows u d c one
    pub is : row (measure u) one ≡ r

  -- a row for each cost
  abbrev pub Rowed : List Cost → List (List ℕ) → Type 0
  Rowed [] [] = Unit {0}
  Rowed [] (r ∷ rs) = ⊥
  Rowed (c ∷ cs) [] = ⊥
  Rowed (c ∷ cs) (r ∷ rs) = RowFor c r × Rowed cs rs

  module _ (bounds : (c : Connection) → c ∈ d → Bounds u d c) (w : List ℕ) (least : LeastKept u d w) where
    -- by duration
    abbrev pub best : ℕ → ℕ
    best e = get_or w (u + e) no_points

    at_from : (m p : ℕ) (a : At u d m p) → u ≤ m
    at_from m p a = omega (arith, a.arrives, (bounds a.one a.listed).from)

    least_points : LeastPoints (measure u) d best no_points
    least_points = record { attained = attained; below = below; small = λ c i. (bounds c i).small }
      where
        attained : (e : ℕ) → best e < no_points → Has (measure u) d best no_points e (best e)
        attained e h =
            let a = least.attained (u + e) h in
            record { one = a.one; listed = a.listed; minutes = omega (arith, a.arrives); points = a.pays }

        below : (c : Connection) → c ∈ d → ByThen best (duration u c) (penalty c)
        below c i =
            let k = least.low c i in
            let from = at_from k.minute _ (least.attained k.minute (omega (arith, k.low, (bounds c i).small))) in
            let at : u + (k.minute - u) ≡ k.minute = omega (arith, from) in
            record { minute = k.minute - u; until = omega (arith, k.until); low = rw at k.low }

    -- a cost leads exactly if the array has it below all that are earlier; before minute u no one arrives
    pub led_leads : (c : Cost) → c ∈ leads no_points 0 w
        → (u ≤ c.minutes) × Leads (measure u) d best no_points (c.minutes - u) c.points
    led_leads c i =
        (from, record { is = rw back (ap (λ z. get_or w z no_points) place ∙ k.is); found = k.less; first = first })
      where
        k : Led no_points no_points 0 w c
        k = (led_exactly no_points w no_points 0 c).0 i

        place : c.minutes ≡ k.place
        place = omega (arith, k.at)

        from : u ≤ c.minutes
        from =
            omega (
              arith,
              place,
              at_from k.place _ (least.attained k.place (omega (arith, k.is, k.less))),
            )

        back : u + (c.minutes - u) ≡ c.minutes
        back = omega (arith, from)

        first : (e : ℕ) → e < c.minutes - u → c.points < best e
        first e h = k.first (u + e) (omega (arith, place))

    leads_led : (c : Cost) → u ≤ c.minutes
        → Leads (measure u) d best no_points (c.minutes - u) c.points → c ∈ leads no_points 0 w
    leads_led c from k =
        (led_exactly no_points w no_points 0 c).1
        (record { place = c.minutes; there = there; at = omega arith; is = is; less = k.found; first = first })
      where
        back : u + (c.minutes - u) ≡ c.minutes
        back = omega (arith, from)

        is : get_or w c.minutes no_points ≡ c.points
        is = rw back at k.is

        there : c.minutes < length w
        there = by_contra (suc c.minutes) (length w) past
          where
            past : length w < suc c.minutes → ⊥
            past h =
                let nothing = get_or-eq_default w no_points {n = c.minutes} (omega arith) in
                omega (arith, is, k.found, nothing)

        first : (e : ℕ) → e < c.minutes → c.points < get_or w e no_points
        first e h = by_contra (suc c.points) (get_or w e no_points) earlier
          where
            -- one would arrive then, and so no earlier than u
            earlier : get_or w e no_points < suc c.points → ⊥
            earlier q =
                let a = at_from e _ (least.attained e (omega (arith, k.found))) in
                let same : u + (e - u) ≡ e = omega (arith, a) in
                omega (arith, k.first (e - u) (omega arith), ap (λ z. get_or w z no_points) same)

    -- the costs that lead are the undominated ones
    pub led_cost : (e p : ℕ) → Leads (measure u) d best no_points e p
        ↔ ((c : Connection) × Undominated (measure u) d c × (pair (measure u) c ≡ e ∷ p ∷ []))
    led_cost = leads_exactly (measure u) d best no_points least_points

    -- what is shown for a cost that leads is picked
    picked : (c : Cost) (one : Connection) → c ∈ leads no_points 0 w → Shows u d c one → Picked (measure u) d one
    picked c one i s = record { best = undominated; first = first }
      where
        from : u ≤ c.minutes
        from = (led_leads c i).0

        x : (e : Connection) × Undominated (measure u) d e × (pair (measure u) e ≡ (c.minutes - u) ∷ c.points ∷ [])
        x = (led_cost (c.minutes - u) c.points).0 (led_leads c i).1

        m : duration u x.0 ≡ c.minutes - u
        m = ap lead x.2

        p : penalty x.0 ≡ c.points
        p = ap (λ l. lead (tail l)) x.2

        undominated : Undominated (measure u) d one
        undominated =
            let a : duration u one ≡ duration u x.0 = ap (λ z. z - u) s.arrives ∙ sym m in
            let b : penalty one ≡ penalty x.0 = s.pays ∙ sym p in
            undominated_cost (measure u) d x.0 one x.1 s.listed (λ j. record { minutes = a j; points = b j })

        first : (e : Connection) → e ∈ d → cost u e ≡ cost u one → ¬ T (before (tie_key e) (tie_key one))
        first e j q =
            let h : duration u e ≡ duration u one = ap (λ z. z.minutes) q in
            let at : arrival e ≡ c.minutes = omega (arith, h, s.arrives, (bounds e j).from, from) in
            s.first e j at (ap (λ z. z.points) q ∙ s.pays)

    -- ---- the connections shown, row by row
    record Ones (cs : List Cost) (rs : List (List ℕ)) : Type 0 where
      those : List Connection
      are : map (row (measure u)) those ≡ rs
      climbs : Climbs (measure u) those
      picked_all : (c : Connection) → c ∈ those → Picked (measure u) d c
      later : (c : Connection) → c ∈ those → (x : Cost) × (x ∈ cs) × (arrival c ≡ x.minutes)
      every : (x : Cost) → x ∈ cs → (c : Connection) × (c ∈ those) × (arrival c ≡ x.minutes) × (penalty c ≡ x.points)

    ones : (cs : List Cost) (rs : List (List ℕ)) → ((c : Cost) → c ∈ cs → c ∈ leads no_points 0 w) → Rises cs
        → Rowed cs rs → Ones cs rs
    ones [] [] inside up r =
        record {
          those = [];
          are = refl;
          climbs = tt;
          picked_all = λ c i. none i;
          later = λ c i. none i;
          every = λ x i. none i;
        }
    ones [] (r ∷ rs) inside up q = absurd q
    ones (c ∷ cs) [] inside up q = absurd q
    ones (c ∷ cs) (r ∷ rs) inside up q =
        let o = ones cs rs (λ e i. inside e (there i)) up.1 q.1 in
        let f = q.0 in
        let s = f.shows in
        record {
          those = f.one ∷ o.those;
          are = λ i. f.is i ∷ o.are i;
          climbs = (above o, o.climbs);
          picked_all = λ e i. cons_cases i (λ z. rw z (picked c f.one (inside c (here refl)) s)) (o.picked_all e);
          later =
              λ e i.
              cons_cases i (λ z. (c, here refl, ap arrival z ∙ s.arrives))
              (λ k. let l = o.later e k in (l.0, there l.1, l.2));
          every =
              λ x i.
              cons_cases i
              (λ z.
              let m = ap (λ y. y.minutes) (sym z) in
              let p = ap (λ y. y.points) (sym z) in
              (f.one, here refl, s.arrives ∙ m, s.pays ∙ p))
              (λ k. let l = o.every x k in (l.0, there l.1, l.2, l.3));
        }
      where
        above : (o : Ones cs rs) → (e : Connection) → e ∈ o.those → duration u q.0.one < duration u e
        above o e i =
            let l = o.later e i in
            let h = up.0 l.0 l.1 in
            let from = (led_leads c (inside c (here refl))).0 in
            omega (arith, q.0.shows.arrives, l.2)

    -- each picked cost is among those that lead
    sought : (c : Connection) → Picked (measure u) d c
        → record { minutes = arrival c; points = penalty c } ∈ leads no_points 0 w
    sought c p =
        let b = bounds c p.best.listed in
        let k = (led_cost (duration u c) (penalty c)).1 (c, p.best, refl) in
        leads_led (record { minutes = arrival c; points = penalty c }) b.from k

    pub rowed : (rs : List (List ℕ)) → Rowed (leads no_points 0 w) rs → rs ≡ rows_of u d
    unfolding rows_of
    rowed rs q =
        let o = ones (leads no_points 0 w) rs (λ c i. i) (leads_rise w no_points 0) q in
        sym o.are ∙ result_is (measure u) d o.those o.climbs o.picked_all (all o)
      where
        all : (o : Ones (leads no_points 0 w) rs) → (c : Connection) → Picked (measure u) d c
            → (e : Connection) × (e ∈ o.those) × (cost u e ≡ cost u c)
        all o c p =
            let l = o.every (record { minutes = arrival c; points = penalty c }) (sought c p) in
            let a : duration u l.0 ≡ duration u c = ap (λ z. z - u) l.2 in
            let b : penalty l.0 ≡ penalty c = l.3 in
            (l.0, l.1, λ j. record { minutes = a j; points = b j })
