-- The frontiers of all stations, one after the other. At the start's own station no one is to end, so nothing is low
-- enough there. Where a stop is closed to alighting, no one is taken to arrive.
use Rattle.std.specs.Prelude.{◌≡◌, Bool, true, false, not, ◌↔◌, ◌≢◌, List, ℕ, suc, ◌+◌, ◌≤◌, ◌<◌, eqb, length, get_or}
use Rattle.std.specs.Prelude.{set}
use Rattle.std.proofs.Math.Path.{refl, ap}
use Rattle.std.proofs.Common.{sym, subst, ◌∙◌, arith, eq-eqb, ne_eqb, get_or-set_same, get_or-set_other}
use Rattle.std.proofs.Math.Bool.{cond}
use Rattle.std.proofs.Math.Decide.{ℕ_discrete}
use Rattle.timetable.specs.Timetable.{Stop}
use Rattle.timetable.specs.Words.{station_count, stop_count, stop_at, is_timetable}
use Rattle.timetable.specs.Access.{stops_few}
use Rattle.connections.specs.Rides.{may_alight}
use Rattle.store_stops.specs.Stopwise.{station, arrive, unreached, Goes, Alights}
use Rattle.store_stops.specs.Paid.{OnFrontier}
use Rattle.store_stops.specs.Prospects.{Allows}
use Rattle.store_stops.specs.Settled.{Timely}
use Rattle.store_frontier.specs.Arrivals.{part, Tells, Arrivals, Placed, placed, arrives_at}
use Rattle.lists.specs.Lists.{◌∈◌}
use Rattle.lists.specs.Tests.{either, T_true, T_false}
use Rattle.store_frontier.specs.Front.{Front, Fronted}

-- what is to be paid less than at station c
unfoldable pub top_of : (c source : ℕ) → ℕ
top_of c source = cond (eqb c source) 0 unreached

module _ (c source : ℕ) where
  pub top_here : c ≡ source → 0 ≡ top_of c source
  unfolding top_of
  top_here h = rw (eq-eqb c source h)

  pub top_other : (c ≡ source → ⊥) → unreached ≡ top_of c source
  unfolding top_of
  top_other h = rw (ne_eqb c source h)

-- the arrival at stop j is elsewhere than at a, no one is there by then for less, and earlier only for more
pub record Ahead (w : List ℕ) (a : ℕ) (v : List ℕ) (j : ℕ) : Type 0 where
  pub elsewhere : station w j ≢ a
  pub reached : get_or v j 0 < unreached
  pub least : (i : ℕ) → Goes w i → station w (suc i) ≡ station w j → arrive w (suc i) ≤ arrive w j
      → get_or v j 0 ≤ get_or v (suc i) 0
  pub first : (i : ℕ) → Goes w i → station w (suc i) ≡ station w j → arrive w (suc i) < arrive w j
      → get_or v j 0 < get_or v (suc i) 0

-- what is allowed at each arrival, as if all were open
pub record AllowsAhead (w : List ℕ) (a : ℕ) (v e : List ℕ) : Type 0 where
  pub within : (i x : ℕ) → Goes w i → (x < get_or e (suc i) 0) ↔ (Ahead w a v (suc i) × (x ≤ get_or v (suc i) 0))

-- the stations before c are done
pub record Allowing (w : List ℕ) (a : ℕ) (v : List ℕ) (c : ℕ) (v' : List ℕ) : Type 0 where
  pub at : (i x : ℕ) → Goes w i → station w (suc i) < c
      → (x < get_or v' (suc i) 0) ↔ (Ahead w a v (suc i) × (x ≤ get_or v (suc i) 0))
  pub off : (i : ℕ) → Goes w i → c ≤ station w (suc i) → get_or v' (suc i) 0 ≡ get_or v (suc i) 0
  pub long : length v' ≡ length v

module _ (w : List ℕ) (a : ℕ) (v : List ℕ) (t : Timely w) where
  pub allowing_none : Allowing w a v 1 v
  allowing_none =
      record {
        at = (λ i x g h. absurd (omega (arith, t.next_first i g)));
        off = (λ i g h. refl);
        long = refl;
      }

  pub allowing_all : (c : ℕ) (v' : List ℕ) → station_count w < c → Allowing w a v c v' → AllowsAhead w a v v'
  allowing_all c v' h k = record { within = (λ i x g. k.at i x g (omega (arith, t.next_listed i g))) }

  module _ (arrivals first : List ℕ) (s : Arrivals w arrivals first) (c : ℕ) (some : 1 ≤ c)
      (listed : c ≤ station_count w) (v' v'' : List ℕ) (k : Allowing w a v c v')
      (f : Fronted w arrivals (get_or first c 0) (get_or first (c + 1) 0) (top_of c a) v' (get_or first (c + 1) 0) v'')
    where
      -- where an arrival of the station stands
      place : (i : ℕ) → Goes w i → station w (suc i) ≡ c → Placed arrivals (get_or first c 0) (get_or first (c + 1) 0)
          (suc i)
      place i g h =
          placed arrivals (get_or first c 0) (get_or first (c + 1) 0) (suc i) (s.rises c some listed)
          (s.inside c some listed)
          (subst (λ b. suc i ∈ part arrivals first b) h (s.all i g))

      same : (i : ℕ) → Goes w i → station w (suc i) ≡ c → get_or v' (suc i) 0 ≡ get_or v (suc i) 0
      same i g h = k.off i g (omega arith)

      module _ (i : ℕ) (g : Goes w i) (h : station w (suc i) ≡ c) where
        abbrev Here : Type 0
        Here = Front w arrivals (get_or first c 0) (get_or first (c + 1) 0) (top_of c a) v' (suc i)

        -- in place of a place, the arrival that stands there
        to_frontier : Here → Ahead w a v (suc i)
        to_frontier e =
            record {
              elsewhere = (λ z. absurd (omega (arith, e.below, top_here c a (sym h ∙ z))));
              reached =
                  elim (ℕ_discrete c a) [
                    | yes z ↦ absurd (omega (arith, e.below, top_here c a z))
                    | no z ↦ omega (arith, e.below, top_other c a z, same i g h)
                  ];
              least =
                  (λ j b z late.
                  let p = place j b (z ∙ h) in
                  omega (
                    arith,
                    e.least p.r p.from p.to (subst (λ m. arrive w m ≤ arrive w (suc i)) p.is late),
                    ap (λ m. get_or v' m 0) p.is,
                    same i g h,
                    same j b (z ∙ h),
                  ));
              first =
                  (λ j b z late.
                  let p = place j b (z ∙ h) in
                  omega (
                    arith,
                    e.first p.r p.from p.to (subst (λ m. arrive w m < arrive w (suc i)) p.is late),
                    ap (λ m. get_or v' m 0) p.is,
                    same i g h,
                    same j b (z ∙ h),
                  ));
            }

        from_frontier : Ahead w a v (suc i) → Here
        from_frontier e =
            record {
              below = omega (arith, e.reached, top_other c a (λ z. e.elsewhere (h ∙ z)), same i g h);
              least =
                  (λ r from to late.
                  let p = arrives_at w arrivals first s c some listed r from to in
                  let here : station w (suc p.i) ≡ c = ap (station w) p.next ∙ p.here in
                  omega (
                    arith,
                    e.least p.i p.goes (here ∙ sym h)
                        (subst (λ m. arrive w m ≤ arrive w (suc i)) (sym p.next) late),
                    ap (λ m. get_or v' m 0) p.next,
                    same i g h,
                    same p.i p.goes here,
                  ));
              first =
                  (λ r from to late.
                  let p = arrives_at w arrivals first s c some listed r from to in
                  let here : station w (suc p.i) ≡ c = ap (station w) p.next ∙ p.here in
                  omega (
                    arith,
                    e.first p.i p.goes (here ∙ sym h)
                        (subst (λ m. arrive w m < arrive w (suc i)) (sym p.next) late),
                    ap (λ m. get_or v' m 0) p.next,
                    same i g h,
                    same p.i p.goes here,
                  ));
            }

        this_station : (x : ℕ) → (x < get_or v'' (suc i) 0) ↔ (Ahead w a v (suc i) × (x ≤ get_or v (suc i) 0))
        this_station x =
            let p = place i g h in
            let known : (x < get_or v'' (suc i) 0) ↔ (Here × (x ≤ get_or v' (suc i) 0)) =
            subst
            (λ m.
            (x < get_or v'' m 0)
            ↔ (Front w arrivals (get_or first c 0) (get_or first (c + 1) 0) (top_of c a) v' m × (x ≤ get_or v' m 0)))
            (sym p.is)
            (f.at p.r x p.from p.to) in (
              λ e. let d = known.0 e in (to_frontier d.0, omega (arith, d.1, same i g h)),
              λ e. known.1 (from_frontier e.0, omega (arith, e.1, same i g h)),
            )

      other_station : (i : ℕ) → Goes w i → station w (suc i) ≢ c → get_or v'' (suc i) 0 ≡ get_or v' (suc i) 0
      other_station i g n =
          f.off (suc i)
          (λ r from to z.
          n (ap (station w) z ∙ (arrives_at w arrivals first s c some listed r from to).here))

      pub allowing_more : Allowing w a v (c + 1) v''
      allowing_more =
          record {
            at =
                (λ i x g h.
                elim (ℕ_discrete (station w (suc i)) c) [
                  | yes z ↦ this_station i g z x
                  | no z ↦ rw (other_station i g z) (k.at i x g (omega arith))
                ]);
            off = (λ i g h. other_station i g (λ z. omega arith) ∙ k.off i g (omega arith));
            long = f.long ∙ k.long;
          }

-- ---- stops that are closed to alighting
-- what is paid on arrival at stop j, by one who may alight there
unfoldable pub open_word : (w v : List ℕ) (j : ℕ) → ℕ
open_word w v j = cond (may_alight (stop_at w j)) (get_or v j 0) unreached

-- one stop is done, then those before stop n, then all
pub record ClosedAt (w : List ℕ) (j : ℕ) (v v' : List ℕ) : Type 0 where
  pub this : get_or v' j 0 ≡ open_word w v j
  pub others : (k : ℕ) → k ≢ j → get_or v' k 0 ≡ get_or v k 0

pub record Closing (w : List ℕ) (n : ℕ) (v v' : List ℕ) : Type 0 where
  pub done : (k : ℕ) → k < n → get_or v' k 0 ≡ open_word w v k
  pub rest : (k : ℕ) → n ≤ k → get_or v' k 0 ≡ get_or v k 0

pub record Closed (w v v' : List ℕ) : Type 0 where
  pub each : (k : ℕ) → k < stop_count w → get_or v' k 0 ≡ open_word w v k

module _ (w : List ℕ) (j : ℕ) (v : List ℕ) (s : Stop) (is : s ≡ stop_at w j) (b : Bool) (is_b : b ≡ may_alight s) where
  pub stays_open : b ≡ true → ClosedAt w j v v
  unfolding open_word
  stays_open e = record { this = rw (← is, ← is_b, e); others = λ k n. refl }

  pub is_closed : b ≡ false → j < 2048 → length v ≡ 2048 → (v' : List ℕ) → v' ≡ set v j unreached → ClosedAt w j v v'
  unfolding open_word
  is_closed e h long v' f =
      record {
        this = rw (f, ← is, ← is_b, e) (get_or-set_same v j unreached 0 (omega arith));
        others = λ k n. rw f (get_or-set_other v j k unreached 0 n);
      }

-- no stop is past the limit
pub stop_below : (w : List ℕ) → is_timetable w ≡ true → (n j : ℕ) → n ≡ get_or w 2 0 → j < n → j < 2048
stop_below w yes-there n j is h = omega (arith, stops_few w yes-there)

module _ (w v : List ℕ) where
  pub closing_none : Closing w 0 v v
  closing_none = record { done = λ k h. absurd (omega arith); rest = λ k h. refl }

  pub closing_more : (n : ℕ) (v' v'' : List ℕ) → Closing w n v v' → ClosedAt w n v' v'' → Closing w (n + 1) v v''
  unfolding open_word
  closing_more n v' v'' c o =
      record {
        done =
            (λ k h.
            elim (ℕ_discrete k n) [
              | yes z ↦
                  rw z
                  (o.this ∙ ap (λ x. cond (may_alight (stop_at w n)) x unreached) (c.rest n (omega arith)))
              | no z ↦ o.others k z ∙ c.done k (omega arith)
            ]);
        rest = (λ k h. o.others k (λ z. omega arith) ∙ c.rest k (omega arith));
      }

  pub closing_all : (n m : ℕ) (v' : List ℕ) → m ≡ stop_count w → m ≤ n → Closing w n v v' → Closed w v v'
  closing_all n m v' is h c = record { each = λ k g. c.done k (omega arith) }

  -- where riders may alight at all stops
  pub all_open : (first : List ℕ) (r : ℕ) → Tells w (get_or first 66 0) → r ≡ get_or first 66 0 → r ≡ 0 → Closed w v v
  unfolding open_word
  all_open first r tells is e = record { each = λ k h. rw (tells.all (sym is ∙ e) k h) }

-- ---- whether there are any
pub record OpenTo (w : List ℕ) (j : ℕ) : Type 0 where
  pub each : (k : ℕ) → k < j → may_alight (stop_at w k) ≡ true

open_yes : (b : Bool) → not b ≡ false → b ≡ true
open_yes true e = refl
open_yes false e = sym e

module _ (w : List ℕ) where
  pub open_none : OpenTo w 0
  open_none = record { each = λ k h. absurd (omega arith) }

  pub open_more : (j : ℕ) (s : Stop) (b : Bool) → OpenTo w j → s ≡ stop_at w j → b ≡ may_alight s
      → not b ≡ false → OpenTo w (j + 1)
  open_more j s b so_far is is_b e =
      record {
        each = λ k h.
            elim (ℕ_discrete k j) [
              | yes z ↦ rw (z, ← is, ← is_b) (open_yes b e)
              | no z ↦ so_far.each k (omega arith)
            ];
      }

  pub open_all : (j n : ℕ) → n ≡ get_or w 2 0 → n ≤ j → OpenTo w j → Tells w 0
  open_all j n is h so_far = record { all = λ e k g. so_far.each k (omega arith) }

  pub told_closed : Tells w 1
  told_closed = record { all = λ e. absurd (omega arith) }

-- the frontiers of what is left are those where one may alight
module _ (w : List ℕ) (a : ℕ) (v c e : List ℕ) (t : Timely w) (closed : Closed w v c) (k : AllowsAhead w a c e) where
  module _ (i : ℕ) (g : Goes w i) where
    word : get_or c (suc i) 0 ≡ open_word w v (suc i)
    word = closed.each (suc i) (t.few i g)

    open_same : Alights w (suc i) → get_or c (suc i) 0 ≡ get_or v (suc i) 0
    unfolding open_word
    open_same o = word ∙ rw (T_true (may_alight (stop_at w (suc i))) o)

    -- who is there may alight
    open_or : {G : Type 0} → (Alights w (suc i) → G) → (get_or c (suc i) 0 ≡ unreached → G) → G
    unfolding open_word
    open_or at_open at-closed =
        either
        (may_alight (stop_at w (suc i)))
        at_open
        (λ t. at-closed (word ∙ rw (T_false (may_alight (stop_at w (suc i))) t)))

  to_open : (i : ℕ) → Goes w i → Ahead w a c (suc i) → OnFrontier w a v (suc i)
  to_open i g f =
      let alights : Alights w (suc i) = open_or i g (λ o. o) (λ z. absurd (omega (arith, z, f.reached))) in
      let here = open_same i g alights in
      record {
        alights = alights;
        elsewhere = f.elsewhere;
        reached = omega (arith, f.reached, here);
        least = (λ j b o z late. omega (arith, f.least j b z late, here, open_same j b o));
        first = (λ j b o z late. omega (arith, f.first j b z late, here, open_same j b o));
      }

  from_open : (i : ℕ) → Goes w i → OnFrontier w a v (suc i) → Ahead w a c (suc i)
  from_open i g f =
      let here = open_same i g f.alights in
      record {
        elsewhere = f.elsewhere;
        reached = omega (arith, f.reached, here);
        least =
            (λ j b z late.
            open_or j b (λ o. omega (arith, f.least j b o z late, here, open_same j b o))
            (λ z. omega (arith, z, here, f.reached)));
        first =
            (λ j b z late.
            open_or j b (λ o. omega (arith, f.first j b o z late, here, open_same j b o))
            (λ z. omega (arith, z, here, f.reached)));
      }

  pub closed_allows : Allows w a v e
  closed_allows =
      record {
        within =
            (λ i x g. (
              λ h.
                  let f = (k.within i x g).0 h in
                  let o = to_open i g f.0 in
                  (o, omega (arith, f.1, open_same i g o.alights)),
              λ h. (k.within i x g).1 (from_open i g h.0, omega (arith, h.1, open_same i g h.0.alights)),
            ));
      }
