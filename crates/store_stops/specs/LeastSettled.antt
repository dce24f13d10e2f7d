-- Penalties on arrival that settle each other, stop by stop, are the least that can have been paid: each is paid by
-- someone, by induction on the minute of departure, and no one pays less, by induction on the changes and on the stops
-- ridden.
use Rattle.std.specs.Prelude.{◌≡◌, refl, ◌⊎◌, List, [], ◌∷◌, ℕ, zero, suc, ◌+◌, ◌-◌, ◌≤◌, ◌<◌, get_or}
use Rattle.std.proofs.Common.{sym, ap, subst, inl, inr, arith}
use Rattle.connections.specs.Connections.{Transfer}
use Rattle.store_stops.specs.Stopwise.{station, depart, points, unreached, Goes, Ridden, ridden, Catches}
use Rattle.store_stops.specs.Paid.{Changed, Paid, Arrived, Arrives, LeastArrivals}
use Rattle.store_stops.specs.Settled.{FromStart, FromStop, FromChange, Settled, Timely}
use Rattle.store_stops.specs.RideStops.{ridden_one, ridden_more, ridden_once, ridden_on}

module _ (w : List ℕ) (a d : ℕ) where
  -- who boards rides one stop
  pub arrived_next : (rev : List Transfer) (i p : ℕ) → Goes w i → Paid w a d rev i p
      → Arrived w a d rev (suc i) (p + points w i)
  arrived_next rev i p g h =
      record {
        from = i;
        stops = 1;
        paid = p;
        boards = h;
        some = omega arith;
        rides = ridden_once w i g;
        to = omega arith;
        total = omega (arith, ridden_one w i);
      }

  -- who is aboard stays aboard
  pub arrived_on : (rev : List Transfer) (j p : ℕ) → Goes w j → Arrived w a d rev j p
      → Arrived w a d rev (suc j) (p + points w j)
  arrived_on rev j p g h =
      let e = h.to in
      let o = h.some in
      record {
        from = h.from;
        stops = suc h.stops;
        paid = h.paid;
        boards = h.boards;
        some = omega arith;
        rides = ridden_on w h.from h.stops h.rides (subst (Goes w) (sym e) g);
        to = omega arith;
        total = omega (arith, h.total, ridden_more w h.from h.stops, ap (points w) e);
      }

  -- the stop before an arrival is left
  pub arrived_behind : (rev : List Transfer) (j p : ℕ) → Arrived w a d rev j p → (i : ℕ) × Goes w i × (suc i ≡ j)
  arrived_behind rev j p h =
      let o = h.some in
      (h.from + (h.stops - 1), h.rides (h.stops - 1) (omega arith), omega (arith, h.to))

  module _ (v : List ℕ) (s : Settled w a d v) where
    -- ---- no one pays less
    -- by the stops ridden
    ride_below : (k i p : ℕ) → Ridden w i (suc k) → get_or v (suc i) 0 ≤ p + points w i
        → get_or v (suc (i + k)) 0 ≤ p + ridden w i (suc k)
    ride_below zero i p r h =
        let e : suc (i + 0) ≡ suc i = omega arith in
        omega (arith, h, ridden_one w i, ap (λ j. get_or v j 0) e)
    ride_below (suc k) i p r h =
        let b = ride_below k i p (λ j g. r j (omega arith)) h in
        let e : i + suc k ≡ suc (i + k) = omega arith in
        let on = s.stays (i + k) (r k (omega arith)) (subst (Goes w) e (r (suc k) (omega arith))) in
        omega (arith, b, on, ridden_more w i (suc k), ap (points w) e, ap (λ j. get_or v (suc j) 0) e)

    abbrev Boards : List Transfer → Type 0
    Boards rev = (g p : ℕ) → Paid w a d rev g p → get_or v (suc g) 0 ≤ p + points w g

    arrived_below : (rev : List Transfer) → Boards rev → (j p : ℕ) → Arrived w a d rev j p → get_or v j 0 ≤ p
    arrived_below rev boards j p h = go h.stops h.some h.rides h.to h.total
      where
        go : (n : ℕ) → 1 ≤ n → Ridden w h.from n → h.from + n ≡ j → p ≡ h.paid + ridden w h.from n
            → get_or v j 0 ≤ p
        go zero o r e t = absurd (omega arith)
        go (suc k) o r e t =
            let b = ride_below k h.from h.paid r (boards h.from h.paid h.boards) in
            let f : suc (h.from + k) ≡ j = omega (arith, e) in
            omega (arith, b, t, ap (λ j. get_or v j 0) f)

    -- by the changes
    change_below : (rev : List Transfer) (c : Transfer) (g p : ℕ) (h : Changed w a d (Paid w a d rev) c g p)
        → get_or v h.at 0 ≤ h.before → get_or v (suc g) 0 ≤ p + points w g
    change_below rev c g p h b =
        let k = arrived_behind rev h.at h.before h.rode in
        let e = k.2 in
        let catches = subst (λ j. Catches w j g h.price) (sym e) h.catches in
        let from = ap (λ j. get_or v j 0) e in
        omega (arith, b, h.total, from, s.changes k.0 g h.price k.1 catches)

    boards_below : (rev : List Transfer) → Boards rev
    boards_below [] g p h = omega (arith, h.3, s.starts g h.0 h.1 h.2)
    boards_below (c ∷ rev) g p h =
        change_below rev c g p h (arrived_below rev (boards_below rev) h.at h.before h.rode)

    -- ---- someone pays it
    abbrev Attained : ℕ → Type 0
    Attained i = Arrives w a d (suc i) (get_or v (suc i) 0)

    from_start : (i : ℕ) → Goes w i → FromStart w a d v i → Attained i
    from_start i g f =
        record {
          changed = [];
          arrived =
              subst
              (Arrived w a d [] (suc i))
              (omega (arith, f.is))
              (arrived_next [] i 0 g (f.boards, f.here, f.timely, refl));
        }

    from_stop : (i : ℕ) → Goes w i → (f : FromStop w a d v i) → Attained f.k → Attained i
    from_stop i g f h =
        record {
          changed = h.changed;
          arrived =
              subst
              (Arrived w a d h.changed (suc i))
              (sym f.is)
              (arrived_on
              h.changed
              i
              (get_or v i 0)
              g
              (subst (λ j. Arrived w a d h.changed j (get_or v j 0)) f.next h.arrived));
        }

    from_change : (i : ℕ) → Goes w i → (f : FromChange w a d v i) → Attained f.k → Attained i
    from_change i g f h =
        let c : Transfer = record { alighted = station w (suc f.k); boarded = station w i } in
        let p = get_or v (suc f.k) 0 + f.price in
        record {
          changed = c ∷ h.changed;
          arrived =
              subst
              (Arrived w a d (c ∷ h.changed) (suc i))
              (sym f.is)
              (arrived_next
              (c ∷ h.changed)
              i
              p
              g
              (record {
                at = suc f.k;
                before = get_or v (suc f.k) 0;
                price = f.price;
                rode = h.arrived;
                here = refl;
                there = refl;
                catches = f.catches;
                total = refl;
              }));
        }

    module _ (timely : Timely w) where
      -- the stop before departs earlier
      attained_upto : (k i : ℕ) → depart w i < k → Goes w i → get_or v (suc i) 0 < unreached → Attained i
      attained_upto zero i h g u = absurd (omega arith)
      attained_upto (suc k) i h g u = go (s.attained i g u) (attained_upto k)
        where
          go : FromStart w a d v i ⊎ (FromStop w a d v i ⊎ FromChange w a d v i)
              → ((i : ℕ) → depart w i < k → Goes w i → get_or v (suc i) 0 < unreached → Attained i) → Attained i
          go (inl f) ih = from_start i g f
          go (inr (inl f)) ih =
              let goes = subst (Goes w) (sym f.next) g in
              let late = ap (depart w) f.next in
              let before = timely.before f.k f.goes in
              let waits = timely.waits f.k f.goes goes in
              let paid = ap (λ j. get_or v j 0) f.next in
              from_stop i g f (ih f.k (omega arith) f.goes (omega (arith, f.is)))
          go (inr (inr f)) ih =
              let before = timely.before f.k f.goes in
              let late = f.catches.catches.timely in
              from_change i g f (ih f.k (omega arith) f.goes (omega (arith, f.is)))

-- penalties that settle each other are the least
pub least_settled : (w : List ℕ) (a d : ℕ) (v : List ℕ) → Timely w → Settled w a d v → LeastArrivals w a d v
least_settled w a d v timely s =
    record {
      attained = λ i g u. attained_upto w a d v s timely (suc (depart w i)) i (omega arith) g u;
      below =
          λ i p g h.
          arrived_below w a d v s h.changed (boards_below w a d v s h.changed) (suc i) p h.arrived;
      capped = s.capped;
    }
