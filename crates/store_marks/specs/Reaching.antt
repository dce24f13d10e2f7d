-- What riding on from the labels of a station comes to: each arrival is one of a rider, and no rider arrives for less.
-- One may get off where the trip comes back to the station of boarding and one can board again, since who can board at
-- a station can board there later, too, for the same.
use Rattle.std.specs.Prelude.{◌≡◌, Bool, not, eqb, get_or}
use Rattle.std.proofs.Math.Path.{refl, subst}
use Rattle.std.proofs.Common.{sym, ap, ◌∙◌, lt-ltb, ltb→lt, eqb→eq}
use Rattle.std.proofs.Math.Bool.{true, false, cond}
use mathlib.Core.List.Memᴰ.{head as here}
use mathlib.Core.List.Memᴰ.{tail as there}
use mathlib.Core.List.{List, [], ◌∷◌}
use Prim.Native.Nat.{ℕ, zero, suc, ◌+◌, ◌-◌, ◌≤◌, ◌<◌, min}
use Rattle.std.proofs.Math.Decide.{ℕ_discrete}
use native.Mathlib.Omega.{arith}
use Rattle.std.proofs.Math.Dec.{T, ltb}
use Rattle.lists.specs.Lists.{◌∈◌}
use Rattle.lists.specs.Tests.{T_left, T_right, T_true}
use Rattle.lists.specs.Members.{none, cons_cases, concat_map_in, concat_map_out}
use Rattle.timetable.specs.Words.{stop_at, is_timetable}
use Rattle.connections.specs.Rides.{may_board}
use Rattle.connections.specs.Connections.{Transfer}
use Rattle.store_stops.specs.Stopwise.{station, depart, points, unreached, Goes, Boards, Ridden, ridden}
use Rattle.store_stops.specs.Paid.{Paid, Arrived, Labelled}
use Rattle.store_stops.specs.Settled.{Timely}
use Rattle.store_stops.specs.TimelyLaws.{timely}
use Rattle.store_stops.specs.RideStops.{ridden_one, ridden_more, ridden_once, ridden_on}
use Rattle.store_stops.specs.LeastSettled.{arrived_next, arrived_on}
use Rattle.store_stops.specs.PaidBounds.{paid_most}
use Rattle.store_stops.specs.Visits.{departs_later, paid_later}
use Rattle.store_departures.specs.Order.{waiting}
use Rattle.store_departures.specs.Parts.{waiting_in, waiting_out}
use Rattle.store_departures.specs.Held.{goes_few}
use Rattle.store_marks.specs.Riding.{Visit, visit, comes_back, label_at, goes_on, visits, boarding, boardings}

-- the station where one boards who changed so, the last change first
abbrev pub boards_at : (a : ℕ) (rev : List Transfer) → ℕ
boards_at a [] = a
boards_at a (c ∷ rev) = c.boarded

module _ (w : List ℕ) (a d : ℕ) where
  pub paid_there : (rev : List Transfer) (g p : ℕ) → Paid w a d rev g p → station w g ≡ boards_at a rev
  paid_there [] g p h = h.1
  paid_there (c ∷ rev) g p h = h.there

  paid_boards : (rev : List Transfer) (g p : ℕ) → Paid w a d rev g p → Boards w g
  paid_boards [] g p h = h.0
  paid_boards (c ∷ rev) g p h = h.catches.catches.boards

-- a stop to which a trip comes back is of the station, and open
back_there : (w : List ℕ) (j c : ℕ) → comes_back (stop_at w j) c ≡ true → (station w j ≡ c) × T
    (may_board (stop_at w j))
unfolding comes_back
back_there w j c e =
    let t = subst T (sym e) tt in (
      eqb→eq (station w j) c (T_left (eqb (station w j) c) (may_board (stop_at w j)) t),
      T_right (eqb (station w j) c) (may_board (stop_at w j)) t,
    )

pub visit_same : {j i y z : ℕ} → j ≡ i → y ≡ z → visit j y ≡ visit i z
visit_same e f = cc (e, f)

-- ---- the arrivals of one who rides on
module _ (w : List ℕ) (sure : Timely w) (c : ℕ) where
  -- a property of arrivals that riding on keeps
  module _ (P : ℕ → ℕ → Type 0) (on : (j y : ℕ) → Goes w j → P j y → P (suc j) (y + points w j)) where
    rest_all : (n j y : ℕ) (b : Bool) → goes_on w c (suc j) ≡ b → Goes w j → P (suc j) y
        → (Goes w (suc j) → P (suc (suc j)) (y + points w (suc j))
        → (v : Visit) → v ∈ visits w c n (suc j) y → P v.stop v.paid)
        → (v : Visit) → v ∈ cond b (visits w c n (suc j) y) [] → P v.stop v.paid
    rest_all n j y true e g h ih v m =
        let t = T_left (ltb 0 (depart w (suc j))) (not (comes_back (stop_at w (suc j)) c)) (rw e tt) in
        let goes = sure.goes_on j g (omega (arith, ltb→lt 0 (depart w (suc j)) t)) in
        ih goes (on (suc j) y goes h) v m
    rest_all n j y false e g h ih v m = none m

    pub visits_all : (n j y : ℕ) → Goes w j → P (suc j) (y + points w j)
        → (v : Visit) → v ∈ visits w c n j y → P v.stop v.paid
    unfolding visits
    visits_all zero j y g h v m = none m
    visits_all (suc n) j y g h v m = go (visits_all n (suc j) (y + points w j))
      where
        go : (Goes w (suc j) → P (suc (suc j)) (y + points w j + points w (suc j))
            → (v : Visit) → v ∈ visits w c n (suc j) (y + points w j) → P v.stop v.paid) → P v.stop v.paid
        go ih =
            cons_cases m (λ e. subst (λ (u : Visit). P u.stop u.paid) (sym e) h)
            (rest_all n j (y + points w j) (goes_on w c (suc j)) refl g h ih v)

  -- a ride that does not come back to station c on its way
  abbrev Clear : (b m : ℕ) → Type 0
  Clear b m = (k : ℕ) → 1 ≤ k → k ≤ m → comes_back (stop_at w (b + k)) c ≡ false

  goes_on_true : (j : ℕ) → Goes w j → Goes w (suc j) → comes_back (stop_at w (suc j)) c ≡ false
      → goes_on w c (suc j) ≡ true
  goes_on_true j g h other = rw (lt-ltb 0 (depart w (suc j)) (omega (arith, sure.ends j g h)), other)

  pub visits_in : (m n b y : ℕ) → m < n → Ridden w b (suc m) → Clear b m
      → visit (b + suc m) (y + ridden w b (suc m)) ∈ visits w c n b y
  unfolding visits ridden
  visits_in zero zero b y h r clear = absurd (omega arith)
  visits_in zero (suc n) b y h r clear = here (visit_same {i = suc b} {z = y + points w b} (omega arith) (omega arith))
  visits_in (suc m) zero b y h r clear = absurd (omega arith)
  visits_in (suc m) (suc n) b y h r clear = go (visits_in m n (suc b) (y + points w b) (omega arith) rides clear_on)
    where
      next : (k : ℕ) → b + suc k ≡ suc b + k
      next k = omega arith

      rides : Ridden w (suc b) (suc m)
      rides k g = subst (Goes w) (next k) (r (suc k) (omega arith))

      clear_on : Clear (suc b) m
      clear_on k g l =
          subst (λ j. comes_back (stop_at w j) c ≡ false) (next k) (clear (suc k) (omega arith) (omega arith))

      goes : goes_on w c (suc b) ≡ true
      goes =
          goes_on_true b (subst (Goes w) (omega arith) (r 0 (omega arith)))
          (subst (Goes w) (omega arith) (r 1 (omega arith)))
          (subst (λ j. comes_back (stop_at w j) c ≡ false) (omega arith) (clear 1 (omega arith) (omega arith)))

      go : visit (suc b + suc m) (y + points w b + ridden w (suc b) (suc m)) ∈ visits w c n (suc b) (y + points w b)
          → visit (b + suc (suc m)) (y + ridden w b (suc (suc m))) ∈ visits w c (suc n) b y
      go ih =
          rw goes
          (there
          (subst (λ u. u ∈ visits w c n (suc b) (y + points w b)) (visit_same (omega arith) (omega arith)) ih))

-- ---- the arrivals of all who board at a station
module _ (w : List ℕ) (ok : is_timetable w ≡ true) (c : ℕ) (x : List ℕ) where
  abbrev sure : Timely w
  sure = timely w ok

  -- who has a label boards
  label_open : (i : ℕ) → label_at w x i < unreached → T (may_board (stop_at w i))
  unfolding label_at
  label_open i h = go (may_board (stop_at w i)) h
    where
      go : (b : Bool) → cond b (min (get_or x i 0) unreached) unreached < unreached → T b
      go true h = tt
      go false h = absurd (omega arith)

  label_is : (i : ℕ) → T (may_board (stop_at w i)) → label_at w x i ≡ min (get_or x i 0) unreached
  unfolding label_at
  label_is i t = rw (T_true (may_board (stop_at w i)) t)

  boarding_out : (P : ℕ → ℕ → Type 0) → ((j y : ℕ) → Goes w j → P j y → P (suc j) (y + points w j)) → (i : ℕ)
      → Goes w i → (label_at w x i < unreached → P (suc i) (label_at w x i + points w i))
      → (v : Visit) → v ∈ boarding w c x i → P v.stop v.paid
  unfolding boarding
  boarding_out P on i g h v = go (ltb (label_at w x i) unreached) refl
    where
      go : (b : Bool) → ltb (label_at w x i) unreached ≡ b
          → v ∈ cond b (visits w c (2048 - i) i (label_at w x i)) [] → P v.stop v.paid
      go true e m =
          visits_all w sure c P on (2048 - i) i (label_at w x i) g (h (ltb→lt (label_at w x i) unreached (rw e tt))) v m
      go false e m = none m

  -- a ride that does not come back to c is made to its end
  boarding_in : (m b : ℕ) → label_at w x b < unreached → Ridden w b (suc m) → Clear w sure c b m
      → visit (b + suc m) (label_at w x b + ridden w b (suc m)) ∈ boarding w c x b
  unfolding boarding
  boarding_in m b h r clear =
      let few = goes_few w ok (b + m) (r m (omega arith)) in
      rw (lt-ltb (label_at w x b) unreached h) (visits_in w sure c m (2048 - b) b (label_at w x b) (omega arith) r
      clear)

  module _ (a d : ℕ) (rev : List Transfer) (labels : Labelled w a d rev c x) where
    label_paid : (i : ℕ) → Goes w i → station w i ≡ c → label_at w x i < unreached → Paid w a d rev i (label_at w x i)
    label_paid i g at h =
        let opens = label_open i h in
        let least = label_is i opens in
        let is : label_at w x i ≡ get_or x i 0 = omega arith in
        subst (Paid w a d rev i) (sym is)
        (labels.attained i (record { goes = g; opens = opens }) at (omega (arith, is)))

    pub boardings_arrived : (v : Visit) → v ∈ boardings w c x (waiting w c) → Arrived w a d rev v.stop v.paid
    unfolding boardings
    boardings_arrived v m =
        let r = concat_map_out (boarding w c x) (waiting w c) m in
        let i = r.0 in
        let g = waiting_out w c i r.1 in
        boarding_out
        (Arrived w a d rev)
        (arrived_on w a d rev)
        i
        g.0
        (λ h. arrived_next w a d rev i (label_at w x i) g.0 (label_paid i g.0 g.1 h))
        v
        r.2

    -- a boarding from which a ride does not come back to c
    record Direct (j p : ℕ) : Type 0 where
      from : ℕ
      m : ℕ
      paid : ℕ
      boards : Paid w a d rev from paid
      rides : Ridden w from (suc m)
      clear : Clear w sure c from m
      to : from + suc m ≡ j
      total : paid + ridden w from (suc m) ≤ p

    module _ (there-c : boards_at a rev ≡ c) where
      -- where the ride comes back to c and one can board again, one can board there instead
      again : (j p : ℕ) (r : Direct j p) → Boards w j → station w j ≡ c → Direct (suc j) (p + points w j)
      again j p r o e =
          let g = o.goes in
          let to = r.to in
          let at = paid_there w a d rev r.from r.paid r.boards in
          let late = departs_later w sure (suc r.m) r.from r.rides (subst (Goes w) (sym to) g) in
          let late-j : depart w r.from ≤ depart w j = omega (arith, late, ap (depart w) to) in
          record {
            from = j;
            m = 0;
            paid = r.paid;
            boards = paid_later w a d rev r.from j r.paid r.boards o (e ∙ sym there-c ∙ sym at) late-j;
            rides = ridden_once w j g;
            clear = λ k h l. absurd (omega arith);
            to = omega arith;
            total = omega (arith, r.total, ridden_one w j);
          }

      on : (j p : ℕ) (r : Direct j p) → Goes w j → comes_back (stop_at w j) c ≡ false → Direct (suc j) (p + points w j)
      on j p r g other =
          let to = r.to in
          record {
            from = r.from;
            m = suc r.m;
            paid = r.paid;
            boards = r.boards;
            rides = ridden_on w r.from (suc r.m) r.rides (subst (Goes w) (sym to) g);
            clear = λ k h l.
                elim (ℕ_discrete k (suc r.m)) [
                  | yes e ↦
                      subst (λ i. comes_back (stop_at w i) c ≡ false) (sym to ∙ ap (λ i. r.from + i) (sym e)) other
                  | no e ↦ r.clear k h (omega arith)
                ];
            to = omega arith;
            total = omega (arith, r.total, ridden_more w r.from (suc r.m), ap (points w) to);
          }

      direct : (k i p : ℕ) → Paid w a d rev i p → Ridden w i (suc k)
          → Direct (i + suc k) (p + ridden w i (suc k))
      direct zero i p b r =
          record {
            from = i;
            m = 0;
            paid = p;
            boards = b;
            rides = r;
            clear = λ k h l. absurd (omega arith);
            to = refl;
            total = omega arith;
          }
      direct (suc k) i p b r = go (direct k i p b (λ j h. r j (omega arith)))
        where
          j : ℕ
          j = i + suc k

          goes : Goes w j
          goes = r (suc k) (omega arith)

          cast : Direct (suc j) (p + ridden w i (suc k) + points w j)
              → Direct (i + suc (suc k)) (p + ridden w i (suc (suc k)))
          cast s =
              subst (λ q. Direct (i + suc (suc k)) q) (omega (arith, ridden_more w i (suc k)))
              (subst (λ t. Direct t (p + ridden w i (suc k) + points w j)) (omega arith) s)

          go : Direct j (p + ridden w i (suc k)) → Direct (i + suc (suc k)) (p + ridden w i (suc (suc k)))
          go s = by (comes_back (stop_at w j) c) refl
            where
              by : (b : Bool) → comes_back (stop_at w j) c ≡ b
                  → Direct (i + suc (suc k)) (p + ridden w i (suc (suc k)))
              by true e =
                  let back = back_there w j c e in
                  cast (again j (p + ridden w i (suc k)) s (record { goes = goes; opens = back.1 }) back.0)
              by false e = cast (on j (p + ridden w i (suc k)) s goes e)

      -- no one arrives for less than one of these
      pub record Least (j p : ℕ) : Type 0 where
        pub paid : ℕ
        pub listed : visit j paid ∈ boardings w c x (waiting w c)
        pub least : paid ≤ p

      direct_least : (j p : ℕ) → Direct j p → Least j p
      unfolding boardings
      direct_least j p r =
          let b = r.from in
          let g = paid_boards w a d rev b r.paid r.boards in
          let is = label_is b g.opens in
          let at = paid_there w a d rev b r.paid r.boards ∙ there-c in
          let below = labels.below b r.paid g at r.boards in
          let most = paid_most w sure a d rev b r.paid g.goes r.boards in
          let v = boarding_in r.m b (omega (arith, is)) r.rides r.clear in
          let y = label_at w x b + ridden w b (suc r.m) in
          record {
            paid = y;
            listed =
                concat_map_in (boarding w c x) (subst (λ s. b ∈ waiting w s) at (waiting_in w ok b g.goes))
                (subst (λ i. visit i y ∈ boarding w c x b) r.to v);
            least = omega (arith, r.total, is);
          }

      pub boardings_least : (j p : ℕ) → Arrived w a d rev j p → Least j p
      boardings_least j p h = go h.stops h.some h.rides h.to h.total
        where
          go : (n : ℕ) → 1 ≤ n → Ridden w h.from n → h.from + n ≡ j → p ≡ h.paid + ridden w h.from n → Least j p
          go zero o r e t = absurd (omega arith)
          go (suc k) o r e t =
              subst (λ q. Least j q) (sym t)
              (subst (λ i. Least i (h.paid + ridden w h.from (suc k))) e
              (direct_least (h.from + suc k) (h.paid + ridden w h.from (suc k))
              (direct k h.from h.paid h.boards r)))
