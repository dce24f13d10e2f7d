-- What the words say on the way along a pattern: for each minute the least penalty of one who is ready to board at the
-- present station by then, after the changes so far. Each step keeps this, and the last ride gives what is promised.
use Rattle.std.specs.Prelude.{◌≡◌, refl, cond, ◌⊎◌, List, [], ◌∷◌, ℕ, ◌+◌, ◌≤◌, ◌<◌, T, eqb, length, get_or, set}
use Rattle.std.proofs.Math.Path.{sym}
use Rattle.std.proofs.Common.{ap, ◌∙◌, ne_eqb, eq-eqb, ltb→lt, lt→ltb, length-set}
use Rattle.std.proofs.Math.Logic.{inl, inr}
use native.Mathlib.Omega.{arith}
use Rattle.std.proofs.Math.Decide.{ℕ_discrete, dec_lt}
use Rattle.std.proofs.Math.Dec.{ltb}
use Rattle.std.proofs.Math.ListN.{length-replicate, get_or-eq_default}
use Rattle.std.proofs.Math.Seq.{get_or-set_same, get_or-set_other}
use Rattle.timetable.specs.Timetable.{Timetable, valid}
use Rattle.lists.specs.Lists.{◌∈◌}
use Rattle.results.proofs.Best.{ByThen}
use Rattle.connections.specs.Rides.{Ride}
use Rattle.connections.specs.Connections.{Net, net, Change, Transfer, transfer, Changes, ready}
use Rattle.connections.proofs.Sound.{sound, ride_cheap}
use Rattle.optimality.specs.Along.{Along, Ends}
use Rattle.optimality.specs.Layers.{LeastAlong, Starting, start_least, Last, Stepping, step_least}
use Rattle.optimality.specs.Layers.{LastTo, Ending, end_attained, end_below}
use Rattle.optimality.specs.Bounds.{penalty_most, reach_most}
use Rattle.query_minutes.specs.Minutes.{no_points, blank}
use Rattle.query_minutes.specs.Noted.{get_d_any, get_d_blank}
use Rattle.lists.specs.First.{Foremost, foremost}
use Rattle.query_nearest.specs.Nearest.{Nearer, nearer_sooner}
use Rattle.query_rides.specs.declared.Way.{Way}
use Rattle.query_rides.specs.Ways.{cost_in, Open}
use Rattle.query_costs.specs.Lowest.{length_lowest, lowest_below, lowest_stems}
use Rattle.query_costs.specs.Layering.{start_of, step_of, taken_all, first_value}
use Rattle.query_costs.specs.Taken.{Noting, noting, length_taken, Stepped, stepped}
use Rattle.query_costs.specs.Lowered.{kept, Lowered}

-- the words, as values at all stations: at station x those of the array, elsewhere none
unfoldable pub value_at : (x : ℕ) (p : List ℕ) → (y u : ℕ) → ℕ
value_at x p y u = cond (eqb y x) (kept p u) no_points

pub value_here : (x : ℕ) (p : List ℕ) (y u : ℕ) → y ≡ x → value_at x p y u ≡ kept p u
unfolding value_at
value_here x p y u e = rw (eq-eqb y x e)

value_else : (x : ℕ) (p : List ℕ) (y u : ℕ) → ¬ (y ≡ x) → value_at x p y u ≡ no_points
unfolding value_at
value_else x p y u e = rw (ne_eqb y x e)

-- a value is that of the present station
pub value_some : (x : ℕ) (p : List ℕ) (y u : ℕ) → value_at x p y u < no_points → y ≡ x
value_some x p y u h =
    elim (ℕ_discrete y x) [
      | yes e ↦ e
      | no e ↦ absurd (omega (arith, value_else x p y u e))
    ]

-- past the end there is none
kept_inside : (p : List ℕ) (m : ℕ) → length p ≡ 2880 → kept p m < no_points → m < 2880
kept_inside p m e h =
    elim (dec_lt m 2880) [
      | yes g ↦ g
      | no g ↦ absurd (omega (arith, get_or-eq_default p no_points {n = m} (omega (arith, e))))
    ]

-- The rides of a list are some of the net from station x to station y that leave at minute e or later. For each of
-- them there is one in the list that leaves with it, arrives no later and costs no more.
pub record Between (n : Net) (x y e : ℕ) (l : List Ride) : Type 0 where
  pub listed : (r : Ride) → r ∈ l → r ∈ n.rides
  pub from : (r : Ride) → r ∈ l → r.from ≡ x
  pub to : (r : Ride) → r ∈ l → r.to ≡ y
  pub timely : (r : Ride) → r ∈ l → e ≤ r.depart
  pub all : (r : Ride) → r ∈ n.rides → r.from ≡ x → r.to ≡ y → e ≤ r.depart
      → (k : Ride) × (k ∈ l) × Nearer k r

-- Along rev, from station a at minute t on, one is ready to board at station x by minute u for word u of p at the
-- least, from minute e on; before it not at all.
pub record Ready (n : Net) (a t : ℕ) (rev : List Transfer) (x e : ℕ) (p : List ℕ) : Type 0 where
  pub long : length p ≡ 2880
  pub least : LeastAlong n a t no_points 2880 rev (value_at x p)
  pub none : (m : ℕ) → m < e → kept p m ≡ no_points
  pub low : (m : ℕ) → e ≤ m → m < 2880 → kept p m ≤ penalty_most

module _ (tt : Timetable) (ok : T (valid tt)) (a t : ℕ) where
  abbrev n : Net
  n = net tt

  -- every ride leaves within the two days
  pub leaves : (r : Ride) → r ∈ n.rides → r.depart < 2880
  leaves r m = omega (arith, (sound tt ok).forward r m, (sound tt ok).bounded r m)

  -- a value that is reached is small
  least_low : (rev : List Transfer) (x u : ℕ) (p : List ℕ) → LeastAlong n a t no_points 2880 rev (value_at x p)
      → kept p u < no_points → kept p u ≤ penalty_most
  least_low rev x u p l h =
      let e = value_here x p x u refl in
      let g = l.attained x u (omega (arith, e)) in
      omega (arith, e, reach_most tt ok a t x u (value_at x p x u) (record { changed = rev; along = g }))

  -- so is all that a connection costs
  few : (rev : List Transfer) (y m c : ℕ) → Ends n a t rev y m c → c < no_points
  few rev y m c g =
      let r = g.ride in
      let so_far = reach_most tt ok a t r.from r.depart g.paid (record { changed = rev; along = g.below }) in
      let cheap = ride_cheap tt ok r g.listed in
      omega (arith, so_far, cheap, g.total, (sound tt ok).bounded r g.listed)

  -- ---- before the first ride
  module _ (inside : t < 2880) where
    abbrev begun : List ℕ
    begun = set blank t 0

    begun_long : length begun ≡ 2880
    begun_long = length-set blank t 0 ∙ length-replicate 2880 no_points

    start_long : length (start_of t) ≡ 2880
    unfolding start_of
    start_long = length_lowest no_points begun ∙ begun_long

    start_zero : (m : ℕ) → t ≤ m → m < 2880 → kept (start_of t) m ≡ 0
    unfolding start_of
    start_zero m h g =
        omega (
          arith,
          lowest_below no_points begun no_points t m h (omega (arith, begun_long)),
          get_or-set_same blank t 0 no_points (omega (arith, length-replicate 2880 no_points)),
        )

    start_none : (m : ℕ) → m < t → kept (start_of t) m ≡ no_points
    unfolding start_of
    start_none m h =
        elim (lowest_stems no_points begun no_points m (omega (arith, begun_long))) [
          | inl e ↦ e
          | inr b ↦ sym b.is
              ∙ get_or-set_other blank t b.place 0 no_points (λ e. omega (arith, b.before))
              ∙ get_d_blank 2880 no_points b.place
        ]

    starting : Starting n a t no_points 2880 (value_at a (start_of t))
    starting = record { at_start = at_start; attained = attained }
      where
        at_start : (u : ℕ) → t ≤ u → u < 2880 → value_at a (start_of t) a u ≡ 0
        at_start u h g = value_here a (start_of t) a u refl ∙ start_zero u h g

        attained : (x u : ℕ) → value_at a (start_of t) x u < no_points
            → Along n a t [] x u (value_at a (start_of t) x u)
        attained x u h = (at, timely, value_here a (start_of t) x u at ∙ start_zero u timely within)
          where
            at : x ≡ a
            at = value_some a (start_of t) x u h

            within : u < 2880
            within = kept_inside (start_of t) u start_long (omega (arith, value_here a (start_of t) x u at))

            timely : t ≤ u
            timely =
                elim (dec_lt u t) [
                  | yes g ↦ absurd (omega (arith, value_here a (start_of t) x u at, start_none u g))
                  | no g ↦ omega arith
                ]

    pub start_ready : Ready n a t [] a t (start_of t)
    start_ready =
        record {
          long = start_long;
          least = start_least n a t no_points 2880 (value_at a (start_of t)) starting;
          none = start_none;
          low = λ m h g. omega (arith, start_zero m h g);
        }

  -- ---- on from what is so
  module _
      (rev : List Transfer)
      (x e : ℕ)
      (p : List ℕ)
      (is : Ready n a t rev x e p)
      (y : ℕ)
      (l : List Ride)
      (b : Between n x y e l)
    where
      -- what was paid before a ride
      before : (r : Ride) → r ∈ n.rides → r.from ≡ x → get_or p r.depart 0 ≡ value_at x p r.from r.depart
      before r m h =
          get_d_any p r.depart 0 no_points (omega (arith, leaves r m, is.long))
          ∙ sym (value_here x p r.from r.depart h)

      -- a ride of the list, for one who takes r
      record Instead (r : Ride) : Type 0 where
        ride : Ride
        listed : ride ∈ l
        sooner : ride.arrive ≤ r.arrive
        paid : get_or p ride.depart 0 ≡ value_at x p r.from r.depart
        cheap : ride.points ≤ r.points

      -- who can take a ride takes one of the list instead
      instead : (r : Ride) → r ∈ n.rides → r.to ≡ y → value_at x p r.from r.depart < no_points → Instead r
      instead r m h g =
          let k = b.all r m from h timely in
          record {
            ride = k.0;
            listed = k.1;
            sooner = nearer_sooner k.0 r k.2;
            paid = ap (λ d. get_or p d 0) k.2.depart ∙ before r m from;
            cheap = k.2.points;
          }
        where
          from : r.from ≡ x
          from = value_some x p r.from r.depart g

          timely : e ≤ r.depart
          timely =
              elim (dec_lt r.depart e) [
                | yes k ↦ absurd
                    (omega (arith, value_here x p r.from r.depart from, is.none r.depart k))
                | no k ↦ omega arith
              ]

      -- by the way from y to station z
      module _ (z : ℕ) (g : Way) (known : Open n y z g) where
        abbrev q : List ℕ
        q = step_of p g l

        abbrev change : Transfer
        change = record { alighted = y; boarded = z }

        s : Stepped p l g
        s = stepped p l g

        stepping : Stepping n a t no_points 2880 change (value_at x p) (value_at z q)
        stepping = record { over = over; attained = attained }
          where
            over : (r : Ride) (c : Change) (u : ℕ) → r ∈ n.rides → Changes n r c → transfer c ≡ change → ready r c ≤ u
                → u < 2880 → value_at z q c.to u ≤ value_at x p r.from r.depart + r.points + c.points
            over r c u m h e k i =
                elim (dec_lt (value_at x p r.from r.depart) no_points) [
                  | yes some ↦ reached some
                  | no some ↦ omega (arith, here, s.most u)
                ]
              where
                from : c.from ≡ y
                from = ap (λ t. t.alighted) e

                to : c.to ≡ z
                to = ap (λ t. t.boarded) e

                here : value_at z q c.to u ≡ kept q u
                here = value_here z q c.to u to

                reached : value_at x p r.from r.depart < no_points
                    → value_at z q c.to u ≤ value_at x p r.from r.depart + r.points + c.points
                reached some =
                    let way = known.all c h.listed from to in
                    let there : r.to ≡ y = sym h.here ∙ from in
                    let j = instead r m there some in
                    let soon : j.ride.arrive + (cost_in g).minutes.0 ≤ u =
                    omega (arith, way.1.minutes, j.sooner) in
                    let done = s.over way.0 j.ride j.listed u soon i in
                    omega (arith, here, j.paid, j.cheap, done, way.1.points)

            attained : (o u : ℕ) → value_at z q o u < no_points
                → Last n a t no_points 2880 change (value_at x p) (value_at z q) o u
            attained o u h =
                let there = value_some z q o u h in
                let k = s.attained u (omega (arith, value_here z q o u there)) in
                let way = known.sound k.found in
                let r = k.ride in
                let m = b.listed r k.listed in
                record {
                  ride = r;
                  change = way.change;
                  listed = m;
                  changes = record { listed = way.listed; here = way.from ∙ sym (b.to r k.listed) };
                  at = λ i. record { alighted = way.from i; boarded = way.to i };
                  to = way.to ∙ sym there;
                  timely = omega (arith, k.until, way.takes.minutes);
                  is =
                      omega (
                        arith,
                        value_here z q o u there,
                        k.pays,
                        way.takes.points,
                        before r m (b.from r k.listed),
                      );
                }

        least : LeastAlong n a t no_points 2880 (change ∷ rev) (value_at z q)
        least = step_least n a t no_points 2880 rev (value_at x p) is.least leaves change (value_at z q) stepping

        first : Foremost (λ m. ltb (get_or q m 0) no_points) 0 2880 (first_value q)
        unfolding first_value
        first = foremost (λ m. ltb (get_or q m 0) no_points) 0 2880

        pub step_ready : Ready n a t (change ∷ rev) z (first_value q) q
        step_ready = record { long = s.long; least = least; none = none; low = low }
          where
            word : (m : ℕ) → m < 2880 → get_or q m 0 ≡ kept q m
            word m h = get_d_any q m 0 no_points (omega (arith, s.long))

            none : (m : ℕ) → m < first_value q → kept q m ≡ no_points
            none m h =
                elim (dec_lt (kept q m) no_points) [
                  | yes g ↦ absurd
                      (first.before m (omega arith) h
                      (lt→ltb (get_or q m 0) no_points (omega (arith, word m (omega (arith, first.most))))))
                  | no g ↦ omega (arith, s.most m)
                ]

            low : (m : ℕ) → first_value q ≤ m → m < 2880 → kept q m ≤ penalty_most
            low m h g =
                let k = first_value q in
                let some = ltb→lt (get_or q k 0) no_points (first.passes (omega arith)) in
                least_low (change ∷ rev) z m q least
                (omega (arith, some, word k (omega arith), s.falls k m h g))

      -- ---- the last ride, to y
      module _ (old : List ℕ) (long : length old ≡ 2880) where
        abbrev new : List ℕ
        new = taken_all p 0 0 old l

        noted : Noting p 0 0 l old long
        noted = noting p 0 0 l old long

        ending : Ending n a t no_points 2880 rev (value_at x p) is.least leaves y (kept old) (kept new)
        ending = record { over = over; attained = attained }
          where
            over : (r : Ride) → r ∈ n.rides → r.to ≡ y → value_at x p r.from r.depart < no_points
                → ByThen (kept new) r.arrive (value_at x p r.from r.depart + r.points)
            over r m h z =
                let j = instead r m h z in
                let at = j.ride.arrive + 0 in
                let soon : at < 2880 = omega (arith, (sound tt ok).bounded r m, j.sooner) in
                record {
                  minute = at;
                  until = omega (arith, j.sooner);
                  low = omega (arith, noted.low j.ride j.listed soon, j.paid, j.cheap);
                }

            attained : (m : ℕ) → kept new m < kept old m
                → LastTo n a t no_points 2880 rev (value_at x p) is.least leaves y (kept new) m
            attained m h =
                elim (noted.stems m) [
                  | inl e ↦ absurd (omega (arith, e))
                  | inr k ↦ (
                      let r = k.ride in
                      let i = b.listed r k.listed in
                      let from = b.from r k.listed in
                      let small = is.low r.depart (b.timely r k.listed) (leaves r i) in
                      record {
                        ride = r;
                        listed = i;
                        to = b.to r k.listed;
                        minute = omega (arith, k.at);
                        reached = omega (arith, value_here x p r.from r.depart from, small);
                        is = omega (arith, k.pays, before r i from);
                      })
                ]

        pub end_lowered : Lowered n a t rev y old new
        end_lowered = record { long = long_new; lower = noted.kept; stems = stems; below = below }
          where
            long_new : length new ≡ length old
            long_new = length_taken p 0 0 l old long ∙ sym long

            attained : (m : ℕ) → kept new m < kept old m → Ends n a t rev y m (kept new m)
            attained =
                end_attained n a t no_points 2880 rev (value_at x p) is.least leaves y (kept old) (kept new) ending

            stems : (m : ℕ) → (kept new m ≡ kept old m) ⊎ Ends n a t rev y m (kept new m)
            stems m =
                elim (dec_lt (kept new m) (kept old m)) [
                  | yes h ↦ inr (attained m h)
                  | no h ↦ inl (omega (arith, noted.kept m))
                ]

            below : (m c : ℕ) → Ends n a t rev y m c → ByThen (kept new) m c
            below m c g =
                end_below
                n a t no_points 2880 rev (value_at x p) is.least leaves y (kept old) (kept new) ending m c
                (few rev y m c g)
                g
