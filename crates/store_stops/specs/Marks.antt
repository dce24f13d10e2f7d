-- The marks of a node, for one minute: a connection along these changes ends well at a station exactly if its sequence
-- is that of an optimal connection, and goes on well from there exactly if it is a beginning of one.
use Rattle.std.specs.Prelude.{◌≡◌, refl, true, ◌⊎◌, ◌≢◌, ◌↔◌, List, [], ◌∷◌, T, get_or}
use Rattle.std.proofs.Common.{sym, ap, ◌∙◌, inl, arith}
use Rattle.std.proofs.Math.Path.{subst}
use Rattle.std.proofs.Math.Logic.{inr}
use Prim.Native.Nat.{ℕ, zero, suc, ◌+◌, ◌≤◌, ◌<◌}
use Rattle.timetable.specs.Words.{stop_at, is_timetable}
use Rattle.connections.specs.Rides.{may_board}
use Rattle.connections.specs.Connections.{Change, Transfer, transfer, Net, Connection, direct, onward, Feasible}
use Rattle.connections.specs.Connections.{ready, arrival, penalty, stations}
use Rattle.connections.proofs.Feasibility.{earlier, has_stations}
use Rattle.connections.proofs.Sound.{Sound}
use Rattle.optimality.specs.Along.{read_back, Along, Ends, Frontier}
use Rattle.optimality.specs.AlongLaws.{boarded, changed, join}
use Rattle.optimality.specs.Frontiers.{arrives}
use Rattle.optimality.specs.Ways.{Way}
use Rattle.optimality.specs.Continuing.{Closing, Continuing, continuing_exactly}
use Rattle.store_stops.specs.Stopwise.{
  station,
  arrive,
  depart,
  points,
  Goes,
  Boards,
  Alights,
  Ridden,
  ridden,
  CatchesBy,
}
use Rattle.store_stops.specs.Paid.{Paid, Arrived, LeastArrivals}
use Rattle.store_stops.specs.Prospects.{Allows, Onto, OnwardIn, Onward, GoesOn, Ends as EndsWell}
use Rattle.store_stops.specs.Settled.{Timely}
use Rattle.store_stops.specs.RideStops.{
  net_of,
  ridden_none,
  ridden_more,
  ridden_goes,
  ridden_on,
  ridden_once,
  ride_of_lem,
  spelled_sound,
  catches_of,
  changes_by,
}
use Rattle.store_stops.specs.Riders.{Aboard, paid_along, layer_ends, arrived_ends, ends_arrived, aboard}
use Rattle.store_stops.specs.FrontierStops.{on_frontier_lies, lies_on_frontier}

-- these changes, the last one first, begin those of an optimal connection to another station than a
pub record Begins (n : Net) (a d : ℕ) (rev : List Transfer) : Type 0 where
  pub rest : List ℕ
  pub target : ℕ
  pub some : rest ≢ []
  pub other : target ≢ a
  pub way : Way n a d target (read_back rev rest)

module _ (w e : List ℕ) where
  -- the same place and penalty in other words
  onward_at : (k i j x y : ℕ) → i ≡ j → x ≡ y → OnwardIn w e k i x → OnwardIn w e k j y
  onward_at k i j x y g h o = subst (λ z. OnwardIn w e k z y) g (subst (λ z. OnwardIn w e k i z) h o)

  -- who stays aboard for m stops and ends well from there, ends well
  onward_staying : (m k i x : ℕ) → Ridden w i (suc m) → OnwardIn w e k (i + m) (x + ridden w i m) → Onward w e i x
  unfolding ridden
  onward_staying zero k i x r h =
      record { steps = k; on = onward_at k (i + 0) i (x + ridden w i 0) x (omega arith) (omega arith) h }
  onward_staying (suc m) k i x r h =
      let y = x + points w i in
      let later = onward_at
      k
      (i + suc m)
      (suc i + m)
      (x + ridden w i (suc m))
      (y + ridden w (suc i) m)
      (omega arith)
      (omega arith)
      h in
      let next : Ridden w (suc i) (suc m) = (λ j g. subst (Goes w) (omega arith) (r (suc j) (omega arith))) in
      let goes : Goes w (suc i) = ridden_goes w (suc i) (suc m) (omega arith) next in
      let o = onward_staying m k (suc i) y next later in
      record { steps = suc o.steps; on = inr (inl (goes, o.on)) }

module _
    (w : List ℕ)
    (yes : is_timetable w ≡ true)
    (timely : Timely w)
    (a d : ℕ)
    (v e : List ℕ)
    (least : LeastArrivals w a d v)
    (allows : Allows w a v e)
  where
    abbrev n : Net
    n = net_of w

    abbrev ok : Sound (net_of w)
    ok = spelled_sound w yes

    -- ---- ends
    ends_closes : (rev : List Transfer) (b : ℕ) → EndsWell w a d e rev b → Closing n ok a d rev b × (b ≢ a)
    ends_closes rev b h =
        let j = suc h.i in
        let k = (allows.within h.i h.paid h.goes).0 h.within in
        let low = least.below h.i h.paid h.goes (record { changed = rev; arrived = h.arrived }) in
        let is : get_or v j 0 ≡ h.paid = omega (arith, low, k.1) in
        let there = arrived_ends w yes a d rev j h.paid h.arrived k.0.alights in
        let lies = subst
        (λ p. Frontier n a d (station w j) (arrive w j) p)
        is
        (on_frontier_lies w yes a d v least h.i k.0) in (
          record {
            minute = arrive w j;
            paid = h.paid;
            ends = subst (λ b. Ends n a d rev b (arrive w j) h.paid) h.here there;
            frontier = subst (λ b. Frontier n a d b (arrive w j) h.paid) h.here lies;
          },
          λ q. k.0.elsewhere (h.here ∙ q),
        )

    -- who arrives on the frontier, elsewhere than at a, ends well
    ends_within : (rev : List Transfer) (i p b u : ℕ) → Goes w i → Alights w (suc i) → Arrived w a d rev (suc i) p
        → station w (suc i) ≡ b
        → arrive w (suc i) ≡ u → Frontier n a d b u p → b ≢ a → p < get_or e (suc i) 0
    ends_within rev i p b u g alights h here minute f other =
        let at = subst (λ b. Frontier n a d b (arrive w (suc i)) p) (sym here)
        (subst (λ u. Frontier n a d b u p) (sym minute) f) in
        let l = lies_on_frontier w yes a d v least timely rev i p g alights h at (λ q. other (sym here ∙ q)) in
        (allows.within i p g).1 (l.on, omega (arith, l.is))

    closes_ends : (rev : List Transfer) (b : ℕ) → Closing n ok a d rev b → b ≢ a → EndsWell w a d e rev b
    closes_ends rev b h other =
        let k = ends_arrived w yes a d rev b h.minute h.paid h.ends in
        record {
          i = k.i;
          paid = h.paid;
          goes = k.goes;
          arrived = k.arrived;
          here = k.here;
          within =
              ends_within
              rev
              k.i
              h.paid
              b
              h.minute
              k.goes
              k.alights
              k.arrived
              k.here
              k.minute
              h.frontier
              other;
        }

    pub ends_closing : (rev : List Transfer) (b : ℕ)
        → EndsWell w a d e rev b ↔ (Closing (net_of w) (spelled_sound w yes) a d rev b × (b ≢ a))
    ends_closing rev b = (ends_closes rev b, λ h. closes_ends rev b h.0 h.1)

    -- ---- goes on
    -- what can be done by one who boards at stop i, having paid x
    record Rest (i x : ℕ) : Type 0 where
      target : ℕ
      allowed : ℕ
      connection : Connection
      other : target ≢ a
      feasible : Feasible n (station w i) (depart w i) target connection
      frontier : Frontier n a d target (arrival connection) allowed
      within : x + penalty connection ≤ allowed

    -- to end after a ride of m + 1 stops
    rest_ends : (m i x : ℕ) → T (may_board (stop_at w i)) → Ridden w i (suc m)
        → x + ridden w i (suc m) < get_or e (suc (i + m)) 0 → Rest i x
    rest_ends m i x b r h =
        let q : i + suc m ≡ suc (i + m) = omega arith in
        let g = r m (omega arith) in
        let k = (allows.within (i + m) (x + ridden w i (suc m)) g).0 h in
        let s = ride_of_lem w yes i (suc m) (omega arith) r b (subst (Alights w) (sym q) k.0.alights) in
        let lies = on_frontier_lies w yes a d v least (i + m) k.0 in
        record {
          target = station w (suc (i + m));
          allowed = get_or v (suc (i + m)) 0;
          connection = direct s.ride;
          other = k.0.elsewhere;
          feasible = (
            record { listed = s.same.listed; here = s.same.from; timely = omega (arith, s.same.leaves) },
            s.same.to ∙ ap (station w) q,
          );
          frontier = rw (s.same.comes, q) lies;
          within = omega (arith, k.1, s.same.costs);
        }

    -- to change there
    rest_changes : (m i x g : ℕ) (z : Change) → T (may_board (stop_at w i)) → Ridden w i (suc m)
        → CatchesBy w z (suc (i + m)) g → Rest g (x + ridden w i (suc m) + z.points) → Rest i x
    rest_changes m i x g z b r c k =
        let q : i + suc m ≡ suc (i + m) = omega arith in
        let s = ride_of_lem w yes i (suc m) (omega arith) r b (subst (Alights w) (sym q) c.alights) in
        let late : ready s.ride z ≤ depart w g = omega (arith, c.timely, s.same.comes, ap (arrive w) q) in
        record {
          target = k.target;
          allowed = k.allowed;
          connection = onward s.ride z k.connection;
          other = k.other;
          feasible = (
            record { listed = s.same.listed; here = s.same.from; timely = omega (arith, s.same.leaves) },
            changes_by w yes s.ride z (suc (i + m)) g c (s.same.to ∙ ap (station w) q),
            rw (← c.to) (earlier n (station w g) (ready s.ride z) (depart w g) k.target k.connection late
                k.feasible),
          );
          frontier = k.frontier;
          within = omega (arith, k.within, s.same.costs);
        }

    rest_of : (k m i x : ℕ) → T (may_board (stop_at w i)) → Ridden w i (suc m)
        → OnwardIn w e k (i + m) (x + ridden w i m) → Rest i x
    rest_of zero m i x b r h = absurd h
    rest_of (suc k) m i x b r h = go h (rest_of k)
      where
        total : x + ridden w i m + points w (i + m) ≡ x + ridden w i (suc m)
        total = omega (arith, ridden_more w i m)

        go : (x + ridden w i m + points w (i + m) < get_or e (suc (i + m)) 0)
            ⊎ ((Goes w (suc (i + m)) × OnwardIn w e k (suc (i + m)) (x + ridden w i m + points w (i + m)))
            ⊎ Onto w e (OnwardIn w e k) (suc (i + m)) (x + ridden w i m + points w (i + m)))
            → ((m i x : ℕ) → T (may_board (stop_at w i)) → Ridden w i (suc m)
            → OnwardIn w e k (i + m) (x + ridden w i m) → Rest i x)
            → Rest i x
        go (inl t) ih = rest_ends m i x b r (omega (arith, t, total))
        go (inr (inl t)) ih =
            let next : suc (i + m) ≡ i + suc m = omega arith in
            ih
            (suc m)
            i
            x
            b
            (ridden_on w i (suc m) r (subst (Goes w) next t.0))
            (onward_at
            w
            e
            k
            (suc (i + m))
            (i + suc m)
            (x + ridden w i m + points w (i + m))
            (x + ridden w i (suc m))
            next
            total
            t.1)
        go (inr (inr t)) ih =
            let o = t.onto in
            let g = o.g in
            let c = t.way.points in
            let y = x + ridden w i (suc m) + c in
            let on = onward_at
            w
            e
            k
            g
            (g + 0)
            (x + ridden w i m + points w (i + m) + c)
            (y + ridden w g 0)
            (omega arith)
            (omega (arith, total, ridden_none w g))
            o.leaves in
            let boards = o.catches.boards in
            rest_changes m i x g t.way b r o.catches
            (ih 0 g y boards.opens (ridden_once w g boards.goes) on)

    goes_continues : (rev : List Transfer) (b : Transfer) → GoesOn w a d e rev b → Begins n a d (b ∷ rev)
    goes_continues rev b h =
        record {
          rest = stations c;
          target = r.target;
          some = has_stations c;
          other = r.other;
          way = (continuing_exactly n ok a d (b ∷ rev) (stations c) r.target).0 continuing;
        }
      where
        g : ℕ
        g = h.onto.g

        p : ℕ
        p = h.paid + h.way.points

        caught : CatchesBy w h.way (suc h.i) g
        caught = h.onto.catches

        boards : Boards w g
        boards = caught.boards

        leaves : Onward w e g p
        leaves = h.onto.leaves

        r : Rest g p
        r =
            rest_of
            leaves.steps
            0
            g
            p
            boards.opens
            (ridden_once w g boards.goes)
            (onward_at
            w
            e
            leaves.steps
            g
            (g + 0)
            p
            (p + ridden w g 0)
            (omega arith)
            (omega (arith, ridden_none w g))
            leaves.on)

        c : Connection
        c = r.connection

        paid : Paid w a d (b ∷ rev) g p
        paid =
            record {
              at = suc h.i;
              before = h.paid;
              price = h.way.points;
              rode = h.arrived;
              here = caught.from ∙ ap (λ (t : Transfer). t.alighted) h.is;
              there = caught.to ∙ ap (λ (t : Transfer). t.boarded) h.is;
              catches = record { way = h.way; catches = caught; price = refl };
              total = refl;
            }

        continuing : Continuing n ok a d (b ∷ rev) (stations c) r.target
        continuing =
            record {
              x = station w g;
              u = depart w g;
              paid = p;
              allowed = r.allowed;
              rest = c;
              along = (paid_along w yes a d (b ∷ rev) g p boards).0 paid;
              feasible = r.feasible;
              is = refl;
              frontier = r.frontier;
              within = r.within;
            }

    -- one who is at x at minute u, having paid p, boards at a stop from which there is a good end
    record Boarding (x u p : ℕ) : Type 0 where
      g : ℕ
      boards : Boards w g
      here : station w g ≡ x
      late : u ≤ depart w g
      well : Onward w e g p

    -- the rest of a connection that ends on the frontier has a good end
    boarding : (c : Connection) (rev : List Transfer) (x u p b : ℕ) → Along n a d rev x u p → Feasible n x u b c
        → Frontier n a d b (arrival c) (p + penalty c) → b ≢ a → Boarding x u p
    boarding (direct r) rev x u p b h f front other =
        let k = aboard w yes a d rev r p f.0.listed (boarded n a d rev x u p r h f.0) in
        let i = k.i + k.m in
        let q = p + r.points in
        let goes = k.rides k.m (omega arith) in
        let here : station w (suc i) ≡ b = sym k.to ∙ f.1 in
        let within = ends_within rev i q b r.arrive goes k.alights k.arrived here (sym k.comes) front
        other in
        let paid : p + ridden w k.i k.m + points w i ≡ q = omega (arith, k.costs, ridden_more w k.i k.m) in
        record {
          g = k.i;
          boards = k.boards;
          here = sym k.from ∙ f.0.here;
          late = omega (arith, f.0.timely, k.leaves);
          well = onward_staying w e k.m 1 k.i p k.rides (inl (omega (arith, within, paid)));
        }
    boarding (onward r z c) rev x u p b h f front other =
        changes
        (boarding
        c
        (transfer z ∷ rev)
        z.to
        (ready r z)
        (p + r.points + z.points)
        b
        (changed n a d rev p (ready r z) r z at f.0.listed f.1 (omega arith))
        f.2
        (subst (Frontier n a d b (arrival c)) (omega arith) front)
        other)
      where
        at : Along n a d rev r.from r.depart p
        at = boarded n a d rev x u p r h f.0

        k : Aboard w a d rev r p
        k = aboard w yes a d rev r p f.0.listed at

        j : ℕ
        j = suc (k.i + k.m)

        changes : Boarding z.to (ready r z) (p + r.points + z.points) → Boarding x u p
        changes o =
            let q = p + ridden w k.i k.m + points w (k.i + k.m) in
            let more = ridden_more w k.i k.m in
            let paid : p + r.points + z.points ≡ q + z.points = omega (arith, k.costs) in
            let steps = o.well.steps in
            let onto : Onto w e (OnwardIn w e steps) j q =
            record {
              way = z;
              onto =
                  record {
                    g = o.g;
                    catches =
                        catches_of w yes r z j o.g f.1 k.to k.comes k.alights o.boards o.here
                        o.late;
                    leaves = subst (OnwardIn w e steps o.g) paid o.well.on;
                  };
            } in
            record {
              g = k.i;
              boards = k.boards;
              here = sym k.from ∙ f.0.here;
              late = omega (arith, f.0.timely, k.leaves);
              well = onward_staying w e k.m (suc steps) k.i p k.rides (inr (inr onto));
            }

    continues_goes : (rev : List Transfer) (b : Transfer) → Begins n a d (b ∷ rev) → GoesOn w a d e rev b
    continues_goes rev b h =
        let r = k.along.ride in
        let y = k.along.change in
        let q = k.along.paid + r.points in
        let z = ends_arrived w yes a d rev r.to r.arrive q
        (layer_ends w yes a d rev b k.x k.u k.paid k.along) in
        let j = suc z.i in
        let o = boarding c (b ∷ rev) k.x k.u k.paid h.target k.along k.feasible front h.other in
        let changes = k.along.changes in
        let late : ready r y ≤ depart w o.g = omega (arith, k.along.timely, o.late) in
        record {
          i = z.i;
          paid = q;
          way = y;
          goes = z.goes;
          arrived = z.arrived;
          is = k.along.at;
          onto =
              record {
                g = o.g;
                catches =
                    catches_of
                    w
                    yes
                    r
                    y
                    j
                    o.g
                    changes
                    (sym z.here)
                    (sym z.minute)
                    z.alights
                    o.boards
                    (o.here ∙ sym k.along.to)
                    late;
                leaves = subst (Onward w e o.g) k.along.total o.well;
              };
        }
      where
        k : Continuing n ok a d (b ∷ rev) h.rest h.target
        k = (continuing_exactly n ok a d (b ∷ rev) h.rest h.target).1 h.way

        c : Connection
        c = k.rest

        -- what is paid in all is what the frontier allows
        front : Frontier n a d h.target (arrival c) (k.paid + penalty c)
        front =
            let j = join n a d (b ∷ rev) k.x k.u k.paid h.target c k.along k.feasible in
            let there = arrives n a d h.target j.whole j.feasible in
            let late = j.arrives in
            let low = k.frontier.least (arrival j.whole) (penalty j.whole) there (omega arith) in
            let is : k.allowed ≡ k.paid + penalty c = omega (arith, low, k.within, j.pays) in
            subst (Frontier n a d h.target (arrival c)) is k.frontier

    pub goes_on_way : (rev : List Transfer) (b : Transfer) → GoesOn w a d e rev b ↔ Begins (net_of w) a d (b ∷ rev)
    goes_on_way rev b = (goes_continues rev b, continues_goes rev b)
