-- What one pays in front of a ride: nothing in front of the first, and else the way of changing, if it is in time.
use Rattle.std.specs.Prelude.{◌≡◌, Bool, true, false, T, ltb}
use Rattle.std.proofs.Math.Path.{refl}
use Rattle.std.proofs.Math.Bool.{cond}
use Prim.Native.Nat.{ℕ, ◌+◌, ◌≤◌, ◌<◌}
use Rattle.std.proofs.Common.{arith}
use borrow.Author.Tests.{le-ltb, ltb-false}
use Rattle.timetable.specs.Timetable.{Timetable, valid}
use Rattle.lists.specs.Tests.{T_true}
use Rattle.results.specs.declared.Cost.{Cost}
use Rattle.connections.specs.Rides.{Ride}
use Rattle.connections.specs.Connections.{Net, net, Boards}
use Rattle.connections.proofs.Feasibility.{boards_earlier}
use Rattle.connections.proofs.Sound.{change_priced}
use Rattle.optimality.specs.Greedy.{Starting, Changing}
use Rattle.query_minutes.specs.Minutes.{no_points}
use Rattle.query_rides.specs.declared.Way.{Way}
use Rattle.query_rides.specs.Ways.{cost_in, Open}

-- what a change costs, by what it takes and costs, for one who arrived at minute m, in front of a ride that leaves at
-- minute d; no_points if it is not in time
unfoldable pub step_price : Cost → (m d : ℕ) → ℕ
step_price c m d = cond (ltb d (m + c.minutes.0)) no_points c.points.0

-- the same of a way of changing, if there is one
unfoldable pub price_of : Way → (m d : ℕ) → ℕ
price_of g m d = cond g.found (step_price (cost_in g) m d) no_points

unfoldable pub front_price : (first : Bool) → Way → (m d : ℕ) → ℕ
front_price first g m d = cond first 0 (price_of g m d)

module _ (g : Way) (m d : ℕ) where
  abbrev c : Cost
  c = cost_in g

  -- there is one, in time, that costs k
  record Costs (k : ℕ) : Type 0 where
    found : T g.found
    timely : m + c.minutes.0 ≤ d
    is : c.points.0 ≡ k

  price_some : price_of g m d < no_points → Costs (price_of g m d)
  unfolding price_of step_price
  price_some h =
      let r = go g.found (ltb d (m + c.minutes.0)) refl h in
      record { found = r.0; timely = r.1; is = r.2 }
    where
      price : (a b : Bool) → ℕ
      price a b = cond a (cond b no_points c.points.0) no_points

      go : (a b : Bool) → ltb d (m + c.minutes.0) ≡ b → price a b < no_points
          → T a × (m + c.minutes.0 ≤ d) × (c.points.0 ≡ price a b)
      go false b f h = absurd (omega arith)
      go true true f h = absurd (omega arith)
      go true false f h = (tt, ltb-false d (m + c.minutes.0) f, refl)

  price_is : T g.found → m + c.minutes.0 ≤ d → price_of g m d ≡ c.points.0
  unfolding price_of step_price
  price_is t h = rw (T_true g.found t, le-ltb d (m + c.minutes.0) h)

-- price tells, by the minute of departure, what one pays at the least in front of a ride from station x at minute e or
-- later to which one comes so
pub record Fronts (n : Net) (Front : (r : Ride) (k : ℕ) → Type 0) (x e : ℕ) (price : ℕ → ℕ) : Type 0 where
  pub opens : (r : Ride) → Boards n x e r → price r.depart < no_points → Front r (price r.depart)
  pub boards : (r : Ride) (k : ℕ) → Front r k → Boards n x e r
  pub least : (r : Ride) (k : ℕ) → Front r k → price r.depart ≤ k
  pub some : (r : Ride) (k : ℕ) → Front r k → price r.depart < no_points

pub fronts_start : (n : Net) (x u : ℕ) (g : Way) → Fronts n (Starting n x u) x u (front_price true g u)
unfolding front_price
fronts_start n x u g =
    record {
      opens = λ r b h. (b, refl);
      boards = λ r k f. f.0;
      least = λ r k f. omega arith;
      some = λ r k f. omega arith;
    }

module _
    (timetable : Timetable)
    (okay : T (valid timetable))
    (y m x : ℕ)
    (g : Way)
    (known : Open (net timetable) y x g)
  where
    abbrev n : Net
    n = net timetable

    low : (r : Ride) (k : ℕ) → Changing n y m x r k → price_of g m r.depart ≤ k
    low r k f =
        let way = known.all f.change f.listed f.from f.to in
        let soon : m + (cost_in g).minutes.0 ≤ r.depart = omega (arith, f.boards.timely, way.1.minutes) in
        omega (arith, price_is g m r.depart way.0 soon, way.1.points, f.pays)

    pub fronts_change : Fronts n (Changing n y m x) x m (front_price false g m)
    unfolding front_price
    fronts_change =
        record {
          opens = opens;
          boards = λ r k f. boards_earlier n x m (m + f.change.minutes) r (omega arith) f.boards;
          least = low;
          some =
              λ r k f.
              omega (arith, low r k f, f.pays, (change_priced timetable okay f.change f.listed).points_most);
        }
      where
        opens : (r : Ride) → Boards n x m r → price_of g m r.depart < no_points
            → Changing n y m x r (price_of g m r.depart)
        opens r b h =
            let c = price_some g m r.depart h in
            let way = known.sound c.found in
            record {
              change = way.change;
              listed = way.listed;
              from = way.from;
              to = way.to;
              boards =
                  record {
                    listed = b.listed;
                    here = b.here;
                    timely = omega (arith, c.timely, way.takes.minutes);
                  };
              pays = omega (arith, c.is, way.takes.points);
            }
