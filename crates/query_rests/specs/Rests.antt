-- What is left of a connection for one who has arrived at a station: a change and a connection on from it. A ride and
-- what is left behind it make a connection, and each connection comes apart so.
use Rattle.std.specs.Prelude.{◌≡◌, refl, List, [], ◌∷◌, ℕ, ◌+◌, ◌-◌, ◌*◌, ◌≤◌, ◌<◌, length, get_or}
use Rattle.std.proofs.Common.{sym, ap, ◌∙◌, arith}
use Rattle.std.proofs.Math.Seq.{slice}
use Rattle.timetable.specs.Words.{timetable_of}
use Rattle.lists.specs.Lists.{◌∈◌, tail}
use Rattle.results.proofs.Picks.{lead}
use Rattle.connections.specs.Rides.{Ride}
use Rattle.connections.specs.Connections.{Change, Net, net, Connection, direct, onward, Boards, Feasible}
use Rattle.connections.specs.Connections.{arrival, penalty, stations}
use Rattle.connections.proofs.Feasibility.{earlier}
use Rattle.optimality.specs.Ways.{first_ride}
use Rattle.query_minutes.specs.Minutes.{no_points}

module _ (n : Net) (b v : ℕ) where
  -- one who arrives at y at minute m changes to x and goes on by the stations q to b, there by minute v, for s points
  -- in all
  pub record Onward (x : ℕ) (q : List ℕ) (y m s : ℕ) : Type 0 where
    pub change : Change
    pub connection : Connection
    pub listed : change ∈ n.changes
    pub from : change.from ≡ y
    pub to : change.to ≡ x
    pub feasible : Feasible n change.to (m + change.minutes) b connection
    pub is : stations connection ≡ q
    pub timely : arrival connection ≤ v
    pub total : s ≡ change.points + penalty connection

  -- or, with no station left, is there
  abbrev pub Rest : (q : List ℕ) (y m s : ℕ) → Type 0
  Rest [] y m s = (y ≡ b) × (m ≤ v) × (s ≡ 0)
  Rest (x ∷ q) y m s = Onward x q y m s

  -- who arrives earlier can wait
  pub rest_earlier : (q : List ℕ) (y m k s : ℕ) → m ≤ k → Rest q y k s → Rest q y m s
  rest_earlier [] y m k s h r = (r.0, omega arith, r.2)
  rest_earlier (x ∷ q) y m k s h r =
      record {
        change = r.change;
        connection = r.connection;
        listed = r.listed;
        from = r.from;
        to = r.to;
        feasible =
            earlier n r.change.to (m + r.change.minutes) (k + r.change.minutes) b r.connection (omega arith)
            r.feasible;
        is = r.is;
        timely = r.timely;
        total = r.total;
      }

  -- z holds, for each minute, the least penalty of what is left for one who arrives at y then; from minute t on it
  -- leaves nothing out
  pub record Rests (t : ℕ) (q : List ℕ) (y : ℕ) (z : List ℕ) : Type 0 where
    pub some : (m : ℕ) → get_or z m no_points < no_points → Rest q y m (get_or z m no_points)
    pub least : (m s : ℕ) → t ≤ m → m < 2880 → Rest q y m s → get_or z m no_points ≤ s

  -- a connection from x at minute u by y and q that begins with ride r and costs s behind it
  pub record Begun (y : ℕ) (q : List ℕ) (x u : ℕ) (r : Ride) (s : ℕ) : Type 0 where
    pub connection : Connection
    pub feasible : Feasible n x u b connection
    pub is : stations connection ≡ y ∷ q
    pub timely : arrival connection ≤ v
    pub total : penalty connection ≡ r.points + s
    pub begins : first_ride connection ≡ r

  -- a ride, and what is left behind it
  pub begun : (q : List ℕ) (y x u : ℕ) (r : Ride) (s : ℕ) → Boards n x u r → r.to ≡ y → Rest q y r.arrive s
      → Begun y q x u r s
  begun [] y x u r s boards to rest =
      record {
        connection = direct r;
        feasible = (boards, to ∙ rest.0);
        is = ap (λ z. z ∷ []) to;
        timely = rest.1;
        total = omega (arith, rest.2);
        begins = refl;
      }
  begun (z ∷ q) y x u r s boards to rest =
      record {
        connection = onward r rest.change rest.connection;
        feasible = (boards, record { listed = rest.listed; here = rest.from ∙ sym to }, rest.feasible);
        is = (λ i. rest.from i ∷ rest.to i ∷ rest.is i);
        timely = rest.timely;
        total = omega (arith, rest.total);
        begins = refl;
      }

  -- the first ride of a connection, and what is left behind it
  pub record Parted (y : ℕ) (q : List ℕ) (x u : ℕ) (c : Connection) : Type 0 where
    pub boards : Boards n x u (first_ride c)
    pub to : (first_ride c).to ≡ y
    pub points : ℕ
    pub rest : Rest q y (first_ride c).arrive points
    pub total : penalty c ≡ (first_ride c).points + points

  pub parted : (q : List ℕ) (y x u : ℕ) (c : Connection) → Feasible n x u b c → stations c ≡ y ∷ q → arrival c ≤ v
      → Parted y q x u c
  parted [] y x u (direct r) f e h =
      record {
        boards = f.0;
        to = ap lead e;
        points = 0;
        rest = (sym (ap lead e) ∙ f.1, h, refl);
        total = omega arith;
      }
  parted (z ∷ q) y x u (direct r) f e h = absurd (omega (arith, ap length e))
  parted [] y x u (onward r w c) f e h = absurd (omega (arith, ap length e))
  parted (z ∷ q) y x u (onward r w c) f e h =
      record {
        boards = f.0;
        to = sym f.1.here ∙ ap lead e;
        points = w.points + penalty c;
        rest =
            record {
              change = w;
              connection = c;
              listed = f.1.listed;
              from = ap lead e;
              to = ap (λ l. lead (tail l)) e;
              feasible = f.2;
              is = ap (λ l. tail (tail l)) e;
              timely = h;
              total = refl;
            };
        total = omega arith;
      }

-- z holds what is left behind ride i of a path of r rides, counted from 0, for one who starts at minute t and is to
-- arrive by minute v
unfoldable pub RestsAt : (w path : List ℕ) (r v t i : ℕ) (z : List ℕ) → Type 0
RestsAt w path r v t i z =
    Rests (net (timetable_of w)) (get_or path (2 * r - 2) 0) v t (slice (2 * i + 1) (2 * r - 1) path)
    (get_or path (2 * i) 0) z
