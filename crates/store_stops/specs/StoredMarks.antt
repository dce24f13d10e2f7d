-- The stored sequences, found at the minutes at which something departs from the source: a sequence is stored exactly
-- if an optimal connection has it at such a minute.
use Rattle.std.specs.Prelude.{◌≡◌, true, ◌≢◌, List, ◌∷◌, ℕ, ◌≤◌}
use Rattle.std.proofs.Common.{sym, ap, subst, ◌∙◌, arith}
use Rattle.timetable.specs.Words.{is_timetable}
use Rattle.lists.specs.Lists.{◌∈◌}
use Rattle.connections.specs.Connections.{Net, Connection, direct, onward, Boards, Feasible, ready, departure}
use Rattle.connections.specs.Connections.{stations}
use Rattle.connections.specs.Rides.{Ride}
use Rattle.connections.proofs.Sound.{Sound}
use Rattle.connections.proofs.OptimalLaws.{optimal_own_minute}
use Rattle.stores.specs.Stored.{stored}
use Rattle.stores.proofs.StoredLaws.{sequence_is, stored_in, stored_out}
use Rattle.optimality.specs.Ways.{Way}
use Rattle.store_stops.specs.Stopwise.{station, depart, Goes}
use Rattle.store_stops.specs.Settled.{Timely}
use Rattle.store_stops.specs.RideStops.{net_of, ridden_goes, stops_of_lem, spelled_sound}

-- something departs from station a at minute d
pub record Source (w : List ℕ) (a d : ℕ) : Type 0 where
  pub g : ℕ
  pub goes : Goes w g
  pub here : station w g ≡ a
  pub leaves : depart w g ≡ d

-- ---- the target of a connection
target_listed : (n : Net) → Sound n → (x u b : ℕ) (c : Connection) → Feasible n x u b c
    → (1 ≤ b) × (b ≤ n.stations)
target_listed n ok x u b (direct r) f =
    subst (λ b. (1 ≤ b) × (b ≤ n.stations)) f.1 (ok.arrives r f.0.listed)
target_listed n ok x u b (onward r z c) f = target_listed n ok z.to (ready r z) b c f.2

module _ (w : List ℕ) (yes : is_timetable w ≡ true) (timely : Timely w) (a : ℕ) where
  abbrev n : Net
  n = net_of w

  abbrev ok : Sound (net_of w)
  ok = spelled_sound w yes

  -- ---- the sequences of one minute and those stored
  boards_source : (t : ℕ) (r : Ride) → Boards n a t r → Source w a r.depart
  boards_source t r b =
      let k = stops_of_lem w yes r b.listed in
      let s = k.same in
      record {
        g = k.i;
        goes = ridden_goes w k.i _ s.some s.rides;
        here = sym s.from ∙ b.here;
        leaves = sym s.leaves;
      }

  departs_source : (t b : ℕ) (c : Connection) → Feasible n a t b c → Source w a (departure c)
  departs_source t b (direct r) f = boards_source t r f.0
  departs_source t b (onward r z c) f = boards_source t r f.0

  pub way_stored : (d b : ℕ) (q : List ℕ) → Source w a d → b ≢ a → Way n a d b q → q ∈ stored n a
  way_stored d b q s other h =
      let l = target_listed n ok a d b h.connection h.optimal.feasible in
      let e = s.leaves in
      stored_in
      n
      ok
      a
      q
      (record {
        minute = d;
        target = b;
        connection = h.connection;
        in_time_lem = omega (arith, e, timely.leaves s.g s.goes);
        elsewhere = record { first = l.0; last = l.1; other = other };
        optimal = h.optimal;
        is = ap (λ q. a ∷ q) h.is;
      })

  -- a stored sequence, found at one of these minutes
  pub record Kept (q : List ℕ) : Type 0 where
    pub minute : ℕ
    pub target : ℕ
    pub source : Source w a minute
    pub other : target ≢ a
    pub way : Way n a minute target q

  pub stored_way : (q : List ℕ) → q ∈ stored n a → Kept q
  stored_way q m =
      let s = stored_out n ok a q m in
      let c = s.connection in
      record {
        minute = departure c;
        target = s.target;
        source = departs_source s.minute s.target c s.optimal.feasible;
        other = s.elsewhere.other;
        way =
            record {
              connection = c;
              optimal = optimal_own_minute n ok a s.minute s.target c s.optimal;
              is = sequence_is n ok a q s;
            };
      }
