-- What is found along one arc for an arrival minute and a penalty, as its own array tells it.
use Rattle.std.specs.Prelude.{◌≡◌, refl, Bool, true, false, List, ℕ, ◌-◌, ◌*◌, ◌≤◌, ◌<◌, length, take}
use Rattle.std.proofs.Common.{ap, ◌∙◌, arith, length-take-le}
use Rattle.std.proofs.Math.Path.{subst}
use Rattle.timetable.specs.Words.{timetable_of, station_count}
use Rattle.connections.specs.Connections.{net, Connection}
use Rattle.connections.proofs.Sound.{Sound}
use Rattle.connections.proofs.Feasibility.{departs_in_time}
use Rattle.query_store.specs.Entries.{arc_count, arc_target}
use Rattle.query_store.specs.Paths.{arc_path}
use Rattle.query_store.specs.Granted.{readable_in}
use Rattle.query_rests.specs.Given.{Listed, Given}
use Rattle.query_shown.specs.Showing.{Shown, Found, FoundAt}
use Rattle.query_shown.specs.declared.First.{First}
use Rattle.query_winner.specs.Won.{By, found_own, found_none}
use Rattle.query_winner.specs.Keys.{numbers_long}
use Rattle.query_arcs.specs.Arcs.{path_long, target_is, stations_are}
use Rattle.query_arcs.specs.Granted.{Granted, is_sound}
use Rattle.query_winner.specs.Winning.{cost_of, Leading}
use Rattle.query_winner.specs.Trying.{Sized, ArcWon, ArcTried}
use Rattle.query_winner.specs.declared.Winner.{Winner}

abbrev pub winner_of : (found : Bool) (arc depart rides : ℕ) → Winner
winner_of found arc depart rides = record { found = found; arc = arc; depart = depart; rides = rides }

module _
    (w v s path : List ℕ)
    (a b u k r : ℕ)
    (g : Granted w v s a b u)
    (inside : k < arc_count s)
    (is : take (2 * r - 1) path ≡ arc_path s k)
    (count : 2 * r - 1 ≡ length (arc_path s k))
    (some : 1 ≤ r)
  where
    path_listed : Listed (station_count w) path (2 * r - 1)
    path_listed =
        let z = stations_are s path k r inside is count some w v a b u g in
        record { at = λ i h. ((z.listed i h).some, (z.listed i h).inside) }

    pub path_given : (m : ℕ) → r ≤ 64 → m < 2880 → Given w v path r m
    path_given m few timely =
        record {
          enough = g.long;
          accepted = g.accepted;
          own = g.own;
          listed = path_listed;
          few = few;
          long = path_long s path k r inside is count some;
          timely = omega arith;
        }

    module _
        (m p : ℕ)
        (target : arc_target s k ≡ b)
        (few : r ≤ 64)
        (f : First)
        (was tried : List ℕ)
        (long : length was ≡ 192)
        (same : length tried ≡ length was)
        (z : FoundAt w path r m a u p f tried)
      where
        abbrev Here : Bool → Type 0
        Here q = Found (timetable_of w) b m q (arc_path s k) a u p (take (3 * r) tried) f.depart

        here : Here f.found
        unfolding FoundAt
        here =
            subst
            (λ l. Found (timetable_of w) b m f.found l a u p (take (3 * r) tried) f.depart)
            is
            (subst
            (λ y. Found (timetable_of w) y m f.found (take (2 * r - 1) path) a u p (take (3 * r) tried) f.depart)
            (target_is s path k r inside is count some ∙ target)
            z)

        shown : f.found ≡ true → Shown (timetable_of w) b m (arc_path s k) a u p (take (3 * r) tried) f.depart
        shown e = subst Here e here

        pub found_sized : Sized (winner_of f.found k f.depart r)
        found_sized =
            record {
              few = few;
              timely =
                  λ e.
                  let y = shown e in
                  let ok = is_sound w v s a b u g in
                  let h = y.fits.feasible in
                  omega (arith, y.departs, departs_in_time (net (timetable_of w)) ok a u b y.connection h);
            }

        pub found_arc : Leading w s a b u m p → ArcTried w s a b u m p k (winner_of f.found k f.depart r) tried
        found_arc l = record { arc = refl; none = none; won = won }
          where
            none : f.found ≡ false → (ok : Sound (net (timetable_of w))) (e : Connection)
                → ¬ By (net (timetable_of w)) ok s a u b (cost_of m p) (arc_path s k) e
            none e ok =
                found_none (net (timetable_of w)) ok s a u b (cost_of m p) l.best l.least
                l.leads
                (arc_path s k)
                (subst Here e here)

            won : f.found ≡ true → ArcWon w s a b u m p k (winner_of f.found k f.depart r) tried
            won e =
                let y = shown e in
                let size = length-take-le (3 * r) tried (omega (arith, few, long, same)) in
                record {
                  one = y.connection;
                  holds =
                      record {
                        told = y.tells;
                        rides = omega (arith, size, ap length y.tells, numbers_long y.connection);
                        depart = y.departs;
                      };
                  own =
                      λ ok.
                      found_own (net (timetable_of w)) ok s a u b (cost_of m p) l.best
                      l.least
                      l.leads
                      (arc_path s k)
                      y.connection
                      (readable_in s k inside)
                      y.fits
                      y.first;
                }
