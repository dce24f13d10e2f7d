-- From ride to ride: the rides taken so far, with the first of what can still be taken, make the connection that is
-- shown.
use Rattle.std.specs.Prelude.{◌≡◌, refl, true, false, List, [], ◌∷◌, ◌++◌, ℕ, ◌+◌, ◌-◌, ◌≤◌, T, length}
use Rattle.std.proofs.Common.{sym, ap, subst, append_assoc, arith}
use Rattle.timetable.specs.Timetable.{Timetable, valid}
use Rattle.lists.specs.Order.{before_tail}
use Rattle.connections.specs.Rides.{Ride}
use Rattle.connections.specs.Connections.{Net, net, Connection, direct, onward}
use Rattle.connections.specs.Planner.{numbers}
use Rattle.connections.specs.Named.{Named}
use Rattle.connections.proofs.Named.{named}
use Rattle.optimality.specs.Ways.{first_ride}
use Rattle.optimality.specs.Greedy.{ride_numbers, Starting, Changing, Continues, First, Leads, fits_starts, starts_fit}
use Rattle.optimality.specs.Greedy.{joined, apart, first_direct, first_onward, tie_direct, tie_onward}
use Rattle.query_shown.specs.Showing.{Shown}
use Rattle.query_shown.specs.Heads.{Chosen}

-- the rides taken so far tell `done`, and the first of them leaves at minute d
module _ (timetable : Timetable) (b v : ℕ) (whole : List ℕ) (a t p₀ : ℕ) where
  -- by q, from where one comes to the next ride so, for p points at the most, some connection fits, and the first of
  -- those makes what is shown
  pub record Left (Front : (r : Ride) (k : ℕ) → Type 0) (done : List ℕ) (d : ℕ) (q : List ℕ) (p : ℕ) : Type 0 where
    pub some : Connection
    pub fits : Continues (net timetable) b v Front q p some
    pub complete : (c : Connection) → Continues (net timetable) b v Front q p c
        → First (net timetable) b v Front q p c
        → Shown timetable b v whole a t p₀ (done ++ numbers c) d

  -- behind an arrival at station y at minute m, with p points left
  abbrev pub Going : (done : List ℕ) (d : ℕ) (q : List ℕ) (y m p : ℕ) → Type 0
  Going done d [] y m p = Shown timetable b v whole a t p₀ done d
  Going done d (x ∷ q) y m p = Left (Changing (net timetable) y m x) done d q p

module _ (timetable : Timetable) (okay : T (valid timetable)) (b v : ℕ) where
  abbrev n : Net
  n = net timetable

  known : Named n
  known = named timetable okay

  module _
      (Front : (r : Ride) (k : ℕ) → Type 0)
      (e y p : ℕ)
      (r : Ride)
      (k : ℕ)
    where
      -- the points left
      abbrev left : ℕ
      left = p - (k + r.points)

      -- ---- a connection that fits begins with ride r: with no station left it is the ride
      is_direct : (c : Connection) → Continues n b v Front (y ∷ []) p c → first_ride c ≡ r
          → Continues n b v Front (y ∷ []) p (direct r)
      is_direct (direct s) f e = subst (λ r. Continues n b v Front (y ∷ []) p (direct r)) e f
      is_direct (onward s z c) f e = absurd (omega (arith, ap length f.is))

      -- else it goes on
      is_onward : (x : ℕ) (q : List ℕ) (c : Connection) → Continues n b v Front (y ∷ x ∷ q) p c → first_ride c ≡ r
          → ((j : ℕ) → Front r j → k ≤ j)
          → (some : Connection) × Continues n b v (Changing n y r.arrive x) q left some
      is_onward x q (direct s) f e least = absurd (omega (arith, ap length f.is))
      is_onward x q (onward s g c) f e least =
          let from-r = subst (λ r. Continues n b v Front (y ∷ x ∷ q) p (onward r g c)) e f in
          (c, apart n b v Front y x q p r k least g c from-r)

      -- ---- a ride more
      module _ (whole : List ℕ) (a t p₀ : ℕ) where
        pub goes : (q : List ℕ) (done : List ℕ) (d : ℕ) → Left timetable b v whole a t p₀ Front done d (y ∷ q) p
            → Chosen timetable b v Front false e y q p r k
            → Going timetable b v whole a t p₀ (done ++ ride_numbers r) d q y r.arrive (p - (k + r.points))
        goes [] done d l c =
            l.complete (direct r) (is_direct c.starts.connection c.starts.fits c.starts.begins)
            (first_direct n known b v Front y p r
            (λ e h s. c.leads e h (before_tail 0 0 (ride_numbers (first_ride e)) (ride_numbers r) refl s)))
        goes (x ∷ q) done d l c = record { some = o.0; fits = o.1; complete = complete }
          where
            o : (some : Connection) × Continues n b v (Changing n y r.arrive x) q left some
            o = is_onward x q c.starts.connection c.starts.fits c.starts.begins c.least

            leads : Leads n b v Front (y ∷ x ∷ q) p r
            leads e h s = c.leads e h (before_tail 0 0 (ride_numbers (first_ride e)) (ride_numbers r) refl s)

            complete : (e : Connection) → Continues n b v (Changing n y r.arrive x) q left e
                → First n b v (Changing n y r.arrive x) q left e
                → Shown timetable b v whole a t p₀ ((done ++ ride_numbers r) ++ numbers e) d
            complete e f g =
                let w = f.front.change in
                let j = joined n b v Front y x q p r k c.front c.listed c.to c.pays e f in
                let one = first_onward n known b v Front y x q p r k w e c.least j g leads in
                subst (λ l. Shown timetable b v whole a t p₀ l d) (sym (append_assoc done (ride_numbers r) (numbers e)))
                (l.complete (onward r w e) j one)

  -- the first ride
  module _ (x u y p : ℕ) (r : Ride) (k : ℕ) where
    abbrev Front : (r : Ride) (k : ℕ) → Type 0
    Front = Starting n x u

    pub begins : (q : List ℕ) → Chosen timetable b v (Starting n x u) true u y q p r k
        → Going timetable b v (y ∷ q) x u p (ride_numbers r) r.depart q y r.arrive (p - (k + r.points))
    begins [] c =
        let f = is_direct Front u y p r k c.starts.connection c.starts.fits c.starts.begins in
        record {
          connection = direct r;
          fits = starts_fit n b v (y ∷ []) x u p (direct r) f;
          tells = refl;
          departs = refl;
          first =
              λ e h. tie_direct n known b v Front y p r c.to c.leads e (fits_starts n b v (y ∷ []) x u p e h);
        }
    begins (z ∷ q) c = record { some = o.0; fits = o.1; complete = complete }
      where
        o : (some : Connection) × Continues n b v (Changing n y r.arrive z) q (p - (k + r.points)) some
        o = is_onward Front u y p r k z q c.starts.connection c.starts.fits c.starts.begins c.least

        complete : (e : Connection) → Continues n b v (Changing n y r.arrive z) q (p - (k + r.points)) e
            → First n b v (Changing n y r.arrive z) q (p - (k + r.points)) e
            → Shown timetable b v (y ∷ z ∷ q) x u p (ride_numbers r ++ numbers e) r.depart
        complete e f g =
            let w = f.front.change in
            let j = joined n b v Front y z q p r k c.front c.listed c.to c.pays e f in
            record {
              connection = onward r w e;
              fits = starts_fit n b v (y ∷ z ∷ q) x u p (onward r w e) j;
              tells = refl;
              departs = refl;
              first =
                  λ d h.
                  tie_onward n known b v Front y z q p r k w e c.least j g c.leads d
                  (fits_starts n b v (y ∷ z ∷ q) x u p d h);
            }
