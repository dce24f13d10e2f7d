-- Labels fall along the departures of a station: who can board there can board there later, too, for the same. So what
-- one trip leads to beyond a second visit of the station, where one may board again, is had from there for no more, and
-- a walk may end there.
use Rattle.std.specs.Prelude.{◌≡◌, List, [], ◌∷◌, ℕ, zero, suc, ◌+◌, ◌≤◌}
use Rattle.std.proofs.Common.{ap, subst, ◌∙◌, arith}
use Rattle.connections.specs.Connections.{Transfer}
use Rattle.store_stops.specs.Stopwise.{station, depart, Goes, Boards, Ridden}
use Rattle.store_stops.specs.Paid.{Paid}
use Rattle.store_stops.specs.Settled.{Timely}

module _ (w : List ℕ) (timely : Timely w) where
  -- stops of a ride are left in their order
  pub departs_later : (k i : ℕ) → Ridden w i k → Goes w (i + k) → depart w i ≤ depart w (i + k)
  departs_later zero i r g = let e : i + 0 ≡ i = omega arith in omega (arith, ap (depart w) e)
  departs_later (suc k) i r g =
      let e : i + suc k ≡ suc (i + k) = omega arith in
      let goes = r k (omega arith) in
      let before = departs_later k i (λ j h. r j (omega arith)) goes in
      let forward = timely.before (i + k) goes in
      let waits = timely.waits (i + k) goes (subst (Goes w) e g) in
      omega (arith, ap (depart w) e)

module _ (w : List ℕ) (a d : ℕ) where
  -- who can board can board at the same station later
  pub paid_later : (rev : List Transfer) (g h p : ℕ) → Paid w a d rev g p → Boards w h → station w h ≡ station w g
      → depart w g ≤ depart w h → Paid w a d rev h p
  paid_later [] g h p b boards here late = (boards, here ∙ b.1, omega (arith, b.2), b.3)
  paid_later (c ∷ rev) g h p b boards here late =
      record {
        at = b.at;
        before = b.before;
        price = b.price;
        rode = b.rode;
        here = b.here;
        there = here ∙ b.there;
        catches =
            record {
              way = b.catches.way;
              catches =
                  record {
                    listed = b.catches.catches.listed;
                    alights = b.catches.catches.alights;
                    boards = boards;
                    from = b.catches.catches.from;
                    to = here ∙ b.catches.catches.to;
                    timely = omega (arith, b.catches.catches.timely);
                  };
              price = b.catches.price;
            };
        total = b.total;
      }
