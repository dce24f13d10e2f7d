-- The rule for equal cost within one stored sequence, ride by ride. The connections of a sequence have one number of
-- rides; so the one whose rides come first takes, at each change, the first ride with which a connection can still
-- arrive and pay as it should, and the first such ride decides.
use Rattle.std.specs.Prelude.{◌≡◌, refl, ◌⊎◌, List, [], ◌∷◌, ℕ, ◌+◌, ◌-◌, ◌≤◌, ◌<◌, T, length}
use Rattle.std.proofs.Common.{sym, ap, subst, ◌∙◌, inl, inr, arith}
use Rattle.timetable.specs.Timetable.{last_minute}
use Rattle.lists.specs.Lists.{◌∈◌, before, tail}
use Rattle.lists.specs.Order.{before_cases, before_head, before_tail}
use Rattle.results.proofs.Picks.{lead}
use Rattle.connections.specs.Rides.{Ride}
use Rattle.connections.specs.Connections.{Change, Net, Connection, direct, onward, Boards, Feasible, ready, arrival}
use Rattle.connections.specs.Connections.{penalty, stations, departure}
use Rattle.connections.specs.Planner.{numbers, ride_count, tie_key}
use Rattle.connections.proofs.Feasibility.{count_stations}
use Rattle.connections.specs.Named.{Named}
use Rattle.optimality.specs.Ways.{first_ride}
use Rattle.optimality.specs.AlongLaws.{boards_at_lem}

-- the numbers of a ride
abbrev pub ride_numbers : Ride → List ℕ
ride_numbers r = r.trip ∷ r.board ∷ r.alight ∷ []

-- of two sequences that begin with three numbers each, the first comes before the second
three_cases : (a b c d e f : ℕ) (k l : List ℕ) → T (before (a ∷ b ∷ c ∷ k) (d ∷ e ∷ f ∷ l))
    → T (before (a ∷ b ∷ c ∷ []) (d ∷ e ∷ f ∷ [])) ⊎ ((a ≡ d) × (b ≡ e) × (c ≡ f) × T (before k l))
three_cases a b c d e f k l t = one (before_cases a d (b ∷ c ∷ k) (e ∷ f ∷ l) t)
  where
    G : Type 0
    G = T (before (a ∷ b ∷ c ∷ []) (d ∷ e ∷ f ∷ [])) ⊎ ((a ≡ d) × (b ≡ e) × (c ≡ f) × T (before k l))

    three : a ≡ d → b ≡ e → (c < f) ⊎ ((c ≡ f) × T (before k l)) → G
    three p q (inl h) =
        let last = before_tail b e (c ∷ []) (f ∷ []) q (before_head c f [] [] h) in
        inl (before_tail a d (b ∷ c ∷ []) (e ∷ f ∷ []) p last)
    three p q (inr h) = inr (p, q, h.0, h.1)

    two : a ≡ d → (b < e) ⊎ ((b ≡ e) × T (before (c ∷ k) (f ∷ l))) → G
    two p (inl h) = inl (before_tail a d (b ∷ c ∷ []) (e ∷ f ∷ []) p (before_head b e (c ∷ []) (f ∷ []) h))
    two p (inr h) = three p h.0 (before_cases c f k l h.1)

    one : (a < d) ⊎ ((a ≡ d) × T (before (b ∷ c ∷ k) (e ∷ f ∷ l))) → G
    one (inl h) = inl (before_head a d (b ∷ c ∷ []) (e ∷ f ∷ []) h)
    one (inr h) = two h.0 (before_cases b e (c ∷ k) (f ∷ l) h.1)

-- the first ride by the rule for equal cost: "departs latest", then by its numbers
abbrev pub leaving : Ride → List ℕ
leaving r = (last_minute - r.depart) ∷ ride_numbers r

same_count : (c e : Connection) → stations c ≡ stations e → ride_count c ≡ ride_count e
same_count c e h = omega (arith, count_stations c, count_stations e, ap length h)

departs_first : (c : Connection) → departure c ≡ (first_ride c).depart
departs_first (direct r) = refl
departs_first (onward r w c) = refl

-- what goes before c by the rule, with as many rides, begins with a ride that goes before
tie_before : (e c : Connection) → ride_count e ≡ ride_count c
    → (T (before (numbers e) (numbers c)) → T (before (ride_numbers (first_ride e)) (ride_numbers (first_ride c))))
    → T (before (tie_key e) (tie_key c)) → T (before (leaving (first_ride e)) (leaving (first_ride c)))
unfolding tie_key
tie_before e c k h t = by_departure (before_cases d f (ride_count e ∷ numbers e) (ride_count c ∷ numbers c) t)
  where
    d : ℕ
    d = last_minute - departure e

    f : ℕ
    f = last_minute - departure c

    G : Type 0
    G = T (before (leaving (first_ride e)) (leaving (first_ride c)))

    r : List ℕ
    r = ride_numbers (first_ride e)

    s : List ℕ
    s = ride_numbers (first_ride c)

    d' : ℕ
    d' = last_minute - (first_ride e).depart

    f' : ℕ
    f' = last_minute - (first_ride c).depart

    here : d ≡ d'
    here = ap (λ x. last_minute - x) (departs_first e)

    there : f ≡ f'
    there = ap (λ x. last_minute - x) (departs_first c)

    by_rides : d ≡ f → (ride_count e < ride_count c) ⊎ ((ride_count e ≡ ride_count c) × T
        (before (numbers e) (numbers c)))
        → G
    by_rides q (inl i) = absurd (omega arith)
    by_rides q (inr i) = before_tail d' f' r s (sym here ∙ q ∙ there) (h i.1)

    by_departure : (d < f) ⊎ ((d ≡ f) × T (before (ride_count e ∷ numbers e) (ride_count c ∷ numbers c))) → G
    by_departure (inl i) = before_head d' f' r s (omega (arith, here, there))
    by_departure (inr i) = by_rides i.0 (before_cases (ride_count e) (ride_count c) (numbers e) (numbers c) i.1)

-- a connection from its first boarding on
module _ (n : Net) (b : ℕ) where
  pub boards_first : (x u : ℕ) (c : Connection) → Feasible n x u b c → Boards n x u (first_ride c)
  boards_first x u (direct r) f = f.0
  boards_first x u (onward r w c) f = f.0

  pub from_boarding : (x u : ℕ) (c : Connection) → Feasible n x u b c
      → Feasible n (first_ride c).from (first_ride c).depart b c
  from_boarding x u (direct r) f = (boards_at_lem n r f.0.listed, f.1)
  from_boarding x u (onward r w c) f = (boards_at_lem n r f.0.listed, f.1, f.2)

  pub to_boarding : (x u : ℕ) (c : Connection) → Boards n x u (first_ride c)
      → Feasible n (first_ride c).from (first_ride c).depart b c → Feasible n x u b c
  to_boarding x u (direct r) g f = (g, f.1)
  to_boarding x u (onward r w c) g f = (g, f.1, f.2)

-- How one comes to a ride, and the points paid for that in front of it: before the first ride, from station x at minute
-- u on, for nothing
abbrev pub Starting : Net → (x u : ℕ) (r : Ride) (k : ℕ) → Type 0
Starting n x u r k = Boards n x u r × (k ≡ 0)

-- and behind an arrival at station y at minute m, by a change to station x
pub record Changing (n : Net) (y m x : ℕ) (r : Ride) (k : ℕ) : Type 0 where
  pub change : Change
  pub listed : change ∈ n.changes
  pub from : change.from ≡ y
  pub to : change.to ≡ x
  pub boards : Boards n x (m + change.minutes) r
  pub pays : k ≡ change.points

module _ (n : Net) (b v : ℕ) where
  -- from station x at minute u by the stations q to b, there by minute v, for p points at the most
  pub record Fits (q : List ℕ) (x u p : ℕ) (c : Connection) : Type 0 where
    pub feasible : Feasible n x u b c
    pub is : stations c ≡ q
    pub timely : arrival c ≤ v
    pub cheap : penalty c ≤ p

  module _ (Front : (r : Ride) (k : ℕ) → Type 0) where
    -- from where one comes to the first ride so, by the stations q to b, there by minute v, for p points at the most
    -- with those in front of it
    pub record Continues (q : List ℕ) (p : ℕ) (c : Connection) : Type 0 where
      pub price : ℕ
      pub front : Front (first_ride c) price
      pub feasible : Feasible n (first_ride c).from (first_ride c).depart b c
      pub is : stations c ≡ q
      pub timely : arrival c ≤ v
      pub cheap : price + penalty c ≤ p

    -- none of those has rides that come before c's
    abbrev pub First : (q : List ℕ) (p : ℕ) → Connection → Type 0
    First q p c = (e : Connection) → Continues q p e → ¬ T (before (numbers e) (numbers c))

    -- none of those begins with a ride that comes before r
    abbrev pub Leads : (q : List ℕ) (p : ℕ) → Ride → Type 0
    Leads q p r = (e : Connection) → Continues q p e → ¬ T (before (ride_numbers (first_ride e)) (ride_numbers r))

    -- none of those begins with a ride that leaves later, or then and comes before r
    abbrev pub LeadsTie : (q : List ℕ) (p : ℕ) → Ride → Type 0
    LeadsTie q p r = (e : Connection) → Continues q p e → ¬ T (before (leaving (first_ride e)) (leaving r))

  -- a whole connection is one from the start
  pub fits_starts : (q : List ℕ) (x u p : ℕ) (c : Connection) → Fits q x u p c → Continues (Starting n x u) q p c
  fits_starts q x u p c f =
      record {
        price = 0;
        front = (boards_first n b x u c f.feasible, refl);
        feasible = from_boarding n b x u c f.feasible;
        is = f.is;
        timely = f.timely;
        cheap = omega (arith, f.cheap);
      }

  pub starts_fit : (q : List ℕ) (x u p : ℕ) (c : Connection) → Continues (Starting n x u) q p c → Fits q x u p c
  starts_fit q x u p c f =
      record {
        feasible = to_boarding n b x u c f.front.0 f.feasible;
        is = f.is;
        timely = f.timely;
        cheap = omega (arith, f.cheap);
      }

  -- A ride, and behind it a change and a connection, make a connection; and one that goes on comes apart so.
  module _ (Front : (r : Ride) (k : ℕ) → Type 0) (y x : ℕ) (q : List ℕ) (p : ℕ) (r : Ride) where
    pub joined : (k : ℕ) → Front r k → r ∈ n.rides → r.to ≡ y → k + r.points ≤ p → (c : Connection)
        → (g : Continues (Changing n y r.arrive x) q (p - (k + r.points)) c)
        → Continues Front (y ∷ x ∷ q) p (onward r g.front.change c)
    joined k front listed to pays c g =
        let w = g.front.change in
        let boards = subst (λ x. Boards n x (ready r w) (first_ride c)) (sym g.front.to) g.front.boards in
        record {
          price = k;
          front = front;
          feasible = (
            boards_at_lem n r listed,
            record { listed = g.front.listed; here = g.front.from ∙ sym to },
            to_boarding n b w.to (ready r w) c boards g.feasible,
          );
          is = (λ i. g.front.from i ∷ g.front.to i ∷ g.is i);
          timely = g.timely;
          cheap = omega (arith, g.cheap, g.front.pays);
        }

    -- where the change in front of the ride costs k at the least
    pub apart : (k : ℕ) → ((j : ℕ) → Front r j → k ≤ j) → (w : Change) (c : Connection)
        → Continues Front (y ∷ x ∷ q) p (onward r w c)
        → Continues (Changing n y r.arrive x) q (p - (k + r.points)) c
    apart k least w c f =
        let there = ap (λ l. lead (tail l)) f.is in
        record {
          price = w.points;
          front =
              record {
                change = w;
                listed = f.feasible.1.listed;
                from = ap lead f.is;
                to = there;
                boards =
                    subst (λ x. Boards n x (ready r w) (first_ride c)) there
                    (boards_first n b w.to (ready r w) c f.feasible.2);
                pays = refl;
              };
          feasible = from_boarding n b w.to (ready r w) c f.feasible.2;
          is = ap (λ l. tail (tail l)) f.is;
          timely = f.timely;
          cheap = omega (arith, f.cheap, least f.price f.front);
        }

module _ (n : Net) (known : Named n) (b v : ℕ) (Front : (r : Ride) (k : ℕ) → Type 0) where
  -- a connection of one station is a ride
  no_more : {G : Type 0} (y : ℕ) (s : Ride) (w : Change) (c : Connection) → stations (onward s w c) ≡ y ∷ [] → G
  no_more y s w c e = absurd (omega (arith, ap length e))

  -- the last ride
  pub first_direct : (y p : ℕ) (r : Ride) → Leads n b v Front (y ∷ []) p r → First n b v Front (y ∷ []) p (direct r)
  first_direct y p r l (direct s) f t = l (direct s) f t
  first_direct y p r l (onward s z e) f t = no_more y s z e f.is

  -- A ride and a change, and then the first of what is left: what comes before that begins with a ride that comes
  -- before. The change in front of the ride is the cheapest.
  module _ (y x : ℕ) (q : List ℕ) (p : ℕ) (r : Ride) (k : ℕ) (w : Change) (c : Connection) where
    module _
        (least : (j : ℕ) → Front r j → k ≤ j)
        (fits : Continues n b v Front (y ∷ x ∷ q) p (onward r w c))
        (rest : First n b v (Changing n y r.arrive x) q (p - (k + r.points)) c)
      where
        pub begins_before : (e : Connection) → Continues n b v Front (y ∷ x ∷ q) p e
            → T (before (numbers e) (numbers (onward r w c)))
            → T (before (ride_numbers (first_ride e)) (ride_numbers r))
        begins_before (direct s) f t = absurd (omega (arith, ap length f.is))
        begins_before (onward s z e) f t =
            go (three_cases s.trip s.board s.alight r.trip r.board r.alight (numbers e) (numbers c) t)
          where
            moved : s.trip ≡ r.trip → s.board ≡ r.board → s.alight ≡ r.alight
                → Continues n b v (Changing n y r.arrive x) q (p - (k + r.points)) e
            moved i j h =
                let same = known.ride s r f.feasible.0.listed fits.feasible.0.listed i j h in
                apart n b v Front y x q p r k least z e
                (subst (λ r. Continues n b v Front (y ∷ x ∷ q) p (onward r z e)) same f)

            Same : Type 0
            Same =
                (s.trip ≡ r.trip) × (s.board ≡ r.board) × (s.alight ≡ r.alight)
                × T (before (numbers e) (numbers c))

            go : T (before (ride_numbers s) (ride_numbers r)) ⊎ Same → T (before (ride_numbers s) (ride_numbers r))
            go (inl h) = h
            go (inr h) = absurd (rest e (moved h.0 h.1 h.2) h.3)

        pub first_onward : Leads n b v Front (y ∷ x ∷ q) p r → First n b v Front (y ∷ x ∷ q) p (onward r w c)
        first_onward l e f t = l e f (begins_before e f t)

        -- for the whole connection the later departure goes first
        pub tie_onward : LeadsTie n b v Front (y ∷ x ∷ q) p r
            → (e : Connection) → Continues n b v Front (y ∷ x ∷ q) p e
            → ¬ T (before (tie_key e) (tie_key (onward r w c)))
        tie_onward l e f t =
            let rides = same_count e (onward r w c) (f.is ∙ sym fits.is) in
            l e f (tie_before e (onward r w c) rides (begins_before e f) t)

  pub tie_direct : (y p : ℕ) (r : Ride) → r.to ≡ y → LeadsTie n b v Front (y ∷ []) p r
      → (e : Connection) → Continues n b v Front (y ∷ []) p e → ¬ T (before (tie_key e) (tie_key (direct r)))
  tie_direct y p r to l e f t =
      l e f (tie_before e (direct r) (same_count e (direct r) (f.is ∙ ap (λ z. z ∷ []) (sym to))) (single e f) t)
    where
      single : (e : Connection) → Continues n b v Front (y ∷ []) p e → T (before (numbers e) (numbers (direct r)))
          → T (before (ride_numbers (first_ride e)) (ride_numbers r))
      single (direct s) f t = t
      single (onward s z e) f t = no_more y s z e f.is
