-- The ride to take next. With what is left behind each ride at hand, a test says exactly which rides begin a connection
-- that arrives and pays as it should; the rule for equal cost picks one of them.
use Rattle.std.specs.Prelude.{◌≡◌, refl, Bool, true, false, not, cond, ◌&&◌, ◌⊎◌, List, [], ◌∷◌, ℕ, ◌+◌, ◌-◌, ◌≤◌, ◌<◌}
use Rattle.std.specs.Prelude.{T, leb, ltb, get_or}
use Rattle.std.proofs.Common.{sym, ap, subst, inl, inr, arith, ltb→lt, nltb→le}
use Rattle.timetable.specs.Timetable.{Timetable, last_minute, valid}
use Rattle.timetable.specs.Numbers.{number_most_lem}
use Rattle.lists.specs.Lists.{◌∈◌, before, filter}
use Rattle.lists.specs.Tests.{either, reads, writes}
use Rattle.lists.specs.Members.{filter_in, filter_out}
use Rattle.lists.specs.Order.{before_head, before_tail, before_cases, not_before_trans}
use Rattle.connections.specs.Rides.{Ride}
use Rattle.connections.proofs.RideLaws.{rides_out}
use Rattle.connections.specs.Connections.{Net, net, Connection, Boards, Feasible}
use Rattle.connections.proofs.Sound.{Sound, sound}
use Rattle.connections.proofs.Feasibility.{penalty_most_lem}
use Rattle.optimality.specs.Ways.{first_ride}
use Rattle.optimality.specs.AlongLaws.{boards_at_lem}
use Rattle.optimality.specs.Greedy.{ride_numbers, Continues}
use Rattle.query_minutes.specs.Minutes.{no_points}
use Rattle.query_nearest.specs.Nearest.{Nearer, nearer_sooner}
use Rattle.query_rests.specs.Rests.{Rests, rest_earlier, begun, parted}
use Rattle.query_shown.specs.Prices.{Fronts}
use Rattle.query_shown.specs.Foremost.{foremost, foremost_cases, Leading}

-- The first ride of a connection "departs latest"; each ride then "comes first" by its numbers.
abbrev pub lateness : (first : Bool) (depart : ℕ) → ℕ
lateness first depart = cond first (last_minute - depart) 0

abbrev pub head_key : (first : Bool) → Ride → List ℕ
head_key first r = lateness first r.depart ∷ ride_numbers r

-- none yet: every ride comes before it
abbrev pub no_ride : Ride
no_ride =
    record { trip = 65536; board = 0; alight = 0; from = 0; to = 0; depart = 0; arrive = 0; points = 0 }

-- from p points one can pay a price, which is one
abbrev pub payable : (k p : ℕ) → Bool
payable k p = ltb k no_points && leb k p

-- something is left behind the ride, which with it costs p points at the most
abbrev pub endable : (z : List ℕ) (p : ℕ) → Ride → Bool
endable z p r = ltb (get_or z r.arrive no_points) no_points && leb (r.points + get_or z r.arrive no_points) p

-- one can pay what stands in front of the ride, and then the ride and what is left behind it
abbrev pub takeable : (price : ℕ → ℕ) (z : List ℕ) (p : ℕ) → Ride → Bool
takeable price z p r = payable (price r.depart) p && endable z (p - price r.depart) r

-- the ride to take
unfoldable pub head_of : (first : Bool) (price : ℕ → ℕ) (z : List ℕ) (p : ℕ) → List Ride → Ride
head_of first price z p rides = foremost (head_key first) no_ride (filter (takeable price z p) rides)

-- ---- of two rides from one stop of a trip the nearer one
module _ (e r : Ride) (k : Nearer e r) where
  -- it comes no later
  nearer_first : (first : Bool) → ¬ T (before (head_key first r) (head_key first e))
  nearer_first first t =
      let late : lateness first r.depart ≡ lateness first e.depart = ap (lateness first) (sym k.depart) in
      elim (before_cases (lateness first r.depart) (lateness first e.depart) (ride_numbers r) (ride_numbers e) t) [
        | inl h ↦ omega (arith, late)
        | inr h ↦
            elim (before_cases r.trip e.trip (r.board ∷ r.alight ∷ []) (e.board ∷ e.alight ∷ []) h.1) [
              | inl g ↦ omega (arith, k.trip)
              | inr g ↦
                  elim (before_cases r.board e.board (r.alight ∷ []) (e.alight ∷ []) g.1) [
                    | inl i ↦ omega (arith, k.board)
                    | inr i ↦
                        elim (before_cases r.alight e.alight [] [] i.1) [
                          | inl j ↦ omega (arith, k.alight)
                          | inr j ↦ j.1
                        ]
                  ]
            ]
      ]

module _ (timetable : Timetable) (b v : ℕ) (Front : (r : Ride) (k : ℕ) → Type 0) where
  -- ride r begins a connection that fits
  pub record Starts (q : List ℕ) (p : ℕ) (r : Ride) : Type 0 where
    pub connection : Connection
    pub fits : Continues (net timetable) b v Front q p connection
    pub begins : first_ride connection ≡ r

  -- It does, and none that fits begins with a ride that comes before it; to station y, at minute e or later, and for k
  -- points in front of it, which is the least.
  pub record Chosen (first : Bool) (e y : ℕ) (q : List ℕ) (p : ℕ) (r : Ride) (k : ℕ) : Type 0 where
    pub starts : Starts (y ∷ q) p r
    pub few : r.trip < 65536
    pub listed : r ∈ (net timetable).rides
    pub to : r.to ≡ y
    pub timely : e ≤ r.depart
    pub front : Front r k
    pub least : (j : ℕ) → Front r j → k ≤ j
    pub pays : k + r.points ≤ p
    pub leads : (c : Connection) → Continues (net timetable) b v Front (y ∷ q) p c
        → ¬ T (before (head_key first (first_ride c)) (head_key first r))

module _ (timetable : Timetable) (okay : T (valid timetable)) (b v : ℕ) where
  abbrev n : Net
  n = net timetable

  ok : Sound n
  ok = sound timetable okay

  trip_few : (r : Ride) → r ∈ n.rides → r.trip < 65536
  trip_few r m =
      let k = rides_out timetable r m in
      omega (arith, ap (λ r. r.trip) k.is, number_most_lem timetable okay k.z k.listed)

  ride_before : (first : Bool) (r : Ride) → r ∈ n.rides → T (before (head_key first r) (head_key first no_ride))
  ride_before first r m = go first (trip_few r m)
    where
      told : List ℕ
      told = ride_numbers r

      go : (first : Bool) → r.trip < 65536 → T (before (head_key first r) (head_key first no_ride))
      go false few =
          before_tail 0 0 told (ride_numbers no_ride) refl
          (before_head r.trip 65536 (r.board ∷ r.alight ∷ []) (0 ∷ 0 ∷ []) few)
      go true few = either (ltb 0 r.depart) later at_start
        where
          later : T (ltb 0 r.depart) → T (before (head_key true r) (head_key true no_ride))
          later t =
              let forward = ok.forward r m in
              let bounded = ok.bounded r m in
              before_head (last_minute - r.depart) last_minute told (ride_numbers no_ride) (omega (arith, ltb→lt))

          at_start : T (not (ltb 0 r.depart)) → T (before (head_key true r) (head_key true no_ride))
          at_start t =
              before_tail (last_minute - r.depart) last_minute told (ride_numbers no_ride) (omega (arith, nltb→le))
              (before_head r.trip 65536 (r.board ∷ r.alight ∷ []) (0 ∷ 0 ∷ []) few)

  module _
      (t : ℕ)
      (q : List ℕ)
      (y x e p : ℕ)
      (later : t ≤ e)
      (Front : (r : Ride) (k : ℕ) → Type 0)
      (price : ℕ → ℕ)
      (fronts : Fronts n Front x e price)
      (rides : List Ride)
      (told : (r : Ride) → r ∈ rides → Boards n x e r × (r.to ≡ y))
      (near : (r : Ride) → Boards n x e r × (r.to ≡ y) → (e : Ride) × (e ∈ rides) × Nearer e r)
      (z : List ℕ)
      (rests : Rests n b v t q y z)
    where
      abbrev those : List Ride
      those = filter (takeable price z p) rides

      -- what is known of one of them
      record Takes (r : Ride) : Type 0 where
        boards : Boards n x e r
        to : r.to ≡ y
        some : price r.depart < no_points
        paid : price r.depart ≤ p
        left : get_or z r.arrive no_points < no_points
        pays : r.points + get_or z r.arrive no_points ≤ p - price r.depart

      takes : (r : Ride) → r ∈ those → Takes r
      takes r m =
          let f = filter_out (takeable price z p) rides m in
          let test = f.1 in
          let h = told r f.0 in
          record {
            boards = h.0;
            to = h.1;
            some = search reads;
            paid = search reads;
            left = search reads;
            pays = search reads;
          }

      starts_out : (r : Ride) → r ∈ those → Starts timetable b v Front (y ∷ q) p r
      starts_out r m =
          let k = takes r m in
          let rest = rests.some r.arrive k.left in
          let own = boards_at_lem n r k.boards.listed in
          let c = begun n b v q y r.from r.depart r (get_or z r.arrive no_points) own k.to rest in
          record {
            connection = c.connection;
            fits =
                record {
                  price = price r.depart;
                  front =
                      let front = fronts.opens r k.boards k.some in
                      subst (λ g. Front g (price r.depart)) (sym c.begins) front;
                  feasible =
                      subst (λ g. Feasible n g.from g.depart b c.connection) (sym c.begins) c.feasible;
                  is = c.is;
                  timely = c.timely;
                  cheap = omega (arith, c.total, k.paid, k.pays);
                };
            begins = c.begins;
          }

      -- a connection that fits begins with one of them, or with a ride on to a place behind it
      starts_in : (c : Connection) → Continues n b v Front (y ∷ q) p c
          → (e : Ride) × (e ∈ those) × Nearer e (first_ride c)
      starts_in c f =
          let r = first_ride c in
          let d = parted n b v q y r.from r.depart c f.feasible f.is f.timely in
          let on = fronts.boards r f.price f.front in
          let g = near r (on, d.to) in
          let s = g.0 in
          let same = ap price g.2.depart in
          let boards = (told s g.1).0 in
          let most = penalty_most_lem timetable okay r.from r.depart b c f.feasible in
          let forward = ok.forward s boards.listed in
          let bounded = ok.bounded r d.boards.listed in
          let sooner = nearer_sooner s r g.2 in
          let rest = rest_earlier n b v q y s.arrive r.arrive d.points sooner d.rest in
          let low = rests.least s.arrive d.points (omega (arith, boards.timely)) (omega arith) rest in
          let least = fronts.least r f.price f.front in
          let some : price s.depart < no_points = omega (arith, same, fronts.some r f.price f.front) in
          let paid : price s.depart ≤ p = omega (arith, same, least, f.cheap) in
          let left : get_or z s.arrive no_points < no_points = omega (arith, low, d.total, most) in
          let pays : s.points + get_or z s.arrive no_points ≤ p - price s.depart
          = omega (arith, low, d.total, f.cheap, g.2.points, same, least) in
          (s, filter_in (takeable price z p) g.1 (search writes), g.2)

      pub head_cases : (first : Bool)
          → ((head_of first price z p rides ≡ no_ride) × ((c : Connection) → ¬ Continues n b v Front (y ∷ q) p c))
          ⊎ Chosen timetable b v Front first e y q p (head_of first price z p rides)
          (price (head_of first price z p rides).depart)
      unfolding head_of
      head_cases first = go (foremost_cases (head_key first) those no_ride ahead)
        where
          listed : (r : Ride) → r ∈ those → r ∈ n.rides
          listed r m = (takes r m).boards.listed

          ahead : (r : Ride) → r ∈ those → T (before (head_key first r) (head_key first no_ride))
          ahead r m = ride_before first r (listed r m)

          one : Ride
          one = foremost (head_key first) no_ride those

          go : ((one ≡ no_ride) × ((r : Ride) → ¬ (r ∈ those))) ⊎ Leading (head_key first) those one
              → ((one ≡ no_ride) × ((c : Connection) → ¬ Continues n b v Front (y ∷ q) p c))
              ⊎ Chosen timetable b v Front first e y q p one (price one.depart)
          go (inl h) = inl (h.0, λ c f. let k = starts_in c f in h.1 k.0 k.1)
          go (inr h) =
              let k = takes one h.member in
              inr (record {
                starts = starts_out one h.member;
                few = trip_few one k.boards.listed;
                listed = k.boards.listed;
                to = k.to;
                timely = k.boards.timely;
                front = fronts.opens one k.boards k.some;
                least = fronts.least one;
                pays = omega (arith, k.paid, k.pays);
                leads = λ c f.
                    let k = starts_in c f in
                    not_before_trans (head_key first (first_ride c)) (head_key first k.0) (head_key first one)
                    (nearer_first k.0 (first_ride c) k.2 first)
                    (h.first k.0 k.1);
              })
