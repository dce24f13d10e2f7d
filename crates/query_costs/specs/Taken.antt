-- What the words say once the rides of a list are noted for those who take them, and once the least so far is taken.
use Rattle.std.specs.Prelude.{◌≡◌, refl, Bool, not, ◌⊎◌, List, [], ◌∷◌, map, ℕ, ◌+◌, ◌≤◌, ◌<◌, min, T, ltb, get_or}
use Rattle.std.proofs.Common.{sym, ap, ◌∙◌, inl, inr, arith, ltb→lt, lt→ltb, nltb→le, length-set}
use Rattle.std.proofs.Math.Logic.{⊎_map}
use mathlib.Core.List.Memᴰ
use Rattle.std.proofs.Math.Decide.{dec_lt}
use Rattle.std.proofs.Math.ListN.{length, length-replicate, get_or-eq_default}
use Rattle.std.proofs.Math.Seq.{set_out}
use Rattle.lists.specs.Lists.{◌∈◌, filter}
use Rattle.lists.specs.Tests.{either, T_true, T_false}
use Rattle.lists.specs.Members.{filter_in, filter_out}
use Rattle.connections.specs.Rides.{Ride}
use Rattle.query_minutes.specs.Minutes.{no_points, blank, noted, note_all}
use Rattle.query_minutes.specs.Noted.{Arrives, Noted, all_noted, get_d_blank, length_noted}
use Rattle.query_rides.specs.declared.Way.{Way}
use Rattle.query_rides.specs.Ways.{cost_in}
use Rattle.query_costs.specs.Lowest.{lowest, length_lowest}
use Rattle.query_costs.specs.Lowest.{Before, lowest_least, lowest_below, lowest_falls, lowest_stems}
use Rattle.query_costs.specs.Layering.{taken, taken_all, taken_way, step_of}

-- the ride is noted within the two days
abbrev in_time : Ride → Bool
in_time r = ltb r.arrive 2880

-- no other is noted at all
in_time_lem : (l : List Ride) (best : List ℕ) → length best ≡ 2880 → note_all best (filter in_time l) ≡ note_all best l
unfolding note_all
in_time_lem [] best long = refl
in_time_lem (r ∷ l) best long =
    either (ltb r.arrive 2880) (early (in_time_lem l (noted best r) after)) (late (in_time_lem l best long))
  where
    after : length (noted best r) ≡ 2880
    after = length-set best r.arrive (min (get_or best r.arrive 0) r.points) ∙ long

    early : note_all (noted best r) (filter in_time l) ≡ note_all (noted best r) l → T (ltb r.arrive 2880)
        → note_all best (filter in_time (r ∷ l)) ≡ note_all best (r ∷ l)
    early ih t = rw (T_true (ltb r.arrive 2880) t) ih

    late : note_all best (filter in_time l) ≡ note_all best l → T (not (ltb r.arrive 2880))
        → note_all best (filter in_time (r ∷ l)) ≡ note_all best (r ∷ l)
    late ih t =
        let h = nltb→le r.arrive 2880 t in
        let same = set_out best r.arrive (min (get_or best r.arrive 0) r.points) (omega arith) in
        rw (T_false (ltb r.arrive 2880) t) (ih ∙ ap (λ b. note_all b l) (sym same))

module _ (p : List ℕ) (minutes points : ℕ) (l : List Ride) where
  -- what one has paid behind a ride
  abbrev pub paid : Ride → ℕ
  paid r = get_or p r.depart 0 + r.points + points

  -- by a ride of the list one who paid c is ready at minute m
  pub record ReadyBy (m c : ℕ) : Type 0 where
    pub ride : Ride
    pub listed : ride ∈ l
    pub at : ride.arrive + minutes ≡ m
    pub pays : paid ride ≡ c

  module _ (best : List ℕ) (long : length best ≡ 2880) where
    abbrev after : List ℕ
    after = taken_all p minutes points best l

    pub record Noting : Type 0 where
      pub low : (r : Ride) → r ∈ l → r.arrive + minutes < 2880 → get_or after (r.arrive + minutes) no_points ≤ paid r
      pub kept : (m : ℕ) → get_or after m no_points ≤ get_or best m no_points
      pub stems : (m : ℕ)
          → (get_or after m no_points ≡ get_or best m no_points) ⊎ ReadyBy m (get_or after m no_points)

    -- the rides noted, and those of them that count
    abbrev all : List Ride
    all = map (taken p minutes points) l

    abbrev some : List Ride
    some = filter in_time all

    is_noted : Noted no_points best (note_all best some) some
    is_noted =
        all_noted no_points some best
        (λ r m. rw long (ltb→lt r.arrive 2880 (filter_out in_time all m).1))

    same : note_all best some ≡ after
    unfolding taken_all
    same = in_time_lem all best long

    pub noting : Noting
    noting = record { low = low; kept = kept; stems = stems }
      where
        low : (r : Ride) → r ∈ l → r.arrive + minutes < 2880 → get_or after (r.arrive + minutes) no_points ≤ paid r
        low r m h =
            let one = filter_in in_time (Memᴰ.map (taken p minutes points) m) (lt→ltb (r.arrive + minutes) 2880 h) in
            rw same at (is_noted.low (taken p minutes points r) one)

        kept : (m : ℕ) → get_or after m no_points ≤ get_or best m no_points
        kept m = rw same at (is_noted.kept m)

        ready : (m c : ℕ) → Arrives no_points some m c → ReadyBy m c
        ready m c x =
            let r = Memᴰ.of_map (taken p minutes points) l (filter_out in_time all x.listed).0 in
            record {
              ride = r.0;
              listed = r.1;
              at = ap (λ r. r.arrive) r.2 ∙ x.at;
              pays = ap (λ r. r.points) r.2 ∙ x.costs;
            }

        stems : (m : ℕ) → (get_or after m no_points ≡ get_or best m no_points) ⊎ ReadyBy m (get_or after m no_points)
        stems m =
            rw same at
            (⊎_map (λ e. e) (ready m (get_or (note_all best some) m no_points)) (is_noted.stems m))

    pub length_taken : length (taken_all p minutes points best l) ≡ 2880
    unfolding taken_all
    length_taken = length_noted all best ∙ long

-- ---- if there is a way of changing behind the rides: from blank words, and the least so far
module _ (p : List ℕ) (l : List Ride) (g : Way) where
  abbrev minutes : ℕ
  minutes = (cost_in g).minutes.0

  abbrev points : ℕ
  points = (cost_in g).points.0

  record WayNoting (after : List ℕ) : Type 0 where
    long : length after ≡ 2880
    low : T g.found → (r : Ride) → r ∈ l → r.arrive + minutes < 2880
        → get_or after (r.arrive + minutes) no_points ≤ paid p minutes points l r
    stems : (m : ℕ)
        → (get_or after m no_points ≡ no_points)
        ⊎ (T g.found × ReadyBy p minutes points l m (get_or after m no_points))

  abbrev noted_now : List ℕ
  noted_now = taken_way p g blank l

  n : WayNoting noted_now
  unfolding taken_way
  n = either g.found some none
    where
      long : length blank ≡ 2880
      long = length-replicate 2880 no_points

      some : T g.found → WayNoting noted_now
      some t =
          let n = noting p minutes points l blank long in
          rw (T_true g.found t)
          (record {
            long = length_taken p minutes points l blank long;
            low = λ f. n.low;
            stems = λ m. ⊎_map (λ e. e ∙ get_d_blank 2880 no_points m) (λ k. (tt, k)) (n.stems m);
          })

      none : T (not g.found) → WayNoting noted_now
      none t =
          rw (T_false g.found t)
          (record {
            long = long;
            low = λ f. absurd f;
            stems = λ m. inl (get_d_blank 2880 no_points m);
          })

  abbrev next : List ℕ
  next = step_of p g l

  -- by a ride of the list and the way one who paid c is ready by minute m
  pub record ReadyUntil (m c : ℕ) : Type 0 where
    pub found : T g.found
    pub ride : Ride
    pub listed : ride ∈ l
    pub until : ride.arrive + minutes ≤ m
    pub pays : paid p minutes points l ride ≡ c

  pub record Stepped : Type 0 where
    pub long : length next ≡ 2880
    pub most : (m : ℕ) → get_or next m no_points ≤ no_points
    pub falls : (j m : ℕ) → j ≤ m → m < 2880 → get_or next m no_points ≤ get_or next j no_points
    pub over : T g.found → (r : Ride) → r ∈ l → (m : ℕ) → r.arrive + minutes ≤ m → m < 2880
        → get_or next m no_points ≤ paid p minutes points l r
    pub attained : (m : ℕ) → get_or next m no_points < no_points → ReadyUntil m (get_or next m no_points)

  pub stepped : Stepped
  unfolding step_of
  stepped = record { long = long; most = most; falls = falls; over = over; attained = attained }
    where
      noted_long : length noted_now ≡ 2880
      noted_long = n.long

      long : length (lowest no_points noted_now) ≡ 2880
      long = length_lowest no_points noted_now ∙ noted_long

      most : (m : ℕ) → get_or (lowest no_points noted_now) m no_points ≤ no_points
      most m =
          elim (dec_lt m 2880) [
            | yes h ↦ lowest_least no_points noted_now no_points m (omega (arith, noted_long))
            | no h ↦ omega (
              arith,
              get_or-eq_default (lowest no_points noted_now) no_points {n = m} (omega (arith, long)),
            )
          ]

      falls : (j m : ℕ) → j ≤ m → m < 2880
          → get_or (lowest no_points noted_now) m no_points ≤ get_or (lowest no_points noted_now) j no_points
      falls j m h g = lowest_falls no_points noted_now no_points j m h (omega (arith, noted_long))

      over : T g.found → (r : Ride) → r ∈ l → (m : ℕ) → r.arrive + minutes ≤ m → m < 2880
          → get_or (lowest no_points noted_now) m no_points ≤ paid p minutes points l r
      over f r i m h e =
          let k = r.arrive + minutes in
          let low = n.low f r i (omega arith) in
          omega (arith, lowest_below no_points noted_now no_points k m h (omega (arith, noted_long)), low)

      attained : (m : ℕ) → get_or (lowest no_points noted_now) m no_points < no_points
          → ReadyUntil m (get_or (lowest no_points noted_now) m no_points)
      attained m h =
          elim (dec_lt m 2880) [
            | yes g ↦ stems (lowest_stems no_points noted_now no_points m (omega (arith, noted_long)))
            | no g ↦ absurd (omega (
              arith,
              get_or-eq_default (lowest no_points noted_now) no_points {n = m} (omega (arith, long)),
            ))
          ]
        where
          c : ℕ
          c = get_or (lowest no_points noted_now) m no_points

          stems : (c ≡ no_points) ⊎ Before no_points noted_now m c → ReadyUntil m c
          stems (inl e) = absurd (omega arith)
          stems (inr b) = by_ride_lem (n.stems b.place)
            where
              by_ride_lem : (get_or noted_now b.place no_points ≡ no_points)
                  ⊎ (T g.found × ReadyBy p minutes points l b.place (get_or noted_now b.place no_points))
                  → ReadyUntil m c
              by_ride_lem (inl e) = absurd (omega (arith, e, b.is))
              by_ride_lem (inr k) =
                  record {
                    found = k.0;
                    ride = k.1.ride;
                    listed = k.1.listed;
                    until = omega (arith, k.1.at, b.before);
                    pays = k.1.pays ∙ b.is;
                  }
