-- The loop over the trips in order: what it keeps, and its ways on and out. A turn adds the next trip to the first line
-- that it can join, which is what the definition does with it.
use mathlib.Core.Path.{◌≡◌, refl, sym, ap, subst, ◌∙◌}
use mathlib.Core.Bool.{true}
use mathlib.Core.List.{List, [], ◌∷◌, ◌++◌, map}
use Prim.Native.Nat.{ℕ, suc, ◌+◌, ◌≤◌, ◌<◌}
use native.Mathlib.Numerals.{add-one}
use native.Mathlib.Decide.{ℕ_discrete}
use native.Mathlib.Omega.{arith}
use lib.ListN.{length, get_or, take, drop, set, length-append, length-map, length-set, drop_of_length-le}
use lib.Seq.{get_or-take, drop-cons, take-set-lt, take-suc-set}
use Rattle.words.specs.Put.{put, put_none}
use Rattle.lists.specs.Lists.{◌∈◌}
use Rattle.lists.specs.Members.{none}
use Rattle.lists.specs.Places.{get_d_in}
use Rattle.timetable.specs.Timetable.{Trip}
use Rattle.timetable.specs.Words.{trip_count, timetable_of, is_timetable}
use Rattle.timetable.specs.Check.{length_trips}
use Rattle.timetable.specs.Access.{trip_is}
use Rattle.lines.specs.Lines.{last_of, add_trip, add_trips, in_order, lines}
use Rattle.lines.specs.Once.{on_lines}
use Rattle.lines_found.specs.Grouped.{ends_from}
use Rattle.lines_order.specs.Steps.{Below, first_place, same_place, held, trips_most_lem}
use Rattle.lines_found.specs.Steps.{runs_before}
use Rattle.lines_order.specs.Order.{OrderOf, all_in_order, in_order_out, length_order}
use Rattle.lines_found.specs.Joined.{join_at, Holds, Joined, joinable, add_joins, ends_below, length_ends}
use Rattle.lines_found.specs.Joined.{length_joins, length_founds, lasts_join, lasts_found, lasts_below}
use Rattle.lines_found.specs.Taken.{TakenTo, OfLasts}

abbrev pub trips_of : List ℕ → List Trip
trips_of w = (timetable_of w).trips

-- The lines of the first k trips in order are held by the arrays, beside the last trip of each; the lines of the
-- timetable come of them by adding the trips that are left.
pub record Kept (w numbers₀ ends₀ numbers ends lasts : List ℕ) (count k : ℕ) : Type 0 where
  pub ls : List (List ℕ)
  pub holds : Holds ls k count numbers ends numbers₀ ends₀
  pub left : lines (trips_of w) ≡ add_trips (trips_of w) (drop k (in_order (trips_of w))) ls
  pub is_lasts : take count lasts ≡ map last_of ls
  pub listed : Below (trip_count w) (map last_of ls)

pub kept_starts : (w numbers ends lasts : List ℕ) → Kept w numbers ends numbers ends lasts 0 0
unfolding ends_from lines Below
kept_starts w numbers ends lasts =
    record {
      ls = [];
      holds =
          record {
            trips = refl;
            lines = refl;
            is_numbers = sym (put_none 0 numbers);
            is_ends = sym (put_none 0 ends);
          };
      left = refl;
      is_lasts = refl;
      listed = λ y m. none m;
    }

-- ---- the last trips, where one line has a new one
lasts_after : (lasts : List ℕ) (i z n m : ℕ) (ls : List (List ℕ)) → take n lasts ≡ map last_of ls → length ls ≡ n
    → i ≤ n → n < length lasts → length (join_at i z ls) ≡ m → take m (set lasts i z) ≡ map last_of (join_at i z ls)
lasts_after lasts i z n m ls is e h g count = elim (ℕ_discrete i n) [ yes d ↦ found d | no d ↦ join d ]
  where
    found : i ≡ n → take m (set lasts i z) ≡ map last_of (join_at i z ls)
    found d =
        let after = lasts_found i z ls (omega arith) in
        let one_more : m ≡ suc i =
        omega (
          arith,
          length-map (join_at i z ls) last_of,
          ap length after,
          length-append (map last_of ls) (z ∷ []),
          length-map ls last_of,
        ) in
        rw (one_more, take-suc-set lasts i z (omega arith))
        (ap (λ l. l ++ (z ∷ [])) (ap (λ j. take j lasts) d ∙ is) ∙ sym after)

    join : (i ≡ n → ⊥) → take m (set lasts i z) ≡ map last_of (join_at i z ls)
    join d =
        let after = lasts_join i z ls (omega arith) in
        let as_many : m ≡ n =
        omega (
          arith,
          length-map (join_at i z ls) last_of,
          ap length after,
          length-set (map last_of ls) i z,
          length-map ls last_of,
        ) in
        rw (as_many, take-set-lt n lasts i z (omega arith), is) (sym after)

-- ---- the trips in order
order_long : (w : List ℕ) → length (in_order (trips_of w)) ≡ trip_count w
order_long w = length_order (trips_of w) ∙ length_trips w

-- so many trips, in order
pub record Given (w order : List ℕ) (trips : ℕ) : Type 0 where
  pub is_order : OrderOf (trips_of w) order
  pub is_trips : trips ≡ trip_count w
  pub few : trips ≤ 256

pub given_order : (w order : List ℕ) (trips : ℕ) → is_timetable w ≡ true → trips ≡ trip_count w
    → OrderOf (trips_of w) order → Given w order trips
given_order w order trips good is_trips is_order =
    record { is_order = is_order; is_trips = is_trips; few = trips_most_lem w trips good is_trips }

module _ (w : List ℕ) (order : List ℕ) (trips : ℕ) (given : Given w order trips) (k : ℕ) (h : k < trips) where
  order_at : get_or order k 0 ≡ get_or (in_order (trips_of w)) k 0
  unfolding OrderOf
  order_at =
      sym (get_or-take (length (trips_of w)) order k 0 (omega (arith, length_trips w, given.is_trips)))
      ∙ ap (λ l. get_or l k 0) given.is_order

  pub next_listed : get_or order k 0 < trip_count w
  next_listed =
      let inside = get_d_in (in_order (trips_of w)) k 0 (omega (arith, order_long w, given.is_trips)) in
      let number : ℕ = get_or (in_order (trips_of w)) k 0 in
      let among =
      in_order_out (trips_of w) 0 (length (trips_of w)) number
      (subst (λ l. number ∈ l) (sym (all_in_order (trips_of w))) inside) in
      omega (arith, among, order_at, length_trips w)

-- ---- a turn
module _
    (w order numbers₀ ends₀ numbers ends lasts : List ℕ)
    (count k : ℕ)
    (kept : Kept w numbers₀ ends₀ numbers ends lasts count k)
    (line : ℕ)
    (place : line ≡ first_place (runs_before w (get_or order k 0)) (take count lasts))
    (numbers' ends' : List ℕ)
    (count' : ℕ)
    (joined : Joined line (get_or order k 0) k count count' numbers ends numbers' ends')
    (trips : ℕ)
    (given : Given w order trips)
    (h : k < trips)
    (g : count ≤ k)
    (long : length lasts ≡ 256)
    (inside : line ≤ count)
    (lasts' : List ℕ)
    (is_set : lasts' ≡ set lasts line (get_or order k 0))
  where
    z : ℕ
    z = get_or order k 0

    z_listed : z < trip_count w
    unfolding z
    z_listed = next_listed w order trips given k h

    next : List (List ℕ)
    next = join_at line z kept.ls

    holds_next : Holds next (k + 1) count' numbers' ends' numbers₀ ends₀
    unfolding Joined next z
    holds_next = joined kept.ls numbers₀ ends₀ kept.holds

    same_test : (y : ℕ) → y ∈ map last_of kept.ls → runs_before w z y ≡ joinable (trips_of w) z y
    unfolding z Below
    same_test y m = rw (trip_is w z [] z_listed, trip_is w y [] (kept.listed y m))

    added : add_trip (trips_of w) z kept.ls ≡ next
    unfolding next z
    added =
        add_joins (trips_of w) z kept.ls
        ∙ ap (λ i. join_at i z kept.ls)
        (sym
        (place
        ∙ ap (first_place (runs_before w z)) kept.is_lasts
        ∙ same_place (runs_before w z) (joinable (trips_of w) z) (map last_of kept.ls) same_test))

    left_next : lines (trips_of w) ≡ add_trips (trips_of w) (drop (k + 1) (in_order (trips_of w))) next
    unfolding z
    left_next =
        let order_left : drop k (in_order (trips_of w)) ≡ z ∷ drop (suc k) (in_order (trips_of w)) =
        drop-cons (in_order (trips_of w)) k 0 (omega (arith, order_long w, given.is_trips))
        ∙ ap (λ y. y ∷ drop (suc k) (in_order (trips_of w))) (sym (order_at w order trips given k h)) in
        rw (add-one k)
        (kept.left
        ∙ ap (λ zs. add_trips (trips_of w) zs kept.ls) order_left
        ∙ ap (add_trips (trips_of w) (drop (suc k) (in_order (trips_of w)))) added)

    pub kept_next : Kept w numbers₀ ends₀ numbers' ends' lasts' count' (k + 1)
    unfolding next z
    kept_next =
        rw is_set
        (record {
          ls = next;
          holds = holds_next;
          left = left_next;
          is_lasts =
              lasts_after lasts line z count count' kept.ls kept.is_lasts kept.holds.lines inside
              (omega (arith, given.few)) holds_next.lines;
          listed = lasts_below (trip_count w) line z kept.ls z_listed kept.listed;
        })

    -- as many lines are chained as there are then
    pub chains_next : (chains : List ℕ) → TakenTo w lasts' count line chains → OfLasts w lasts' count' chains
    unfolding next
    chains_next chains taken = elim (ℕ_discrete line count) [ yes d ↦ founds d | no d ↦ joins d ]
      where
        founds : line ≡ count → OfLasts w lasts' count' chains
        founds d =
            let long = length_founds line z kept.ls (omega (arith, kept.holds.lines)) in
            let one_more : suc count ≡ count' = omega (arith, holds_next.lines, kept.holds.lines) in
            subst (λ n. OfLasts w lasts' n chains) one_more (taken.founded d)

        joins : (line ≡ count → ⊥) → OfLasts w lasts' count' chains
        joins d =
            let long = length_joins line z kept.ls (omega (arith, kept.holds.lines)) in
            let as_many : count ≡ count' = omega (arith, holds_next.lines, kept.holds.lines) in
            subst (λ n. OfLasts w lasts' n chains) as_many (taken.joined (omega arith))

-- ---- what the calls of a turn ask for, and what is answered at the end
module _ (w numbers₀ ends₀ numbers ends lasts : List ℕ) (count k : ℕ)
    (kept : Kept w numbers₀ ends₀ numbers ends lasts count k) where
  pub lasts_listed : Below (trip_count w) (take count lasts)
  lasts_listed = rw kept.is_lasts kept.listed

  pub ends_inside : Below (k + 1) (take count ends)
  ends_inside =
      let ls = kept.ls in
      let long = length_ends 0 ls ∙ kept.holds.lines in
      let so_far = held count (ends_from 0 ls) ends₀ ends kept.holds.is_ends long in
      let all : 0 + length (on_lines ls) + 1 ≡ k + 1 = omega (arith, kept.holds.trips) in
      rw so_far (subst (λ n. Below n (ends_from 0 ls)) all (ends_below 0 ls))

  module _ (trips : ℕ) (is_trips : trips ≡ trip_count w) (h : k ≤ trips) (g : trips ≤ k) where
    all_added : lines (trips_of w) ≡ kept.ls
    all_added =
        let all : length (in_order (trips_of w)) ≤ k = omega (arith, order_long w) in
        kept.left ∙ ap (λ zs. add_trips (trips_of w) zs kept.ls) (drop_of_length-le (in_order (trips_of w)) all)

    pub is_count : count ≡ length (lines (trips_of w))
    is_count = sym (ap length all_added ∙ kept.holds.lines)

    pub are_numbers : numbers ≡ put 0 (on_lines (lines (trips_of w))) numbers₀
    are_numbers = kept.holds.is_numbers ∙ ap (λ ls. put 0 (on_lines ls) numbers₀) (sym all_added)

    pub are_ends : ends ≡ put 0 (ends_from 0 (lines (trips_of w))) ends₀
    are_ends = kept.holds.is_ends ∙ ap (λ ls. put 0 (ends_from 0 ls) ends₀) (sym all_added)
