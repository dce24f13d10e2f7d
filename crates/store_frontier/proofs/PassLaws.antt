-- The words that a turn of the pass computes are the bounds that it needs.
use mathlib.Core.Path.{◌≡◌, refl, sym, ap, subst, ◌∙◌}
use mathlib.Core.Bool.{Bool, true, false, cond}
use mathlib.Core.List.Memᴰ
use mathlib.Core.List.Memᴰ.{head as here}
use mathlib.Core.List.{List, [], ◌∷◌, ◌++◌}
use Prim.Native.Nat.{ℕ, suc, ◌+◌, ◌-◌, ◌≤◌, ◌<◌, max}
use native.Mathlib.Omega.{arith}
use native.Mathlib.Numerals.{add-one}
use lib.ListN.{length, get_or, take, drop, set, replicate, take-append-drop, drop_of_length-le}
use lib.Seq.{length-take-le, get_or-take, drop-cons}
use Rattle.lists.specs.Lists.{◌∈◌}
use Rattle.timetable.specs.Timetable.{Stop}
use Rattle.timetable.specs.Words.{station_count, stop_at, is_timetable}
use Rattle.connections.specs.Rides.{may_board}
use Rattle.timetable.specs.Access.{stations_few}
use Rattle.store_departures.specs.Order.{order, catch_by}
use Rattle.store_departures.specs.Rising.{minute_at, Rising, Early, InTime, departures_rise, departures_early}
use Rattle.store_stops.specs.Stopwise.{station, stay, Goes, Arrival}
use Rattle.store_stops.specs.OpenWays.{Open}
use Rattle.store_frontier.specs.Bounding.{Bounding}
use Rattle.store_frontier.specs.Passed.{
  Limits,
  Passed,
  LeaveBound,
  passed_none,
  passed_front,
  passed_more,
  passed_all,
  passed_bounded,
}
use Rattle.store_frontier.specs.Zeros.{zero_replicate}
use Rattle.store_stops.specs.Prospects.{Bounded}
use Rattle.store_frontier.specs.Routes.{Routes}

pub leave_is : (w e q leaving : List ℕ) (i a x y b c p r : ℕ) (s : Stop)
    → Bounding w q (i + 1) (Open w (i + 1)) a
    → x ≡ get_or e (i + 1) 0
    → y ≡ get_or leaving (i + 1) 0
    → b ≡ max x y
    → c ≡ max a b
    → s ≡ stop_at w i
    → p ≡ s.points
    → r ≡ c - p
    → LeaveBound w e q leaving i r
leave_is w e q leaving i a x y b c p r s bounds is_x is_y is_b is_c is-s is-p is-r =
    record {
      onto = a;
      changing = subst (λ k. Bounding w q k (Open w k) a) (add-one i) bounds;
      is = rw (is-r, is-p, is-s, is_c, is_b, is_x, is_y, add-one i);
    }

pub noted : (high l l' : List ℕ) (i c y b g h : ℕ) → g ≡ get_or high c 0 → y ≡ b → h ≡ max g y → l' ≡ set l i h
    → l' ≡ set l i (max (get_or high c 0) b)
noted high l l' i c y b g h is-g is_y is-h is = is ∙ ap (set l i) (is-h ∙ (λ z. max (is-g z) (is_y z)))

-- ---- the bound of one who boards
module _ (s : Stop) (b : ℕ) (o : Bool) (is : o ≡ may_board s) where
  pub boards_below : o ≡ true → b ≡ cond (may_board s) b 0
  boards_below e = rw (← is, e)

  pub boards_never : o ≡ false → 0 ≡ cond (may_board s) b 0
  boards_never e = rw (← is, e)

-- ---- the departures
module _ (w departures first : List ℕ) (n : ℕ) (r : Routes w departures n first) where
  pub words_long : 16384 ≤ length w
  words_long = r.long

  pub accepted : is_timetable w ≡ true
  accepted = r.accepted

  pub stations_most_lem : station_count w ≤ 64
  stations_most_lem = stations_few w r.accepted

  pub order_within : n ≤ length departures
  order_within = r.within

  pub order_rises : Rising w departures 0 n
  order_rises = departures_rise w departures n r.departing r.within r.timely

-- ---- a turn of the pass
module _
    (w departures first : List ℕ)
    (n p i : ℕ)
    (r : Routes w departures n first)
    (on : p < n)
    (is-i : i ≡ get_or departures p 0)
  where
    long_order : length (order w) ≡ n
    long_order = ap length (sym r.departing) ∙ length-take-le n departures r.within

    left : drop p (order w) ≡ i ∷ drop (p + 1) (order w)
    left =
        let at : get_or (order w) p 0 ≡ i =
        ap (λ l. get_or l p 0) (sym r.departing) ∙ get_or-take n departures p 0 on ∙ sym is-i in
        drop-cons (order w) p 0 (omega (arith, long_order))
        ∙ ap (λ k. k ∷ drop (suc p) (order w)) at
        ∙ ap (λ k. i ∷ drop k (order w)) (sym (add-one p))

    parts : order w ≡ take p (order w) ++ (i ∷ drop (p + 1) (order w))
    parts = sym (take-append-drop p (order w)) ∙ ap (λ l. take p (order w) ++ l) left

    goes : Goes w i
    goes = r.ordered.goes i (subst (λ l. i ∈ l) (sym parts) (Memᴰ.append_right (take p (order w)) (here refl)))

    pub stop_within : i < 2048
    stop_within = omega (arith, r.timely.few i goes, r.timely.stops)

    pub next_within : i + 1 < 2048
    next_within = omega (arith, r.timely.few i goes, r.timely.stops)

    pub next_some : 1 ≤ station w (i + 1)
    next_some = rw (add-one i) (r.timely.next_first i goes)

    pub next_few : station w (i + 1) ≤ station_count w
    next_few = rw (add-one i) (r.timely.next_listed i goes)

    pub first_long : length first ≡ 2048
    first_long = r.long_first

    pub next_arrives : Arrival w (i + 1)
    next_arrives = record { i = i; goes = goes; is = sym (add-one i) }

    pub next_caught : get_or first (i + 1) 0 ≡ catch_by w (stay w (station w (i + 1))) (i + 1)
    next_caught = rw (add-one i) (r.caught i goes)

    pub inside : (v : List ℕ) → length v ≡ 2048 → i < length v
    inside v long = omega (arith, stop_within)

    module _ (s : Stop) (is-s : s ≡ stop_at w i) where
      pub inside_high : (high : List ℕ) → length high ≡ 65 → s.station < length high
      inside_high high long = rw is-s (omega (arith, r.timely.listed i goes, stations_few w r.accepted))

      module _ (e q leaving high : List ℕ) (d : ℕ)
          (known : Passed w e d (drop (p + 1) (order w)) q leaving high) where
        pub pass_more : (q' leaving' high' : List ℕ) (b : ℕ) → LeaveBound w e q leaving i b
            → d ≤ minute_at w departures p → length q ≡ 2048 → length leaving ≡ 2048 → length high ≡ 65
            → q' ≡ set q i (max (get_or high s.station 0) (cond (may_board s) b 0)) → leaving' ≡ set leaving i b
            → high' ≡ set high s.station (max (get_or high s.station 0) (cond (may_board s) b 0))
            → Passed w e d (drop p (order w)) q' leaving' high'
        pass_more q' leaving' high' b is_b timely long-q long-leaving long-high e-q e-leaving e-high =
            rw (e-q, e-leaving, e-high, is-s, left)
            (passed_more w e d r.timely r.ordered (take p (order w)) (drop (p + 1) (order w)) q leaving high i
            parts known (rw (← is-i) at timely) b (cond (may_board (stop_at w i)) b 0)
            (max (get_or high (station w i) 0) (cond (may_board (stop_at w i)) b 0)) is_b refl refl long-q long-leaving
            long-high (stations_few w r.accepted))

-- ---- the pass
module _ (w departures first : List ℕ) (n : ℕ) (r : Routes w departures n first) (e : List ℕ) (d : ℕ) where
  pub pass_first : (q leaving old : List ℕ) → leaving ≡ replicate (length old) 0
      → Passed w e d (drop n (order w)) q leaving (replicate 65 0)
  pass_first q leaving old cleared =
      let none : drop n (order w) ≡ [] =
      drop_of_length-le (order w) {i = n}
      (omega (arith, ap length r.departing, length-take-le n departures r.within)) in
      subst (λ l. Passed w e d l q leaving (replicate 65 0)) (sym none)
      (passed_none w e d q leaving (replicate 65 0) (λ k. rw cleared (zero_replicate (length old) k)) (zero_replicate
      65))

  -- those in front leave too early
  module _ (q leaving high : List ℕ) (begin : ℕ) (within : begin ≤ n) (early : Early w departures d 0 begin)
      (k : Passed w e d (drop begin (order w)) q leaving high) where
    all : Passed w e d (order w) q leaving high
    all =
        subst (λ l. Passed w e d l q leaving high) (take-append-drop begin (order w))
        (passed_front w e d (take begin (order w)) (drop begin (order w)) q leaving high
        (departures_early w departures n r.departing d begin within early)
        k)

    pub passes_all : Limits w e d leaving
    passes_all = passed_all w e d r.timely r.ordered q leaving high all

    pub passes_bounded : Bounded w e d (catch_by w) q
    passes_bounded = passed_bounded w e d r.timely r.ordered q leaving high all

-- one place after the other, the last first
module _ (w e : List ℕ) (d begin p : ℕ) where
  pub pass_timely : (departures : List ℕ) (n : ℕ) → InTime w departures d begin n → begin < p → p ≤ n
      → d ≤ minute_at w departures (p - 1)
  pass_timely departures n late h g = late.each (p - 1) (omega arith) (omega arith)

  module _ (q leaving high : List ℕ) (k : Passed w e d (drop p (order w)) q leaving high) where
    pub pass_next : begin < p → Passed w e d (drop (p - 1 + 1) (order w)) q leaving high
    pass_next h =
        let back : p ≡ p - 1 + 1 = omega arith in
        subst (λ m. Passed w e d (drop m (order w)) q leaving high) back k

    pub pass_last : begin ≤ p → p ≤ begin → Passed w e d (drop begin (order w)) q leaving high
    pass_last h g =
        let last : p ≡ begin = omega arith in
        subst (λ m. Passed w e d (drop m (order w)) q leaving high) last k
