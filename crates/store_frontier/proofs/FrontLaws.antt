-- The loops over the arrivals of a station: what they read lies inside, and what they keep.
use mathlib.Core.Path.{◌≡◌, sym, ap, subst, ◌∙◌}
use mathlib.Core.Bool.{Bool, true, false}
use mathlib.Core.List.{List}
use Prim.Native.Nat.{ℕ, ◌+◌, ◌-◌, ◌≤◌, ◌<◌, min}
use native.Mathlib.Omega.{arith}
use lib.ListN.{length, get_or, set}
use Rattle.timetable.specs.Timetable.{Stop}
use Rattle.timetable.specs.Words.{station_count, stop_at}
use Rattle.store_stops.specs.Stopwise.{arrive}
use Rattle.store_stops.specs.Settled.{Timely}
use Rattle.store_frontier.specs.Arrivals.{Arrivals, Held, Run, held_part, run_of}
use Rattle.store_frontier.specs.Allowing.{top_of, Allowing, allowing_more, allowing_all, AllowsAhead}
use Rattle.store_frontier.specs.Front.{
  Least,
  MinuteTo,
  MinuteEnd,
  minute_out,
  mark_of,
  Marked,
  LeftOut,
  left_dear,
  left_words,
  left_none,
  Fronted,
  Fronting,
  least_more,
  marked_more,
  fronting_none,
  fronting_out,
  fronting_more,
}

pub minute_is : (w arrivals : List ℕ) (r j : ℕ) (s : Stop) → j ≡ get_or arrivals r 0 → s ≡ stop_at w j
    → s.arrive ≡ arrive w (get_or arrivals r 0)
minute_is w arrivals r j s is-j is-s = ap (λ (z : Stop). z.arrive) is-s ∙ ap (arrive w) is-j

-- ---- places
module _ (arrivals : List ℕ) (p q r : ℕ) (held : Held arrivals p q) (on : r < q) where
  pub place_inside : r < length arrivals
  place_inside = omega (arith, held.inside)

  pub stop_inside : (v : List ℕ) (j : ℕ) → p ≤ r → length v ≡ 2048 → j ≡ get_or arrivals r 0 → j < length v
  stop_inside v j a long is-j = omega (arith, held.stop r a on)

  pub stop_inside_now : (v v₀ : List ℕ) (j : ℕ) → p ≤ r → length v₀ ≡ 2048 → length v ≡ length v₀
      → j ≡ get_or arrivals r 0 → j < length v
  stop_inside_now v v₀ j a long same is-j = omega (arith, held.stop r a on)

pub held_ordered : (arrivals : List ℕ) (p q : ℕ) → Held arrivals p q → p ≤ q
held_ordered arrivals p q held = held.ordered

module _ (w arrivals : List ℕ) (p end : ℕ) (run : Run w arrivals p end) where
  module _ (b : p < end) where
    pub first_place_lem : p < length arrivals
    first_place_lem = omega (arith, run.held.inside)

    pub first_stop : get_or arrivals p 0 < 2048
    first_stop = run.held.stop p (omega arith) b

  module _ (q : ℕ) (m : MinuteTo w arrivals p q) (n : q < end) where
    pub next_place : q < length arrivals
    next_place = omega (arith, run.held.inside)

    pub next_stop : get_or arrivals q 0 < 2048
    next_stop = run.held.stop q (omega (arith, m.later)) n

-- no minute ends the arrivals
pub minute_last : (w arrivals : List ℕ) (p q end : ℕ) → MinuteTo w arrivals p q → q ≤ end → end ≤ q
    → MinuteEnd w arrivals p end end
minute_last w arrivals p q end m h g =
    let last : q ≡ end = omega arith in
    subst (λ n. MinuteEnd w arrivals p end n) last (minute_out w arrivals p q m end last)

-- ---- the least
module _ (arrivals v : List ℕ) (top p q r low : ℕ) (l : Least arrivals v top p r low) where
  pub least_turn : (j u x : ℕ) → p ≤ r → j ≡ get_or arrivals r 0 → u ≡ get_or v j 0 → x ≡ min low u
      → Least arrivals v top p (r + 1) x
  least_turn j u x a is-j is-u is_x =
      subst
      (Least arrivals v top p (r + 1))
      (sym (is_x ∙ ap (λ k. min low k) (is-u ∙ ap (λ k. get_or v k 0) is-j)))
      (least_more arrivals v top p r low a l)

  pub least_all : r ≤ q → q ≤ r → Least arrivals v top p q low
  least_all a b =
      let done : r ≡ q = omega arith in
      subst (λ k. Least arrivals v top p k low) done l

-- ---- marks
module _ (arrivals : List ℕ) (before low p q r : ℕ) (v v' : List ℕ) (m : Marked arrivals before low p r v v') where
  pub mark_turn : (v'' : List ℕ) (j u x : ℕ) → Held arrivals p q → p ≤ r → r < q → length v ≡ 2048
      → j ≡ get_or arrivals r 0 → u ≡ get_or v' j 0 → x ≡ mark_of before low u → v'' ≡ set v' j x
      → Marked arrivals before low p (r + 1) v v''
  mark_turn v'' j u x held a b long is-j is-u is_x is =
      subst
      (Marked arrivals before low p (r + 1) v)
      (sym (is ∙ ap (λ k. set v' k x) is-j))
      (marked_more arrivals q before low p held v r u x v' a b long m (is-u ∙ ap (λ k. get_or v' k 0) is-j) is_x)

  pub marks_all : r ≤ q → q ≤ r → Marked arrivals before low p q v v'
  marks_all a b =
      let done : r ≡ q = omega arith in
      subst (λ k. Marked arrivals before low p k v v') done m

-- ---- the end of a minute
module _ (w arrivals : List ℕ) (begin end p : ℕ) (run : Run w arrivals begin end) (a : begin ≤ p) where
  pub run_from : p < end → Run w arrivals p end
  run_from b =
      record {
        held = held_part arrivals begin end run.held p end a (omega arith) (omega arith);
        rising = (λ r s h g k. run.rising r s (omega arith) g k);
      }

  module _ (q : ℕ) (m : MinuteEnd w arrivals p end q) where
    pub minute_held : Held arrivals p q
    minute_held = held_part arrivals begin end run.held p q a (omega (arith, m.minute.later)) m.most

    pub end_behind : begin ≤ q
    end_behind = omega (arith, m.minute.later)

module _ (w arrivals : List ℕ) (p end q : ℕ) (m : MinuteEnd w arrivals p end q) where
  pub end_most : q ≤ end
  end_most = m.most

  pub end_nearer : p < end → end - q < end - p
  end_nearer h = omega (arith, m.minute.later)

pub run_ordered : (w arrivals : List ℕ) (begin end : ℕ) → Run w arrivals begin end → begin ≤ end
run_ordered w arrivals begin end r = r.held.ordered

pub front_first : (w arrivals : List ℕ) (begin end top : ℕ) (v : List ℕ) → Run w arrivals begin end
    → Fronting w arrivals begin end top v begin top v
front_first w arrivals begin end top v r = fronting_none w arrivals begin end top v r.held.ordered

-- ---- an arrival that is left out, and one that is not
module _ (w arrivals : List ℕ) (begin end p : ℕ) (run : Run w arrivals begin end) (on : p < end) where
  pub arrival_inside : p < length arrivals
  arrival_inside = omega (arith, run.held.inside)

  module _ (v v' : List ℕ) (long : length v ≡ 2048) (same : length v' ≡ length v) where
    pub arrival_stop : begin ≤ p → get_or arrivals p 0 < length v'
    arrival_stop a = omega (arith, run.held.stop p a on)

    module _ (top low : ℕ) (f : Fronting w arrivals begin end top v p low v') (out : Bool) (v₁ : List ℕ)
        (o : LeftOut arrivals low p v' out v₁) where
      pub front_out : out ≡ true → Fronting w arrivals begin end top v (p + 1) low v₁
      front_out e =
          subst
          (Fronting w arrivals begin end top v (p + 1) low)
          (sym (left_words arrivals low p v' out v₁ o e))
          (fronting_out w arrivals begin end top v run p low v' on f
          (left_dear arrivals low p v' out v₁ o e)
          (same ∙ long))

      pub front_minute : out ≡ false → (q low' : ℕ) (v'' : List ℕ) → MinuteEnd w arrivals p end q
          → Least arrivals v₁ low p q low' → Marked arrivals low low' p q v₁ v''
          → Fronting w arrivals begin end top v q low' v''
      front_minute e =
          fronting_more w arrivals begin end top v run p low v₁ on
          (subst
          (Fronting w arrivals begin end top v p low)
          (sym (left_none arrivals low p v' out v₁ o e))
          f)

-- ---- all stations
module _
    (w arrivals first : List ℕ)
    (c : ℕ)
    (few : station_count w ≤ 64)
    (s : Arrivals w arrivals first)
    (on : c ≤ station_count w)
  where
    pub first_inside : c < length first
    first_inside = omega (arith, s.long_first)

    pub next_inside : c + 1 < length first
    next_inside = omega (arith, s.long_first)

module _ (w arrivals first : List ℕ) (c begin end : ℕ) (is-begin : begin ≡ get_or first c 0)
    (is-end : end ≡ get_or first (c + 1) 0) where
  pub part_run : Arrivals w arrivals first → 1 ≤ c → c ≤ station_count w → Timely w → Run w arrivals begin end
  part_run s some on t = rw (is-begin, is-end) (run_of w arrivals first s c some on t)

  pub part_fronted : (v v' : List ℕ) (source top : ℕ) → top ≡ top_of c source
      → Fronted w arrivals begin end top v end v'
      → Fronted w arrivals (get_or first c 0) (get_or first (c + 1) 0) (top_of c source) v (get_or first (c + 1) 0) v'
  part_fronted v v' source top is-top f = rw (is-begin, is-end, is-top) at f

module _ (w : List ℕ) (source : ℕ) (v : List ℕ) (c stations : ℕ) (v' : List ℕ) (t : Timely w)
    (is : stations ≡ station_count w) (k : Allowing w source v c v') where
  pub station_listed : c < stations + 1 → c ≤ station_count w
  station_listed h = omega arith

  pub stations_more : (arrivals first v'' : List ℕ) → Arrivals w arrivals first → 1 ≤ c → c < stations + 1
      → Fronted w arrivals (get_or first c 0) (get_or first (c + 1) 0) (top_of c source) v' (get_or first (c + 1) 0) v''
      → Allowing w source v (c + 1) v''
  stations_more arrivals first v'' s some on f =
      allowing_more w source v t arrivals first s c some (omega arith) v' v'' k f

  pub stations_all : stations + 1 ≤ c → AllowsAhead w source v v'
  stations_all h = allowing_all w source v t c v' (omega arith) k
