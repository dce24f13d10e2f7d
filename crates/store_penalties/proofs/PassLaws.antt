-- The loop over the order of departures: where it begins, and what it leaves behind.
use mathlib.Core.Path.{◌≡◌, ap, subst, ◌∙◌}
use mathlib.Core.List.Memᴰ
use mathlib.Core.List.{List}
use Prim.Native.Nat.{ℕ, ◌≤◌, ◌<◌}
use native.Mathlib.Omega.{arith}
use lib.ListN.{length, take, drop, replicate, length-take, take-append-drop}
use lib.Seq.{take_all}
use Rattle.lists.specs.Lists.{◌∈◌}
use Rattle.timetable.specs.Words.{station_count}
use Rattle.timetable.specs.Access.{stations_few}
use Rattle.store_stops.specs.Stopwise.{unreached}
use Rattle.store_stops.specs.Settled.{Settled}
use Rattle.store_departures.specs.Rising.{minute_at, Rising, Early, InTime, departures_rise, departures_early}
use Rattle.store_penalties.specs.Swept.{Swept}
use Rattle.store_penalties.specs.Sweeping.{Blank, blank, swept_early, settles}
use Rattle.store_penalties.specs.Arranged.{Arranged, departures}

pub low_blank : Blank 65 (replicate 65 unreached)
low_blank = blank 65 65 (omega arith)

module _ (w deps caught : List ℕ) (arranged : Arranged w deps caught) where
  pub stations_most_lem : station_count w ≤ 64
  stations_most_lem = stations_few w arranged.timetable

  module _ (n : ℕ) (is : n ≡ length (departures w)) where
    pub order_within : n ≤ length deps
    order_within = omega (arith, ap length arranged.departs, length-take (length (departures w)) deps)

    departs : take n deps ≡ departures w
    departs = ap (λ k. take k deps) is ∙ arranged.departs

    pub order_rises : Rising w deps 0 n
    order_rises = departures_rise w deps n departs order_within arranged.timely

    -- the departures before minute d are done, and no one has left
    pub begins : (a d begin : ℕ) (v q low : List ℕ) → begin ≤ n → Early w deps d 0 begin
        → Blank 2048 v → Blank 2048 q → Blank 65 low → Swept w a d (take begin (departures w)) v q low
    begins a d begin v q low within early =
        swept_early w a d (take begin (departures w)) arranged.timely
        (λ i m. arranged.ordered.goes i (listed i m))
        (departures_early w deps n departs d begin within early)
        v q low
      where
        listed : (i : ℕ) → i ∈ take begin (departures w) → i ∈ departures w
        listed i m =
            subst (λ l. i ∈ l) (take-append-drop begin (departures w))
            (Memᴰ.append_left (drop begin (departures w)) m)

    pub ends : (a d x : ℕ) (v q low : List ℕ) → n ≤ x → Swept w a d (take x (departures w)) v q low → Settled w a d v
    ends a d x v q low h s =
        settles w a d v q low arranged.ordered
        (subst (λ l. Swept w a d l v q low) (take_all x (departures w) (omega arith)) s)

pub in_time_lem : (w deps : List ℕ) (d begin n x : ℕ) → InTime w deps d begin n → begin ≤ x → x < n → d ≤ minute_at w
    deps x
in_time_lem w deps d begin n x late h g = late.each x h g
