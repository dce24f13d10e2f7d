-- The loop over the walks of a station that looks for the one to another, and what is made of it.
use mathlib.Core.Path.{◌≡◌, sym, ap, ◌∙◌}
use mathlib.Core.Bool.{true}
use mathlib.Core.List.{List}
use Prim.Native.Nat.{ℕ, ◌+◌, ◌-◌, ◌≤◌, ◌<◌}
use native.Mathlib.Omega.{arith}
use borrow.Author.Tests.{eq-eqb, ne_eqb, lt-ltb, le-ltb}
use lib.Dec.{eqb}
use Rattle.lists.specs.First.{first_from, first_none, first_here, first_later}
use Rattle.timetable.specs.Timetable.{Station, Walk}
use Rattle.timetable.specs.Words.{station_count, station_at, walks_to, walk_at, is_timetable}
use Rattle.timetable.specs.Access.{stations_few}
use Rattle.timetable.specs.Walks.{walks_few, walks_rise}
use Rattle.timetable.specs.WalkTo.{walk_to, afoot, stay_at}

-- ---- the walks from station y
module _ (w : List ℕ) (y : ℕ) (accepted : is_timetable w ≡ true) (inside : y ≤ station_count w) where
  pub station_few : y ≤ 64
  station_few = omega (arith, stations_few w accepted)

  pub before_few : y - 1 ≤ 64
  before_few = omega (arith, station_few)

  pub place_few : 1 ≤ y → y - 1 < 64
  place_few h = omega (arith, station_few)

  pub begins_before : (end k : ℕ) → end ≡ walks_to w y → k ≡ walks_to w (y - 1) → k ≤ end
  begins_before end k is from = omega (arith, is, from, walks_rise w accepted (y - 1) y (omega arith) inside)

  pub walk_few : (end k : ℕ) → end ≡ walks_to w y → k < end → k < 256
  walk_few end k is h =
      omega (arith, is, walks_rise w accepted y (station_count w) inside (omega arith), walks_few w accepted)

-- ---- the one to station x
module _ (w : List ℕ) (y x end k : ℕ) where
  pub seek_begins : end ≡ walks_to w y → k ≡ walks_to w (y - 1)
      → walk_to w y x ≡ first_from (λ k. eqb (walk_at w k).to x) k (end - k)
  unfolding walk_to
  seek_begins e f = λ i. first_from (λ k. eqb (walk_at w k).to x) (sym f i) (sym e i - sym f i)

  module _ (so_far : walk_to w y x ≡ first_from (λ k. eqb (walk_at w k).to x) k (end - k)) where
    pub seek_none : end ≤ k → k ≡ walk_to w y x
    seek_none h = sym (so_far ∙ first_none (λ k. eqb (walk_at w k).to x) k end h)

    module _ (v : Walk) (more : k < end) (is : v ≡ walk_at w k) where
      pub seek_here : v.to ≡ x → k ≡ walk_to w y x
      seek_here e =
          let there = eq-eqb (walk_at w k).to x (ap (λ v. v.to) (sym is) ∙ e) in
          sym (so_far ∙ first_here (λ k. eqb (walk_at w k).to x) k end more there)

      pub seek_on : ¬ (v.to ≡ x) → walk_to w y x ≡ first_from (λ k. eqb (walk_at w k).to x) (k + 1) (end - (k + 1))
      seek_on e =
          let other = ne_eqb (walk_at w k).to x (λ q. e (ap (λ v. v.to) is ∙ q)) in
          so_far ∙ first_later (λ k. eqb (walk_at w k).to x) k end more other

-- ---- the change at station c itself
module _ (w : List ℕ) (c k end : ℕ) (is-k : k ≡ walk_to w c c) (is-end : end ≡ walks_to w c) where
  pub stays_kept : (s : Station) → end ≤ k → s ≡ station_at w (c - 1) → s ≡ stay_at w c
  unfolding stay_at
  stays_kept s h e =
      rw (le-ltb (walk_to w c c) (walks_to w c) (omega (arith, is-k, is-end))) e

  pub stays_afoot : (v : Walk) → k < end → v ≡ walk_at w k → afoot v ≡ stay_at w c
  unfolding stay_at
  stays_afoot v h e =
      rw (lt-ltb (walk_to w c c) (walks_to w c) (omega (arith, is-k, is-end))) (ap afoot (e ∙ ap (walk_at w) is-k))
