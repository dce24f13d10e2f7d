-- Where trips end, written one by one.
use mathlib.Core.Path.{◌≡◌, sym, ap, ◌∙◌}
use mathlib.Core.Bool.{true}
use mathlib.Core.List.{List, ◌∷◌, map}
use Prim.Native.Nat.{ℕ, suc, ◌+◌, ◌-◌, ◌≤◌, ◌<◌}
use native.Mathlib.Omega.{arith}
use lib.ListN.{length, take, drop, set, length-map}
use lib.Seq.{drop-cons}
use Rattle.words.specs.Put.{put, put_none}
use Rattle.words.specs.Written.{write_one, write_done}
use Rattle.lists.specs.Lists.{range}
use Rattle.lists.specs.Ranges.{length_range}
use Rattle.timetable.specs.Words.{trip_count, start_at, is_timetable}
use Rattle.timetable.specs.Access.{map_numbers, trips_few}
use Rattle.changes_places.specs.Runs.{ends_at, length_ends_at, starts_up}

pub place_few : (w : List ℕ) (k to : ℕ) → is_timetable w ≡ true → k ≤ to → to ≤ trip_count w → k ≤ 256
place_few w k to okay h g = omega (arith, trips_few w okay)

pub next_few : (w : List ℕ) (k to : ℕ) → is_timetable w ≡ true → k < to → to ≤ trip_count w → k + 1 ≤ 256
next_few w k to okay h g = omega (arith, trips_few w okay)

module _ (w : List ℕ) (okay : is_timetable w ≡ true) (from to k stops first end : ℕ) (low : from ≤ k) (h : k < to)
    (g : to ≤ trip_count w) (is-first : first ≡ start_at w from) (is-end : end ≡ start_at w (k + 1)) where
  pub end_after : first ≤ end
  end_after = omega (arith, starts_up w okay from (k + 1) (omega arith) (omega arith))

  pub end_small : stops + (start_at w to - start_at w from) ≤ 2048 → stops + (end - first) < 65536
  end_small few = omega (arith, starts_up w okay (k + 1) to (omega arith) g)

ends_left : (w : List ℕ) (from to stops k : ℕ) → from ≤ k → k < to
    → drop (k - from) (ends_at w from to stops)
    ≡ (stops + (start_at w (k + 1) - start_at w from)) ∷ drop (k + 1 - from) (ends_at w from to stops)
unfolding ends_at
ends_left w from to stops k low h =
    let f : ℕ → ℕ = λ j. stops + (start_at w (j + 1) - start_at w from) in
    let n = to - from in
    let inside : k - from < n = omega arith in
    let next : suc (k - from) ≡ k + 1 - from = omega arith in
    let here : from + (k - from) ≡ k = omega arith in
    let long : length (map f (range from n)) ≡ n = length-map (range from n) f ∙ length_range from n in
    let is = map_numbers f from n (k - from) (f 0) inside ∙ ap f here in
    drop-cons (map f (range from n)) (k - from) (f 0) (omega (arith, long))
    ∙ (λ i. is i ∷ drop (next i) (map f (range from n)))

module _ (w old starts : List ℕ) (from to stops trips k : ℕ) (low : from ≤ k) (room : length old ≡ 257)
    (fits : trips + (to - from) ≤ 256)
    (held : starts ≡ put (trips + 1) (take (k - from) (ends_at w from to stops)) old) where
  pub end_more : k < to → (first end : ℕ) → first ≡ start_at w from → end ≡ start_at w (k + 1)
      → set starts (trips + 1 + (k - from)) (stops + (end - first))
      ≡ put (trips + 1) (take (k + 1 - from) (ends_at w from to stops)) old
  end_more h first end is-first is-end =
      let long = length_ends_at w from to stops in
      let next : k - from + 1 ≡ k + 1 - from = omega arith in
      let same : stops + (end - first) ≡ stops + (start_at w (k + 1) - start_at w from) =
      λ i. stops + (is-end i - is-first i) in
      ap (set starts (trips + 1 + (k - from))) same
      ∙ write_one (ends_at w from to stops) old starts (trips + 1) (k - from) held (omega arith)
      (stops + (start_at w (k + 1) - start_at w from)) (drop (k + 1 - from) (ends_at w from to stops))
      (ends_left w from to stops k low h)
      ∙ ap (λ j. put (trips + 1) (take j (ends_at w from to stops)) old) next

  pub ends_done : k ≤ to → to ≤ k → starts ≡ put (trips + 1) (ends_at w from to stops) old
  ends_done h g =
      write_done (ends_at w from to stops) old starts (trips + 1) (k - from) held
      (omega (arith, length_ends_at w from to stops)) (omega (arith, length_ends_at w from to stops))

pub ends_first : (w old : List ℕ) (from to stops trips : ℕ)
    → old ≡ put (trips + 1) (take (from - from) (ends_at w from to stops)) old
ends_first w old from to stops trips =
    let none : from - from ≡ 0 = omega arith in
    sym (ap (λ j. put (trips + 1) (take j (ends_at w from to stops)) old) none ∙ put_none (trips + 1) old)
