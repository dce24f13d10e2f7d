-- One word at a time: the label of a departure of the source, and a flag that is raised.
use mathlib.Core.Path.{◌≡◌}
use mathlib.Core.List.{List}
use Prim.Native.Nat.{ℕ, ◌≤◌, ◌<◌}
use borrow.Author.Tests.{lt-ltb, le-ltb}
use lib.Dec.{ltb}
use lib.ListN.{set}
use Rattle.timetable.specs.Timetable.{Stop}
use Rattle.timetable.specs.Words.{stop_at}
use Rattle.store_stops.specs.Stopwise.{depart, unreached}
use Rattle.store_marks.specs.Arrays.{raised}
use Rattle.store_marks.specs.Riding.{root_label}

module _ (w : List ℕ) (g d : ℕ) (s : Stop) (is : s ≡ stop_at w g) where
  pub early : s.depart < d → unreached ≡ root_label w d g
  unfolding root_label
  early h = rw (lt-ltb (depart w g) d (rw is at h))

  pub late : d ≤ s.depart → 0 ≡ root_label w d g
  unfolding root_label
  late h = rw (le-ltb (depart w g) d (rw is at h))

module _ (l : List ℕ) (k a b : ℕ) where
  pub raised_up : a < b → set l k 1 ≡ raised (ltb a b) k l
  unfolding raised
  raised_up h = rw (lt-ltb a b h)

  pub raised_not : b ≤ a → l ≡ raised (ltb a b) k l
  unfolding raised
  raised_not h = rw (le-ltb a b h)
