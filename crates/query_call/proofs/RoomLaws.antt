-- Working space is as long as the questions asked for.
use mathlib.Core.Path.{◌≡◌}
use mathlib.Core.List.{List}
use Prim.Native.Nat.{ℕ, ◌≤◌}
use native.Mathlib.Omega.{arith}
use lib.ListN.{length}
use Rattle.lines_check.specs.Asked.{query_number}
use Rattle.lines_check.specs.Yes.{yes_all}

module _ (w v work : List ℕ) (a b u : ℕ) (all : query_number w v (length work) a b u ≡ 0) where
  pub work_room : 16384 ≤ length work
  work_room = (yes_all w v (length work) a b u all).slices.work

  pub words_long : 1 ≤ length w
  words_long = omega (arith, (yes_all w v (length work) a b u all).slices.words)

  pub minutes_room : (after : List ℕ) → length after ≡ length work → 2880 ≤ length after
  minutes_room after e = omega (arith, work_room)
