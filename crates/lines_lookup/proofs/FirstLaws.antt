-- The loop that looks for the first trip: no trip before place j leaves in time.
use mathlib.Core.Path.{◌≡◌, sym, ◌∙◌}
use mathlib.Core.List.{List}
use Prim.Native.Nat.{ℕ, ◌+◌, ◌-◌, ◌≤◌, ◌<◌}
use native.Mathlib.Omega.{arith}
use borrow.Author.Tests.{le-leb, lt-leb}
use lib.Dec.{leb}
use Rattle.lines_lookup.specs.Lookup.{Line, depart_at}
use Rattle.lists.specs.First.{first_from, first_none, first_here, first_later}
use Rattle.lines_lookup.specs.First.{first_trip}

module _
    (v : List ℕ)
    (l : Line)
    (x u j : ℕ)
    (so_far : first_trip v l x u ≡ first_from (λ j. leb u (depart_at v l x j)) j (l.trips - j))
  where
    pub none_left : j ≤ l.trips → l.trips ≤ j → l.trips ≡ first_trip v l x u
    none_left g h =
        let all : l.trips ≡ j = omega arith in
        all ∙ sym (so_far ∙ first_none (λ j. leb u (depart_at v l x j)) j l.trips h)

    module _ (r : ℕ) (is : r ≡ depart_at v l x j) (more : j < l.trips) where
      pub found : u ≤ r → j ≡ first_trip v l x u
      found h =
          sym (so_far ∙ first_here (λ j. leb u (depart_at v l x j)) j l.trips more (le-leb u _ (rw is at h)))

      pub goes_on : r < u
          → first_trip v l x u ≡ first_from (λ j. leb u (depart_at v l x j)) (j + 1) (l.trips - (j + 1))
      goes_on h = so_far ∙ first_later (λ j. leb u (depart_at v l x j)) j l.trips more (lt-leb u _ (rw is at h))
