-- "the first trip of the line that leaves at or after the minute"
use Rattle.std.specs.Prelude.{List, ℕ, leb}
use Rattle.lists.specs.First.{first_from}
use Rattle.lines_lookup.specs.Lookup.{Line, depart_at}

-- the place on line l of the first trip that leaves place x at minute u or later, or the number of its trips
abbrev pub first_trip : List ℕ → Line → (x u : ℕ) → ℕ
first_trip v l x u = first_from (λ j. leb u (depart_at v l x j)) 0 l.trips
