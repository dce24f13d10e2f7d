-- What the code asks of one walk at a time.
use Rattle.std.specs.Prelude.{Bool, ◌&&◌, ◌||◌, List, ℕ, ◌+◌, leb}
use Rattle.timetable.specs.Timetable.{valid_walk, walk_before}
use Rattle.timetable.specs.Words.{walk_at}

-- walk k is valid, of n stations, and comes before the next one of so many
unfoldable pub walk_stands : List ℕ → (n k walks : ℕ) → Bool
walk_stands w n k walks =
    valid_walk n (walk_at w k) && (leb walks (k + 1) || walk_before (walk_at w k) (walk_at w (k + 1)))
