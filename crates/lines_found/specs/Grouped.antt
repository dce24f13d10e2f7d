-- How the code keeps the lines: their trips, line by line, in one array, and where each line ends in another.
use Rattle.std.specs.Prelude.{List, [], ◌∷◌, ℕ, ◌+◌, length}

-- where each line ends, k trips standing before the first
unfoldable pub ends_from : ℕ → List (List ℕ) → List ℕ
ends_from k [] = []
ends_from k (l ∷ ls) = (k + length l) ∷ ends_from (k + length l) ls
