-- A worked case: the seven lines that document 01, "A whole listing", shows for timetable M, byte by byte. For a
-- reader.
use Rattle.std.specs.Prelude.{◌≡◌, refl, List, [], ◌∷◌, ◌++◌, ℕ}
use Rattle.std.proofs.Common.{ap}
use Rattle.listing_printing.specs.Lines.{spelled, fields, line_of, lines_from, answered, refused_line}

-- `Q,1,3,470,2`
abbrev pub asked : List ℕ
asked = 81 ∷ 44 ∷ 49 ∷ 44 ∷ 51 ∷ 44 ∷ 52 ∷ 55 ∷ 48 ∷ 44 ∷ 50 ∷ 10 ∷ []

-- `C,50,10,2`
abbrev pub quick : List ℕ
quick = 67 ∷ 44 ∷ 53 ∷ 48 ∷ 44 ∷ 49 ∷ 48 ∷ 44 ∷ 50 ∷ 10 ∷ []

-- `R,1,1,2`
abbrev pub first_ride : List ℕ
first_ride = 82 ∷ 44 ∷ 49 ∷ 44 ∷ 49 ∷ 44 ∷ 50 ∷ 10 ∷ []

-- `R,2,1,2`
abbrev pub second_ride : List ℕ
second_ride = 82 ∷ 44 ∷ 50 ∷ 44 ∷ 49 ∷ 44 ∷ 50 ∷ 10 ∷ []

-- `C,90,0,1`
abbrev pub slow : List ℕ
slow = 67 ∷ 44 ∷ 57 ∷ 48 ∷ 44 ∷ 48 ∷ 44 ∷ 49 ∷ 10 ∷ []

-- `R,1,1,3`
abbrev pub only_ride : List ℕ
only_ride = 82 ∷ 44 ∷ 49 ∷ 44 ∷ 49 ∷ 44 ∷ 51 ∷ 10 ∷ []

-- `N,1,3,481,14`
abbrev pub none : List ℕ
none = 78 ∷ 44 ∷ 49 ∷ 44 ∷ 51 ∷ 44 ∷ 52 ∷ 56 ∷ 49 ∷ 44 ∷ 49 ∷ 52 ∷ 10 ∷ []

-- no row is left, whatever words stand past the result
past : (rest : List ℕ) → lines_from rest 0 0 ≡ []
unfolding lines_from
past [] = refl
past (a ∷ []) = refl
past (a ∷ b ∷ []) = refl
past (a ∷ b ∷ c ∷ rest) = refl

-- the first query, from the words of its answer: 50,10,2 with the rides 1,1,2 and 2,1,2, and 90,0,1 with the ride 1,1,3
pub rows_shown : (rest : List ℕ)
    → answered 1 3 470 2 (50 ∷ 10 ∷ 2 ∷ 1 ∷ 1 ∷ 2 ∷ 2 ∷ 1 ∷ 2 ∷ 90 ∷ 0 ∷ 1 ∷ 1 ∷ 1 ∷ 3 ∷ rest)
    ≡ asked ++ quick ++ first_ride ++ second_ride ++ slow ++ only_ride
unfolding answered lines_from line_of fields spelled
rows_shown rest = ap (λ l. asked ++ quick ++ first_ride ++ second_ride ++ slow ++ only_ride ++ l) (past rest)

-- the second query
pub none_shown : refused_line 1 3 481 14 ≡ none
unfolding line_of fields spelled
none_shown = refl
