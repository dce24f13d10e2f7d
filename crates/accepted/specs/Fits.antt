-- How many words a valid timetable takes: it fits the slice that is lent for it.
use Rattle.std.specs.Prelude.{◌≡◌, refl, true, List, [], ◌∷◌, ℕ, suc, ◌+◌, ◌*◌, ◌≤◌, length}
use Rattle.std.proofs.Common.{length-append, arith, le-leb}
use Rattle.timetable.specs.Timetable.{stations_most, walks_most, trips_most, stops_most, Walk, Timetable}
use Rattle.timetable.specs.Timetable.{stops_of, valid_walks, valid}
use Rattle.timetable.specs.Words.{count_to, words}
use Rattle.timetable.specs.WordLaws.{length_station_words, length_stop_words, length_start_words, length_foot_words}
use Rattle.timetable.specs.WordLaws.{length_walk_words}
use Rattle.accepted.specs.Valid.{valid_walk_lem, is_valid}
use Rattle.accepted.specs.SoFar.{walk_first, walks_rest}

-- the words of so many stations, trips, stops and walks
abbrev pub words_count : (stations trips stops walks : ℕ) → ℕ
words_count stations trips stops walks = 3 + 2 * stations + 5 * stops + suc trips + trips + suc stations + 4 * walks

-- 11,973
abbrev pub words_most : ℕ
words_most = words_count stations_most trips_most stops_most walks_most

pub length_words : (t : Timetable) → length t.numbers ≡ length t.trips
    → length (words t)
    ≡ words_count (length t.stations) (length t.trips) (length (stops_of t.trips)) (length t.walks)
unfolding words
length_words t many =
    simp (
      length-append,
      length_station_words,
      length_stop_words,
      length_start_words,
      length_foot_words,
      length_walk_words,
    )
    (omega arith)

pub words_most_lem : (t : Timetable) → valid t ≡ true → length (words t) ≤ words_most
words_most_lem t v = let w = is_valid t v in omega (arith, length_words t w.numbers)

-- the walks from stations up to the last are all walks
pub walks_listed : (n : ℕ) (l : List Walk) → valid_walks n l ≡ true → count_to l n ≡ length l
unfolding count_to
walks_listed n [] v = refl
walks_listed n (w ∷ l) v =
    rw (le-leb w.from n (valid_walk_lem n w (walk_first n w l v)).from_most)
    (omega (arith, walks_listed n l (walks_rest n w l v)))
