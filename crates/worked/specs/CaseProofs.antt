-- The theorem of Cases. The variants' texts are read by computation; each reply then follows by Replied from the rows,
-- stores and lines that are worked out in the crates below.
use Rattle.std.specs.Prelude.{◌≡◌, true, List, [], ◌∷◌, ◌++◌, map, ℕ, ◌+◌, ◌*◌, ◌-◌, ◌≤◌, length, get_or, drop}
use Rattle.std.proofs.Math.Path.{refl}
use Rattle.std.proofs.Common.{sym, ap, ◌∙◌, arith, le-leb}
use Rattle.std.proofs.lemmas.List.{length-map}
use Rattle.timetable.specs.Timetable.{number_of}
use Rattle.timetable.specs.Words.{words}
use Rattle.timetable.specs.Worked.{variant, M}
use Rattle.reading.specs.Reading.{Accepted, reading, read_reply, read_words}
use Rattle.accepted.specs.Cases.{bytes, read_all, text_m, M_accepted, M_words, case_k}
use Rattle.results.specs.Results.{dominates, equal, entries, result}
use Rattle.connections.specs.Rides.{may_board, may_alight, ride_points, rides_of}
use Rattle.connections.specs.Connections.{net, changes_of}
use Rattle.connections.specs.Planner.{tie_key, rows_of}
use Rattle.connections.specs.Worked.{one_ride, two_rides, case_a, case_a_none, case_g, case_h}
use Rattle.stores.specs.Words.{store_words, well_made}
use Rattle.stores.specs.Worked.{case_b, case_c, case_d, case_i}
use Rattle.lines.specs.Lines.{in_order, lines, calls}
use Rattle.lines.specs.DirectRides.{directs, direct_rows}
use Rattle.lines.specs.Worked.{case_e, case_f}
use Rattle.lines_tables.specs.Tables.{time_row, line_times, course_words, line_words, line_places, all_line_words}
use Rattle.lines_tables.specs.Tables.{call_pairs, all_call_pairs, call_places, table_words}
use Rattle.lines_tables.specs.Building.{line_count}
use Rattle.demands.specs.Cases.{from_1, from_2}
use Rattle.demands.specs.Cases.{cases as defined}
use Rattle.worked.specs.Calls.{Slices, Room, returned, read, timetable_after, tables_after, trips_of, store_slice}
use Rattle.worked.specs.Calls.{Stores, Shows, ShowsNone, Rides, RidesNone}
use Rattle.worked.specs.Cases.{text_with, Cases}
use Rattle.promises.specs.Packed.{packed_reply}
use Rattle.worked.specs.Replied.{
  Known,
  read_done,
  read_writes,
  built_done,
  build_writes,
  trips_handed,
  store_known,
  rows_known,
  none_known,
  kept_known,
  rides_known,
  no_rides,
}

-- ---- the texts
accepted_f : reading (text_with "3" "08:34") ≡ Accepted (variant 3 514) 10
unfolding read_all bytes text_with variant
accepted_f = refl

accepted_i : reading (text_with "4" "08:40") ≡ Accepted (variant 4 520) 10
unfolding read_all bytes text_with variant
accepted_i = refl

with_M : text_with "3" "08:40" ≡ text_m
unfolding text_with text_m bytes
with_M = refl

-- ---- stations, lines and words
three_stations : length M.stations ≡ 3
unfolding M variant
three_stations = refl

lines_M : line_count M ≡ 2
lines_M = sym (length-map (lines M.trips) (map (number_of M))) ∙ ap length case_e

words_long : length (words M) ≡ 55
words_long = ap length M_words

tables_long : length (table_words M) ≡ 56
unfolding
    table_words
    line_places
    all_line_words
    line_words
    course_words
    ride_points
    line_times
    time_row
    call_places
    all_call_pairs
    call_pairs
    calls
    lines
    in_order
    M
    variant
tables_long = refl

-- ---- direct rides
direct_g : direct_rows (net M) 2 501 3 ≡ one_ride 14 0 3 1 2 ∷ []
unfolding M variant rides_of may_board may_alight ride_points changes_of direct_rows directs entries result dominates
    equal
    rows_of tie_key
direct_g = refl

direct_h : direct_rows (net M) 2 503 3 ≡ one_ride 17 0 2 1 2 ∷ []
unfolding M variant rides_of may_board may_alight ride_points changes_of direct_rows directs entries result dominates
    equal
    rows_of tie_key
direct_h = refl

direct_none : directs (net M) 1 481 3 ≡ []
unfolding M variant rides_of may_board may_alight ride_points changes_of directs
direct_none = refl

-- ---- the calls on M
pub known_M : Known text_m M 10 2
known_M = record { accepted = M_accepted; counted = lines_M; few_lines = omega arith; few_counted = omega arith }

known_f : Known (text_with "3" "08:34") (variant 3 514) 10 3
known_f = record { accepted = accepted_f; counted = case_f; few_lines = omega arith; few_counted = omega arith }

lines_i : line_count (variant 4 520) ≡ 2
unfolding variant lines in_order
lines_i = refl

known_i : Known (text_with "4" "08:40") (variant 4 520) 10 2
known_i = record { accepted = accepted_i; counted = lines_i; few_lines = omega arith; few_counted = omega arith }

module _ (s : Slices) where
  store_of : (a x y : ℕ) (rest : List ℕ) → store_words (net M) a ≡ x ∷ y ∷ rest → 1 ≤ a → a ≤ 3
      → x + y ≤ 4 → 2 + 3 * x + 2 * y ≡ length (x ∷ y ∷ rest) → Stores s text_m a (x ∷ y ∷ rest)
  store_of a x y rest known h g few counted =
      store_known s text_m M 10 2 known_M a x y rest known h (omega (arith, three_stations))
      (omega arith) (omega arith) counted

  store_b : Stores s text_m 1 (1 ∷ 3 ∷ 2 ∷ 2 ∷ 0 ∷ 2 ∷ 0 ∷ 3 ∷ 0 ∷ 3 ∷ 1 ∷ [])
  store_b = store_of 1 1 3 _ case_b (omega arith) (omega arith) (omega arith) refl

  store_c : Stores s text_m 2 (0 ∷ 1 ∷ 3 ∷ 0 ∷ [])
  store_c = store_of 2 0 1 _ case_c (omega arith) (omega arith) (omega arith) refl

  store_d : Stores s text_m 3 (0 ∷ 0 ∷ [])
  store_d = store_of 3 0 0 _ case_d (omega arith) (omega arith) (omega arith) refl

  store_i : Stores s (text_with "4" "08:40") 1 (0 ∷ 2 ∷ 2 ∷ 0 ∷ 3 ∷ 0 ∷ [])
  unfolding variant
  store_i =
      store_known s (text_with "4" "08:40") (variant 4 520) 10 2 known_i 1 0 2 _ case_i
      (omega arith) (omega arith) (omega arith) (omega arith) refl

  rows_j : (post : List ℕ) → Shows s text_m (0 ∷ 1 ∷ 3 ∷ 0 ∷ post) 1 3 470 (one_ride 90 0 1 1 3 ∷ [])
  rows_j post =
      kept_known s text_m M 10 2 known_M (0 ∷ 1 ∷ 3 ∷ 0 ∷ post) 1 3 470 (from_1 470 (omega arith))
      (defined.j_well_made post) (one_ride 90 0 1 1 3) [] (defined.j post)

  rides_g : Rides s text_m 2 3 501 (one_ride 14 0 3 1 2 ∷ [])
  rides_g = rides_known s text_m M 10 2 known_M 2 3 501 (from_2 501 (omega arith)) (one_ride 14 0 3 1 2) [] direct_g

  rides_h : Rides s text_m 2 3 503 (one_ride 17 0 2 1 2 ∷ [])
  rides_h = rides_known s text_m M 10 2 known_M 2 3 503 (from_2 503 (omega arith)) (one_ride 17 0 2 1 2) [] direct_h

  rides_none : RidesNone s text_m 1 3 481
  rides_none = no_rides s text_m M 10 2 known_M 1 3 481 (from_1 481 (omega arith)) direct_none

  trips_e : (line : ℕ) → 1 ≤ line → line ≤ 2
      → trips_of s text_m line ≡ get_or ((1 ∷ []) ∷ (3 ∷ 2 ∷ []) ∷ []) (line - 1) []
  trips_e line h g =
      trips_handed s text_m M 10 2 known_M line h (omega (arith, lines_M))
      ∙ ap (λ l. get_or l (line - 1) []) case_e

  words_m : timetable_after s text_m ≡ words M ++ drop 55 s.timetable
  words_m = read_writes s text_m M 10 2 known_M ∙ ap (λ k. words M ++ drop k s.timetable) words_long

  words_e : tables_after s text_m ≡ table_words M ++ drop 56 s.tables
  words_e = build_writes s text_m M 10 2 known_M ∙ ap (λ k. table_words M ++ drop k s.tables) tables_long

  reply_k : read s [] ≡ returned 7 1
  unfolding read_reply packed_reply
  reply_k = rw (le-leb 16384 (length s.timetable) s.timetable_long, case_k)

  words_k : timetable_after s [] ≡ s.timetable
  unfolding read_words
  words_k = rw (le-leb 16384 (length s.timetable) s.timetable_long, case_k)

  -- ---- where there is room
  module _ (room : Room s 11 15) where
    stored_four : 4 ≤ length s.store
    stored_four = omega (arith, room.store_long)

    shown_six : 6 ≤ length s.answer
    shown_six = omega (arith, room.answer_long)

    rows_a : Shows s text_m (store_slice s text_m 1) 1 3 470 (two_rides 50 10 1 1 2 2 1 2 ∷ one_ride 90 0 1 1 3 ∷ [])
    rows_a =
        rows_known s text_m M 10 2 known_M 1 3 470 (omega (arith, store_b.done room.store_long))
        (from_1 470 (omega arith)) (two_rides 50 10 1 1 2 2 1 2) (one_ride 90 0 1 1 3 ∷ []) case_a

    none_a : ShowsNone s text_m (store_slice s text_m 1) 1 3 481
    none_a =
        none_known s text_m M 10 2 known_M 1 3 481 (omega (arith, store_b.done room.store_long))
        (from_1 481 (omega arith)) case_a_none

    rows_g : Shows s text_m (store_slice s text_m 2) 2 3 501 (one_ride 14 0 3 1 2 ∷ [])
    rows_g =
        rows_known s text_m M 10 2 known_M 2 3 501 (omega (arith, store_c.done stored_four))
        (from_2 501 (omega arith)) (one_ride 14 0 3 1 2) [] case_g

    rows_h : Shows s text_m (store_slice s text_m 2) 2 3 503 (one_ride 17 0 2 1 2 ∷ [])
    rows_h =
        rows_known s text_m M 10 2 known_M 2 3 503 (omega (arith, store_c.done stored_four))
        (from_2 503 (omega arith)) (one_ride 17 0 2 1 2) [] case_h

well_j : (post : List ℕ) → well_made 3 (0 ∷ 1 ∷ 3 ∷ 0 ∷ post) ≡ true
well_j post = ap (λ k. well_made k (0 ∷ 1 ∷ 3 ∷ 0 ∷ post)) (sym three_stations) ∙ defined.j_well_made post

-- the theorem, where there is room for the longest store and answer
pub cases : (s : Slices) → Room s 11 15 → Cases s
cases s room =
    record {
      m = read_done s text_m M 10 2 known_M;
      m_words = words_m s;
      m_with = with_M;
      a = (rows_a s room).done room.answer_long;
      a_words = (rows_a s room).words room.answer_long;
      a_none = (none_a s room).number_is;
      a_none_words = (none_a s room).kept;
      b = (store_b s).done room.store_long;
      b_words = (store_b s).words room.store_long;
      c = (store_c s).done (stored_four s room);
      c_words = (store_c s).words (stored_four s room);
      d = (store_d s).done (omega (arith, room.store_long));
      d_words = (store_d s).words (omega (arith, room.store_long));
      e = built_done s text_m M 10 2 known_M;
      e_words = words_e s;
      e_first = trips_e s 1 (omega arith) (omega arith);
      e_second = trips_e s 2 (omega arith) (omega arith);
      f = built_done s (text_with "3" "08:34") (variant 3 514) 10 3 known_f;
      g = (rows_g s room).done (shown_six s room);
      g_words = (rows_g s room).words (shown_six s room);
      h = (rows_h s room).done (shown_six s room);
      h_words = (rows_h s room).words (shown_six s room);
      g_direct = (rides_g s).done (shown_six s room);
      g_direct_words = (rides_g s).words (shown_six s room);
      h_direct = (rides_h s).done (shown_six s room);
      h_direct_words = (rides_h s).words (shown_six s room);
      a_direct_none = (rides_none s).number_is;
      a_direct_none_words = (rides_none s).kept;
      i = (store_i s).done (omega (arith, room.store_long));
      i_words = (store_i s).words (omega (arith, room.store_long));
      j_well_made = well_j;
      j = λ post. (rows_j s post).done (shown_six s room);
      j_words = λ post. (rows_j s post).words (shown_six s room);
      k = reply_k s;
      k_words = words_k s;
    }
