-- The theorem of Walks. The texts are read and the stores are worked out by computation; the rows are those of
-- connections/specs/Worked.antt.
use Rattle.std.specs.Prelude.{◌≡◌, true, false, ◌&&◌, List, [], ◌∷◌, ◌++◌, ℕ, leb, eqb, length, drop}
use Rattle.std.proofs.Math.Path.{refl}
use Rattle.std.proofs.Common.{ap, ◌∙◌, arith, le-leb}
use Rattle.timetable.specs.Timetable.{Timetable}
use Rattle.timetable.specs.Words.{station_words, stop_words, start_words, walk_words, count_to, foot_words, words}
use Rattle.timetable.specs.Worked.{variant, M}
use Rattle.reading.specs.Reading.{Accepted, reading}
use Rattle.accepted.specs.Cases.{bytes, read_all, text_m}
use Rattle.results.specs.Results.{dominates}
use Rattle.connections.specs.Rides.{may_board, may_alight, ride_points, rides_of}
use Rattle.connections.specs.Connections.{net, changes_of}
use Rattle.connections.specs.Planner.{connections, planner_list}
use Rattle.connections.specs.Worked.{planned, on_to_three, platform, along_two, round_at_end, round_at_start, same_trip}
use Rattle.connections.specs.Worked.{on_foot_lem, walk_alone, changed_rows, walked_to_target, walked_from_source}
use Rattle.connections.specs.Worked.{boarded_again}
use Rattle.stores.specs.Stored.{optimals, optimal_stations, stored}
use Rattle.stores.specs.Words.{nodes, arcs, encode, store_words, readable, well_made, kept_list}
use Rattle.lines.specs.Lines.{in_order, lines}
use Rattle.demands.specs.Cases.{from_1}
use Rattle.worked.specs.Calls.{Slices, Asks}
use Rattle.worked.specs.CaseProofs.{known_M}
use Rattle.worked.specs.Replied.{Known, query_known, read_done, read_writes, store_known, rows_known}
use Rattle.worked.specs.Replied.{kept_none, ill_made}
use Rattle.worked.specs.Walks.{
  text_on_foot,
  on_foot_words,
  text_platform,
  text_along_two,
  text_round_at_end,
  text_round_at_start,
  text_same_trip,
  WalkCases,
}

-- ---- the texts
on_foot_accepted : reading text_on_foot ≡ Accepted on_to_three 9
unfolding read_all bytes text_on_foot on_to_three
on_foot_accepted = refl

on_foot_spelled : words on_to_three ≡ on_foot_words
unfolding words station_words stop_words start_words walk_words count_to foot_words on_to_three
on_foot_spelled = refl

accepted_22 : reading (text_platform "00:22") ≡ Accepted (platform 22) 8
unfolding read_all bytes text_platform platform
accepted_22 = refl

accepted_25 : reading (text_platform "00:25") ≡ Accepted (platform 25) 8
unfolding read_all bytes text_platform platform
accepted_25 = refl

along_accepted : reading text_along_two ≡ Accepted along_two 11
unfolding read_all bytes text_along_two along_two M variant
along_accepted = refl

end_accepted : reading text_round_at_end ≡ Accepted round_at_end 10
unfolding read_all bytes text_round_at_end round_at_end
end_accepted = refl

start_accepted : reading text_round_at_start ≡ Accepted round_at_start 10
unfolding read_all bytes text_round_at_start round_at_start
start_accepted = refl

same_accepted : reading text_same_trip ≡ Accepted same_trip 9
unfolding read_all bytes text_same_trip same_trip
same_accepted = refl

-- ---- the stores
on_foot_stored : store_words (net on_to_three) 1 ≡ 1 ∷ 2 ∷ 2 ∷ 3 ∷ 0 ∷ 2 ∷ 0 ∷ 4 ∷ 1 ∷ []
unfolding on_to_three rides_of may_board may_alight ride_points changes_of planner_list connections dominates
    stored store_words encode nodes arcs optimal_stations optimals
on_foot_stored = refl

platform_stored : store_words (net (platform 25)) 1 ≡ 1 ∷ 2 ∷ 2 ∷ 2 ∷ 0 ∷ 2 ∷ 0 ∷ 3 ∷ 1 ∷ []
unfolding platform rides_of may_board may_alight ride_points changes_of planner_list connections dominates
    stored store_words encode nodes arcs optimal_stations optimals
platform_stored = refl

along_stored : (store_words (net along_two) 1 ≡ 0 ∷ 2 ∷ 2 ∷ 0 ∷ 3 ∷ 0 ∷ [])
    × (store_words (net along_two) 2 ≡ 0 ∷ 1 ∷ 3 ∷ 0 ∷ [])
    × (store_words (net along_two) 3 ≡ 0 ∷ 0 ∷ [])
unfolding along_two M variant rides_of may_board may_alight ride_points changes_of planner_list connections dominates
    stored store_words encode nodes arcs optimal_stations optimals
along_stored = (refl, refl, refl)

end_stored : store_words (net round_at_end) 1 ≡ 1 ∷ 3 ∷ 2 ∷ 3 ∷ 0 ∷ 2 ∷ 0 ∷ 3 ∷ 1 ∷ 4 ∷ 1 ∷ []
unfolding round_at_end rides_of may_board may_alight ride_points changes_of planner_list connections dominates
    stored store_words encode nodes arcs optimal_stations optimals
end_stored = refl

start_stored : store_words (net round_at_start) 1 ≡ 1 ∷ 2 ∷ 1 ∷ 3 ∷ 0 ∷ 2 ∷ 0 ∷ 4 ∷ 1 ∷ []
unfolding round_at_start rides_of may_board may_alight ride_points changes_of planner_list connections dominates
    stored store_words encode nodes arcs optimal_stations optimals
start_stored = refl

-- ---- what is known of each text
known_on_foot : Known text_on_foot on_to_three 9 2
unfolding on_to_three lines in_order
known_on_foot =
    record { accepted = on_foot_accepted; counted = refl; few_lines = omega arith; few_counted = omega arith }

known_22 : Known (text_platform "00:22") (platform 22) 8 2
unfolding platform lines in_order
known_22 = record { accepted = accepted_22; counted = refl; few_lines = omega arith; few_counted = omega arith }

known_25 : Known (text_platform "00:25") (platform 25) 8 2
unfolding platform lines in_order
known_25 = record { accepted = accepted_25; counted = refl; few_lines = omega arith; few_counted = omega arith }

known_along : Known text_along_two along_two 11 2
unfolding along_two M variant lines in_order
known_along = record { accepted = along_accepted; counted = refl; few_lines = omega arith; few_counted = omega arith }

known_end : Known text_round_at_end round_at_end 10 2
unfolding round_at_end lines in_order
known_end = record { accepted = end_accepted; counted = refl; few_lines = omega arith; few_counted = omega arith }

known_start : Known text_round_at_start round_at_start 10 2
unfolding round_at_start lines in_order
known_start = record { accepted = start_accepted; counted = refl; few_lines = omega arith; few_counted = omega arith }

known_same : Known text_same_trip same_trip 9 1
unfolding same_trip lines in_order
known_same = record { accepted = same_accepted; counted = refl; few_lines = omega arith; few_counted = omega arith }

-- ---- a store that names a walk that is not there, and one that names a station that is not
module _ (post : List ℕ) where
  abbrev walk_2_1 : List ℕ
  walk_2_1 = 1 ∷ 1 ∷ 2 ∷ 1 ∷ 0 ∷ 3 ∷ 1 ∷ post

  well_2_1 : well_made (length M.stations) walk_2_1 ≡ true
  unfolding well_made readable M variant
  well_2_1 = rw (le-leb 7 (length walk_2_1) (omega arith))

  none_2_1 : kept_list (net M) walk_2_1 1 470 3 ≡ []
  unfolding M variant rides_of may_board may_alight ride_points changes_of planner_list connections kept_list readable
  none_2_1 = refl

  ill_4 : well_made (length M.stations) (1 ∷ 1 ∷ 2 ∷ 4 ∷ 0 ∷ 3 ∷ 1 ∷ post) ≡ false
  unfolding well_made readable M variant
  ill_4 = rw (le-leb 7 (length (1 ∷ 1 ∷ 2 ∷ 4 ∷ 0 ∷ 3 ∷ 1 ∷ post)) (omega arith))

module _ (s : Slices) where
  -- a query at minute 0 from station 1 to one of k stations
  asks : (text : List ℕ) (t : Timetable) (n count k b : ℕ) → Known text t n count → length t.stations ≡ k
      → (leb 1 1 && leb 1 k) ≡ true → (leb 1 b && leb b k) ≡ true → eqb b 1 ≡ false
      → (x : List ℕ) → planned t 1 0 b ≡ x ∷ [] → Asks s text 1 b 0 (x ∷ [])
  asks text t n count k b known is from to other x rows done =
      rows_known s text t n count known 1 b 0 done (query_known t k 1 b 0 is from to other refl) x [] rows

-- the theorem
pub walk_cases : (s : Slices) → WalkCases s
unfolding on_to_three platform along_two M variant round_at_end round_at_start same_trip
walk_cases s =
    record {
      on_foot_text = read_done s text_on_foot on_to_three 9 2 known_on_foot;
      on_foot_words_lem =
          read_writes s text_on_foot on_to_three 9 2 known_on_foot
          ∙ ap (λ ws. ws ++ drop (length ws) s.timetable) on_foot_spelled;
      on_foot_store =
          store_known s text_on_foot on_to_three 9 2 known_on_foot 1 1 2 _ on_foot_stored
          (omega arith) (omega arith) (omega arith) (omega arith) refl;
      on_foot_lem = asks s text_on_foot on_to_three 9 2 4 4 known_on_foot refl refl refl refl _ on_foot_lem;
      platform_22 =
          asks s (text_platform "00:22") (platform 22) 8 2 3 3 known_22 refl refl refl refl _ walk_alone.0;
      platform_25 =
          asks s (text_platform "00:25") (platform 25) 8 2 3 3 known_25 refl refl refl refl _ walk_alone.1;
      platform_store =
          store_known s (text_platform "00:25") (platform 25) 8 2 known_25 1 1 2 _ platform_stored
          (omega arith) (omega arith) (omega arith) (omega arith) refl;
      along_store_1 =
          store_known s text_along_two along_two 11 2 known_along 1 0 2 _ along_stored.0
          (omega arith) (omega arith) (omega arith) (omega arith) refl;
      along_store_2 =
          store_known s text_along_two along_two 11 2 known_along 2 0 1 _ along_stored.1
          (omega arith) (omega arith) (omega arith) (omega arith) refl;
      along_store_3 =
          store_known s text_along_two along_two 11 2 known_along 3 0 0 _ along_stored.2
          (omega arith) (omega arith) (omega arith) (omega arith) refl;
      along_rows =
          λ done.
          rows_known s text_along_two along_two 11 2 known_along 1 3 470 done
          (query_known along_two 3 1 3 470 refl refl refl refl refl) _ [] changed_rows.0;
      at_end = asks s text_round_at_end round_at_end 10 2 4 3 known_end refl refl refl refl _ walked_to_target;
      at_end_store =
          store_known s text_round_at_end round_at_end 10 2 known_end 1 1 3 _ end_stored
          (omega arith) (omega arith) (omega arith) (omega arith) refl;
      at_start = asks s text_round_at_start round_at_start 10 2 4 4 known_start refl refl refl refl _
          walked_from_source;
      at_start_store =
          store_known s text_round_at_start round_at_start 10 2 known_start 1 1 2 _ start_stored
          (omega arith) (omega arith) (omega arith) (omega arith) refl;
      same_trip_lem = asks s text_same_trip same_trip 9 1 4 4 known_same refl refl refl refl _ boarded_again;
      no_such_walk =
          λ post.
          kept_none s text_m M 10 2 known_M (walk_2_1 post) 1 3 470 (from_1 470 (omega arith))
          (well_2_1 post) (none_2_1 post);
      unlisted =
          λ post.
          ill_made s text_m M 10 2 known_M (1 ∷ 1 ∷ 2 ∷ 4 ∷ 0 ∷ 3 ∷ 1 ∷ post) 1 3 470 (from_1 470 (omega arith))
          (ill_4 post);
    }
