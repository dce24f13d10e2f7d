-- The theorem of Night. Each reply follows by Replied from the rows, stores and lines that NightRows computes, as it
-- computes that the text is accepted.
use Rattle.std.specs.Prelude.{◌≡◌, refl, true, false, ◌&&◌, List, [], ◌∷◌, ◌++◌, map, ℕ, ◌+◌, ◌*◌, ◌-◌, ◌≤◌, leb, eqb}
use Rattle.std.specs.Prelude.{length, get_or, drop}
use Rattle.std.proofs.Common.{sym, ap, ◌∙◌, arith}
use Rattle.std.proofs.lemmas.List.{length-map}
use Rattle.timetable.specs.Timetable.{number_of, last_minute}
use Rattle.connections.specs.Connections.{net}
use Rattle.connections.specs.Planner.{planner_list, rows_of}
use Rattle.stores.specs.Words.{store_words}
use Rattle.lines.specs.Lines.{lines}
use Rattle.lines.specs.DirectRides.{directs, direct_rows}
use Rattle.lines_tables.specs.Building.{line_count}
use Rattle.demands.specs.Demands.{Query}
use Rattle.worked.specs.Calls.{Slices, trips_of, Stores, Asks, AsksNone, Rides, RidesNone}
use Rattle.worked.specs.Night.{text_night, night, NightCases}
use Rattle.worked.specs.NightRows.{
  night_accepted,
  night_words_lem,
  night_lines,
  night_tables_lem,
  stored_1,
  stored_2,
  stored_3,
  stored_4,
  stored_5,
  rows_4_3,
  rows_1_3,
  rows_2_3,
  rows_2_5,
  rows_2_1,
  rows_4_5,
  rows_1_3_at_54,
  rows_5_3_at_66,
  none_2_3,
  none_3_5,
  rides_5_3,
  rides_1_3,
  rides_4_5,
  rides_4_1,
  no_rides_2_3,
  no_rides_1_3,
  by_1_5,
  by_5,
  well_by_1_5,
  well_by_5,
  kept_by_1_5,
  none_by_1_5,
  kept_by_5,
  ill_6,
}
use Rattle.worked.specs.Replied.{
  Known,
  query_known,
  read_done,
  read_writes,
  built_done,
  build_writes,
  trips_handed,
  store_known,
  rows_known,
  none_known,
  kept_known,
  kept_none,
  ill_made,
  rides_known,
  no_rides,
}

five_stations : length night.stations ≡ 5
unfolding night
five_stations = refl

query : (a b u : ℕ) → (leb 1 a && leb a 5) ≡ true → (leb 1 b && leb b 5) ≡ true → eqb b a ≡ false
    → leb u last_minute ≡ true → Query (net night) a u b
query a b u = query_known night 5 a b u five_stations

five_lines : line_count night ≡ 5
five_lines = sym (length-map (lines night.trips) (map (number_of night))) ∙ ap length night_lines

known : Known text_night night 21 5
known = record { accepted = night_accepted; counted = five_lines; few_lines = omega arith; few_counted = omega arith }

module _ (s : Slices) where
  store_of : (a x y : ℕ) (rest : List ℕ) → store_words (net night) a ≡ x ∷ y ∷ rest → 1 ≤ a → a ≤ 5
      → x + y ≤ 16 → 2 + 3 * x + 2 * y ≡ length (x ∷ y ∷ rest) → Stores s text_night a (x ∷ y ∷ rest)
  store_of a x y rest is h g few counted =
      store_known s text_night night 21 5 known a x y rest is h (omega (arith, five_stations))
      (omega arith) (omega arith) counted

  asks : (a b u : ℕ) (x : List ℕ) (r : List (List ℕ)) → rows_of u (planner_list (net night) a u b) ≡ x ∷ r
      → Query (net night) a u b → Asks s text_night a b u (x ∷ r)
  asks a b u x r is q done = rows_known s text_night night 21 5 known a b u done q x r is

  asks_none : (a b u : ℕ) → planner_list (net night) a u b ≡ [] → Query (net night) a u b
      → AsksNone s text_night a b u
  asks_none a b u is q done = none_known s text_night night 21 5 known a b u done q is

  rides : (a b u : ℕ) (x : List ℕ) (r : List (List ℕ)) → direct_rows (net night) a u b ≡ x ∷ r
      → Query (net night) a u b → Rides s text_night a b u (x ∷ r)
  rides a b u x r is q = rides_known s text_night night 21 5 known a b u q x r is

  rides_none : (a b u : ℕ) → directs (net night) a u b ≡ [] → Query (net night) a u b
      → RidesNone s text_night a b u
  rides_none a b u is q = no_rides s text_night night 21 5 known a b u q is

  line : (l : ℕ) → 1 ≤ l → l ≤ 5
      → trips_of s text_night l ≡ get_or ((3 ∷ []) ∷ (1 ∷ []) ∷ (2 ∷ []) ∷ (4 ∷ []) ∷ (5 ∷ 6 ∷ []) ∷ []) (l - 1) []
  line l h g =
      trips_handed s text_night night 21 5 known l h (omega (arith, five_lines))
      ∙ ap (λ k. get_or k (l - 1) []) night_lines

-- the theorem
pub night_cases : (s : Slices) → NightCases s
night_cases s =
    record {
      text = read_done s text_night night 21 5 known;
      text_words =
          read_writes s text_night night 21 5 known
          ∙ ap (λ ws. ws ++ drop (length ws) s.timetable) night_words_lem;
      tables = built_done s text_night night 21 5 known;
      tables_words =
          build_writes s text_night night 21 5 known
          ∙ ap (λ ws. ws ++ drop (length ws) s.tables) night_tables_lem;
      line_1 = line s 1 (omega arith) (omega arith);
      line_2 = line s 2 (omega arith) (omega arith);
      line_3 = line s 3 (omega arith) (omega arith);
      line_4 = line s 4 (omega arith) (omega arith);
      line_5 = line s 5 (omega arith) (omega arith);
      store_1 = store_of s 1 1 4 _ stored_1 (omega arith) (omega arith) (omega arith) refl;
      store_2 = store_of s 2 6 10 _ stored_2 (omega arith) (omega arith) (omega arith) refl;
      store_3 = store_of s 3 0 0 _ stored_3 (omega arith) (omega arith) (omega arith) refl;
      store_4 = store_of s 4 3 6 _ stored_4 (omega arith) (omega arith) (omega arith) refl;
      store_5 = store_of s 5 0 1 _ stored_5 (omega arith) (omega arith) (omega arith) refl;
      departs_latest = asks s 4 3 40 _ _ rows_4_3 (query 4 3 40 refl refl refl refl);
      fewest_rides = asks s 1 3 40 _ _ rows_1_3 (query 1 3 40 refl refl refl refl);
      boarding_stop = asks s 2 3 40 _ _ rows_2_3 (query 2 3 40 refl refl refl refl);
      alighting_stop = asks s 2 5 40 _ _ rows_2_5 (query 2 5 40 refl refl refl refl);
      to_1 = asks s 2 1 40 _ _ rows_2_1 (query 2 1 40 refl refl refl refl);
      to_5 = asks s 4 5 40 _ _ rows_4_5 (query 4 5 40 refl refl refl refl);
      at_54 = asks s 1 3 54 _ _ rows_1_3_at_54 (query 1 3 54 refl refl refl refl);
      at_66 = asks s 5 3 66 _ _ rows_5_3_at_66 (query 5 3 66 refl refl refl refl);
      at_45 = asks_none s 2 3 45 none_2_3 (query 2 3 45 refl refl refl refl);
      from_3 = asks_none s 3 5 40 none_3_5 (query 3 5 40 refl refl refl refl);
      direct_latest = rides s 5 3 40 _ _ rides_5_3 (query 5 3 40 refl refl refl refl);
      direct_trip = rides s 1 3 40 _ _ rides_1_3 (query 1 3 40 refl refl refl refl);
      direct_again = rides s 4 5 40 _ _ rides_4_5 (query 4 5 40 refl refl refl refl);
      direct_two = rides s 4 1 40 _ _ rides_4_1 (query 4 1 40 refl refl refl refl);
      direct_none = rides_none s 2 3 40 no_rides_2_3 (query 2 3 40 refl refl refl refl);
      direct_at_54 = rides_none s 1 3 54 no_rides_1_3 (query 1 3 54 refl refl refl refl);
      struck =
          λ post.
          kept_known s text_night night 21 5 known (by_1_5 post) 2 3 40
          (query 2 3 40 refl refl refl refl) (well_by_1_5 post) _ _ (kept_by_1_5 post);
      struck_none =
          λ post.
          kept_none s text_night night 21 5 known (by_1_5 post) 2 5 40
          (query 2 5 40 refl refl refl refl) (well_by_1_5 post) (none_by_1_5 post);
      struck_trip =
          λ post.
          kept_known s text_night night 21 5 known (by_5 post) 1 3 40
          (query 1 3 40 refl refl refl refl) (well_by_5 post) _ _ (kept_by_5 post);
      ill_made =
          λ post.
          ill_made s text_night night 21 5 known (0 ∷ 1 ∷ 6 ∷ 0 ∷ post) 1 3 40
          (query 1 3 40 refl refl refl refl) (ill_6 post);
    }
