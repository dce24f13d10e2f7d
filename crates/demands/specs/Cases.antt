-- Document 01: "Cases a to k stand together under one theorem about the definitions." Here they are, on timetable M, a
-- part for each; M is the timetable that its text is read to. For a reader.
use Rattle.std.specs.Prelude.{◌≡◌, refl, true, List, [], ◌∷◌, ◌++◌, ℕ, ◌≤◌, length}
use Rattle.std.proofs.Common.{◌∙◌, arith, le-leb}
use Rattle.results.specs.Results.{dominates}
use Rattle.connections.specs.Rides.{may_board, may_alight, ride_points, rides_of}
use Rattle.connections.specs.Connections.{net}
use Rattle.connections.specs.Planner.{connections, planner_list}
use Rattle.connections.specs.WithoutWalks.{own_changes, former_net}
use Rattle.timetable.specs.Worked.{variant, M}
use Rattle.connections.specs.Worked.{M_valid, planned, one_ride, two_rides, case_a, case_a_none, case_g, case_h}
use Rattle.stores.specs.Words.{store_words, readable, well_made, kept_list, answer}
use Rattle.stores.specs.Stored.{optimals}
use Rattle.stores.specs.Worked.{case_b, case_c, case_d, case_i, case_j}
use Rattle.stores.specs.WithoutWalks.{former_stations, former_stored, former_nodes, former_arcs, former_encode}
use Rattle.stores.specs.WithoutWalks.{former_words}
use Rattle.reading.specs.Reading.{Accepted, Refused, reading}
use Rattle.accepted.specs.Cases.{text_m, M_accepted, case_k}
use Rattle.lines.specs.Lines.{lines, line_numbers}
use Rattle.lines.specs.Worked.{case_e, case_f}
use Rattle.timetable.specs.Timetable.{last_minute}
use Rattle.demands.specs.Demands.{Query, DemandThree}
use Rattle.demands.specs.Proofs.{demand_three}

pub record Cases : Type 0 where
  -- "Timetable M"
  pub m : reading text_m ≡ Accepted M 10
  -- "(a) The two queries above." The program answers them from the store of 1, whatever words stand behind it; it shows
  -- what the planner has.
  pub a : planned M 1 470 3 ≡ two_rides 50 10 1 1 2 2 1 2 ∷ one_ride 90 0 1 1 3 ∷ []
  pub a_stored : (post : List ℕ)
      → answer (net M) (store_words (net M) 1 ++ post) 1 470 3 ≡ two_rides 50 10 1 1 2 2 1 2 ∷ one_ride 90 0 1 1 3 ∷ []
  pub a_none : planner_list (net M) 1 481 3 ≡ []
  pub a_none_stored : (post : List ℕ) → kept_list (net M) (store_words (net M) 1 ++ post) 1 481 3 ≡ []
  -- "(b) Store of 1: 1,3,2,0,2,0,3,0,3,1.", and document 02, One, where a node has both stations: "case b reads
  -- 1,3,2,2,0,2,0,3,0,3,1". "(c) Of 2: 0,1,3,0. (d) Of 3: 0,0."
  pub b_before : former_words (former_net M) 1 ≡ 1 ∷ 3 ∷ 2 ∷ 0 ∷ 2 ∷ 0 ∷ 3 ∷ 0 ∷ 3 ∷ 1 ∷ []
  pub b : store_words (net M) 1 ≡ 1 ∷ 3 ∷ 2 ∷ 2 ∷ 0 ∷ 2 ∷ 0 ∷ 3 ∷ 0 ∷ 3 ∷ 1 ∷ []
  pub c : store_words (net M) 2 ≡ 0 ∷ 1 ∷ 3 ∷ 0 ∷ []
  pub d : store_words (net M) 3 ≡ 0 ∷ 0 ∷ []
  -- "(e) Lines of M: trip 1; then trips 3, 2. (f) With trip 2 arriving at 514: three lines."
  pub e : line_numbers M ≡ (1 ∷ []) ∷ (3 ∷ 2 ∷ []) ∷ []
  pub f : length (lines (variant 3 514).trips) ≡ 3
  -- "(g) From 2 to 3 at 501: one row, 14,0. (h) At 503: 17,0.", and from the store of 2
  pub g : planned M 2 501 3 ≡ one_ride 14 0 3 1 2 ∷ []
  pub g_stored : (post : List ℕ) → answer (net M) (store_words (net M) 2 ++ post) 2 501 3 ≡ one_ride 14 0 3 1 2 ∷ []
  pub h : planned M 2 503 3 ≡ one_ride 17 0 2 1 2 ∷ []
  pub h_stored : (post : List ℕ) → answer (net M) (store_words (net M) 2 ++ post) 2 503 3 ≡ one_ride 17 0 2 1 2 ∷ []
  -- "(i) Station 2 with 4 change minutes: store of 1 is 0,2,2,0,3,0."
  pub i : store_words (net (variant 4 520)) 1 ≡ 0 ∷ 2 ∷ 2 ∷ 0 ∷ 3 ∷ 0 ∷ []
  -- "(j) The store 0,1,3,0 given for source 1: query at 470 shows only 90,0.", whatever words stand behind it; question
  -- 13 has its yes
  pub j : (post : List ℕ) → answer (net M) (0 ∷ 1 ∷ 3 ∷ 0 ∷ post) 1 470 3 ≡ one_ride 90 0 1 1 3 ∷ []
  pub j_well_made : (post : List ℕ) → well_made (length M.stations) (0 ∷ 1 ∷ 3 ∷ 0 ∷ post) ≡ true
  -- "(k) Empty text: 7, line 1."
  pub k : reading [] ≡ Refused 7 1

-- a query on M to station 3, and demand 3 of M
to_3 : (a m : ℕ) → 1 ≤ a → a ≤ 2 → m ≤ last_minute → Query (net M) a m 3
unfolding M variant
to_3 a m h g i =
    record {
      source_first = h;
      source_last = omega arith;
      target = record { first = omega arith; last = omega arith; other = λ e. omega arith };
      minute = i;
    }

three : DemandThree M
three = demand_three M M_valid

pub from_1 : (m : ℕ) → m ≤ last_minute → Query (net M) 1 m 3
from_1 m i = to_3 1 m (omega arith) (omega arith) i

pub from_2 : (m : ℕ) → m ≤ last_minute → Query (net M) 2 m 3
from_2 m i = to_3 2 m (omega arith) (omega arith) i

-- the store of 1 as document 01 has it, from all 2,880 minutes
former_b : former_words (former_net M) 1 ≡ 1 ∷ 3 ∷ 2 ∷ 0 ∷ 2 ∷ 0 ∷ 3 ∷ 0 ∷ 3 ∷ 1 ∷ []
unfolding M variant rides_of may_board may_alight ride_points own_changes planner_list connections dominates optimals
    former_stations former_stored former_nodes former_arcs former_encode former_words
former_b = refl

-- The store of case j holds one sequence, that of the ride to 3: no word behind it is read.
rows_j : (post : List ℕ) → answer (net M) (0 ∷ 1 ∷ 3 ∷ 0 ∷ post) 1 470 3 ≡ one_ride 90 0 1 1 3 ∷ []
unfolding answer kept_list readable
rows_j post = case_j

well_j : (post : List ℕ) → well_made (length M.stations) (0 ∷ 1 ∷ 3 ∷ 0 ∷ post) ≡ true
unfolding well_made readable M variant
well_j post = rw (le-leb 4 (length (0 ∷ 1 ∷ 3 ∷ 0 ∷ post)) (omega arith))

pub cases : Cases
cases =
    record {
      m = M_accepted;
      a = case_a;
      a_stored = λ post. three.made 1 470 3 post (from_1 470 (omega arith)) ∙ case_a;
      a_none = case_a_none;
      a_none_stored = λ post. (three.made_none 1 481 3 post (from_1 481 (omega arith))).1 case_a_none;
      b_before = former_b;
      b = case_b;
      c = case_c;
      d = case_d;
      e = case_e;
      f = case_f;
      g = case_g;
      g_stored = λ post. three.made 2 501 3 post (from_2 501 (omega arith)) ∙ case_g;
      h = case_h;
      h_stored = λ post. three.made 2 503 3 post (from_2 503 (omega arith)) ∙ case_h;
      i = case_i;
      j = rows_j;
      j_well_made = well_j;
      k = case_k;
    }
