-- What is seen of a trip, the loop that opens the chains, and the words that chain a line.
use mathlib.Core.Path.{◌≡◌, refl, sym, ap, ◌∙◌}
use mathlib.Core.List.{List}
use Prim.Native.Nat.{ℕ, ◌+◌, ◌-◌, ◌/◌, ◌≤◌, ◌<◌, min}
use native.Mathlib.Decide.{ℕ_discrete}
use native.Mathlib.Omega.{arith}
use lib.ListN.{length, get_or, set, length-set}
use lib.Seq.{get_or-set_same, get_or-set_other}
use Rattle.timetable.specs.Timetable.{Stop}
use Rattle.timetable.specs.Words.{stop_at, start_at, trip_at}
use Rattle.timetable.specs.Access.{trip_long, stop_is}
use Rattle.connections.specs.Rides.{no_stop}
use Rattle.lines_found.specs.Glance.{mixed, course_of, last_arrival}
use Rattle.lines_found.specs.Chains.{end_of, floor_of}
use Rattle.lines_found.specs.Taken.{OpenedTo, Chosen}

-- ---- what a trip shows, by its first stop and its last
module _ (w : List ℕ) (z first end : ℕ) (is-first : first ≡ start_at w z) (is-end : end ≡ start_at w (z + 1))
    (some : first < end) (last : Stop) (is_last : last ≡ stop_at w (end - 1)) where
  long : length (trip_at w z) ≡ end - first
  long = trip_long w z ∙ rw (is-first, is-end)

  at_last : get_or (trip_at w z) (length (trip_at w z) - 1) no_stop ≡ last
  at_last =
      let place : start_at w z + (length (trip_at w z) - 1) ≡ end - 1 = omega (arith, long) in
      stop_is w z (length (trip_at w z) - 1) no_stop (omega (arith, long)) ∙ ap (stop_at w) place ∙ sym is_last

  pub is_course : (s m : Stop) → s ≡ stop_at w first → m ≡ stop_at w (first + (end - first) / 2) → (r : ℕ)
      → r ≡ mixed (end - first) s.station m.station last.station → r ≡ course_of (trip_at w z)
  unfolding course_of
  is_course s m is-s is_m r is =
      let at_first : get_or (trip_at w z) 0 no_stop ≡ s =
      stop_is w z 0 no_stop (omega (arith, long)) ∙ ap (stop_at w) (omega arith) ∙ sym is-s in
      let place : start_at w z + length (trip_at w z) / 2 ≡ first + (end - first) / 2 = omega (arith, long) in
      let at_middle : get_or (trip_at w z) (length (trip_at w z) / 2) no_stop ≡ m =
      stop_is w z (length (trip_at w z) / 2) no_stop (omega (arith, long)) ∙ ap (stop_at w) place ∙ sym is_m in
      is ∙ sym (λ i. mixed (long i) (at_first i).station (at_middle i).station (at_last i).station)

  pub is_arrival : last.arrive ≡ last_arrival (trip_at w z)
  unfolding last_arrival
  is_arrival = sym (ap (λ (s : Stop). s.arrive) at_last)

-- ---- the words of no line, place by place
module _ (c : List ℕ) (b : ℕ) (h : b < 256) (long : length c ≡ 1024) (o : OpenedTo b c) where
  abbrev one : List ℕ
  one = set c b 256

  abbrev two : List ℕ
  two = set one (256 + b) 256

  abbrev three : List ℕ
  three = set two (512 + b) (256 + b)

  length_two : length two ≡ 1024
  length_two = length-set one (256 + b) 256 ∙ length-set c b 256 ∙ long

  pub second_there : 256 + b < length one
  second_there = omega (arith, length-set c b 256)

  pub third_there : 512 + b < length two
  third_there = omega (arith, length_two)

  pub fourth_there : 768 + b < length three
  fourth_there = omega (arith, length-set two (512 + b) (256 + b), length_two)

  pub opened_more : OpenedTo (b + 1) (set three (768 + b) 65535)
  opened_more =
      record {
        lines =
            λ i g.
            get_or-set_other three (768 + b) i 65535 0 (λ d. omega arith)
            ∙ get_or-set_other two (512 + b) i (256 + b) 0 (λ d. omega arith)
            ∙ get_or-set_other one (256 + b) i 256 0 (λ d. omega arith)
            ∙ elim (ℕ_discrete i b) [
              | yes d ↦ ap (λ j. get_or one j 0) d ∙ get_or-set_same c b 256 0 (omega arith)
              | no d ↦ get_or-set_other c b i 256 0 d ∙ o.lines i (omega arith)
            ];
        heads =
            λ i g.
            get_or-set_other three (768 + b) (256 + i) 65535 0 (λ d. omega arith)
            ∙ get_or-set_other two (512 + b) (256 + i) (256 + b) 0 (λ d. omega arith)
            ∙ elim (ℕ_discrete i b) [
              | yes d ↦ (
                  ap (λ j. get_or two (256 + j) 0) d
                  ∙ get_or-set_same one (256 + b) 256 0 (omega (arith, length-set c b 256))
                  )
              | no d ↦ (
                  get_or-set_other one (256 + b) (256 + i) 256 0 (λ e. omega arith)
                  ∙ get_or-set_other c b (256 + i) 256 0 (λ e. omega arith)
                  ∙ o.heads i (omega arith)
                  )
            ];
        ends =
            λ i g.
            get_or-set_other three (768 + b) (512 + i) 65535 0 (λ d. omega arith)
            ∙ elim (ℕ_discrete i b) [
              | yes d ↦ (
                  ap (λ j. get_or three (512 + j) 0) d
                  ∙ get_or-set_same two (512 + b) (256 + b) 0 (omega (arith, length_two))
                  ∙ ap (λ j. 256 + j) (sym d)
                  )
              | no d ↦ (
                  get_or-set_other two (512 + b) (512 + i) (256 + b) 0 (λ e. omega arith)
                  ∙ get_or-set_other one (256 + b) (512 + i) 256 0 (λ e. omega arith)
                  ∙ get_or-set_other c b (512 + i) 256 0 (λ e. omega arith)
                  ∙ o.ends i (omega arith)
                  )
            ];
      }

pub opened_none : (c : List ℕ) → OpenedTo 0 c
opened_none c =
    record {
      lines = λ i g. absurd (omega arith);
      heads = λ i g. absurd (omega arith);
      ends = λ i g. absurd (omega arith);
    }

pub opened_all : (c : List ℕ) (b : ℕ) → OpenedTo b c → b ≤ 256 → 256 ≤ b → OpenedTo 256 c
opened_all c b o h g =
    record {
      lines = λ i m. o.lines i (omega arith);
      heads = λ i m. o.heads i (omega arith);
      ends = λ i m. o.ends i (omega arith);
    }

-- ---- the words that chain a line
module _ (c : List ℕ) (e n b : ℕ) (long : length c ≡ 1024) (h : b < 256) where
  pub end_there : 512 + b < length (set c e n)
  end_there = omega (arith, length-set c e n)

  pub floor_there : 768 + b < length (set (set c e n) (512 + b) n)
  floor_there = omega (arith, length-set (set c e n) (512 + b) n, length-set c e n)

module _ (c : List ℕ) (lines line b a : ℕ) where
  pub not_linked : line < lines → Chosen c c lines line b a
  not_linked h = record { joined = λ g. refl; founded = λ e. absurd (omega arith) }

  pub is_linked : lines ≤ line → (e x : ℕ) → e ≡ end_of c b → x ≡ min (floor_of c b) a
      → Chosen c (set (set (set c e line) (512 + b) line) (768 + b) x) lines line b a
  is_linked h e x is-e is_x =
      record { joined = λ g. absurd (omega arith); founded = λ d. rw (is-e, is_x) }
