-- The ways out of the call that adds a trip.
use mathlib.Core.Path.{◌≡◌, refl, sym, ap, subst, ◌∙◌}
use mathlib.Core.Bool.{Bool, true, false, not, ◌&&◌}
use mathlib.Core.List.{List, [], ◌∷◌, ◌++◌, append_assoc}
use Prim.Native.Nat.{ℕ, zero, suc, ◌≤◌, ◌<◌}
use native.Mathlib.Omega.{arith}
use lib.Dec.{eqb-suc-zero}
use lib.ListN.{length, get_or, take, drop, length-append}
use Rattle.questions.specs.Question.{ask, first_no}
use Rattle.replies.specs.Later.{asked_on, asked_out}
use Rattle.words.specs.Put.{put}
use Rattle.timetable.specs.Timetable.{Trip, Timetable, stops_of, climb, valid_stations, valid_walks, valid_trips, valid}
use Rattle.timetable.specs.Words.{words, trip_count, timetable_of, is_timetable}
use Rattle.timetable.specs.Check.{length_stations, length_trips}
use Rattle.timetable.specs.Access.{spelled_valid}
use Rattle.timetable.specs.Changes.{without, inserted, runs_as, place_of, added}
use Rattle.reading.specs.Reading.{Outcome, Accepted, Refused, read_extra}
use Rattle.reading.specs.Reply.{Reply}
use Rattle.reading.specs.Reply.{Done, Refused as ReplyRefused}
use Rattle.accepted.specs.Valid.{is_valid, valid_is}
use Rattle.accepted.specs.Changed.{climb_more}
use Rattle.accepted.specs.Extra.{ExtraRead, extra_one, extra_valid}
use Rattle.lines_order.specs.Order.{OrderOf}
use Rattle.lines_tables.specs.Tables.{table_words}
use Rattle.lines_tables.specs.Building.{line_count}
use Rattle.lines_check.specs.Question10.{tables_questions, tables_number}
use Rattle.lines_check.specs.Yes.{tables_asked}
use Rattle.promises.specs.Changes.{add_number, add_outcome, add_reply, add_timetable, add_lines}
use Rattle.changes_words.specs.Appended.{Fitting, put_in}
use Rattle.changes_extra.specs.Extra.{TripIs, TripRead}
use Rattle.changes_extra.specs.Found.{Found}
use Rattle.changes_extra.specs.Found.{Whole, Refused as FoundRefused}
use Rattle.changes.proofs.AskedLaws.{tables_yes, granted}
use Rattle.changes.proofs.AfterLaws.{after_yes, after_spells, back, length_inserted}
use Rattle.changes_places.specs.Runs.{all_stops}

module _ (w v : List ℕ) (m n : ℕ) (text : List ℕ) where
  -- ---- a refusal
  module _ (number line : ℕ) (is : add_outcome w v m n text ≡ Refused number line) where
    out_reply : ReplyRefused number line ≡ add_reply w v m n text
    unfolding add_reply
    out_reply = rw is

    out_timetable : w ≡ add_timetable w v m n text
    unfolding add_timetable
    out_timetable = rw is

    out_lines : v ≡ add_lines w v m n text
    unfolding add_lines
    out_lines = rw is

  numbered_out : (k : ℕ) → add_number w v m n ≡ suc k → add_outcome w v m n text ≡ Refused (suc k) 0
  unfolding add_outcome
  numbered_out k e = rw (e, eqb-suc-zero k)

  module _ (number : ℕ) (is : number ≡ tables_number w v m) (denied : number ≡ 0 → ⊥) where
    first_no_lem : (k : ℕ) → k ≡ tables_number w v m → (k ≡ 0 → ⊥) → add_outcome w v m n text ≡ Refused k 0
    unfolding add_number tables_number
    first_no_lem zero e h = absurd (h refl)
    first_no_lem (suc k) e h =
        numbered_out k
        (asked_out (tables_questions w v m) (ask 19 (not (runs_as n (timetable_of w).numbers)) ∷ [])
        (tables_asked w v m)
        k e)

    pub denied_reply : ReplyRefused number 0 ≡ add_reply w v m n text
    denied_reply = out_reply number 0 (first_no_lem number is denied)

    pub denied_timetable : w ≡ add_timetable w v m n text
    denied_timetable = out_timetable number 0 (first_no_lem number is denied)

    pub denied_lines : v ≡ add_lines w v m n text
    denied_lines = out_lines number 0 (first_no_lem number is denied)

  module _ (none : tables_number w v m ≡ 0) where
    last_question : add_number w v m n ≡ first_no (ask 19 (not (runs_as n (timetable_of w).numbers)) ∷ [])
    unfolding add_number
    last_question =
        asked_on (tables_questions w v m) (ask 19 (not (runs_as n (timetable_of w).numbers)) ∷ []) (tables_asked w v m)
        (tables_yes w v m none)

    -- ---- a trip that runs
    module _ (b : Bool) (told : b ≡ runs_as n (timetable_of w).numbers) (runs : b ≡ true) where
      nineteen : add_outcome w v m n text ≡ Refused 19 0
      nineteen =
          numbered_out 18 (last_question ∙ ap (λ x. first_no (ask 19 (not x) ∷ [])) (sym told ∙ runs))

      pub running_reply : ReplyRefused 19 0 ≡ add_reply w v m n text
      running_reply = out_reply 19 0 nineteen

      pub running_timetable : w ≡ add_timetable w v m n text
      running_timetable = out_timetable 19 0 nineteen

      pub running_lines : v ≡ add_lines w v m n text
      running_lines = out_lines 19 0 nineteen

    -- ---- one that does not
    module _ (free : runs_as n (timetable_of w).numbers ≡ false) where
      abbrev outcome : Outcome
      outcome = read_extra (timetable_of w) n text

      is_outcome : add_outcome w v m n text ≡ outcome
      unfolding add_outcome
      is_outcome =
          let zero_number : add_number w v m n ≡ 0 =
          last_question ∙ ap (λ x. first_no (ask 19 (not x) ∷ [])) free in
          rw zero_number

      module _ (r : Found) (extra old : List ℕ) (read : TripRead (read_extra (timetable_of w) n text) r extra old) where
        module _ (number line : ℕ) (no : r ≡ FoundRefused number line) where
          refused : (o : Outcome) → TripIs o r extra old → o ≡ Refused number line
          refused (Accepted one k) l = let e = l.0 in let z : ◌≡◌ {A = ℕ} 0 1 = cc in absurd (omega arith)
          refused (Refused k l) e = cc

          is_refused : add_outcome w v m n text ≡ Refused number line
          is_refused = is_outcome ∙ refused outcome read.is

          pub refused_reply : ReplyRefused number line ≡ add_reply w v m n text
          refused_reply = out_reply number line is_refused

          pub refused_timetable_lem : w ≡ add_timetable w v m n text
          refused_timetable_lem = out_timetable number line is_refused

          pub refused_lines : v ≡ add_lines w v m n text
          refused_lines = out_lines number line is_refused

        module _ (whole : r ≡ Whole) (place : ℕ) (is_place : place ≡ place_of n (timetable_of w).numbers) where
          abbrev okay : is_timetable w ≡ true
          okay = granted w v m none

          record Kept : Type 0 where
            one : Timetable
            lines : ℕ
            accepted : read_extra (timetable_of w) n text ≡ Accepted one lines
            wrote : extra ≡ put 0 (words one) old

          is_kept : (o : Outcome) → read_extra (timetable_of w) n text ≡ o → TripIs o r extra old → Kept
          is_kept (Accepted one k) e l = record { one = one; lines = k; accepted = e; wrote = l.1 }
          is_kept (Refused number line) e l = let z : ◌≡◌ {A = ℕ} 0 1 = cc in absurd (omega arith)

          kept : Kept
          kept = is_kept outcome refl read.is

          abbrev one : Timetable
          one = kept.one

          abbrev trip : Trip
          trip = get_or one.trips 0 []

          is_one : ExtraRead (timetable_of w) n one
          is_one = extra_one (timetable_of w) n text (spelled_valid w okay) one kept.lines kept.accepted free

          -- the trip alone is a timetable
          one_valid : valid one ≡ true
          unfolding valid_walks valid_trips climb
          one_valid =
              let t = is_valid (timetable_of w) (spelled_valid w okay) in
              let a = is_one.addable in
              let stops : length (stops_of one.trips) ≡ length (trip ++ []) =
              ap (λ l. length (stops_of l)) is_one.trips in
              valid_is one
              (record {
                least = omega (arith, t.least, ap length is_one.stations);
                stations = omega (arith, t.stations, ap length is_one.stations);
                walks = omega (arith, ap length is_one.walks);
                trips = omega (arith, ap length is_one.trips);
                stops = omega (arith, stops, length-append trip [], a.stops);
                numbers = ap length is_one.numbers ∙ sym (ap length is_one.trips);
                climbs = ap (climb 0) is_one.numbers ∙ climb_more 0 n [] (omega (arith, a.least)) a.most refl;
                each_station = ap valid_stations is_one.stations ∙ t.each_station;
                each_walk = ap (valid_walks (length one.stations)) is_one.walks;
                each_trip =
                    (λ i. valid_trips (length (is_one.stations i)) (is_one.trips i))
                    ∙ ap (λ b. b && true) a.trip;
              })

          extra_is : timetable_of extra ≡ one
          extra_is = after_spells one one_valid old extra kept.wrote

          pub fitting : Fitting w extra
          fitting =
              let t = ap (λ (x : Timetable). length x.trips) extra_is in
              let s = ap (λ (x : Timetable). length x.stations) extra_is in
              let yes = after_yes one one_valid old extra kept.wrote in
              let many = all_stops extra yes in
              let some = all_stops w okay in
              let a = is_one.addable in
              let stops : length (stops_of one.trips) ≡ length (trip ++ []) =
              ap (λ l. length (stops_of l)) is_one.trips in
              record {
                okay = yes;
                stations =
                    sym (length_stations extra) ∙ s ∙ ap length is_one.stations ∙ length_stations w;
                one = sym (length_trips extra) ∙ t ∙ ap length is_one.trips;
                trips = omega (arith, length_trips w, a.trips);
                stops =
                    omega (
                      arith,
                      many,
                      some,
                      ap (λ (x : Timetable). length (stops_of x.trips)) extra_is,
                      stops,
                      length-append trip [],
                      a.stops,
                    );
              }

          put_is : put_in (timetable_of w) place (timetable_of extra) ≡ added (timetable_of w) n trip
          unfolding put_in added
          put_is =
              ap (put_in (timetable_of w) place) extra_is
              ∙ (λ i.
              record {
                stations = (timetable_of w).stations;
                walks = (timetable_of w).walks;
                numbers =
                    take (is_place i) (timetable_of w).numbers
                    ++ is_one.numbers i
                    ++ drop (is_place i) (timetable_of w).numbers;
                trips =
                    take (is_place i) (timetable_of w).trips
                    ++ is_one.trips i
                    ++ drop (is_place i) (timetable_of w).trips;
              })
              ∙ (λ i.
              record {
                stations = (timetable_of w).stations;
                walks = (timetable_of w).walks;
                numbers =
                    append_assoc (take (place_of n (timetable_of w).numbers) (timetable_of w).numbers) (n ∷ [])
                    (drop (place_of n (timetable_of w).numbers) (timetable_of w).numbers) i;
                trips =
                    append_assoc (take (place_of n (timetable_of w).numbers) (timetable_of w).trips) (trip ∷ [])
                    (drop (place_of n (timetable_of w).numbers) (timetable_of w).trips) i;
              })

          module _ (out : List ℕ)
              (e : out ≡ put 0 (words (put_in (timetable_of w) place (timetable_of extra))) w) where
            written : out ≡ put 0 (words (added (timetable_of w) n trip)) w
            written = e ∙ ap (λ t. put 0 (words t) w) put_is

            added_okay : valid (added (timetable_of w) n trip) ≡ true
            added_okay =
                extra_valid (timetable_of w) n text (spelled_valid w okay) one kept.lines kept.accepted free

            pub added_yes : is_timetable out ≡ true
            added_yes = after_yes (added (timetable_of w) n trip) added_okay w out written

            spells : timetable_of out ≡ added (timetable_of w) n trip
            spells = after_spells (added (timetable_of w) n trip) added_okay w out written

            trips_are : (timetable_of out).trips ≡ inserted place trip (timetable_of w).trips
            unfolding added
            trips_are =
                ap (λ (t : Timetable). t.trips) spells
                ∙ ap (λ k. inserted k trip (timetable_of w).trips) (sym is_place)

            module _ (listed : place ≤ trip_count w) where
              pub added_inside : place < trip_count out
              added_inside =
                  omega (
                    arith,
                    length_trips w,
                    length_trips out,
                    ap length trips_are,
                    length_inserted place trip (timetable_of w).trips,
                  )

              pub added_order : (order : List ℕ) → OrderOf (timetable_of w).trips order
                  → OrderOf (without place (timetable_of out).trips) order
              added_order order given =
                  let same : without place (timetable_of out).trips ≡ (timetable_of w).trips =
                  ap (without place) trips_are
                  ∙ back place trip (timetable_of w).trips (omega (arith, length_trips w)) in
                  subst (λ l. OrderOf l order) (sym same) given

            is_accepted : add_outcome w v m n text ≡ Accepted one kept.lines
            is_accepted = is_outcome ∙ kept.accepted

            pub added_timetable : out ≡ add_timetable w v m n text
            unfolding add_timetable
            added_timetable = rw is_accepted written

            pub added_lines : (tables : List ℕ) → tables ≡ put 0 (table_words (timetable_of out)) v
                → tables ≡ add_lines w v m n text
            unfolding add_lines
            added_lines tables f = rw is_accepted (f ∙ ap (λ t. put 0 (table_words t) v) spells)

            pub added_reply : (count : ℕ) → count ≡ line_count (timetable_of out) → Done count ≡ add_reply w v m n text
            unfolding add_reply
            added_reply count f = rw is_accepted (ap Done (f ∙ ap line_count spells))

-- ---- what the rest of the call answers, with working space as long as it was
module _ (w v text : List ℕ) (m k n : ℕ) (same : k ≡ m) where
  pub kept_reply : (r : Reply) → r ≡ add_reply w v k n text → r ≡ add_reply w v m n text
  kept_reply r e = e ∙ ap (λ x. add_reply w v x n text) same

  pub kept_timetable : (out : List ℕ) → out ≡ add_timetable w v k n text → out ≡ add_timetable w v m n text
  kept_timetable out e = e ∙ ap (λ x. add_timetable w v x n text) same

  pub kept_lines : (out : List ℕ) → out ≡ add_lines w v k n text → out ≡ add_lines w v m n text
  kept_lines out e = e ∙ ap (λ x. add_lines w v x n text) same
