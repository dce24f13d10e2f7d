-- Question 10 for line tables lent without a timetable: "could they come from an accepted timetable?", where, document
-- 02, Eleven, "numbers may have gaps". The test are_some has a yes exactly for the words that do, and what building
-- wrote, with number 0, always has its yes. This is for a reader, as `question10_alone`, `building_has_yes_alone` and
-- `building_asked_alone` say it.
use Rattle.std.specs.Prelude.{◌≡◌, refl, Bool, true, ◌&&◌, ◌↔◌, List, [], ◌∷◌, ℕ, zero, suc, ◌+◌, ◌<◌, length, get_or}
use Rattle.std.specs.Prelude.{replicate}
use Rattle.std.proofs.Common.{ap, ◌∙◌, arith, le-leb, length-append}
use Rattle.std.proofs.lemmas.List.{length-replicate}
use Rattle.lists.specs.Tests.{and_left, and_right}
use Rattle.timetable.specs.Timetable.{Timetable, valid_station, valid_stations, valid_walks, valid}
use Rattle.timetable.specs.Words.{timetable_of}
use Rattle.timetable.specs.Access.{spelled_valid}
use Rattle.accepted.specs.Leads.{led_valid, valid_led}
use Rattle.accepted.specs.Valid.{is_valid, valid_is}
use Rattle.lines.specs.Lines.{lines}
use Rattle.lines.specs.Once.{on_lines}
use Rattle.lines_found.specs.Bounds.{all_on_lines, no_more_lines}
use Rattle.replies.specs.Replies.{number_of}
use Rattle.lines_tables.specs.Tables.{line_words, line_places, all_line_words, table_words}
use Rattle.lines_tables.specs.Building.{slices_least, build_reply, build_words}
use Rattle.lines_lookup.specs.Lookup.{line_count, line_at}
use Rattle.lines_lookup.specs.Told.{Told, Holds}
use Rattle.lines_lookup.specs.Holding.{holding}
use Rattle.lines_check.specs.Question10.{begins}
use Rattle.lines_check.specs.Built.{begins_holds, built_yes_9, built_room, built_space, built_long, built_holds}
use Rattle.lines_alone.specs.Drawn.{plain_station, drawn, trips_from, counts_fit, are_some, alone_number}
use Rattle.lines_alone.specs.Alone.{ComesFromTimetable}
use Rattle.lines_alone.specs.Redrawn.{plain, redrawn}

-- ---- from the test to a timetable: the one that is drawn
yes_comes : (v : List ℕ) → are_some v ≡ true → ComesFromTimetable v
unfolding are_some
yes_comes v y =
    let fits : Bool = counts_fit v in
    let drawn-valid : Bool = valid (drawn v) in
    let both = and_left (fits && drawn-valid) (begins v (drawn v)) y in
    record {
      timetable = drawn v;
      led = valid_led (drawn v) (and_right fits drawn-valid both);
      holds = (begins_holds v (drawn v)).0 (and_right (fits && drawn-valid) (begins v (drawn v)) y);
    }

-- ---- from a timetable to the test
plain_stations : (n : ℕ) → valid_stations (replicate n plain_station) ≡ true
unfolding valid_stations valid_station
plain_stations zero = refl
plain_stations (suc n) = plain_stations n

-- the ways of changing aside, a valid timetable is valid
plain_valid : (t : Timetable) → valid t ≡ true → valid (plain t) ≡ true
unfolding valid_walks
plain_valid t y =
    let n = length t.stations in
    let is = is_valid t y in
    let few : length (replicate n plain_station) ≡ n = length-replicate n plain_station in
    valid_is (plain t)
    (record {
      least = omega (arith, few, is.least);
      stations = omega (arith, few, is.stations);
      walks = omega arith;
      trips = is.trips;
      stops = is.stops;
      numbers = is.numbers;
      climbs = is.climbs;
      each_station = plain_stations n;
      each_walk = refl;
      each_trip = rw few is.each_trip;
    })

-- and its line tables are the same
plain_places : (t : Timetable) (k : ℕ) (ls : List (List ℕ)) → line_places (plain t) k ls ≡ line_places t k ls
unfolding line_places line_words
plain_places t k [] = refl
plain_places t k (l ∷ ls) = ap (λ r. k ∷ r) (plain_places t (k + length (line_words t l)) ls)

plain_lines : (t : Timetable) (ls : List (List ℕ)) → all_line_words (plain t) ls ≡ all_line_words t ls
unfolding all_line_words line_words
plain_lines t ls = refl

plain_tables : (t : Timetable) → table_words (plain t) ≡ table_words t
unfolding table_words
plain_tables t =
    rw (
      length-replicate (length t.stations) plain_station,
      plain_lines t (lines t.trips),
      plain_places t (4 + length (lines t.trips)) (lines t.trips),
    )

plain_begins : (v : List ℕ) (t : Timetable) → Holds v t → begins v (plain t) ≡ true
plain_begins v t holds =
    (begins_holds v (plain t)).1 (record { is = rw (plain_tables t) holds.is })

-- the trips on the lines, by their counts
counted_trips : (v : List ℕ) (i : ℕ) (ls : List (List ℕ))
    → ((j : ℕ) → j < length ls → (line_at v (i + j)).trips ≡ length (get_or ls j []))
    → trips_from v i (length ls) ≡ length (on_lines ls)
unfolding trips_from
counted_trips v i [] h = refl
counted_trips v i (l ∷ ls) h =
    let here : i + 0 ≡ i = omega arith in
    let later : (j : ℕ) → i + 1 + j ≡ i + suc j = λ j. omega arith in
    omega (
      arith,
      h 0 (omega arith),
      ap (λ k. (line_at v k).trips) here,
      counted_trips v (i + 1) ls (λ j g. ap (λ k. (line_at v k).trips) (later j) ∙ h (suc j) (omega arith)),
      length-append l (on_lines ls),
    )

-- no more lines than trips, and no more trips on them
counts_fit_lem : (v : List ℕ) (t : Timetable) → valid t ≡ true → Told v t → counts_fit v ≡ true
unfolding counts_fit
counts_fit_lem v t y told =
    let bounds = is_valid t y in
    let ls = lines t.trips in
    let from-0 : (j : ℕ) → 0 + j ≡ j = λ j. omega arith in
    let trips = counted_trips v 0 ls (λ j g. ap (λ k. (line_at v k).trips) (from-0 j) ∙ (told.line j g).trips) in
    let all = ap (trips_from v 0) told.line_count_lem in
    rw (
      le-leb (get_or v 0 0) 64 (omega (arith, told.stations, bounds.stations)),
      le-leb (line_count v) 256 (omega (arith, told.line_count_lem, no_more_lines t.trips, bounds.trips)),
      le-leb (trips_from v 0 (line_count v)) 256 (omega (arith, all, trips, all_on_lines t.trips, bounds.trips)),
    )

holds_yes : (v : List ℕ) (t : Timetable) → valid t ≡ true → Holds v t → are_some v ≡ true
unfolding are_some
holds_yes v t y holds =
    let told = holding v t holds in
    rw (redrawn v t told y, counts_fit_lem v t y told, plain_valid t y) (plain_begins v t holds)

comes_yes : (v : List ℕ) → ComesFromTimetable v → are_some v ≡ true
comes_yes v c = holds_yes v c.timetable (led_valid c.led) c.holds

-- ---- the theorem
pub question10_alone : (v : List ℕ) → are_some v ≡ true ↔ ComesFromTimetable v
question10_alone v = (yes_comes v, comes_yes v)

-- what building wrote, with number 0, has its yes: no premise but the reply
pub building_has_yes_alone : (w old : List ℕ) (n : ℕ) → number_of (build_reply w (length old) n) ≡ 0
    → are_some (build_words w old n) ≡ true
building_has_yes_alone w old n done =
    holds_yes (build_words w old n) (timetable_of w) (spelled_valid w (built_yes_9 w old n done))
    (built_holds w old n done)

-- and so have both questions of the call
pub building_asked_alone : (w old : List ℕ) (n : ℕ) → number_of (build_reply w (length old) n) ≡ 0
    → alone_number (build_words w old n) n ≡ 0
unfolding alone_number
building_asked_alone w old n done =
    rw (
      built_long w old n done,
      le-leb slices_least (length old) (built_room w old n done),
      le-leb slices_least n (built_space w old n done),
      building_has_yes_alone w old n done,
    )
