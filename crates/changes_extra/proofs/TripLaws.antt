-- Reading the lines of an extra trip: the stations of the timetable stand in the array already, so that the lines are
-- read as those of an extra trip of this timetable.
use mathlib.Core.Path.{◌≡◌, refl, sym, ap, subst, ◌∙◌}
use mathlib.Core.Bool.{true, false}
use mathlib.Core.List.{List, [], ◌∷◌, ◌++◌, map, append-nil}
use Prim.Native.Nat.{ℕ, zero, suc, ◌+◌, ◌*◌, ◌≤◌, ◌<◌}
use native.Mathlib.Omega.{arith}
use lib.ListN.{length, get_or, set, drop}
use Rattle.lists.specs.Lists.{range}
use Rattle.words.specs.Put.{put, put_none, put_one, put_front}
use Rattle.text.specs.Piece.{pieces}
use Rattle.text.specs.Time.{time_value}
use Rattle.timetable.specs.Timetable.{Station, Timetable, stops_of}
use Rattle.timetable.specs.Words.{station_words, walk_words, words, joined, station_count, timetable_of, is_timetable}
use Rattle.timetable.specs.WordLaws.{joined_words}
use Rattle.timetable.specs.Check.{stations_at, length_stations, length_trips}
use Rattle.timetable.specs.Access.{spelled_valid, stations_few, trips_few, stops_few}
use Rattle.timetable.specs.Changes.{runs_as}
use Rattle.reading_lines.specs.Draft.{Rules, extra_rules, opening}
use Rattle.reading.specs.Reading.{Outcome, Accepted, Refused, read_under, read_extra}
use Rattle.reading_lines.specs.Progress.{Within, Running}
use Rattle.reading_lines.specs.declared.Progress.{Progress}
use Rattle.reading.specs.Model.{stations_in, read_after, progress_of, LinesRead}
use Rattle.reading.specs.Lines.{Lines}
use Rattle.reading.specs.Lines.{Accepted as LinesAccepted, Refused as LinesRefused}
use Rattle.accepted.specs.Extra.{extra_one}
use Rattle.changes_extra.specs.Extra.{Single, StopsAre, StopsRead, TripRead}
use Rattle.changes_places.specs.Runs.{stations_are, all_stops}
use Rattle.changes_extra.specs.Found.{Whole, Refused as FoundRefused}

-- ---- stations whose words an array begins with
abbrev no_station : Station
no_station = record { minutes = 0; points = 0 }

first_word : (l : List Station) (rest : List ℕ) (i : ℕ) → i < length l
    → get_or (station_words l ++ rest) (2 * i) 0 ≡ (get_or l i no_station).minutes
unfolding station_words
first_word [] rest i h = absurd (omega arith)
first_word (s ∷ l) rest zero h = refl
first_word (s ∷ l) rest (suc i) h =
    let next : 2 * suc i ≡ suc (suc (2 * i)) = omega arith in
    ap (λ k. get_or (station_words (s ∷ l) ++ rest) k 0) next ∙ first_word l rest i (omega arith)

second_word : (l : List Station) (rest : List ℕ) (i : ℕ) → i < length l
    → get_or (station_words l ++ rest) (2 * i + 1) 0 ≡ (get_or l i no_station).points
unfolding station_words
second_word [] rest i h = absurd (omega arith)
second_word (s ∷ l) rest zero h = refl
second_word (s ∷ l) rest (suc i) h =
    let next : 2 * suc i + 1 ≡ suc (suc (2 * i + 1)) = omega arith in
    ap (λ k. get_or (station_words (s ∷ l) ++ rest) k 0) next ∙ second_word l rest i (omega arith)

read_off : (f : ℕ → Station) (k : ℕ) (l : List Station) → ((i : ℕ) → i < length l → f (k + i) ≡ get_or l i no_station)
    → map f (range k (length l)) ≡ l
read_off f k [] h = refl
read_off f k (s ∷ l) h =
    let here : k ≡ k + 0 = omega arith in
    let next : (i : ℕ) → suc k + i ≡ k + suc i = λ i. omega arith in
    let first = ap f here ∙ h 0 (omega arith) in
    let rest = read_off f (suc k) l (λ i g. ap f (next i) ∙ h (suc i) (omega arith)) in
    λ i. first i ∷ rest i

stations_in_lem : (l : List Station) (rest : List ℕ) → stations_in (station_words l ++ rest) (length l) ≡ l
unfolding stations_in
stations_in_lem l rest =
    read_off
    (λ i.
    record {
      minutes = get_or (station_words l ++ rest) (2 * i) 0;
      points = get_or (station_words l ++ rest) (2 * i + 1) 0;
    })
    0
    l
    (λ i h.
    let same : 0 + i ≡ i = omega arith in
    (λ j.
    record {
      minutes = get_or (station_words l ++ rest) (2 * same j) 0;
      points = get_or (station_words l ++ rest) (2 * same j + 1) 0;
    })
    ∙ (λ j. record { minutes = first_word l rest i h j; points = second_word l rest i h j }))

-- ---- the lines
module _ (w : List ℕ) (okay : is_timetable w ≡ true) (n s t m : ℕ) (is-s : s ≡ get_or w 0 0) (is_t : t ≡ get_or w 1 0)
    (is_m : m ≡ get_or w 2 0) where
  pub rules_run : Running (record { extra = true; number = n; trips = t; stops = m })
  rules_run = record { trips = omega (arith, trips_few w okay); stops = omega (arith, stops_few w okay) }

  pub stations_most_lem : s ≤ 64
  stations_most_lem = omega (arith, stations_few w okay)

  module _ (text body₀ body : List ℕ)
      (copied : body ≡ put 0 (station_words (stations_at w 0 (station_count w))) body₀) where
    stations_read_lem : stations_in body s ≡ (timetable_of w).stations
    stations_read_lem =
        let l = (timetable_of w).stations in
        let rest = drop (length (station_words l)) body₀ in
        let front : body ≡ station_words l ++ rest =
        copied ∙ ap (λ x. put 0 (station_words x) body₀) (sym (stations_are w)) ∙ put_front (station_words l) body₀ in
        (λ i. stations_in (front i) ((is-s ∙ sym (length_stations w)) i)) ∙ stations_in_lem l rest

    lines_same : read_after (record { extra = true; number = n; trips = t; stops = m }) body s text
        ≡ read_extra (timetable_of w) n text
    unfolding read_extra
    lines_same =
        let trips = is_t ∙ sym (length_trips w) in
        let stops = is_m ∙ sym (all_stops w okay) in
        λ i. read_under (extra_rules n (trips i) (stops i)) time_value (opening (stations_read_lem i)) 1
        (pieces 10 text)

    module _ (r : Lines) (body₁ starts starts₀ walking walking₀ : List ℕ)
        (free : runs_as n (timetable_of w).numbers ≡ false)
        (lines : LinesRead (record { extra = true; number = n; trips = t; stops = m })
        (read_after (record { extra = true; number = n; trips = t; stops = m }) body s text) r body₁ starts walking body
        starts₀ walking₀)
      where
        abbrev rules : Rules
        rules = record { extra = true; number = n; trips = t; stops = m }

        read : LinesRead rules (read_extra (timetable_of w) n text) r body₁ starts walking body starts₀ walking₀
        read = subst (λ o. LinesRead rules o r body₁ starts walking body starts₀ walking₀) lines_same lines

        told : (o : Outcome) → read_extra (timetable_of w) n text ≡ o
            → LinesRead rules o r body₁ starts walking body starts₀ walking₀
            → StopsAre n o r body₁ starts
        told (Accepted one k) e l =
            let is = extra_one (timetable_of w) n text (spelled_valid w okay) one k e free in (
              l.0,
              record {
                within = l.1;
                old_body = body;
                is_body = l.2;
                old_starts = starts₀;
                is_starts = l.3;
                small = is.addable.most;
                unwalked = is.walks;
                numbered = l.4;
                single = ap length is.trips;
              },
            )
        told (Refused number line) e l = l

        pub stops_read_lem : StopsRead n (read_extra (timetable_of w) n text) r body₁ starts
        stops_read_lem = record { are = told (read_extra (timetable_of w) n text) refl read }

-- ---- the words of the trip
module _ (o : Outcome) (n : ℕ) (r : Lines) (body starts : List ℕ) (read : StopsRead n o r body starts) where
  module _ (number line : ℕ) (no : r ≡ LinesRefused number line) where
    is_refused : (o : Outcome) → StopsAre n o r body starts → o ≡ Refused number line
    is_refused (Accepted one k) l = let e = l.0 in let z : ◌≡◌ {A = ℕ} 0 1 = cc in absurd (omega arith)
    is_refused (Refused k l) e = cc

    pub trip_refused : (x y : List ℕ) → TripRead o (FoundRefused number line) x y
    trip_refused x y =
        subst (λ o. TripRead o (FoundRefused number line) x y) (sym (is_refused o read.are)) (record { is = refl })

  module _ (p : Progress) (k : ℕ) (done : r ≡ LinesAccepted p k) where
    record Kept : Type 0 where
      one : Timetable
      accepted : o ≡ Accepted one k
      is_progress : p ≡ progress_of one
      single : Single n one body starts

    is_kept : (x : Outcome) → o ≡ x → StopsAre n x r body starts → Kept
    is_kept (Accepted one j) e l =
        let f = l.0 in
        let same : j ≡ k = cc in
        record { one = one; accepted = e ∙ ap (Accepted one) same; is_progress = cc; single = l.1 }
    is_kept (Refused number line) e l = let z : ◌≡◌ {A = ℕ} 0 1 = cc in absurd (omega arith)

    kept : Kept
    kept = is_kept o refl read.are

    is_within : Within p
    is_within = subst Within (sym kept.is_progress) kept.single.within

    pub trip_stations : p.stations ≤ 64
    trip_stations = is_within.stations

    pub trip_trips : p.trips ≤ 256
    trip_trips = is_within.trips

    pub trip_stops_lem : p.stops ≤ 2048
    trip_stops_lem = is_within.stops

    pub number_small : n < 65536
    number_small = omega (arith, kept.single.small)

    pub trip_whole : (numbers zeros : List ℕ) → numbers ≡ put 0 (n ∷ []) zeros → (walking old extra : List ℕ)
        → extra ≡ put 0 (joined p.stations p.trips p.stops 0 body starts numbers walking) old
        → TripRead o Whole extra old
    unfolding walk_words
    trip_whole numbers zeros wrote walking old extra e =
        let one = kept.one in
        let is = kept.is_progress in
        let held = kept.single in
        let stops : (progress_of one).stops ≡ length (stops_of one.trips) = simp append-nil in
        let told : numbers ≡ put 0 one.numbers zeros =
        wrote ∙ ap (λ l. put 0 l zeros) (sym held.numbered) in
        let walked : walking ≡ put 0 (walk_words one.walks) walking =
        sym (put_none 0 walking) ∙ ap (λ l. put 0 (walk_words l) walking) (sym held.unwalked) in
        let table : joined p.stations p.trips p.stops 0 body starts numbers walking ≡ words one =
        joined_words one p.stations p.trips p.stops 0 (ap (λ (x : Progress). x.stations) is)
        (ap (λ (x : Progress). x.trips) is) (ap (λ (x : Progress). x.stops) is ∙ stops)
        (ap length (sym held.unwalked)) body starts numbers walking held.old_body held.old_starts zeros walking
        held.is_body held.is_starts told walked (ap length held.numbered ∙ sym held.single) in
        subst (λ o. TripRead o Whole extra old) (sym kept.accepted)
        (record { is = (refl, e ∙ ap (λ l. put 0 l old) table) })

pub number_put : (numbers : List ℕ) (n : ℕ) → length numbers ≡ 256 → set numbers 0 n ≡ put 0 (n ∷ []) numbers
number_put numbers n room = put_one 0 numbers n (omega arith)
