-- The timetable that line tables tell is drawn within the limits, its words spell it, and it answers question 10.
use mathlib.Core.Path.{◌≡◌, refl, sym, ap, ◌∙◌}
use mathlib.Core.Bool.{Bool, true, false, not, ◌&&◌}
use mathlib.Core.List.{List, ◌++◌}
use Prim.Native.Nat.{ℕ, ◌+◌, ◌*◌, ◌≤◌, ◌<◌}
use native.Mathlib.Nat.{zero-add}
use native.Mathlib.Omega.{arith}
use borrow.Author.Tests.{le-leb, lt-leb, not-true, not-false}
use lib.Dec.{leb}
use lib.ListN.{length, get_or, take, drop, replicate, length-map, length-replicate, take-append-drop}
use Rattle.words.specs.Put.{put, put_none, put_append}
use Rattle.lists.specs.Lists.{range}
use Rattle.lists.specs.Ranges.{length_range}
use Rattle.lists.specs.Tests.{and_true, and_false}
use Rattle.timetable.specs.Timetable.{Timetable, stops_of, counted, valid}
use Rattle.timetable.specs.Words.{station_words, stop_words, start_words, walk_words, count_to, words, joined}
use Rattle.timetable.specs.Words.{timetable_of}
use Rattle.timetable.specs.Words.{chained, footed, is_timetable}
use Rattle.timetable.specs.WordLaws.{length_station_words, joined_words}
use Rattle.accepted.specs.Spelled.{words_spell, words_footed, words_chained}
use Rattle.lines_check.specs.Question10.{begins, are_tables}
use Rattle.lines_alone.specs.Facts.{they_fit}
use Rattle.lines_alone.specs.Drawn.{drawn_numbers, drawn_trip, drawn_trips, plain_station, drawn, counts_fit, are_some}
use Rattle.lines_alone.specs.Drawn.{alone_number}
use Rattle.lines_marks.specs.Marks.{Marked, marked_numbers}
use Rattle.lines_alone.proofs.NumberLaws.{trips_drawn, trips_told}

-- ---- drawing within the limits
module _ (v : List ℕ) (fit : counts_fit v ≡ true) where
  pub few_stations : (s : ℕ) → s ≡ get_or v 0 0 → s ≤ 64
  few_stations s is = omega (arith, (they_fit v fit).stations)

  pub stations_room : (s : ℕ) → s ≡ get_or v 0 0 → 2 * s ≤ 10368
  stations_room s is = omega (arith, few_stations s is)

  module _ (t : ℕ) (few : length (stops_of (drawn_trips v 0 t)) ≤ 2048) where
    pub few_counted : (n : ℕ) → n ≡ length (stops_of (drawn_trips v 0 t)) → n ≤ 2048
    few_counted n e = omega (arith, few)

    pub stops_room : (s : ℕ) → s ≡ get_or v 0 0 → (body : List ℕ) → length body ≡ 10368
        → 2 * s + 5 * length (stops_of (drawn_trips v 0 t)) ≤ length body
    stops_room s is-s body long = omega (arith, few, few_stations s is-s)

-- ---- what is drawn
-- each trip has a number
pub drawn_numbered : (v : List ℕ) → length (drawn v).numbers ≡ length (drawn v).trips
unfolding drawn
drawn_numbered v =
    let n = length (drawn_numbers v) in
    sym (length-map (range 0 n) (drawn_trip v) ∙ length_range 0 n)

module _ (v : List ℕ) (fit : counts_fit v ≡ true) (s t n : ℕ) (is-s : s ≡ get_or v 0 0)
    (few : length (stops_of (drawn_trips v 0 t)) ≤ 2048) (counts : n ≡ length (stops_of (drawn_trips v 0 t)))
    (numbers : List ℕ) (told : take t numbers ≡ drawn_numbers v) (long : length numbers ≡ 256) (inside : t ≤ 256) where
  abbrev stations : List ℕ
  stations = station_words (replicate s plain_station)

  abbrev stops : List ℕ
  stops = stop_words (stops_of (drawn_trips v 0 t))

  is_t : t ≡ length (drawn_numbers v)
  is_t = trips_told v numbers t told (omega arith)

  numbers_held : numbers ≡ put 0 (drawn_numbers v) numbers
  unfolding put
  numbers_held = sym (take-append-drop t numbers) ∙ (λ i. told i ++ drop (is_t i) numbers) ∙ rw zero-add

  pub drawn_written : (mid body zeros₂ starts walking old out : List ℕ)
      → mid ≡ put 0 (station_words (replicate s plain_station)) (replicate 10368 0)
      → body ≡ put (2 * s) (stop_words (stops_of (drawn_trips v 0 t))) mid
      → starts ≡ put 0 (start_words 0 (drawn_trips v 0 t)) zeros₂
      → out ≡ put 0 (joined s t n 0 body starts numbers walking) old → out ≡ put 0 (words (drawn v)) old
  unfolding drawn walk_words
  drawn_written mid body zeros₂ starts walking old out first second third wrote =
      let m = length (drawn_numbers v) in
      let zeros : List ℕ = replicate 10368 0 in
      let room = stops_room v fit t few s is-s zeros (length-replicate {A = ℕ} 10368 0) in
      let many : length stations ≡ 2 * s =
      length_station_words (replicate s plain_station) ∙ ap (λ k. 2 * k) (length-replicate s plain_station) in
      let both : body ≡ put 0 (stations ++ stops) zeros =
      second
      ∙ (λ i. put (sym (zero-add (2 * s)) i) stops (first i))
      ∙ put_append 0 (2 * s) stations stops zeros many (omega arith) in
      let held : body
      ≡ put 0 (station_words (replicate (get_or v 0 0) plain_station) ++ stop_words (stops_of (drawn_trips v 0 m)))
      zeros =
      both
      ∙ (λ i. put 0
      (station_words (replicate (is-s i) plain_station) ++ stop_words (stops_of (drawn_trips v 0 (is_t i))))
      zeros) in
      let begun : starts ≡ put 0 (start_words 0 (drawn_trips v 0 m)) zeros₂ =
      third ∙ (λ i. put 0 (start_words 0 (drawn_trips v 0 (is_t i))) zeros₂) in
      let stations_are : s ≡ length (replicate (get_or v 0 0) plain_station) =
      is-s ∙ sym (length-replicate (get_or v 0 0) plain_station) in
      let stops_are : n ≡ length (stops_of (drawn_trips v 0 m)) =
      counts ∙ ap (λ k. length (stops_of (drawn_trips v 0 k))) is_t in
      wrote
      ∙ ap (λ w. put 0 w old)
      (joined_words (drawn v) s t n 0 stations_are (is_t ∙ drawn_numbered v) stops_are refl body starts numbers
      walking zeros zeros₂ numbers walking held begun numbers_held (sym (put_none 0 walking)) (drawn_numbered v))

-- ---- its words spell it, whatever stands behind them
module _ (v old w : List ℕ) (is : w ≡ put 0 (words (drawn v)) old) where
  abbrev rest : List ℕ
  rest = drop (0 + length (words (drawn v))) old

  begun : w ≡ words (drawn v) ++ rest
  unfolding put
  begun = is

  -- no walk is from a station that is not listed
  listed : count_to (drawn v).walks (length (drawn v).stations) ≡ length (drawn v).walks
  unfolding drawn count_to
  listed = refl

  spelled : timetable_of w ≡ drawn v
  spelled = ap timetable_of begun ∙ words_spell (drawn v) rest (drawn_numbered v) listed

  tested : is_timetable w ≡ valid (drawn v)
  unfolding is_timetable
  tested =
      let linked : chained w ≡ true = ap chained begun ∙ words_chained (drawn v) rest in
      let counted : footed w ≡ true = ap footed begun ∙ words_footed (drawn v) rest (drawn_numbered v) listed in
      rw (linked, spelled, counted) (and_true (valid (drawn v)))

-- ---- question 10
pub stops_few : (v : List ℕ) (t n : ℕ) → n ≡ length (stops_of (drawn_trips v 0 t)) → n ≤ 2048
    → length (stops_of (drawn_trips v 0 t)) ≤ 2048
stops_few v t n counts h = omega (arith, counts)

uncounted : (t : Timetable) → 256 < length t.trips → counted t ≡ false
unfolding counted
uncounted t h =
    let front : Bool =
    leb 1 (length t.stations) && leb (length t.stations) 64 && leb (length t.walks) 256 in
    rw (and_false front (leb (length t.trips) 256) (lt-leb (length t.trips) 256 h))

many_uncounted : (t : Timetable) → 2048 < length (stops_of t.trips) → counted t ≡ false
unfolding counted
many_uncounted t h =
    and_false
    (leb 1 (length t.stations)
    && leb (length t.stations) 64
    && leb (length t.walks) 256
    && leb (length t.trips) 256)
    (leb (length (stops_of t.trips)) 2048)
    (lt-leb (length (stops_of t.trips)) 2048 h)

-- too many trips, or too many stops
many_invalid : (v : List ℕ) → counted (drawn v) ≡ false → valid (drawn v) ≡ false
unfolding valid
many_invalid v e = rw e

module _ (v : List ℕ) (r : Bool) (fits : r ≡ counts_fit v) where
  pub counts_no : not r ≡ true → false ≡ are_some v
  unfolding are_some
  counts_no denied = simp (← fits, not-true r denied)

  module _ (fine : not r ≡ false) where
    pub counts_yes : counts_fit v ≡ true
    counts_yes = sym fits ∙ not-false r fine

    pub lines_few : (n : ℕ) → n ≡ get_or v 1 0 → n ≤ 256
    lines_few n is = omega (arith, (they_fit v counts_yes).lines)

    drawn_not : valid (drawn v) ≡ false → false ≡ are_some v
    unfolding are_some
    drawn_not e = rw (counts_yes, e)

    module _ (marks : List ℕ) (held : Marked v 0 marks) (t : ℕ) (told : t ≡ length (marked_numbers marks)) where
      all_are : t ≡ length (drawn_numbers v)
      all_are = trips_drawn v marks held t told

      pub trips_no : 256 < t → false ≡ are_some v
      unfolding drawn
      trips_no h =
          drawn_not (many_invalid v (uncounted (drawn v) (omega (arith, h, all_are, drawn_numbered v))))

      pub stops_no : (n : ℕ) → n ≡ length (stops_of (drawn_trips v 0 t)) → 2048 < n → false ≡ are_some v
      unfolding drawn
      stops_no n counts h =
          let all = ap (λ k. length (stops_of (drawn_trips v 0 k))) all_are in
          drawn_not (many_invalid v (many_uncounted (drawn v) (omega (arith, counts, h, all))))

    module _ (old w : List ℕ) (drawn-is : w ≡ put 0 (words (drawn v)) old) (q : Bool) (asked : q ≡ is_timetable w) where
      is_valid : q ≡ valid (drawn v)
      is_valid = asked ∙ tested v old w drawn-is

      pub drawn_no : not q ≡ true → false ≡ are_some v
      drawn_no denied = drawn_not (sym is_valid ∙ not-true q denied)

      pub some_asked : not q ≡ false → (b : Bool) → b ≡ are_tables w v → b ≡ are_some v
      unfolding are_some
      some_asked granted b e =
          let sound : valid (drawn v) ≡ true = sym is_valid ∙ not-false q granted in
          simp (counts_yes, sound) (e ∙ ap (begins v) (spelled v old w drawn-is))

-- ---- the ways out of the call that asks
module _ (v : List ℕ) (n : ℕ) where
  pub lines_short : length v < 16384 → 8 ≡ alone_number v n
  unfolding alone_number
  lines_short short = simp (lt-leb 16384 (length v) short)

  module _ (long : 16384 ≤ length v) where
    pub work_short : n < 16384 → 8 ≡ alone_number v n
    unfolding alone_number
    work_short short = simp (le-leb 16384 (length v) long, lt-leb 16384 n short)

    module _ (space : 16384 ≤ n) (r : Bool) (asked : r ≡ are_some v) where
      pub some_no : r ≡ false → 10 ≡ alone_number v n
      unfolding alone_number
      some_no denied = simp (le-leb 16384 (length v) long, le-leb 16384 n space, ← asked, denied)

      pub some_yes : r ≡ true → 0 ≡ alone_number v n
      unfolding alone_number
      some_yes granted = simp (le-leb 16384 (length v) long, le-leb 16384 n space, ← asked, granted)
