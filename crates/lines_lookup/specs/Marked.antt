-- Station and mark of a position, told by its word. A valid timetable has at most 64 stations, so that the two parts of
-- the word can be told apart.
use Rattle.std.specs.Prelude.{◌≡◌, true, List, [], ℕ, ◌+◌, ◌*◌, ◌≤◌, ◌<◌, ◌%◌, ◌/◌, T, eqb, length, get_or}
use Rattle.std.proofs.Common.{sym, subst, ◌∙◌, mod-eq_of_lt, zero-add, arith}
use Rattle.std.proofs.Math.Path.{ap}
use Rattle.std.proofs.Math.Bool.{not}
use Rattle.std.proofs.Math.Nat.{add-mul-mod_self_left, add-mul-div_left, div-eq_of_lt}
use Rattle.timetable.specs.Timetable.{Timetable, counted, valid}
use Rattle.lists.specs.Tests.{reads}
use Rattle.connections.specs.Rides.{no_stop, may_board, may_alight}
use Rattle.connections.proofs.Sound.{trips_valid_lem, valid_trip_lem}
use Rattle.lines.specs.Lines.{lines, head_of, course, station_on}
use Rattle.lines.proofs.Ordered.{lines_good}
use Rattle.lines.specs.Once.{trip_listed}
use Rattle.lines_tables.specs.Spelled.{within}
use Rattle.lines_tables.specs.PlaceLaws.{trip_listed as stop_listed, listed_last}
use Rattle.lines_lookup.specs.Lookup.{line_at, station_at, mark_at, boards_at, alights_at}
use Rattle.lines_lookup.specs.Told.{LineTold, Told}

-- ---- two numbers in one word
module _ (station mark : ℕ) (few : station < 128) where
  station_of_lem : (station + 128 * mark) % 128 ≡ station
  station_of_lem = add-mul-mod_self_left station 128 mark ∙ mod-eq_of_lt few

  mark_of : (station + 128 * mark) / 128 ≡ mark
  mark_of =
      add-mul-div_left station mark {y = 128} (omega arith)
      ∙ ap (λ n. n + mark) (div-eq_of_lt few)
      ∙ zero-add mark

-- ---- where a line calls at a station below 128
module _ (v : List ℕ) (t : Timetable) (i : ℕ) (l : List ℕ) (told : LineTold v t i l) (p : ℕ)
    (inside : p < length (course t.trips l)) (few : station_on t.trips l p < 128) where
  pub line_station : station_at v (line_at v i) p ≡ station_on t.trips l p
  unfolding station_at
  line_station = ap (λ n. n % 128) (told.word p inside) ∙ station_of_lem _ _ few

  pub line_mark_lem : mark_at v (line_at v i) p ≡ (get_or (course t.trips l) p no_stop).mark
  unfolding mark_at
  line_mark_lem = ap (λ n. n / 128) (told.word p inside) ∙ mark_of _ _ few

  pub line_boards : boards_at v (line_at v i) p ≡ may_board (get_or (course t.trips l) p no_stop)
  unfolding boards_at may_board
  line_boards = ap (λ m. not (eqb m 2)) line_mark_lem

  pub line_alights : alights_at v (line_at v i) p ≡ may_alight (get_or (course t.trips l) p no_stop)
  unfolding alights_at may_alight
  line_alights = ap (λ m. not (eqb m 1)) line_mark_lem

-- ---- the lines of a valid timetable
few_stations : (t : Timetable) → T (valid t) → length t.stations ≤ 64
unfolding valid counted
few_stations t okay = search reads depth 9

module _ (t : Timetable) (okay : valid t ≡ true) (i : ℕ) (h : i < length (lines t.trips)) where
  abbrev l : List ℕ
  l = get_or (lines t.trips) i []

  module _ (p : ℕ) (inside : p < length (course t.trips l)) where
    pub station_few : station_on t.trips l p < 128
    station_few =
        let here = within (lines t.trips) i [] h in
        let led = (lines_good t.trips l here).led in
        let listed = trip_listed t.trips (head_of l) (record { line = l; listed = here; member = led }) in
        let n = length t.stations in
        let fine = subst T (sym okay) tt in
        let one = valid_trip_lem n t.trips (trips_valid_lem t fine) (head_of l) listed in
        let s = stop_listed n (course t.trips l) one p inside in
        omega (arith, listed_last n (get_or (course t.trips l) p no_stop) s, few_stations t fine)

    module _ (v : List ℕ) (told : Told v t) where
      pub boards_told : boards_at v (line_at v i) p ≡ may_board (get_or (course t.trips l) p no_stop)
      boards_told = line_boards v t i l (told.line i h) p inside station_few

      pub alights_told : alights_at v (line_at v i) p ≡ may_alight (get_or (course t.trips l) p no_stop)
      alights_told = line_alights v t i l (told.line i h) p inside station_few
