-- The text written out from the stations and walks of a valid timetable is accepted, and so is that of a trip that may
-- be added: each line has a yes to all questions, and the draft grows by the station, walk or stop that was written.
use Rattle.std.specs.Prelude.{◌≡◌, Bool, ◌||◌, ℕ, ◌+◌, ◌-◌, ◌≤◌, ◌<◌, leb}
use Rattle.std.proofs.Math.Path.{refl, ap}
use Rattle.std.proofs.Common.{sym, subst, ◌∙◌, add-zero, arith}
use Rattle.std.proofs.Math.Bool.{true, false}
use mathlib.Core.List.{List, [], ◌∷◌, ◌++◌, map, append-nil}
use Rattle.std.proofs.Math.ListN.{length}
use Rattle.std.proofs.Math.Seq.{append_snoc}
use borrow.Author.Tests.{le-leb}
use Rattle.words.specs.Below.{Below}
use Rattle.lists.specs.Tests.{and_left, and_right}
use Rattle.text.specs.Piece.{pieces}
use Rattle.text.specs.Time.{time_value}
use Rattle.text_shapes.specs.Shape.{shape_of}
use Rattle.text_shapes.specs.declared.Line.{Line}
use Rattle.timetable.specs.Timetable.{stations_most, walks_most, trips_most, stops_most, last_minute, Station, Walk}
use Rattle.timetable.specs.Timetable.{Stop}
use Rattle.timetable.specs.Timetable.{Trip, Timetable, stops_of, valid_station, valid_walks, leaves, follows, runs}
use Rattle.timetable.specs.Timetable.{valid_trip, valid_stations}
use Rattle.reading_lines.specs.Draft.{Draft, Rules, text_rules, extra_rules, opening, blank, final, with_line}
use Rattle.reading_lines.specs.Progress.{progress, line_number_at}
use Rattle.reading.specs.Reading.{text_most, Accepted, ended, read_under, read_lines, reading, read_extra}
use Rattle.reading.proofs.DraftLaws.{final_append}
use Rattle.accepted.specs.Lists.{snoc_length}
use Rattle.accepted.specs.Valid.{valid_station_lem, valid_walk_lem, is_listed, it_leaves, it_ends, it_follows}
use Rattle.accepted.specs.Valid.{runs_none, runs_last, runs_on, begins, trip_not_empty}
use Rattle.accepted.specs.Passes.{station_passes, walk_passes, extra_passes, first_fits, later_fits, read_more}
use Rattle.accepted.specs.SoFar.{walk_among}
use Rattle.accepted.specs.Marks.{lined, bytes_lined, pieces_lined}
use Rattle.accepted.specs.WrittenOut.{stop_lines, net_lines, net_text, trip_text}
use Rattle.accepted.specs.LineReadBack.{walk_read, stop_read}
use Rattle.accepted.specs.TextReadBack.{Written, stations_read, net_read, net_written, net_short, stops_read}
use Rattle.accepted.specs.TextReadBack.{trip_written}
use Rattle.accepted.specs.Changed.{Addable}

-- ---- reading, line by line
module _ (r : Rules) where
  -- draft d has a yes to each of the lines given, and with them it is e
  abbrev Takes : Draft → List Line → Draft → Type 0
  Takes d [] e = d ≡ e
  Takes d (l ∷ more) e = (line_number_at r (progress d) l ≡ 0) × Takes (with_line d l) more e

  -- some lines, and then others
  taken_both : (d e f : Draft) (l more : List Line) → Takes d l e → Takes e more f → Takes d (l ++ more) f
  taken_both d e f [] more x y = subst (λ z. Takes z more f) (sym x) y
  taken_both d e f (s ∷ l) more x y = (x.0, taken_both (with_line d s) e f l more x.1 y)

  read_line : (d : Draft) (k : ℕ) (s u : List ℕ) (l : List (List ℕ)) → line_number_at r (progress d) (shape_of s) ≡ 0
      → read_under r time_value d k (s ∷ u ∷ l) ≡ read_under r time_value (with_line d (shape_of s)) (k + 1) (u ∷ l)
  read_line d k s u l e = rw (read_more r time_value d k s u l, e)

  -- the lines given, and then nothing behind the last byte 10
  read_on_lem : (d : Draft) (k : ℕ) (s : List ℕ) (l : List (List ℕ)) → line_number_at r (progress d) (shape_of s) ≡ 0
      → read_under r time_value d k (s ∷ l ++ ([] ∷ []))
      ≡ read_under r time_value (with_line d (shape_of s)) (k + 1) (l ++ ([] ∷ []))
  read_on_lem d k s [] e = read_line d k s [] [] e
  read_on_lem d k s (u ∷ l) e = read_line d k s u (l ++ ([] ∷ [])) e

  taken_read : (d e : Draft) (k : ℕ) (l : List (List ℕ)) → Takes d (map shape_of l) e
      → read_under r time_value d k (l ++ ([] ∷ [])) ≡ ended r e (k + length l)
  unfolding read_under
  taken_read d e k [] x = rw (add-zero k) (ap (λ z. ended r z k) x)
  taken_read d e k (s ∷ l) x =
      read_on_lem d k s l x.0
      ∙ taken_read (with_line d (shape_of s)) e (k + 1) l x.1
      ∙ ap (ended r e) (omega arith)

  -- lines as they are written
  written_read : (d e : Draft) (l : List (List ℕ)) (read : List Line) → Written l read → Takes d read e
      → read_under r time_value d 1 (pieces 10 (lined l)) ≡ ended r e (1 + length l)
  written_read d e l read w x =
      let taken : Takes d (map shape_of l) e = rw w.shapes x in
      rw (pieces_lined l w.plain) (taken_read d e 1 l taken)

-- the stations of an extra trip have no walks
abbrev draft : List Station → List Trip → Trip → Draft
draft stations trips begun = record { stations = stations; walks = []; trips = trips; begun = begun }

-- ---- stations
stations_taken : (n : ℕ) (done l : List Station) → n ≡ length done + 1 → valid_stations l ≡ true
    → length done + length l ≤ stations_most → Takes text_rules (opening done) (stations_read n l) (opening (done ++ l))
unfolding stations_read valid_stations
stations_taken n done [] e v h = ap opening (sym (append-nil done))
stations_taken n done (s ∷ l) e v h =
    let here = valid_station_lem s (and_left (valid_station s) (valid_stations l) v) in
    let more = snoc_length done s in (
      station_passes (opening done) _ (record {
        minutes = here.minutes;
        least = here.least;
        points = here.points;
        walks = refl;
        first = refl;
        number = e;
        count = omega arith;
      }),
      rw (← append_snoc done s l)
          (stations_taken (n + 1) (done ++ (s ∷ [])) l (omega arith) (and_right (valid_station s) (valid_stations l) v)
          (omega arith)),
    )

-- ---- walks, behind the stations
abbrev walked : List Station → List Walk → Draft
walked stations walks = record { stations = stations; walks = walks; trips = []; begun = [] }

walks_taken : (s : List Station) (done l : List Walk) → valid_walks (length s) (done ++ l) ≡ true
    → length done + length l ≤ walks_most → Takes text_rules (walked s done) (map walk_read l) (walked s (done ++ l))
walks_taken s done [] v h = ap (walked s) (sym (append-nil done))
walks_taken s done (w ∷ l) v h =
    let among = walk_among (length s) done w l v in
    let more = snoc_length done w in (
      walk_passes (walked s done) _ (record {
        walk = valid_walk_lem (length s) w among.0;
        first = refl;
        rises = among.1;
        count = omega arith;
      }),
      rw (← append_snoc done w l)
          (walks_taken s (done ++ (w ∷ [])) l (rw (append_snoc done w l) v) (omega arith)),
    )

-- the timetable of the stations and walks given, in which no trip runs
abbrev pub no_trips : List Station → List Walk → Timetable
no_trips s l = record { stations = s; walks = l; numbers = []; trips = [] }

net_ended : (s : List Station) (l : List Walk) (n : ℕ) → 1 ≤ length s
    → ended text_rules (walked s l) (1 + n) ≡ Accepted (no_trips s l) n
unfolding ended
net_ended s l n h =
    let lines : 1 + n - 1 ≡ n = omega arith in
    simp (le-leb 1 (length s) h, lines)

module _ (s : List Station) (l : List Walk) (v : valid_stations s ≡ true) (least : 1 ≤ length s)
    (few : length s ≤ stations_most) (w : valid_walks (length s) l ≡ true) (some : length l ≤ walks_most)
  where
    net_taken : Takes text_rules blank (net_read s l) (walked s l)
    net_taken =
        taken_both text_rules blank (opening s) (walked s l) (stations_read 1 s) (map walk_read l)
        (stations_taken 1 [] s refl v (omega arith)) (walks_taken s [] l w (omega arith))

    pub net_accepted : reading (net_text s l) ≡ Accepted (no_trips s l) (length (net_lines s l))
    unfolding reading read_lines net_text
    net_accepted =
        let short : length (lined (net_lines s l)) ≤ text_most = omega (arith, net_short s l v few w some) in
        rw (
          le-leb (length (lined (net_lines s l))) text_most short,
          written_read text_rules blank (walked s l) (net_lines s l) (net_read s l) (net_written s l v few w) net_taken,
        )
        (net_ended s l (length (net_lines s l)) least)

    pub net_bytes : Below 256 (net_text s l)
    unfolding net_text
    net_bytes = bytes_lined (net_lines s l) (net_written s l v few w).plain

-- ---- the stops of an extra trip of number n, where so many trips and stops run
module _ (stations : List Station) (n trips stops : ℕ) (least : 1 ≤ n) (few : trips < trips_most) where
  abbrev own : Rules
  own = extra_rules n trips stops

  -- stop s, which comes after those begun
  stop_taken : (begun : Trip) (k : ℕ) (s : Stop) (last : Bool) → k ≡ length begun + 1 → 0 < length begun
      → stops + length begun < stops_most → follows (length stations) (final begun) s ≡ true
      → s.depart ≤ last_minute → s.points ≤ 100 → s.mark ≤ 2 → (last || leb s.arrive s.depart) ≡ true
      → line_number_at own (progress (draft stations [] begun)) (stop_read n k s last) ≡ 0
  stop_taken begun k s last e h g f d p m w =
      let came = it_follows _ _ s f in
      let at = is_listed _ s came.station in
      extra_passes own _ _ (record {
        least = least;
        trip = refl;
        alone = refl;
        passes =
            record {
              arrive = came.arrive;
              depart = d;
              points = p;
              mark = m;
              stop = e;
              trips = omega arith;
              stops = g;
              fits =
                  later_fits _ _ at.least at.most
                  (record { unlike = came.unlike; later = came.later; waits = w });
            };
      })

  later_taken : (begun : Trip) (k : ℕ) (l : List Stop) → k ≡ length begun + 1 → 0 < length begun
      → stops + length begun + length l ≤ stops_most → runs (length stations) (final begun) l ≡ true
      → Takes own (draft stations [] begun) (stops_read n k l) (draft stations ((begun ++ l) ∷ []) [])
  unfolding stops_read
  later_taken begun k [] e h g v = absurd (runs_none _ _ v)
  later_taken begun k (s ∷ []) e h g v =
      let r = runs_last _ _ s v in
      let gone = it_ends s r.1 in
      (stop_taken begun k s true e h (omega arith) r.0 (omega arith) (omega arith) gone.mark refl, refl)
  later_taken begun k (s ∷ u ∷ l) e h g v =
      let r = runs_on _ _ s u l v in
      let goes = it_leaves s r.leaves in
      let more = snoc_length begun s in (
        stop_taken begun k s false e h (omega arith) r.follows goes.depart goes.points goes.mark
            (le-leb s.arrive s.depart r.waits),
        rw (← append_snoc begun s (u ∷ l))
            (later_taken (begun ++ (s ∷ [])) (k + 1) (u ∷ l) (omega arith) (omega arith) (omega arith)
            (rw (final_append begun s) r.on)),
      )

  trip_taken : (t : Trip) → stops + length t ≤ stops_most → valid_trip (length stations) t ≡ true
      → Takes own (opening stations) (stops_read n 1 t) (draft stations (t ∷ []) [])
  unfolding stops_read
  trip_taken [] g v = absurd (trip_not_empty _ v)
  trip_taken (b ∷ []) g v = absurd (runs_none _ b (begins _ b [] v).on)
  trip_taken (b ∷ s ∷ l) g v =
      let w = begins _ b (s ∷ l) v in
      let at = is_listed _ b w.station in
      let goes = it_leaves b w.leaves in (
        extra_passes own _ _ (record {
          least = least;
          trip = refl;
          alone = refl;
          passes =
              record {
                arrive = omega arith;
                depart = goes.depart;
                points = goes.points;
                mark = goes.mark;
                stop = refl;
                trips = omega arith;
                stops = omega arith;
                fits = first_fits _ _ refl at.least at.most;
              };
        }),
        later_taken (b ∷ []) 2 (s ∷ l) refl (omega arith) (omega arith) w.on,
      )

-- the timetable of the extra trip alone
abbrev pub one_trip : List Station → (n : ℕ) → Trip → Timetable
one_trip l n x = record { stations = l; walks = []; numbers = n ∷ []; trips = x ∷ [] }

trip_ended : (l : List Station) (n trips stops : ℕ) (x : Trip) (k : ℕ)
    → ended (extra_rules n trips stops) (draft l (x ∷ []) []) (1 + k) ≡ Accepted (one_trip l n x) k
unfolding ended
trip_ended l n trips stops x k = let lines : 1 + k - 1 ≡ k = omega arith in simp lines

module _ (t : Timetable) (few : length t.stations ≤ stations_most) (n : ℕ) (x : Trip) (h : Addable t n x) where
  trip_lines : Written (stop_lines n 1 x) (stops_read n 1 x)
  trip_lines = trip_written (length t.stations) n few h.most x h.trip (omega (arith, h.stops))

  pub trip_accepted : read_extra t n (trip_text n x) ≡ Accepted (one_trip t.stations n x) (length (stop_lines n 1 x))
  unfolding read_extra trip_text
  trip_accepted =
      let trips = length t.trips in
      let stops = length (stops_of t.trips) in
      written_read (extra_rules n trips stops) (opening t.stations) (draft t.stations (x ∷ []) [])
      (stop_lines n 1 x) (stops_read n 1 x) trip_lines
      (trip_taken t.stations n trips stops h.least h.trips x h.stops h.trip)
      ∙ trip_ended t.stations n trips stops x (length (stop_lines n 1 x))

  pub trip_bytes : Below 256 (trip_text n x)
  unfolding trip_text
  trip_bytes = bytes_lined (stop_lines n 1 x) trip_lines.plain
