-- Document 02, One, seen from document 01. Where no line of a text is a W line, the timetable has no walk: riders are
-- shown what document 01 has, and a store is that of document 01 with the station of each node twice. For a reader.
use Rattle.std.specs.Prelude.{◌≡◌, refl, Bool, true, false, cond, ◌&&◌, ◌≢◌, ℕ, ◌+◌, leb, eqb, length, drop}
use Rattle.std.specs.Prelude.{get_or}
use Rattle.std.proofs.Math.Path.{sym, ap}
use Rattle.std.proofs.Common.{subst, ◌∙◌, arith, ne_eqb}
use mathlib.Core.List.Memᴰ.{head as here}
use mathlib.Core.List.Memᴰ.{tail as there}
use mathlib.Core.List.{List, [], ◌∷◌, ◌++◌}
use Rattle.lists.specs.Lists.{◌∈◌}
use Rattle.text.specs.Piece.{pieces}
use Rattle.text.specs.Number.{empty_field, is_number, field_value}
use Rattle.text.specs.Time.{time_value}
use Rattle.text_shapes.specs.Shape.{station_of, field, station_shape, walk_shape, filled, stop_fits, stop_of}
use Rattle.text_shapes.specs.Shape.{stop_shape, shape_by}
use Rattle.text_shapes.specs.declared.Line.{Line}
use Rattle.text_shapes.specs.declared.Line.TheVariants.{Station as StationIn, Stop as StopIn, Shapeless}
use Rattle.text_shapes.specs.declared.StopLine.{StopLine}
use Rattle.timetable.specs.Timetable.{Walk, Timetable}
use Rattle.reading_lines.specs.Draft.{Draft, Rules, text_rules, blank, number_under, with_stop, with_line, stop_of_line}
use Rattle.reading.specs.Reading.{Outcome, Accepted, Refused, text_most, complete, ended, read_under, read_lines}
use Rattle.reading.specs.Reading.{reading}
use Rattle.connections.specs.Connections.{net}
use Rattle.connections.specs.Planner.{planner_list}
use Rattle.connections.proofs.WithoutWalks.{same_net, stations_doubled}
use Rattle.stores.proofs.WithoutWalks.{store_doubled as words_doubled}
use Rattle.promises.specs.Promises.{Shows, word_count}
use Rattle.promises.proofs.Proved.{promises}
use Rattle.promises.specs.WithoutWalks.{NoWalkLine, WithoutWalks}

-- ---- a line that does not begin with W adds no walk
abbrev Adds : Line → Type 0
Adds l = (d : Draft) → (with_line d l).walks ≡ d.walks

nothing : Adds Shapeless
nothing d = refl

picked : (b : Bool) (x y : Line) → Adds x → Adds y → Adds (cond b x y)
picked true x y h g = h
picked false x y h g = g

pub stop_adds : (l : StopLine) → Adds (StopIn l)
stop_adds l d = go l.last
  where
    go : (last : Bool) → (with_stop d (stop_of_line l) last).walks ≡ d.walks
    go true = refl
    go false = refl

station_fields_lem : (number minutes points : ℕ) → Adds (station_of number minutes points)
unfolding station_of
station_fields_lem number minutes points =
    picked
    (is_number number && is_number minutes && is_number points)
    (StationIn (record { number = number; minutes = minutes; points = points }))
    Shapeless
    (λ d. refl)
    nothing

station_shape_lem : (f : List (List ℕ)) → Adds (station_shape f)
unfolding station_shape
station_shape_lem f =
    picked
    (eqb (length f) 3)
    (station_of (field_value (field f 0)) (field_value (field f 1)) (field_value (field f 2)))
    Shapeless
    (station_fields_lem (field_value (field f 0)) (field_value (field f 1)) (field_value (field f 2)))
    nothing

stop_fields_lem : (trip stop station arrive depart points mark : ℕ)
    → Adds (stop_of trip stop station arrive depart points mark)
unfolding stop_of
stop_fields_lem trip stop station arrive depart points mark =
    picked (stop_fits trip stop station arrive depart points mark) (StopIn line) Shapeless (stop_adds line) nothing
  where
    line : StopLine
    line =
        record {
          trip = trip;
          stop = stop;
          station = station;
          arrive = filled arrive;
          depart = filled depart;
          points = filled points;
          mark = mark;
          last = eqb depart empty_field;
        }

stop_shape_lem : (time : List ℕ → ℕ) (f : List (List ℕ)) → Adds (stop_shape time f)
unfolding stop_shape
stop_shape_lem time f =
    picked
    (eqb (length f) 7)
    (stop_of (field_value (field f 0)) (field_value (field f 1)) (field_value (field f 2)) (time (field f 3))
    (time (field f 4)) (field_value (field f 5)) (field_value (field f 6)))
    Shapeless
    (stop_fields_lem (field_value (field f 0)) (field_value (field f 1)) (field_value (field f 2)) (time (field f 3))
    (time (field f 4)) (field_value (field f 5)) (field_value (field f 6)))
    nothing

line_adds : (time : List ℕ → ℕ) (s : List ℕ) → get_or s 0 0 ≢ 87 → Adds (shape_by time s)
unfolding shape_by
line_adds time s other =
    picked (eqb (get_or s 1 0) 44) begun Shapeless
    (picked (eqb (get_or s 0 0) 83) (station_shape f) (cond (eqb (get_or s 0 0) 87) (walk_shape f) stop)
    (station_shape_lem f)
    (rw
    (ne_eqb (get_or s 0 0) 87 other)
    (picked (eqb (get_or s 0 0) 84) (stop_shape time f) Shapeless (stop_shape_lem time f) nothing)))
    nothing
  where
    f : List (List ℕ)
    f = pieces 44 (drop 2 s)

    stop : Line
    stop = cond (eqb (get_or s 0 0) 84) (stop_shape time f) Shapeless

    begun : Line
    begun = cond (eqb (get_or s 0 0) 83) (station_shape f) (cond (eqb (get_or s 0 0) 87) (walk_shape f) stop)

-- ---- and so no line does
refused : Outcome → ℕ
refused (Accepted t n) = 0
refused (Refused k n) = 1

walks_of : Outcome → List Walk
walks_of (Accepted t n) = t.walks
walks_of (Refused k n) = []

module _ (t : Timetable) (n : ℕ) where
  -- a refusal is not accepted
  turned : {G : Type 0} (k l : ℕ) → Refused k l ≡ Accepted t n → G
  unfolding refused
  turned k l e = absurd (omega (arith, ap refused e))

  pub if_yes : {G : Type 0} (b : Bool) (o : Outcome) (k l : ℕ) → (o ≡ Accepted t n → G)
      → cond b o (Refused k l) ≡ Accepted t n → G
  if_yes true o k l h e = h e
  if_yes false o k l h e = turned k l e

  pub end_adds : (r : Rules) (d : Draft) (line : ℕ) → ended r d line ≡ Accepted t n → t.walks ≡ d.walks
  unfolding ended walks_of
  end_adds r d line e = if_yes (complete r d) _ 7 line (λ e. sym (ap walks_of e)) e

  lines_add : (r : Rules) (time : List ℕ → ℕ) (l : List (List ℕ)) (d : Draft) (line : ℕ)
      → ((s : List ℕ) → s ∈ l → get_or s 0 0 ≢ 87) → read_under r time d line l ≡ Accepted t n → t.walks ≡ d.walks
  unfolding read_under
  lines_add r time [] d line other e = end_adds r d line e
  lines_add r time (s ∷ []) d line other e =
      if_yes (eqb (length s) 0) (ended r d line) 2 line (end_adds r d line) e
  lines_add r time (s ∷ u ∷ l) d line other e =
      let next = with_line d (shape_by time s) in
      if_yes
      (eqb (number_under r d (shape_by time s)) 0)
      (read_under r time next (line + 1) (u ∷ l))
      (number_under r d (shape_by time s))
      line
      (λ e.
      lines_add r time (u ∷ l) next (line + 1) (λ x m. other x (there m)) e
      ∙ line_adds time s (other s (here refl)) d)
      e

  text_adds : (text : List ℕ) → reading text ≡ Accepted t n → NoWalkLine text → t.walks ≡ []
  unfolding reading read_lines
  text_adds text e other =
      if_yes (leb (length text) text_most) (read_lines text) 1 0
      (lines_add text_rules time_value (pieces 10 text) blank 1 other) e

pub without_walks : WithoutWalks
without_walks =
    record {
      no_walks = λ text plan text_lines. text_adds plan text_lines text;
      rows_as_before =
          λ text plan timetable lines l none work from to minute enough q store made before after reply call.
          subst
          (λ n. Shows minute (planner_list n from minute to) before after reply)
          (same_net plan none)
          (promises.query_shows text plan timetable lines l work from to minute enough q store made before after reply
          call);
      patterns_doubled = stations_doubled;
      store_doubled =
          λ text plan timetable lines l none work source enough first last before after reply call fits.
          (promises.store_stores text plan timetable lines l work source enough first last before after reply call
          ).writes fits
          ∙ ap (λ ws. ws ++ drop (word_count (net plan) source) before) (words_doubled plan none source);
    }
