-- Document 02, Nine, seen from One, where the change at a station stayed open beside a W line from the station to
-- itself: "A timetable without such a line keeps all its rows", from whatever store, and its stores, after whatever
-- trips were cancelled and added; and direct rows are what they were in any case. For a reader.
use Rattle.std.specs.Prelude.{◌≡◌, refl, ◌≢◌, ℕ, ◌+◌, leb, eqb, length}
use Rattle.std.proofs.Common.{sym, ap, subst, ◌∙◌}
use mathlib.Core.List.Memᴰ.{head as here}
use mathlib.Core.List.Memᴰ.{tail as there}
use mathlib.Core.List.{List, [], ◌∷◌}
use Rattle.lists.specs.Lists.{◌∈◌}
use Rattle.lists.specs.Members.{none, append_cases, cons_cases}
use Rattle.text.specs.Piece.{pieces}
use Rattle.text.specs.Time.{time_value}
use Rattle.text_shapes.specs.Shape.{shape_by}
use Rattle.text_shapes.specs.declared.Line.{Line}
use Rattle.text_shapes.specs.declared.Line.TheVariants.{Station as StationIn, Walk as WalkIn, Stop as StopIn}
use Rattle.text_shapes.specs.declared.Line.TheVariants.{Shapeless}
use Rattle.text_shapes.specs.declared.WalkLine.{WalkLine}
use Rattle.timetable.specs.Timetable.{Trip, Walk, Timetable}
use Rattle.timetable.specs.Changes.{cancelled, added}
use Rattle.reading_lines.specs.Draft.{Draft, Rules, text_rules, blank, number_under, with_line}
use Rattle.reading.specs.Reading.{Accepted, text_most, ended, read_under, read_lines, reading}
use Rattle.connections.specs.Connections.{net}
use Rattle.connections.specs.Planner.{planner_list}
use Rattle.connections.specs.Platforms.{net_of_one, NoneAlong}
use Rattle.connections.proofs.Platforms.{same_net}
use Rattle.stores.specs.Words.{kept_list}
use Rattle.lines.specs.DirectRides.{directs}
use Rattle.promises.specs.Promises.{Shows, Stores}
use Rattle.promises.proofs.ChangesProved.{change_promises}
use Rattle.promises.proofs.WithoutWalks.{stop_adds, if_yes, end_adds}
use Rattle.promises.specs.Platforms.{NoLineAlong, WithoutPlatforms}

-- ---- the walks of a text
abbrev Apart : Draft → Type 0
Apart d = (v : Walk) → v ∈ d.walks → v.from ≢ v.to

line_apart : (d : Draft) (l : Line) → ((v : WalkLine) → l ≡ WalkIn v → v.from ≢ v.to) → Apart d
    → Apart (with_line d l)
line_apart d (StationIn s) differ apart = apart
line_apart d (WalkIn s) differ apart =
    λ v m.
    append_cases d.walks m (apart v)
    (λ k.
    cons_cases k
    (λ e same.
    differ s refl
    (sym (ap (λ (x : Walk). x.from) e) ∙ same ∙ ap (λ (x : Walk). x.to) e))
    (λ z. none z))
line_apart d (StopIn s) differ apart = λ v m. apart v (subst (λ l. v ∈ l) (stop_adds s d) m)
line_apart d Shapeless differ apart = apart

module _ (t : Timetable) (n : ℕ) where
  end_apart : (r : Rules) (d : Draft) (line : ℕ) → Apart d → ended r d line ≡ Accepted t n → NoneAlong t
  end_apart r d line apart e v m = apart v (subst (λ l. v ∈ l) (end_adds t n r d line e) m)

  lines_apart : (r : Rules) (time : List ℕ → ℕ) (l : List (List ℕ)) (d : Draft) (line : ℕ)
      → ((s : List ℕ) → s ∈ l → (v : WalkLine) → shape_by time s ≡ WalkIn v → v.from ≢ v.to) → Apart d
      → read_under r time d line l ≡ Accepted t n → NoneAlong t
  unfolding read_under
  lines_apart r time [] d line differ apart e = end_apart r d line apart e
  lines_apart r time (s ∷ []) d line differ apart e =
      if_yes t n (eqb (length s) 0) (ended r d line) 2 line (end_apart r d line apart) e
  lines_apart r time (s ∷ u ∷ l) d line differ apart e =
      let next = with_line d (shape_by time s) in
      if_yes
      t
      n
      (eqb (number_under r d (shape_by time s)) 0)
      (read_under r time next (line + 1) (u ∷ l))
      (number_under r d (shape_by time s))
      line
      (lines_apart r time (u ∷ l) next (line + 1) (λ x m. differ x (there m))
      (line_apart d (shape_by time s) (differ s (here refl)) apart))
      e

  text_apart : (text : List ℕ) → reading text ≡ Accepted t n → NoLineAlong text → NoneAlong t
  unfolding reading read_lines
  text_apart text e differ =
      if_yes t n (leb (length text) text_most) (read_lines text) 1 0
      (lines_apart text_rules time_value (pieces 10 text) blank 1 differ (λ v m. none m)) e

-- ---- direct rides know no changes
same_directs : (plan : Timetable) (from minute to : ℕ)
    → directs (net plan) from minute to ≡ directs (net_of_one plan) from minute to
unfolding directs
same_directs plan from minute to = refl

still_cancelled : (plan : Timetable) (trip : ℕ) → NoneAlong plan → NoneAlong (cancelled plan trip)
unfolding cancelled
still_cancelled plan trip apart = apart

still_added : (plan : Timetable) (trip : ℕ) (one : Trip) → NoneAlong plan → NoneAlong (added plan trip one)
unfolding added
still_added plan trip one apart = apart

pub without_platforms : WithoutPlatforms
without_platforms =
    record {
      none_read = λ text plan text_lines. text_apart plan text_lines text;
      none_cancelled = still_cancelled;
      none_added = still_added;
      rows_as_before =
          λ plan timetable lines running apart work from to minute enough q store made before after reply call.
          subst
          (λ n. Shows minute (planner_list n from minute to) before after reply)
          (same_net plan apart)
          (change_promises.rebuilt_shows plan timetable lines running work from to minute enough q store made before
          after reply call);
      kept_as_before =
          λ plan timetable lines running apart work from to minute enough q store well before after reply call.
          subst
          (λ n. Shows minute (kept_list n store from minute to) before after reply)
          (same_net plan apart)
          (change_promises.kept_shows_changed plan timetable lines running work from to minute enough q store well
          before after reply call);
      direct_as_before =
          λ plan timetable lines running work from to minute enough q before after reply call.
          subst
          (λ list. Shows minute list before after reply)
          (same_directs plan from minute to)
          (change_promises.direct_shows_changed plan timetable lines running work from to minute enough q before after
          reply call);
      store_as_before =
          λ plan timetable lines running apart work source enough first last before after reply call.
          subst
          (λ n. Stores n source before after reply)
          (same_net plan apart)
          (change_promises.rebuilt_stores plan timetable lines running work source enough first last before after reply
          call);
    }
