-- All rides of a cursor noted one after the other, and a step from one ride to the one before it.
use mathlib.Core.Path.{◌≡◌, sym, ap, ◌∙◌}
use mathlib.Core.Bool.{true, false, not}
use mathlib.Core.List.{List, ◌∷◌}
use Prim.Native.Nat.{ℕ, ◌+◌, ◌-◌, ◌*◌}
use borrow.Author.Tests.{not-true, not-false}
use lib.ListN.{get_or}
use Rattle.results.specs.declared.Cost.{Cost}
use Rattle.connections.specs.Rides.{Ride}
use Rattle.query_places.specs.Candidates.{near_read}
use Rattle.query_minutes.specs.Minutes.{no_points, note_all, blank}
use Rattle.query_rides.specs.declared.Ride.{Ride as RideStruct}
use Rattle.query_rides.specs.declared.Cursor.{Cursor}
use Rattle.query_rides.specs.declared.Way.{Way}
use Rattle.query_rides.specs.Riding.{Tells, near_left, ride_of, near_none, near_goes}
use Rattle.std.specs.Prelude.{Option, None, Some}
use Rattle.query_rides.specs.Ways.{cost_in, way_between}
use Rattle.query_rests.specs.Settling.{settled_from}
use Rattle.query_rests.specs.Stepping.{catches, rides_to, caught_way}
use Rattle.query_rests.specs.Turns.{tells_is, gather_back, step_back, caught_by as caught_one, catches_none}
use Rattle.query_rests.specs.Turns.{catches_more}

module _ (lines : List ℕ) (from to minute cm cp : ℕ) (old first : List ℕ) where
  -- what is noted once the rides left are noted too
  abbrev with : List ℕ → Option Cursor → List ℕ
  with z o = note_all z (catches cm cp old (near_left lines minute o))

  abbrev whole : List ℕ
  whole = note_all first (catches cm cp old (near_read lines from minute to))

  pub gather_begins : (o : Option Cursor) → near_left lines minute o ≡ near_read lines from minute to
      → whole ≡ with first o
  gather_begins o e = ap (λ l. note_all first (catches cm cp old l)) (sym e)

  module _ (z : List ℕ) (o : Option Cursor) (so_far : whole ≡ with z o) where
    pub gather_more : (c : Cursor) → o ≡ Some c → (d : Option Cursor) (s : RideStruct) (new : List ℕ)
        → Tells s (ride_of lines c)
        → new ≡ caught_one cm cp old z s → near_left lines minute (Some c) ≡ ride_of lines c ∷ near_left lines minute d
        → whole ≡ with new d
    gather_more c at d s new t n e =
        let rest = catches cm cp old (near_left lines minute d) in
        so_far
        ∙ ap (λ l. note_all z (catches cm cp old l)) (near_goes lines o c at minute d e)
        ∙ catches_more cm cp old z (ride_of lines c) (near_left lines minute d)
        ∙ ap (λ s. note_all (caught_one cm cp old z s) rest) (sym (tells_is s (ride_of lines c) t))
        ∙ ap (λ z. note_all z rest) (sym n)

    pub gather_done : o ≡ None → z ≡ whole
    gather_done e =
        sym
        (so_far
        ∙ ap (λ l. note_all z (catches cm cp old l)) (near_none lines minute o e)
        ∙ catches_none cm cp old z)

-- ---- by the way of changing, if there is one
module _ (minute : ℕ) (lines : List ℕ) (from to : ℕ) (old : List ℕ) where
  abbrev caught_at : Cost → List Ride
  caught_at c = catches c.minutes.0 c.points.0 old (near_read lines from (minute + c.minutes.0) to)

  module _ (g : Way) (z : List ℕ) where
    pub way_shut : not g.found ≡ true → z ≡ note_all z (caught_way minute g old (rides_to lines from to))
    unfolding caught_way note_all
    way_shut e = rw (not-true g.found e)

    pub way_gathered : not g.found ≡ false → (c : Cost) → c ≡ cost_in g
        → (earliest : ℕ) → earliest ≡ minute + c.minutes.0 → (full : List ℕ)
        → full ≡ note_all z (catches c.minutes.0 c.points.0 old (near_read lines from earliest to))
        → full ≡ note_all z (caught_way minute g old (rides_to lines from to))
    unfolding caught_way rides_to
    way_gathered e c is_c earliest is full f =
        rw (not-false g.found e)
        (f
        ∙ ap (λ u. note_all z (catches c.minutes.0 c.points.0 old (near_read lines from u to))) is
        ∙ ap (λ c. note_all z (caught_at c)) is_c)

-- ---- one ride back

module _ (w lines path : List ℕ) (minute j : ℕ) (old z full : List ℕ) (alighted from to : ℕ) (g : Way) where
  pub gathered : alighted ≡ get_or path (2 * j - 2) 0 → from ≡ get_or path (2 * j - 1) 0 → to ≡ get_or path (2 * j) 0
      → g ≡ way_between w alighted from
      → full ≡ note_all z (caught_way minute g old (rides_to lines from to))
      → full ≡ gather_back w lines minute path j old z
  unfolding gather_back
  gathered is-alighted is-from is-to is-way f =
      f
      ∙ (λ i. note_all z (caught_way minute (is-way i) old (rides_to lines from to)))
      ∙ (λ i.
      note_all z
      (caught_way minute (way_between w (is-alighted i) (is-from i)) old
      (rides_to lines (is-from i) (is-to i))))

module _ (w lines path : List ℕ) (minute j : ℕ) (z copy empty full : List ℕ) where
  -- the words over which a step goes, as what was left before it
  pub gathered_from : copy ≡ z → empty ≡ blank → full ≡ gather_back w lines minute path j copy empty
      → full ≡ gather_back w lines minute path j z blank
  gathered_from c e f = f ∙ (λ i. gather_back w lines minute path j (c i) (e i))

  pub step_done : (last : List ℕ) → copy ≡ z → empty ≡ blank → full ≡ gather_back w lines minute path j copy empty
      → last ≡ settled_from no_points minute full
      → last ≡ step_back w lines minute path j z
  unfolding step_back
  step_done last c e f l = l ∙ ap (settled_from no_points minute) (gathered_from c e f)
