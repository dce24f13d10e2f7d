-- The connection of one stored pattern that is shown for a row. Of the connections of the pattern that arrive by the
-- row's minute and cost its points at the most, "the one shown departs latest. Then it has fewest rides. Then its rides
-- (trip, boarding stop, alighting stop) come first, compared number by number."
use Rattle.std.specs.Prelude.{◌≡◌, Bool, true, false, List, ℕ, ◌-◌, ◌*◌, T, get_or, take}
use Rattle.timetable.specs.Timetable.{Timetable}
use Rattle.timetable.specs.Words.{timetable_of}
use Rattle.lists.specs.Lists.{before}
use Rattle.connections.specs.Connections.{net, Connection, departure}
use Rattle.connections.specs.Planner.{numbers, tie_key}
use Rattle.optimality.specs.Greedy.{Fits}
use Rattle.query_shown.specs.declared.First.{First}

module _ (timetable : Timetable) (b v : ℕ) where
  -- from station x at minute u by the stations q to b, there by minute v, for p points at the most
  abbrev pub Fitting : (q : List ℕ) (x u p : ℕ) → Connection → Type 0
  Fitting = Fits (net timetable) b v

  -- the numbers and the departure of the connection that is shown
  pub record Shown (q : List ℕ) (x u p : ℕ) (told : List ℕ) (depart : ℕ) : Type 0 where
    pub connection : Connection
    pub fits : Fitting q x u p connection
    pub tells : told ≡ numbers connection
    pub departs : depart ≡ departure connection
    pub first : (e : Connection) → Fitting q x u p e → ¬ T (before (tie_key e) (tie_key connection))

  -- one was found, or there is none
  abbrev pub Found : (found : Bool) (q : List ℕ) (x u p : ℕ) (told : List ℕ) (depart : ℕ) → Type 0
  Found true q x u p told depart = Shown q x u p told depart
  Found false q x u p told depart = (e : Connection) → ¬ Fitting q x u p e

-- What the code found along the path, for a query from station a at minute t, for p points at the most, when it has
-- written rides.
unfoldable pub FoundAt : (w path : List ℕ) (r v a t p : ℕ) (f : First) (rides : List ℕ) → Type 0
FoundAt w path r v a t p f rides =
    Found (timetable_of w) (get_or path (2 * r - 2) 0) v f.found (take (2 * r - 1) path) a t p (take (3 * r) rides)
    f.depart
