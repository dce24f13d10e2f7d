-- One least penalty for each minute of the two days, as code keeps it, and the costs that lead: those whose penalty is
-- below all of earlier minutes. No reader of a promise needs this file.
use Rattle.std.specs.Prelude.{cond, List, [], ◌∷◌, ℕ, suc, min, ltb, get_or, set, replicate}
use Rattle.results.specs.Results.{Cost}
use Rattle.connections.specs.Rides.{Ride}

-- the penalty of a minute in which no one arrives
abbrev pub no_points : ℕ
no_points = 4294967295

-- no one arrives in any minute
abbrev pub blank : List ℕ
blank = replicate 2880 no_points

-- the least penalties, once an arrival at minute a with penalty p is noted
abbrev pub lowered : List ℕ → (a p : ℕ) → List ℕ
lowered best a p = set best a (min (get_or best a 0) p)

abbrev pub noted : List ℕ → Ride → List ℕ
noted best r = lowered best r.arrive r.points

-- the least penalty for each arrival minute, after some rides more
unfoldable pub note_all : List ℕ → List Ride → List ℕ
note_all best [] = best
note_all best (r ∷ l) = note_all (noted best r) l

-- the costs below `least` and all before them, the first of the list being for minute a
unfoldable pub leads : (least a : ℕ) → List ℕ → List Cost
leads least a [] = []
leads least a (x ∷ l) =
    cond (ltb x least) (record { minutes = a; points = x } ∷ leads x (suc a) l) (leads least (suc a) l)
