-- The other layout as the code finds it, word by word, from tables that have times by stop: a trip's times stand there
-- in steps, at each stop an arrival and, behind those of all trips, a departure.
use Rattle.std.specs.Prelude.{◌≡◌, Bool, true, false, ◌&&◌, List, [], ◌∷◌, ◌++◌, eqb, length, get_or, take, drop}
use Rattle.std.proofs.Math.Path.{refl}
use Rattle.std.proofs.Common.{ap, ◌∙◌, arith}
use Prim.Native.Nat.{ℕ, zero, suc, ◌+◌, ◌*◌}
use Rattle.std.proofs.Math.Seq.{slice}
use Rattle.lists.specs.Lists.{same}
use Rattle.lines_lookup.specs.Lookup.{Line, course_place}

-- the times of one trip at n stops, the first arrival at index k, on a line of so many trips
unfoldable pub stepped : List ℕ → (k trips n : ℕ) → List ℕ
stepped v k trips zero = []
stepped v k trips (suc n) = get_or v k 0 ∷ get_or v (k + trips) 0 ∷ stepped v (k + 2 * trips) trips n

-- those of n trips, one after the other
unfoldable pub turned_trips : List ℕ → (k trips stops n : ℕ) → List ℕ
turned_trips v k trips stops zero = []
turned_trips v k trips stops (suc n) = stepped v k trips stops ++ turned_trips v (k + 1) trips stops n

-- where the times of a line begin, and where its words end
abbrev pub times_from : Line → ℕ
times_from l = course_place l + 3 * l.positions

abbrev pub line_end : Line → ℕ
line_end l = times_from l + l.trips * (2 * l.positions)

-- all words of a line: those before the times as they are
unfoldable pub turned_line : List ℕ → Line → List ℕ
turned_line v l =
    slice l.at (times_from l) v ++ turned_trips v (times_from l) l.trips l.positions l.trips

module _ (v : List ℕ) where
  pub length_stepped : (k trips n : ℕ) → length (stepped v k trips n) ≡ 2 * n
  unfolding stepped
  length_stepped k trips zero = refl
  length_stepped k trips (suc n) = omega (arith, length_stepped (k + 2 * trips) trips n)

-- ---- words that begin with others
unfoldable pub starts : (x z : List ℕ) → Bool
starts [] z = true
starts (a ∷ x) [] = false
starts (a ∷ x) (b ∷ z) = eqb a b && starts x z

pub starts_same : (x z : List ℕ) → starts x z ≡ same x (take (length x) z)
unfolding starts
starts_same [] z = refl
starts_same (a ∷ x) [] = refl
starts_same (a ∷ x) (b ∷ z) = ap (λ r. eqb a b && r) (starts_same x z)

and_assoc : (a b c : Bool) → (a && (b && c)) ≡ ((a && b) && c)
and_assoc true b c = refl
and_assoc false b c = refl

pub starts_append : (x y z : List ℕ) → starts (x ++ y) z ≡ (starts x z && starts y (drop (length x) z))
unfolding starts
starts_append [] y z = refl
starts_append (a ∷ x) y [] = refl
starts_append (a ∷ x) y (b ∷ z) =
    ap (λ r. eqb a b && r) (starts_append x y z)
    ∙ and_assoc (eqb a b) (starts x z) (starts y (drop (length x) z))
