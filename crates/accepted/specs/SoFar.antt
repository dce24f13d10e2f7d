-- A trip as far as its lines have come: valid so far, it goes on or ends with a stop that follows its last one. Lists
-- of stations, of walks and of trips stay valid with one more.
use Rattle.std.specs.Prelude.{◌≡◌, Bool, ◌&&◌, ℕ, ◌<◌, leb, eqb, length}
use Rattle.std.proofs.Math.Path.{refl}
use Rattle.std.proofs.Math.Bool.{true}
use mathlib.Core.List.{List, [], ◌∷◌, ◌++◌}
use Rattle.std.proofs.Common.{arith}
use Rattle.lists.specs.Tests.{and_left, and_right, and_both}
use Rattle.timetable.specs.Timetable.{Station, Walk, Stop, Trip, valid_station, valid_walk, walk_before, valid_walks}
use Rattle.timetable.specs.Timetable.{listed, leaves, ends, follows, runs, valid_trip, valid_stations, valid_trips}
use Rattle.reading_lines.specs.Draft.{rises_after, final}
use Rattle.accepted.specs.Valid.{runs_one, runs_more}

-- the stops after stop b, of a trip that has not ended
unfoldable pub runs_so_far : ℕ → Stop → List Stop → Bool
runs_so_far n b [] = true
runs_so_far n b (s ∷ l) = follows n b s && leb s.arrive s.depart && leaves s && runs_so_far n s l

-- a trip that has begun, or none
unfoldable pub valid_so_far : ℕ → Trip → Bool
valid_so_far n [] = true
valid_so_far n (b ∷ l) = listed n b && eqb b.arrive 0 && leaves b && runs_so_far n b l

-- ---- one more at the end
pub stations_more : (l : List Station) (s : Station) → valid_stations l ≡ true → valid_station s ≡ true
    → valid_stations (l ++ (s ∷ [])) ≡ true
unfolding valid_stations
stations_more [] s v w = and_both (valid_station s) true w refl
stations_more (x ∷ l) s v w =
    let rest = stations_more l s (search (and_right)) w in
    search (and_both, and_left)

pub walks_more : (n : ℕ) (l : List Walk) (w : Walk) → valid_walks n l ≡ true → valid_walk n w ≡ true
    → rises_after l w ≡ true → valid_walks n (l ++ (w ∷ [])) ≡ true
unfolding valid_walks
walks_more n [] w v h r = h
walks_more n (x ∷ []) w v h r = simp (v, r, h)
walks_more n (x ∷ y ∷ l) w v h r =
    let rest = walks_more n (y ∷ l) w (search (and_right)) h r in
    let here : valid_walk n x && walk_before x y ≡ true = search (and_left) in
    and_both (valid_walk n x && walk_before x y) (valid_walks n (y ∷ l ++ (w ∷ []))) here rest

-- and back: a walk among others is valid, and rises after those before it
pub walk_first : (n : ℕ) (w : Walk) (l : List Walk) → valid_walks n (w ∷ l) ≡ true → valid_walk n w ≡ true
unfolding valid_walks
walk_first n w [] v = v
walk_first n w (x ∷ l) v = search (and_left)

pub walks_rest : (n : ℕ) (w : Walk) (l : List Walk) → valid_walks n (w ∷ l) ≡ true → valid_walks n l ≡ true
unfolding valid_walks
walks_rest n w [] v = refl
walks_rest n w (x ∷ l) v = search (and_right)

pub walk_among : (n : ℕ) (done : List Walk) (w : Walk) (l : List Walk) → valid_walks n (done ++ w ∷ l) ≡ true
    → (valid_walk n w ≡ true) × (rises_after done w ≡ true)
unfolding valid_walks
walk_among n [] w l v = (walk_first n w l v, refl)
walk_among n (x ∷ []) w l v =
    (walk_first n w l (walks_rest n x (w ∷ l) v), and_right (valid_walk n x) (walk_before x w) (search (and_left)))
walk_among n (x ∷ y ∷ done) w l v = walk_among n (y ∷ done) w l (search (and_right))

pub trips_more : (n : ℕ) (l : List Trip) (t : Trip) → valid_trips n l ≡ true → valid_trip n t ≡ true
    → valid_trips n (l ++ (t ∷ [])) ≡ true
unfolding valid_trips
trips_more n [] t v w = and_both (valid_trip n t) true w refl
trips_more n (x ∷ l) t v w =
    let rest = trips_more n l t (search (and_right)) w in
    search (and_both, and_left)

module _ (n : ℕ) (s : Stop) where
  runs_so_far_lem : (b : Stop) (l : List Stop) → runs_so_far n b l ≡ true → follows n (final (b ∷ l)) s ≡ true
      → leb s.arrive s.depart ≡ true → leaves s ≡ true → runs_so_far n b (l ++ (s ∷ [])) ≡ true
  unfolding runs_so_far
  runs_so_far_lem b [] v f w g = simp (f, w, g)
  runs_so_far_lem b (u ∷ l) v f w g =
      let rest : runs_so_far n u (l ++ (s ∷ [])) ≡ true = runs_so_far_lem u l (search (and_right)) f w g in
      search (and_both, and_left)

  runs_to_end : (b : Stop) (l : List Stop) → runs_so_far n b l ≡ true → follows n (final (b ∷ l)) s ≡ true
      → ends s ≡ true → runs n b (l ++ (s ∷ [])) ≡ true
  unfolding runs_so_far
  runs_to_end b [] v f e = rw (runs_one n b s) (search and_both)
  runs_to_end b (u ∷ []) v f e =
      let rest = runs_to_end u [] refl f e in
      rw (runs_more n b u s []) (search (and_both, and_left))
  runs_to_end b (u ∷ x ∷ l) v f e =
      let rest = runs_to_end u (x ∷ l) (search (and_right)) f e in
      rw (runs_more n b u x (l ++ (s ∷ []))) (search (and_both, and_left))

  -- a trip that has begun goes on, or ends, with stop s
  pub trip_so_far : (t : Trip) → 0 < length t → valid_so_far n t ≡ true → follows n (final t) s ≡ true
      → leb s.arrive s.depart ≡ true → leaves s ≡ true → valid_so_far n (t ++ (s ∷ [])) ≡ true
  unfolding valid_so_far
  trip_so_far [] h v f w g = absurd (omega arith)
  trip_so_far (b ∷ l) h v f w g =
      let rest = runs_so_far_lem b l (search (and_right)) f w g in
      search (and_both, and_left)

  pub first_so_far : (t : Trip) → length t ≡ 0 → listed n s ≡ true → eqb s.arrive 0 ≡ true → leaves s ≡ true
      → valid_so_far n (t ++ (s ∷ [])) ≡ true
  unfolding valid_so_far runs_so_far
  first_so_far [] e a b c = simp (a, b, c)
  first_so_far (x ∷ t) e a b c = absurd (omega arith)

  pub trip_to_end : (t : Trip) → 0 < length t → valid_so_far n t ≡ true → follows n (final t) s ≡ true → ends s ≡ true
      → valid_trip n (t ++ (s ∷ [])) ≡ true
  unfolding valid_so_far valid_trip
  trip_to_end [] h v f e = absurd (omega arith)
  trip_to_end (b ∷ l) h v f e =
      let rest = runs_to_end b l (search (and_right)) f e in
      search (and_both, and_left)
