-- Along a line each trip runs behind all before it. A trip joins a line only behind its last, and behind is transitive.
use Rattle.std.specs.Prelude.{◌≡◌, refl, Bool, true, false, ℕ, zero, suc, ◌<◌, T, length, get_or}
use mathlib.Core.List.Memᴰ
use mathlib.Core.List.Memᴰ.{head as here}
use mathlib.Core.List.Memᴰ.{tail as there}
use mathlib.Core.List.{List, [], ◌∷◌, ◌++◌}
use Rattle.std.proofs.Common.{arith}
use Rattle.timetable.specs.Timetable.{Trip}
use Rattle.lists.specs.Lists.{◌∈◌, end_with, first_of}
use Rattle.lists.specs.Members.{none, cons_cases, append_cases}
use Rattle.connections.specs.Rides.{no_stop}
use Rattle.lines.specs.Lines.{behind, last_of, enter, add_trip, add_trips, in_order, lines, head_of, course}
use Rattle.lines.proofs.Behind.{Later, behind_refl, behind_trans, behind_at, behind_length}

module _ (t : List Trip) where
  abbrev trip : ℕ → Trip
  trip z = get_or t z []

  abbrev pub Ordered : List ℕ → Type 0
  Ordered [] = Unit {0}
  Ordered (x ∷ l) = ((y : ℕ) → y ∈ l → T (behind (trip x) (trip y))) × Ordered l

  one_ordered : (z : ℕ) → Ordered (z ∷ [])
  one_ordered z = (λ y m. none m, tt)

  to_last : (x : ℕ) (l : List ℕ) → Ordered (x ∷ l) → T (behind (trip x) (trip (last_of (x ∷ l))))
  to_last x [] o = behind_refl (trip x)
  to_last x (y ∷ l) o =
      behind_trans (trip x) (trip y) (trip (last_of (y ∷ l))) (o.0 y (here refl)) (to_last y l o.1)

  append_ordered : (l : List ℕ) (z : ℕ) → Ordered l → T (behind (trip (last_of l)) (trip z)) → Ordered (l ++ (z ∷ []))
  append_ordered [] z o h = one_ordered z
  append_ordered (x ∷ []) z o h = (λ y m. rw (Memᴰ.eq_of_singleton m) h, one_ordered z)
  append_ordered (x ∷ w ∷ l) z o h = (first, append_ordered (w ∷ l) z o.1 h)
    where
      last : T (behind (trip x) (trip z))
      last = behind_trans (trip x) (trip (last_of (w ∷ l))) (trip z) (to_last x (w ∷ l) o) h

      first : (y : ℕ) → y ∈ (w ∷ l) ++ (z ∷ []) → T (behind (trip x) (trip y))
      first y m = append_cases (w ∷ l) m (o.0 y) (λ i. rw (Memᴰ.eq_of_singleton i) last)

  -- a line of the tables: it has a trip, and its trips are in order
  pub record Line (l : List ℕ) : Type 0 where
    pub led : head_of l ∈ l
    pub ordered : Ordered l

  abbrev Good : List (List ℕ) → Type 0
  Good ls = (l : List ℕ) → l ∈ ls → Line l

  founded : (z : ℕ) → Line (z ∷ [])
  founded z = record { led = here refl; ordered = one_ordered z }

  joined : (x : List ℕ) (z : ℕ) → Line x → T (behind (trip (last_of x)) (trip z)) → Line (x ++ (z ∷ []))
  joined [] z o h = founded z
  joined (y ∷ x) z o h = record { led = here refl; ordered = append_ordered (y ∷ x) z o.ordered h }

  add_good : (z : ℕ) (ls : List (List ℕ)) → Good ls → Good (add_trip t z ls)
  add_good z [] h l m = rw (Memᴰ.eq_of_singleton m) (founded z)
  add_good z (x ∷ ls) h l m =
      go (behind (trip (last_of x)) (trip z)) refl (add_good z ls (λ l i. h l (there i)) l) m
    where
      go : (b : Bool) → behind (trip (last_of x)) (trip z) ≡ b → (l ∈ add_trip t z ls → Line l)
          → l ∈ enter b z x ls (add_trip t z ls) → Line l
      go true e ih i = cons_cases i (λ u. rw u (joined x z (h x (here refl)) (rw e tt))) (λ u. h l (there u))
      go false e ih i = cons_cases i (λ u. rw u (h x (here refl))) ih

  pub lines_good : (l : List ℕ) → l ∈ lines t → Line l
  unfolding lines
  lines_good = go (in_order t) [] (λ l m. none m)
    where
      go : (zs : List ℕ) (ls : List (List ℕ)) → Good ls → Good (add_trips t zs ls)
      go [] ls h = h
      go (z ∷ zs) ls h = go zs (add_trip t z ls) (add_good z ls h)

  ordered_at : (l : List ℕ) → Ordered l → (i j : ℕ) → i < j → j < length l
      → T (behind (trip (get_or l i 0)) (trip (get_or l j 0)))
  ordered_at [] o i j h g = absurd (omega arith)
  ordered_at (x ∷ l) o i zero h g = absurd (omega arith)
  ordered_at (x ∷ l) o zero (suc j) h g = o.0 (get_or l j 0) (within l j (omega arith))
    where
      within : (l : List ℕ) (j : ℕ) → j < length l → get_or l j 0 ∈ l
      within [] j h = absurd (omega arith)
      within (x ∷ l) zero h = here refl
      within (x ∷ l) (suc j) h = there (within l j (omega arith))
  ordered_at (x ∷ l) o (suc i) (suc j) h g = ordered_at l o.1 i j (omega arith) (omega arith)

  -- no trip overtakes one before it on the line, at any position, in arrival or departure
  pub no_overtaking : (l : List ℕ) → Line l → (i j : ℕ) → i < j → j < length l
      → (p : ℕ) → Later (get_or (trip (get_or l i 0)) p no_stop) (get_or (trip (get_or l j 0)) p no_stop)
  no_overtaking l o i j h g p =
      behind_at (trip (get_or l i 0)) (trip (get_or l j 0)) (ordered_at l o.ordered i j h g) p

  -- every trip of a line runs behind its first
  pub head_behind : (l : List ℕ) (z : ℕ) → Line l → z ∈ l → T (behind (course t l) (trip z))
  head_behind [] z o m = none m
  head_behind (x ∷ l) z o m = cons_cases m (λ e. rw e (behind_refl (trip x))) (o.ordered.0 z)

  -- the trips of a line agree in length, stations, ride penalties and marks
  pub line_length : (l : List ℕ) (z : ℕ) → Line l → z ∈ l → length (course t l) ≡ length (trip z)
  line_length l z o m = behind_length (course t l) (trip z) (head_behind l z o m)

  pub line_stop : (l : List ℕ) (z p : ℕ) → Line l → z ∈ l → Later (get_or (course t l) p no_stop)
      (get_or (trip z) p no_stop)
  line_stop l z p o m = behind_at (course t l) (trip z) (head_behind l z o m) p

  -- the first trip of a line that passes a test has every other that does behind it
  pub record First (p : ℕ → Bool) (l : List ℕ) (z : ℕ) : Type 0 where
    pub one : ℕ
    pub found : one ∈ first_of p l
    pub before : T (behind (trip one) (trip z))

  pub first_covers : (p : ℕ → Bool) (l : List ℕ) → Ordered l → (z : ℕ) → z ∈ l → T (p z) → First p l z
  first_covers p [] o z m h = none m
  first_covers p (x ∷ l) o z m h = go (p x) refl (first_covers p l o.1 z)
    where
      within : (b : Bool) → p x ≡ b → (one : ℕ) → one ∈ end_with b x (first_of p l) → one ∈ first_of p (x ∷ l)
      within b e one i = rw e i

      go : (b : Bool) → p x ≡ b → (z ∈ l → T (p z) → First p l z) → First p (x ∷ l) z
      go true e ih =
          record {
            one = x;
            found = within true e x (here refl);
            before = cons_cases m (λ u. rw u (behind_refl (trip x))) (o.0 z);
          }
      go false e ih = cons_cases m (λ u. absurd (rw e at (rw u at h))) next
        where
          next : z ∈ l → First p (x ∷ l) z
          next u =
              let f = ih u h in
              record { one = f.one; found = within false e f.one f.found; before = f.before }
