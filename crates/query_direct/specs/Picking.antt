-- The ride that the code picks from those of one cost goes before all others of them, by the rule for equal cost.
use Rattle.std.specs.Prelude.{◌≡◌, Bool, true, false, not, cond, ◌&&◌, ◌⊎◌, ℕ, ◌-◌, ◌≤◌, ltb, eqb}
use Rattle.std.proofs.Math.Path.{refl}
use Rattle.std.proofs.Common.{ap, ◌∙◌, arith, ltb→lt, lt→ltb, nltb→le, T_not}
use Rattle.std.proofs.Math.Logic.{inl, inr}
use mathlib.Core.List.Memᴰ.{head as here}
use mathlib.Core.List.Memᴰ.{tail as there}
use mathlib.Core.List.{List, [], ◌∷◌}
use Rattle.std.proofs.Math.Dec.{T}
use Rattle.timetable.specs.Timetable.{last_minute}
use Rattle.lists.specs.Lists.{◌∈◌, before, filter}
use Rattle.lists.specs.Tests.{either, T_both, T_or_left, T_or_right, T_or_cases, reads, writes, eq→eqb, T_true, T_false}
use Rattle.lists.specs.Members.{none, cons_cases, filter_in, filter_out}
use Rattle.lists.specs.Order.{before_head, before_tail, before_cases, before_irrefl, before_trans, not_before_trans}
use Rattle.results.specs.Results.{Cost}
use Rattle.connections.specs.Rides.{Ride}
use Rattle.connections.specs.Connections.{direct}
use Rattle.connections.specs.Planner.{tie_key}
use Rattle.query_nearest.specs.Bounds.{Bounds}
use Rattle.query_kept.specs.Choosing.{found_of, goes_before, pick_from, of_cost, pick_for}

-- ---- one ride against another
abbrev pub key : Ride → List ℕ
key r = tie_key (direct r)

-- the words of a key: first the minutes that are left
abbrev late : Ride → ℕ
late r = last_minute - r.depart

-- and last, behind the number of rides, the numbers of the ride
abbrev told : Ride → List ℕ
told r = r.trip ∷ r.board ∷ r.alight ∷ []

-- g goes before f
abbrev goes : (g f : Ride) → Bool
goes g f = goes_before (found_of g) (found_of f)

module _ (g f : Ride) (h : g.depart ≤ last_minute) (k : f.depart ≤ last_minute) where
  abbrev later : Bool
  later = ltb f.depart g.depart

  abbrev tied : Bool
  tied = eqb g.depart f.depart && before (told g) (told f)

  goes_by_key : T (goes g f) → T (before (key g) (key f))
  unfolding goes_before tie_key
  goes_by_key t =
      elim (T_or_cases later tied t) [
        | inl s ↦ before_head (late g) (late f) (1 ∷ told g) (1 ∷ told f) (omega (arith, ltb→lt))
        | inr s ↦
            let e : g.depart ≡ f.depart = search reads in
            let b = before_tail 1 1 (told g) (told f) refl (search reads) in
            before_tail (late g) (late f) (1 ∷ told g) (1 ∷ told f) (omega arith) b
      ]

  key_goes : T (before (key g) (key f)) → T (goes g f)
  unfolding goes_before tie_key
  key_goes t =
      elim (before_cases (late g) (late f) (1 ∷ told g) (1 ∷ told f) t) [
        | inl s ↦ T_or_left later tied (lt→ltb f.depart g.depart (omega arith))
        | inr s ↦ T_or_right later tied (together (omega (arith, s.0)) s.1)
      ]
    where
      together : g.depart ≡ f.depart → T (before (1 ∷ told g) (1 ∷ told f)) → T tied
      together e b =
          elim (before_cases 1 1 (told g) (told f) b) [
            | inl s ↦ absurd (omega arith)
            | inr s ↦ search (T_both, eq→eqb, s.1)
          ]

-- of two rides the one that goes before the other
abbrev former : (f g : Ride) → Ride
former f g = cond (goes g f) g f

module _ (f g : Ride) (h : f.depart ≤ last_minute) (k : g.depart ≤ last_minute) where
  former_old : ¬ T (before (key f) (key (former f g)))
  former_old = either (goes g f) (λ t. rw (T_true (goes g f) t) (clash t)) stays
    where
      clash : T (goes g f) → ¬ T (before (key f) (key g))
      clash t s = before_irrefl (key f) (before_trans (key f) (key g) (key f) s (goes_by_key g f k h t))

      stays : T (not (goes g f)) → ¬ T (before (key f) (key (former f g)))
      stays t = rw (T_false (goes g f) t) (before_irrefl (key f))

  former_new : ¬ T (before (key g) (key (former f g)))
  former_new = either (goes g f) (λ t. rw (T_true (goes g f) t) (before_irrefl (key g))) stays
    where
      stays : T (not (goes g f)) → ¬ T (before (key g) (key (former f g)))
      stays t = rw (T_false (goes g f) t) (λ s. T_not (goes g f) t (key_goes g f k h s))

  former_one : (former f g ≡ f) ⊎ (former f g ≡ g)
  former_one =
      either (goes g f) (λ t. inr (rw (T_true (goes g f) t))) (λ t. inl (rw (T_false (goes g f) t)))

-- ---- one ride and those of a list

-- the ride that pick_from picks
unfoldable pub ride_from : Ride → List Ride → Ride
ride_from f [] = f
ride_from f (r ∷ l) = ride_from (former f r) l

found_from : (l : List Ride) (f : Ride) → pick_from (found_of f) l ≡ found_of (ride_from f l)
unfolding pick_from ride_from
found_from [] f = refl
found_from (r ∷ l) f = ap (λ z. pick_from z l) (found (goes r f)) ∙ found_from l (former f r)
  where
    found : (b : Bool) → cond b (found_of r) (found_of f) ≡ found_of (cond b r f)
    found true = refl
    found false = refl

-- none of them goes before one
record First (f : Ride) (l : List Ride) (one : Ride) : Type 0 where
  member : (one ≡ f) ⊎ one ∈ l
  unbeaten : ¬ T (before (key f) (key one))
  first : (r : Ride) → r ∈ l → ¬ T (before (key r) (key one))

first_from_lem : (l : List Ride) (f : Ride) → f.depart ≤ last_minute → ((r : Ride) → r ∈ l → r.depart ≤ last_minute)
    → First f l (ride_from f l)
unfolding ride_from
first_from_lem [] f h k = record { member = inl refl; unbeaten = before_irrefl (key f); first = λ r i. none i }
first_from_lem (r ∷ l) f h k = go (first_from_lem l (former f r) in_time_lem (λ e i. k e (there i)))
  where
    r_in_time : r.depart ≤ last_minute
    r_in_time = k r (here refl)

    in_time_lem : (former f r).depart ≤ last_minute
    in_time_lem = elim (former_one f r h r_in_time) [ inl e ↦ rw e h | inr e ↦ rw e r_in_time ]

    go : First (former f r) l (ride_from (former f r) l) → First f (r ∷ l) (ride_from (former f r) l)
    go s = record { member = member; unbeaten = behind f (former_old f r h r_in_time); first = first }
      where
        one : Ride
        one = ride_from (former f r) l

        behind : (e : Ride) → ¬ T (before (key e) (key (former f r))) → ¬ T (before (key e) (key one))
        behind e t = not_before_trans (key e) (key (former f r)) (key one) t s.unbeaten

        member : (one ≡ f) ⊎ one ∈ r ∷ l
        member =
            elim s.member [
              | inl e ↦ elim (former_one f r h r_in_time) [ inl q ↦ inl (e ∙ q) | inr q ↦ inr (here (e ∙ q)) ]
              | inr i ↦ inr (there i)
            ]

        first : (e : Ride) → e ∈ r ∷ l → ¬ T (before (key e) (key one))
        first e i = cons_cases i (λ q. rw q (behind r (former_new f r h r_in_time))) (s.first e)

-- ---- the ride shown for arrival minute and penalty c

-- none yet, as a ride
abbrev no_ride : Ride
no_ride =
    record { trip = 65536; board = 0; alight = 0; from = 0; to = 0; depart = 0; arrive = 0; points = 0 }

unfoldable pub ride_for : List Ride → Cost → Ride
ride_for l c = ride_from no_ride (filter (of_cost c) l)

pub found_for : (l : List Ride) (c : Cost) → pick_for l c ≡ found_of (ride_for l c)
unfolding ride_for
found_for l c = found_from (filter (of_cost c) l) no_ride

-- it is of that cost, and of the rides of that cost none goes before it
pub record Shown (l : List Ride) (c : Cost) (one : Ride) : Type 0 where
  pub listed : one ∈ l
  pub arrives : one.arrive ≡ c.minutes
  pub costs : one.points ≡ c.points
  pub first : (r : Ride) → r ∈ l → r.arrive ≡ c.minutes → r.points ≡ c.points → ¬ T (before (key r) (key one))

module _ (u : ℕ) (l : List Ride) (bounds : (r : Ride) → r ∈ l → Bounds u r) (c : Cost) where
  -- every ride goes before none
  before_none : (r : Ride) → r ∈ l → T (before (key r) (key no_ride))
  unfolding tie_key
  before_none r i = either (ltb 0 r.depart) later at_start
    where
      b : Bounds u r
      b = bounds r i

      later : T (ltb 0 r.depart) → T (before (key r) (key no_ride))
      later t =
          let h = ltb→lt 0 r.depart t in
          before_head (late r) (late no_ride) (1 ∷ told r) (1 ∷ told no_ride) (omega (arith, b.depart_minute))

      at_start : T (not (ltb 0 r.depart)) → T (before (key r) (key no_ride))
      at_start t =
          let h = nltb→le 0 r.depart t in
          let few = before_head r.trip 65536 (r.board ∷ r.alight ∷ []) (0 ∷ 0 ∷ []) b.trip_few in
          before_tail
          (late r)
          (late no_ride)
          (1 ∷ told r)
          (1 ∷ told no_ride)
          (omega arith)
          (before_tail 1 1 (told r) (told no_ride) refl few)

  pub ride_for_lem : (r : Ride) → r ∈ l → r.arrive ≡ c.minutes → r.points ≡ c.points → Shown l c (ride_for l c)
  unfolding ride_for
  ride_for_lem r i e f = go s.member
    where
      those : List Ride
      those = filter (of_cost c) l

      inside : (x : Ride) → x ∈ l → x.arrive ≡ c.minutes → x.points ≡ c.points → x ∈ those
      inside x j a b = filter_in (of_cost c) j (search writes)

      s : First no_ride those (ride_from no_ride those)
      s = first_from_lem those no_ride (omega arith) (λ x j. (bounds x (filter_out (of_cost c) l j).0).depart_minute)

      go : (ride_from no_ride those ≡ no_ride) ⊎ ride_from no_ride those ∈ those → Shown l c (ride_from no_ride those)
      go (inl q) = absurd (s.first r (inside r i e f) (rw q (before_none r i)))
      go (inr j) =
          let o = filter_out (of_cost c) l j in
          let t = o.1 in
          record {
            listed = o.0;
            arrives = search reads;
            costs = search reads;
            first = λ x k a b. s.first x (inside x k a b);
          }
