-- The walk along the lines of one course: those that it passes over have another course, and no trip of this one can
-- join them.
use mathlib.Core.Path.{◌≡◌, sym, ap, ◌∙◌}
use mathlib.Core.Bool.{Bool, true, false}
use mathlib.Core.List.{List}
use Prim.Native.Nat.{ℕ, ◌+◌, ◌-◌, ◌≤◌, ◌<◌}
use native.Mathlib.Decide.{ℕ_discrete}
use native.Mathlib.Omega.{arith}
use lib.Dec.{ltb, ltb→lt, nltb→le}
use lib.ListN.{length, get_or, take}
use Rattle.lists.specs.Tests.{either, T_false}
use Rattle.timetable.specs.Words.{trip_at}
use Rattle.lines_order.specs.Steps.{Below, first_place, below_at, place_none, place_first}
use Rattle.lines_found.specs.Steps.{runs_before}
use Rattle.lines_found.specs.Glance.{course_of, last_arrival, behind_course, behind_arrives}
use Rattle.lines_found.specs.Chains.{next_of, floor_of}
use Rattle.lines_found.specs.Taken.{OfLasts, course_at}

pub last_fits : (w lasts : List ℕ) (line z y : ℕ) (t : Bool) → t ≡ runs_before w z y → y ≡ get_or lasts line 0
    → t ≡ runs_before w z (get_or lasts line 0)
last_fits w lasts line z y t test is = test ∙ ap (runs_before w z) is

-- no line before this one can be joined; if it is one, it has the course b
pub record Walked (w lasts : List ℕ) (n z b line : ℕ) : Type 0 where
  pub none : (j : ℕ) → j < n → j < line → runs_before w z (get_or lasts j 0) ≡ false
  pub stands : line < 256 → (line < n) × (course_at w lasts line ≡ b)

module _ (w lasts : List ℕ) (z b : ℕ) (is_course : b ≡ course_of (trip_at w z)) where
  abbrev runs : ℕ → Bool
  runs j = runs_before w z (get_or lasts j 0)

  -- a line of another course cannot be joined
  other_course : (j : ℕ) → (course_at w lasts j ≡ b → ⊥) → runs j ≡ false
  other_course j d =
      either
      (runs j)
      (λ t. absurd (d (behind_course (trip_at w (get_or lasts j 0)) (trip_at w z) t ∙ sym is_course)))
      (T_false (runs j))

  pub none_early : (c : List ℕ) (n a : ℕ) → a < floor_of c b → OfLasts w lasts n c → n ≤ length lasts
      → a ≡ last_arrival (trip_at w z) → n ≡ first_place (runs_before w z) (take n lasts)
  unfolding OfLasts
  none_early c n a h k room is-arrive = place_none (runs_before w z) lasts n room none
    where
      none : (j : ℕ) → j < n → runs j ≡ false
      none j g =
          elim (ℕ_discrete (course_at w lasts j) b) [
            | yes e ↦ (
                either
                (runs j)
                (λ t.
                let on = behind_arrives (trip_at w (get_or lasts j 0)) (trip_at w z) t in
                let at : floor_of c (course_at w lasts j) ≡ floor_of c b = ap (floor_of c) e in
                absurd (omega (arith, k.floor j g)))
                (T_false (runs j))
                )
            | no d ↦ other_course j d
          ]

  pub walk_starts : (line : ℕ) (c : List ℕ) → line ≡ next_of c (256 + b) → (n : ℕ) → OfLasts w lasts n c → b < 256
      → Walked w lasts n z b line
  unfolding OfLasts
  walk_starts line c is n k few = record { none = none; stands = stands }
    where
      none : (j : ℕ) → j < n → j < line → runs j ≡ false
      none j g h =
          other_course j (λ e.
          let at : next_of c (256 + course_at w lasts j) ≡ next_of c (256 + b) = ap (λ x. next_of c (256 + x)) e in
          omega (arith, k.first j g))

      stands : line < 256 → (line < n) × (course_at w lasts line ≡ b)
      stands h =
          let r = k.heads b few (omega arith) in
          (omega (arith, r.0), ap (course_at w lasts) is ∙ r.1)

  -- a line behind this one, and before the next of the course, has another course
  pub walk_on : (line next : ℕ) (c : List ℕ) → next ≡ next_of c line → (n : ℕ) → Walked w lasts n z b line
      → line < 256 → OfLasts w lasts n c → (t : Bool) → t ≡ runs_before w z (get_or lasts line 0) → t ≡ false
      → Walked w lasts n z b next
  unfolding OfLasts
  walk_on line next c is n walked h k t test e = record { none = none; stands = stands }
    where
      here : (line < n) × (course_at w lasts line ≡ b)
      here = walked.stands h

      none : (j : ℕ) → j < n → j < next → runs j ≡ false
      none j g l =
          elim (ℕ_discrete j line) [
            | yes d ↦ rw d (sym test ∙ e)
            | no d ↦ (
                either
                (ltb j line)
                (λ m. walked.none j g (ltb→lt j line m))
                (λ m.
                let past : line < j = omega (arith, nltb→le j line m) in
                other_course j (λ f. omega (arith, k.after line j past g (here.1 ∙ sym f))))
                )
          ]

      stands : next < 256 → (next < n) × (course_at w lasts next ≡ b)
      stands g =
          let r = k.links line here.0 (omega arith) in
          (omega (arith, r.0), ap (course_at w lasts) is ∙ r.1 ∙ here.1)

module _ (w lasts : List ℕ) (n z b line : ℕ) (walked : Walked w lasts n z b line) where
  pub none_left : 256 ≤ line → n ≤ 256 → n ≤ length lasts → n ≡ first_place (runs_before w z) (take n lasts)
  none_left h few room = place_none (runs_before w z) lasts n room (λ j g. walked.none j g (omega arith))

  module _ (h : line < 256) where
    pub walk_stays : line ≤ n
    walk_stays = omega (arith, (walked.stands h).0)

    pub walk_there : n ≤ length lasts → line < length lasts
    walk_there room = omega (arith, (walked.stands h).0)

    pub walk_listed_lem : (m : ℕ) → Below m (take n lasts) → n ≤ length lasts → get_or lasts line 0 < m
    walk_listed_lem m below room = below_at m n line lasts below (walked.stands h).0 room

    pub walk_less : (next : ℕ) (c : List ℕ) → next ≡ next_of c line → OfLasts w lasts n c → 256 - next < 256 - line
    unfolding OfLasts
    walk_less next c is k = omega (arith, k.onward line (walked.stands h).0)

    pub found_here : (t : Bool) → t ≡ runs_before w z (get_or lasts line 0) → t ≡ true → n ≤ length lasts
        → line ≡ first_place (runs_before w z) (take n lasts)
    found_here t test e room =
        place_first (runs_before w z) lasts n room line (walked.stands h).0
        (λ j g. walked.none j (omega (arith, (walked.stands h).0)) g)
        (sym test ∙ e)
