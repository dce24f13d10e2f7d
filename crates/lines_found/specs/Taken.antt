-- Lines chained by what their last trips show at a glance, and a trip taken to its line.
use Rattle.std.specs.Prelude.{◌≡◌, List, ℕ, suc, ◌+◌, ◌≤◌, ◌<◌, min, T, length, get_or, take, set}
use Rattle.std.proofs.Common.{sym, ap, subst, ◌∙◌, inl, inr, arith, get_or-set_same, get_or-set_other, get_or-take}
use Rattle.std.proofs.Common.{length-take-le}
use Rattle.std.proofs.Math.Nat.{min-le_left, min-le_right}
use Rattle.std.proofs.Math.Decide.{ℕ_discrete}
use Rattle.timetable.specs.Words.{trip_at}
use Rattle.lines.specs.Lines.{behind}
use Rattle.lines_order.specs.Steps.{first_place, place_passes}
use Rattle.lines_found.specs.Steps.{runs_before}
use Rattle.lines_found.specs.Glance.{course_of, last_arrival, course_few, behind_course, behind_arrives}
use Rattle.lines_found.specs.Chains.{next_of, end_of, floor_of, Chained, linked, chained_joins, chained_founds}

abbrev pub course_at : (w lasts : List ℕ) (line : ℕ) → ℕ
course_at w lasts j = course_of (trip_at w (get_or lasts j 0))

abbrev pub arrival_at : (w lasts : List ℕ) (line : ℕ) → ℕ
arrival_at w lasts j = last_arrival (trip_at w (get_or lasts j 0))

-- n lines are chained, of which the last trips are given
unfoldable pub OfLasts : (w lasts : List ℕ) (n : ℕ) (chains : List ℕ) → Type 0
OfLasts w lasts n c = Chained (course_at w lasts) (arrival_at w lasts) n c

-- the lines are chained once a trip was taken to one of n lines, or to the next
pub record TakenTo (w lasts : List ℕ) (n line : ℕ) (chains : List ℕ) : Type 0 where
  pub joined : line < n → OfLasts w lasts n chains
  pub founded : line ≡ n → OfLasts w lasts (suc n) chains

-- the chains after a trip of course b, which arrives at its last stop at minute a, was taken to a line: as they were,
-- or with one line more
pub record Chosen (c c' : List ℕ) (n line b a : ℕ) : Type 0 where
  pub joined : line < n → c' ≡ c
  pub founded : line ≡ n → c' ≡ linked c (end_of c b) line b (min (floor_of c b) a)

-- ---- no line yet
-- the words of the first b places are those of no line
pub record OpenedTo (b : ℕ) (c : List ℕ) : Type 0 where
  pub lines : (i : ℕ) → i < b → next_of c i ≡ 256
  pub heads : (i : ℕ) → i < b → next_of c (256 + i) ≡ 256
  pub ends : (i : ℕ) → i < b → end_of c i ≡ 256 + i

pub opened_chains : (w lasts c : List ℕ) → OpenedTo 256 c → OfLasts w lasts 0 c
unfolding OfLasts
opened_chains w lasts c o =
    record {
      first = λ j h. absurd (omega arith);
      after = λ i j h g e. absurd (omega arith);
      onward = λ i h. absurd (omega arith);
      heads = λ b h g. absurd (omega (arith, o.heads b h));
      links = λ i h g. absurd (omega arith);
      loose = λ i h g. omega (arith, o.lines i g);
      ends = λ j h. absurd (omega arith);
      end = λ b h. inl (o.ends b h);
      floor = λ j h. absurd (omega arith);
    }

-- the last line of a course stands at a line's place, or at its own
pub end_inside : (w lasts : List ℕ) (n : ℕ) (c : List ℕ) → OfLasts w lasts n c → n < 256 → (b : ℕ) → b < 256
    → end_of c b < 512
unfolding OfLasts
end_inside w lasts n c k room b h = elim (k.end b h) [ inl e ↦ omega arith | inr r ↦ omega (arith, r.0) ]

-- ---- the last trips after a turn
module _ (w lasts : List ℕ) (line z : ℕ) (inside : line < length lasts) where
  last_here : get_or (set lasts line z) line 0 ≡ z
  last_here = get_or-set_same lasts line z 0 inside

  course_else : (j : ℕ) → (j ≡ line → ⊥) → course_at w (set lasts line z) j ≡ course_at w lasts j
  course_else j d = ap (λ y. course_of (trip_at w y)) (get_or-set_other lasts line j z 0 d)

  arrival_else : (j : ℕ) → (j ≡ line → ⊥) → arrival_at w (set lasts line z) j ≡ arrival_at w lasts j
  arrival_else j d = ap (λ y. last_arrival (trip_at w y)) (get_or-set_other lasts line j z 0 d)

  module _ (n : ℕ) (c : List ℕ) (k : OfLasts w lasts n c) where
    pub joined_chains : T (behind (trip_at w (get_or lasts line 0)) (trip_at w z)) → OfLasts w (set lasts line z) n c
    unfolding OfLasts
    joined_chains t =
        chained_joins (course_at w lasts) (arrival_at w lasts) (course_at w (set lasts line z))
        (arrival_at w (set lasts line z)) n c k same later
      where
        same : (j : ℕ) → j < n → course_at w (set lasts line z) j ≡ course_at w lasts j
        same j h =
            elim (ℕ_discrete j line) [
              | yes d ↦ (
                  rw (d, last_here)
                  (sym (behind_course (trip_at w (get_or lasts line 0)) (trip_at w z) t))
                  )
              | no d ↦ course_else j d
            ]

        later : (j : ℕ) → j < n → arrival_at w lasts j ≤ arrival_at w (set lasts line z) j
        later j h =
            elim (ℕ_discrete j line) [
              | yes d ↦ (
                  rw (d, last_here)
                  (behind_arrives (trip_at w (get_or lasts line 0)) (trip_at w z) t)
                  )
              | no d ↦ omega (arith, arrival_else j d)
            ]

    pub founded_chains : length c ≡ 1024 → line ≡ n → n < 256 → (b a : ℕ) → b ≡ course_of (trip_at w z)
        → a ≡ last_arrival (trip_at w z) → OfLasts w (set lasts line z) (suc n)
        (linked c (end_of c b) line b (min (floor_of c b) a))
    unfolding OfLasts
    founded_chains long is room b a is_course is-arrive =
        rw is
        (chained_founds (course_at w lasts) (arrival_at w lasts) (course_at w (set lasts n z))
        (arrival_at w (set lasts n z)) n c k long room b few (λ j. course_few (trip_at w (get_or lasts j 0)))
        (λ j h. rw (← is) (course_else j (λ d. omega arith)))
        (rw (← is, last_here) (sym is_course))
        (λ j h. rw (← is) (omega (arith, arrival_else j (λ d. omega arith))))
        (min (floor_of c b) a) (min-le_left (floor_of c b) a)
        (rw (← is, last_here, ← is-arrive) (min-le_right (floor_of c b) a)))
      where
        few : b < 256
        few = rw is_course (course_few (trip_at w z))

pub taken_to : (w lasts c c' : List ℕ) (n line z b a : ℕ) → Chosen c c' n line b a → OfLasts w lasts n c
    → line ≡ first_place (runs_before w z) (take n lasts) → line ≤ n → n < 256 → length lasts ≡ 256 → length c ≡ 1024
    → b ≡ course_of (trip_at w z) → a ≡ last_arrival (trip_at w z) → TakenTo w (set lasts line z) n line c'
taken_to w lasts c c' n line z b a chosen k found inside room long long-c is_course is-arrive =
    record {
      joined =
          λ h.
          let here : first_place (runs_before w z) (take n lasts) < length (take n lasts) =
          omega (arith, length-take-le n lasts (omega arith)) in
          let passes = place_passes (runs_before w z) (take n lasts) here in
          let at : get_or (take n lasts) (first_place (runs_before w z) (take n lasts)) 0 ≡ get_or lasts line 0 =
          ap (λ i. get_or (take n lasts) i 0) (sym found) ∙ get_or-take n lasts line 0 h in
          rw (chosen.joined h)
          (joined_chains w lasts line z (omega arith) n c k (subst T (sym (rw at at passes)) tt));
      founded =
          λ e.
          rw (chosen.founded e)
          (founded_chains w lasts line z (omega arith) n c k long-c e room b a is_course is-arrive);
    }
