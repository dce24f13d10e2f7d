-- The loop along a pattern: before each step the words held are those of one who is ready at the present station.
use mathlib.Core.Path.{◌≡◌, refl, sym, ap, subst, ◌∙◌}
use mathlib.Core.Bool.{Bool, true, false}
use mathlib.Core.List.{List, [], ◌∷◌}
use Prim.Native.Nat.{ℕ, ◌+◌, ◌-◌, ◌*◌, ◌≤◌, ◌<◌}
use native.Mathlib.Omega.{arith}
use lib.ListN.{length, get_or}
use Rattle.timetable.specs.Words.{timetable_of, is_timetable}
use Rattle.connections.specs.Connections.{Net, net}
use Rattle.lines_check.specs.Question10.{are_tables}
use Rattle.query_places.specs.Candidates.{near_read}
use Rattle.query_costs.specs.Lowered.{Lowered}
use Rattle.query_costs.specs.Layering.{taken_all, start_of, first_value}
use Rattle.query_costs.specs.Readies.{Ready, start_ready}
use Rattle.query_minutes.specs.Minutes.{no_points, blank}
use Rattle.query_costs.specs.declared.Span.{Span}
use Rattle.query_costs.specs.Lowest.{lowest}
use Rattle.query_costs.specs.Falling.{Falls, nothing_held}
use Rattle.query_costs.specs.Turning.{held, held_first, spare, spare_second, first_same, second_same}
use Rattle.query_costs.specs.Patterns.{changes_to, changes_none, changes_more, nowhere, nowhere_lowered}
use Rattle.query_costs.specs.Onward.{Listed, Stations, change_words, is_valid, step_on, end_on}

-- the next stations of the path
pub alighted_here : (w path : List ℕ) (r j y : ℕ) → Stations w path (2 * r - 1) → j < r → y ≡ get_or path (2 * j) 0
    → Listed w y
alighted_here w path r j y s h e = subst (Listed w) (sym e) (s.listed (2 * j) (omega arith))

pub boarded_here : (w path : List ℕ) (r j x : ℕ) → Stations w path (2 * r - 1) → j + 1 < r
    → x ≡ get_or path (2 * j + 1) 0 → Listed w x
boarded_here w path r j x s more e = subst (Listed w) (sym e) (s.listed (2 * j + 1) (omega arith))

module _ (w : List ℕ) (accepted : is_timetable w ≡ true) where
  abbrev n : Net
  n = net (timetable_of w)

  pub ready_first : (a t : ℕ) (path p q : List ℕ) (s : Span) → t < 2880 → lowest no_points p ≡ start_of t → s.from ≡ t
      → Ready n a t (changes_to path 0) a s.from (lowest no_points (held false p q))
  ready_first a t path p q s h e f =
      subst
      (λ l. Ready n a t l a s.from (lowest no_points (held false p q)))
      (sym (changes_none path))
      (subst
      (λ m. Ready n a t [] a m (lowest no_points (held false p q)))
      (sym f)
      (subst
      (Ready n a t [] a t)
      (sym (ap (lowest no_points) (held_first false p q refl) ∙ e))
      (start_ready (timetable_of w) (is_valid w accepted) a t h)))

  module _
      (v : List ℕ)
      (own : are_tables w v ≡ true)
      (path : List ℕ)
      (r j : ℕ)
      (more : j < r)
      (stations : Stations w path (2 * r - 1))
      (a t x e : ℕ)
      (i : Listed w x)
      (k : List ℕ)
      (is : Ready n a t (changes_to path j) x e k)
      (y : ℕ)
    where
      -- the last ride
      pub ended : j + 1 ≡ r → y ≡ get_or path (2 * r - 2) 0 → (old best after : List ℕ) → length old ≡ 2880 → best ≡ old
          → after ≡ taken_all k 0 0 best (near_read v x e y)
          → Lowered n a t (changes_to path (r - 1)) (get_or path (2 * r - 2) 0) old after
      ended at here old best after size same h =
          let last : j ≡ r - 1 = omega (arith, at) in
          let all = h ∙ ap (λ b. taken_all k 0 0 b (near_read v x e y)) same in
          let lowered = end_on w accepted v own x i a t (changes_to path j) e k is y old size in
          subst
          (λ m. Lowered n a t (changes_to path m) (get_or path (2 * r - 2) 0) old after)
          last
          (subst
          (λ z. Lowered n a t (changes_to path j) z old after)
          here
          (subst (Lowered n a t (changes_to path j) y old) (sym all) lowered))

      -- a change more, to the station boarded at
      module _ (here : y ≡ get_or path (2 * j) 0) (z : ℕ) (there : z ≡ get_or path (2 * j + 1) 0) where
        named : record { alighted = y; boarded = z } ∷ changes_to path j ≡ changes_to path (j + 1)
        named = (λ i. record { alighted = here i; boarded = there i } ∷ changes_to path j) ∙ sym (changes_more path j)

        pub ready_next : (after : List ℕ) → after ≡ change_words w k y z (near_read v x e y)
            → (first : ℕ) → first ≡ first_value after → Ready n a t (changes_to path (j + 1)) z first after
        ready_next after h first f =
            subst
            (λ l. Ready n a t l z first after)
            named
            (subst
            (λ m. Ready n a t (record { alighted = y; boarded = z } ∷ changes_to path j) z m after)
            (sym f)
            (subst
            (λ l. Ready n a t (record { alighted = y; boarded = z } ∷ changes_to path j) z (first_value l) l)
            (sym h)
            (step_on w accepted v own x i a t (changes_to path j) e k is y
            (alighted_here w path r j y stations more here) z)))

        -- no one is ready any more
        pub stopped : j + 1 < r → (after : List ℕ) → after ≡ change_words w k y z (near_read v x e y)
            → (first : ℕ) → first ≡ first_value after → first ≤ 2880 → 2880 ≤ first
            → (old best : List ℕ) → best ≡ old
            → Lowered n a t (changes_to path (r - 1)) (get_or path (2 * r - 2) 0) old best
        stopped further after h first f most least old best same =
            let end : first ≡ 2880 = omega arith in
            let last = subst (λ m. Ready n a t (changes_to path (j + 1)) z m after) end (ready_next after h first f) in
            let none = nowhere (timetable_of w) (is_valid w accepted) a t (changes_to path (j + 1)) z after last in
            let later : j + 1 ≤ r - 1 = omega arith in
            let b = get_or path (2 * r - 2) 0 in
            subst
            (Lowered n a t (changes_to path (r - 1)) (get_or path (2 * r - 2) 0) old)
            (sym same)
            (nowhere_lowered (timetable_of w) (is_valid w accepted) a t path (j + 1) (r - 1) later none b old)

-- ---- the two arrays
module _ (p q : List ℕ) where
  pub falls_begin : (s : Span) → Falls s p → Falls s (held false p q)
  falls_begin s = subst (Falls s) (sym (held_first false p q refl))

  pub spare_begin : q ≡ blank → spare false p q ≡ blank
  spare_begin e = spare_second false p q refl ∙ e

  -- no one is ready any more
  module _ (turned : Bool) (left : spare turned p q ≡ blank) (s : Span) (falls : Falls s (held turned p q))
      (h : 2880 ≤ s.from) where
    pub first_blank : p ≡ blank
    first_blank = first_same p q blank turned (nothing_held s (held turned p q) falls h) left

    pub second_blank : q ≡ blank
    second_blank = second_same p q blank turned (nothing_held s (held turned p q) falls h) left
