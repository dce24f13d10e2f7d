-- Loops over the departures of a station: where they stand, and what a turn takes from those that are left.
use mathlib.Core.Path.{◌≡◌, refl, sym, ap, subst, ◌∙◌}
use mathlib.Core.Bool.{true}
use mathlib.Core.List.{List, []}
use Prim.Native.Nat.{ℕ, ◌+◌, ◌^◌, ◌≤◌, ◌<◌, min}
use native.Mathlib.Numerals.{add-one}
use native.Mathlib.Omega.{arith}
use lib.ListN.{length, get_or, set}
use lib.Seq.{slice, slice-cons, slice_empty}
use Rattle.lists.specs.Lists.{◌∈◌}
use Rattle.timetable.specs.Words.{station_count, is_timetable}
use Rattle.timetable.specs.Access.{stations_few}
use Rattle.store_stops.specs.Stopwise.{unreached, Goes}
use Rattle.store_stops.specs.Paid.{Labelled}
use Rattle.store_departures.specs.Order.{waiting}
use Rattle.store_departures.specs.Parts.{waiting_out}
use Rattle.store_departures.specs.Held.{Departures, goes_few, part_ordered, part_most, part_is, part_in}
use Rattle.store_marks.specs.Arrays.{fill, fall}
use Rattle.store_marks.specs.Riding.{root_label}
use Rattle.store_marks.specs.Held.{Inside}
use Rattle.store_marks.specs.Stepping.{Keeps, root_labelled, root_keeps}

-- ---- the places of a station's departures
module _
    (w chain first : List ℕ)
    (ok : is_timetable w ≡ true)
    (held : Departures w chain first)
    (c : ℕ)
    (listed : c ≤ station_count w)
  where
    few : c ≤ 64
    few = omega (arith, stations_few w ok)

    pub first_room : c < length first
    first_room = omega (arith, few, held.first_long)

    pub next_room : c + 1 < length first
    next_room = omega (arith, few, held.first_long)

    pub next_fits : c + 1 < 2 ^ 64
    next_fits = omega (arith, few)

    module _ (begin end : ℕ) (from : begin ≡ get_or first c 0) (to : end ≡ get_or first (c + 1) 0) where
      pub ordered : begin ≤ end
      ordered = omega (arith, part_ordered w ok chain first held c few)

      pub end_inside : end ≤ length chain
      end_inside = omega (arith, part_most w ok chain first held c few, held.standing.chain_long)

      pub part : slice begin end chain ≡ waiting w c
      part =
          ap (λ k. slice k end chain) from
          ∙ ap (λ k. slice (get_or first c 0) k chain) to
          ∙ part_is w ok chain first held c few

      -- at place k
      module _ (k : ℕ) (behind : begin ≤ k) (before : k < end) where
        pub place_inside : k < length chain
        place_inside = omega (arith, end_inside)

        departs : get_or chain k 0 ∈ waiting w c
        departs = part_in w ok chain first held c few k (omega arith) (omega arith)

        module _ (g : ℕ) (is : g ≡ get_or chain k 0) where
          pub stop_goes : Goes w g
          stop_goes = subst (Goes w) (sym is) (waiting_out w c (get_or chain k 0) departs).0

          pub stop_few : g < 2048
          stop_few = omega (arith, goes_few w ok g stop_goes)

          pub stop_inside : (x : List ℕ) → length x ≡ 2048 → g < length x
          stop_inside x long = omega (arith, stop_few)

      pub all_inside : (x : List ℕ) → length x ≡ 2048 → Inside chain begin end x
      all_inside x long k h g = stop_inside k h g (get_or chain k 0) refl x long

-- ---- one of a part
pub inside_word : (l : List ℕ) (begin end : ℕ) (x₀ x : List ℕ) → Inside l begin end x₀ → (k : ℕ) → begin ≤ k → k < end
    → length x ≡ length x₀ → (g : ℕ) → g ≡ get_or l k 0 → g < length x
inside_word l begin end x₀ x h k from to same g is = omega (arith, h k from to)

-- ---- words that are set, one after the other
module _ (whole l x : List ℕ) (k end : ℕ) where
  module _ (f : ℕ → ℕ) (left : whole ≡ fill f (slice k end l) x) where
    fill_on : k < end → end ≤ length l → (g : ℕ) → g ≡ get_or l k 0 → (x' : List ℕ) → x' ≡ set x g (f g)
        → whole ≡ fill f (slice (k + 1) end l) x'
    unfolding fill
    fill_on h room g is x' sets = left ∙ rw (slice-cons k end l 0 h room, add-one k, ← is, sets)

    fill_done : k ≤ end → end ≤ k → x ≡ whole
    unfolding fill
    fill_done h g = let e : k ≡ end = omega arith in sym (left ∙ rw (e, slice_empty end l))

  module _ (left : whole ≡ fill (λ g. unreached) (slice k end l) x) where
    pub clear_on : k < end → end ≤ length l → (g : ℕ) → g ≡ get_or l k 0 → (x' : List ℕ) → x' ≡ set x g unreached
        → whole ≡ fill (λ g. unreached) (slice (k + 1) end l) x'
    clear_on = fill_on (λ g. unreached) left

    pub clear_done : k ≤ end → end ≤ k → x ≡ whole
    clear_done = fill_done (λ g. unreached) left

  module _ (w : List ℕ) (d : ℕ) (left : whole ≡ fill (root_label w d) (slice k end l) x) where
    pub root_on : k < end → (g r : ℕ) → g ≡ get_or l k 0 → r ≡ root_label w d g → (first : List ℕ)
        → is_timetable w ≡ true → Departures w l first → (c : ℕ) → c ≤ station_count w → end ≡ get_or first (c + 1) 0
        → (x' : List ℕ) → x' ≡ set x g r → whole ≡ fill (root_label w d) (slice (k + 1) end l) x'
    root_on h g r is label first ok held c listed to x' sets =
        let room = end_inside w l first ok held c listed (get_or first c 0) end refl to in
        fill_on (root_label w d) left h room g is x' (sets ∙ ap (set x g) label)

    pub root_done : k ≤ end → end ≤ k → (x₀ : List ℕ) (a : ℕ) → whole ≡ fill (root_label w d) (waiting w a) x₀
        → length x₀ ≡ 2048 → is_timetable w ≡ true → Labelled w a d [] a x
    root_done h g x₀ a is long ok =
        subst (Labelled w a d [] a) (sym (fill_done (root_label w d) left h g ∙ is)) (root_labelled w ok x₀ long a d)

    pub root_kept : k ≤ end → end ≤ k → (x₀ : List ℕ) (a : ℕ) → whole ≡ fill (root_label w d) (waiting w a) x₀
        → length x₀ ≡ 2048 → is_timetable w ≡ true → Keeps w a x₀ x
    root_kept h g x₀ a is long ok =
        subst (Keeps w a x₀) (sym (fill_done (root_label w d) left h g ∙ is)) (root_keeps w ok x₀ long a d)

pub root_start : (w chain first : List ℕ) → is_timetable w ≡ true → Departures w chain first → (c : ℕ)
    → c ≤ station_count w → (begin end : ℕ) → begin ≡ get_or first c 0 → end ≡ get_or first (c + 1) 0 → (d : ℕ)
    (x : List ℕ)
    → fill (root_label w d) (waiting w c) x ≡ fill (root_label w d) (slice begin end chain) x
root_start w chain first ok held c listed begin end from to d x =
    ap (λ l. fill (root_label w d) l x) (sym (part w chain first ok held c listed begin end from to))

-- ---- words that fall
module _ (whole l x : List ℕ) (k end low : ℕ) (left : whole ≡ fall low (slice k end l) x) where
  pub settle_on : k < end → end ≤ length l → (g u r : ℕ) → g ≡ get_or l k 0 → u ≡ get_or x g 0 → r ≡ min low u
      → (x' : List ℕ) → x' ≡ set x g r → whole ≡ fall r (slice (k + 1) end l) x'
  unfolding fall
  settle_on h room g u r is word least x' sets =
      left ∙ rw (slice-cons k end l 0 h room, add-one k, sets, least, word, is)

  pub settle_done : k ≤ end → end ≤ k → x ≡ whole
  unfolding fall
  settle_done h g = let e : k ≡ end = omega arith in sym (left ∙ rw (e, slice_empty end l))
