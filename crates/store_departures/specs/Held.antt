-- The arrays that hold the departures station by station, where each station's begin, what a change there costs, and
-- what arrivals catch on foot.
use Rattle.std.specs.Prelude.{◌≡◌, Bool, true, false, List, ℕ, zero, suc, ◌+◌, ◌-◌, ◌≤◌, ◌<◌, length, get_or, take}
use Rattle.std.specs.Prelude.{drop}
use Rattle.std.proofs.Common.{sym, ap, subst, ◌∙◌, ltb-false, take-take}
use mathlib.Core.List.Memᴰ.{head as here}
use mathlib.Core.List.Memᴰ.{tail as there}
use native.Mathlib.Omega.{arith}
use Rattle.std.proofs.Math.Dec.{ltb}
use Rattle.std.proofs.Math.Seq.{slice, slice-cons}
use Rattle.lists.specs.Lists.{◌∈◌}
use Rattle.lists.specs.Members.{filter_few}
use Rattle.timetable.specs.Words.{station_count, walk_count, walk_at, is_timetable}
use Rattle.timetable.specs.Walks.{FromStation}
use Rattle.connections.specs.Connections.{on_foot}
use Rattle.store_stops.specs.Stopwise.{station, change_points, Goes, Arrival}
use Rattle.store_stops.specs.TimelyLaws.{timely}
use Rattle.store_departures.specs.Order.{begin_of, order, chain, waiting, catch_by}
use Rattle.store_departures.specs.Keys.{Begins}
use Rattle.store_departures.specs.Parts.{chain_part, begin_next, chain_length, order_length, leaving_few}

-- the first k words are as they were
pub record Front (k : ℕ) (old new : List ℕ) : Type 0 where
  pub same : (m : ℕ) → m < k → get_or new m 0 ≡ get_or old m 0

-- a change at each station itself costs what stands 66 places behind the beginning of its departures
pub record Priced (w first : List ℕ) : Type 0 where
  pub price : (c : ℕ) → 1 ≤ c → c ≤ station_count w → get_or first (66 + c) 0 ≡ change_points w c

-- the departures of station m stand at places first[m] up to first[m + 1] of the chain
pub record Standing (w chained first : List ℕ) : Type 0 where
  pub chain_long : length chained ≡ 20480
  pub chain_is : take (length (chain w)) chained ≡ chain w
  pub first_listed : 65 < length first
  pub begins : Begins (station w) 65 (order w) first

-- Behind the chain each stop has a word: where what is caught on foot after the arrival there stands, less the place of
-- the walk; 0 says that it is not kept.
abbrev pub kept_at : (chained : List ℕ) (j : ℕ) → ℕ
kept_at chained j = get_or chained (2048 + j) 0

-- what is kept for stop j stands before place end
pub record Kept (w chained : List ℕ) (end j : ℕ) : Type 0 where
  pub begun : (k : ℕ) → FromStation w (station w j) k → 1 ≤ kept_at chained j → 4096 ≤ kept_at chained j + k
  pub inside : (k : ℕ) → FromStation w (station w j) k → 1 ≤ kept_at chained j → kept_at chained j + k < end
  pub is : (k : ℕ) → FromStation w (station w j) k → 1 ≤ kept_at chained j
      → get_or chained (kept_at chained j + k) 0 ≡ catch_by w (on_foot (walk_at w k)) j

pub record KeptAll (w chained : List ℕ) : Type 0 where
  pub kept : (j : ℕ) → Arrival w j → Kept w chained 20480 j

pub record Departures (w chained first : List ℕ) : Type 0 where
  pub standing : Standing w chained first
  pub all_kept : KeptAll w chained
  pub first_long : length first ≡ 132
  pub priced : Priced w first
  pub walks_counted : get_or first 131 0 ≡ walk_count w

pub held_standing : (w chained first : List ℕ) → Departures w chained first → Standing w chained first
held_standing w chained first held = held.standing

pub held_first : (w chained first : List ℕ) → Departures w chained first → length first ≡ 132
held_first w chained first held = held.first_long

-- there are no walks at all
pub no_walks : (w chained first : List ℕ) → Departures w chained first → (b : Bool) → b ≡ ltb 0 (get_or first 131 0)
    → b ≡ false → walk_count w ≡ 0
no_walks w chained first held b is e =
    omega (arith, ltb-false 0 (get_or first 131 0) (sym is ∙ e), held.walks_counted)

pub held_prices : (w chained first : List ℕ) → Departures w chained first → Priced w first
held_prices w chained first held = held.priced

-- what stands at one of the places of a part is in it
slice_in : (l : List ℕ) (m b t : ℕ) → b + m < t → t ≤ length l → get_or l (b + m) 0 ∈ slice b t l
slice_in l zero b t h g =
    let e : b + 0 ≡ b = omega arith in
    rw (slice-cons b t l 0 (omega arith) g) (here (ap (λ k. get_or l k 0) e))
slice_in l (suc m) b t h g =
    let e : suc b + m ≡ b + suc m = omega arith in
    rw (slice-cons b t l 0 (omega arith) g)
    (there (subst (λ k. get_or l k 0 ∈ slice (suc b) t l) e (slice_in l m (suc b) t (omega arith) g)))

module _ (w : List ℕ) (yes : is_timetable w ≡ true) where
  -- a stop that is left again is one of 2,048
  pub goes_few : (i : ℕ) → Goes w i → suc i < 2048
  goes_few i g = omega (arith, (timely w yes).few i g, (timely w yes).stops)

  begin_most : (m : ℕ) → begin_of (station w) m (order w) ≤ length (chain w)
  unfolding begin_of
  begin_most m =
      omega (
        arith,
        filter_few (λ i. ltb (station w i) m) (order w),
        chain_length w yes,
        order_length w yes,
      )

  module _ (chained first : List ℕ) (held : Departures w chained first) (c : ℕ) (few : c ≤ 64) where
    -- those of a station
    pub part_ordered : get_or first c 0 ≤ get_or first (c + 1) 0
    part_ordered =
        omega (
          arith,
          held.standing.begins.begin c (omega arith),
          held.standing.begins.begin (c + 1) (omega arith),
          begin_next (station w) (order w) c,
        )

    pub part_most : get_or first (c + 1) 0 ≤ 2048
    part_most =
        let e = ap length held.standing.chain_is in
        omega (
          arith,
          held.standing.begins.begin (c + 1) (omega arith),
          begin_most (c + 1),
          chain_length w yes,
          leaving_few w yes,
          (timely w yes).stops,
        )

    pub part_is : slice (get_or first c 0) (get_or first (c + 1) 0) chained ≡ waiting w c
    part_is =
        let b = held.standing.begins.begin c (omega arith) in
        let e = held.standing.begins.begin (c + 1) (omega arith) in
        let inside = begin_most (c + 1) in
        ap (λ k. drop (get_or first c 0) k)
        (sym (take-take (get_or first (c + 1) 0) (length (chain w)) chained (omega arith))
        ∙ ap (take (get_or first (c + 1) 0)) held.standing.chain_is)
        ∙ ap (λ k. slice k (get_or first (c + 1) 0) (chain w)) b
        ∙ ap (λ k. slice (begin_of (station w) c (order w)) k (chain w)) e
        ∙ chain_part w c few

    pub part_in : (k : ℕ) → get_or first c 0 ≤ k → k < get_or first (c + 1) 0 → get_or chained k 0 ∈ waiting w c
    part_in k h g =
        let b = get_or first c 0 in
        let e : b + (k - b) ≡ k = omega arith in
        subst (λ r. get_or chained k 0 ∈ r) part_is
        (subst (λ i. get_or chained i 0 ∈ slice b (get_or first (c + 1) 0) chained) e
        (slice_in chained (k - b) b (get_or first (c + 1) 0) (omega arith)
        (omega (arith, part_most, held.standing.chain_long))))
