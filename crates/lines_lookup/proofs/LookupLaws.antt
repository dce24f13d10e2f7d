-- A word that was looked up is the one that Lookup names.
use mathlib.Core.Path.{◌≡◌, refl, sym, ap, ◌∙◌}
use mathlib.Core.Bool.{Bool, true, false, not}
use mathlib.Core.List.{List, [], ◌∷◌}
use Prim.Native.Nat.{ℕ, suc, ◌+◌, ◌-◌, ◌*◌, ◌%◌, ◌/◌, ◌≤◌, ◌<◌, min}
use native.Mathlib.Decide.{ℕ_discrete}
use native.Mathlib.Nat.{mul-le-mul, mod-lt, div-le_self}
use native.Mathlib.Numerals.{add-one}
use native.Mathlib.Omega.{arith}
use borrow.Author.Tests.{le-leb, lt-leb, lt-ltb, le-ltb}
use lib.Dec.{ltb, eqb}
use lib.ListN.{length, get_or, drop, length-take, length-drop}
use lib.Seq.{slice, slice-cons, take_all}
use Rattle.lines_lookup.specs.Lookup.{Line, word_at, station_at, mark_at, boards_at, alights_at, low_at, total_at}
use Rattle.lines_lookup.specs.Lookup.{times_place, arrive_at, depart_at, calls_place, list_of, line_at}
use Rattle.lines_lookup.specs.Calls.{Call, Piece, call_at, pairs_of, calls_of, calls_in, Inside, later, after}

module _ (p trips : ℕ) where
  pub product : p < 65536 → trips < 65536 → p * trips ≤ 65535 * 65535
  product h g = mul-le-mul {n₁ = p} {m₁ = trips} {n₂ = 65535} {m₂ = 65535} (omega arith) (omega arith)

module _ (v : List ℕ) (l : Line) (p j r k : ℕ) where
  pub arrives : r ≡ get_or v (k + j) 0 → k ≡ times_place l p → r ≡ arrive_at v l p j
  unfolding arrive_at
  arrives e f = e ∙ ap (λ i. get_or v (i + j) 0) f

  pub departs : r ≡ get_or v (k + l.trips + j) 0 → k ≡ times_place l p → r ≡ depart_at v l p j
  unfolding depart_at
  departs e f = e ∙ ap (λ i. get_or v (i + l.trips + j) 0) f

pub begins : (v : List ℕ) (s r k : ℕ) → r ≡ get_or v (k + s) 0 → k ≡ get_or v 3 0 → r ≡ calls_place v s
unfolding calls_place
begins v s r k e f = e ∙ ap (λ i. get_or v (i + s) 0) f

pub line_is : (v : List ℕ) (i a p n : ℕ) → a ≡ get_or v (4 + i) 0 → p ≡ get_or v a 0 → n ≡ get_or v (a + 1) 0
    → record { at = a; positions = p; trips = n } ≡ line_at v i
unfolding line_at
line_is v i a p n e f g =
    let h = f ∙ ap (λ k. get_or v k 0) e in
    let k = g ∙ ap (λ k. get_or v (k + 1) 0) e in
    λ z. record { at = e z; positions = h z; trips = k z }

-- ---- a word holds station and mark
module _ (v : List ℕ) (l : Line) (p word : ℕ) (is : word ≡ word_at v l p) where
  pub station_is : word % 128 ≡ station_at v l p
  unfolding station_at
  station_is = ap (λ n. n % 128) is

  pub mark_is : word / 128 ≡ mark_at v l p
  unfolding mark_at
  mark_is = ap (λ n. n / 128) is

module _ (word : ℕ) (few : word < 65536) where
  pub station_small : word % 128 < 65536
  station_small = omega (arith, mod-lt word {m = 128} (omega arith))

  pub mark_small : word / 128 < 65536
  mark_small = omega (arith, div-le_self word 128)

module _ (v : List ℕ) (l : Line) (p mark : ℕ) (is : mark ≡ mark_at v l p) where
  pub boards_is : not (eqb mark 2) ≡ boards_at v l p
  unfolding boards_at
  boards_is = ap (λ m. not (eqb m 2)) is

  pub alights_is : not (eqb mark 1) ≡ alights_at v l p
  unfolding alights_at
  alights_is = ap (λ m. not (eqb m 1)) is

-- ---- a total has two words
module _ (v : List ℕ) (l : Line) (p low high : ℕ)
    (is-low : low ≡ low_at v l p)
    (is-high : high ≡ get_or v (l.at + 2 + l.trips + 3 * p + 2) 0) where
  pub total_is : low + 65536 * high ≡ total_at v l p
  unfolding total_at
  total_is = λ i. is-low i + 65536 * is-high i

-- ---- a call is told by numbers from 1
pub call_is : (v : List ℕ) (k a b i p : ℕ) → a ≡ get_or v k 0 → i ≡ a - 1 → b ≡ get_or v (k + 1) 0 → p ≡ b - 1
    → record { line = i; place = p } ≡ call_at v k
call_is v k a b i p e f g h =
    let line = f ∙ ap (λ m. m - 1) e in
    let place = h ∙ ap (λ m. m - 1) g in
    λ z. record { line = line z; place = place z }

-- ---- the list of a station
module _ (v : List ℕ) (s : ℕ) where
  pub no_station_lem : s < 1 → calls_in v (record { from = 0; end = 0 }) ≡ calls_of v s
  unfolding calls_of list_of
  no_station_lem h = rw (lt-leb 1 s h)

  module _ (n : ℕ) (is-n : n ≡ get_or v 0 0) (some : 1 ≤ s) where
    pub not_listed : n < s → calls_in v (record { from = 0; end = 0 }) ≡ calls_of v s
    unfolding calls_of list_of
    not_listed h = rw (le-leb 1 s some, lt-leb s (get_or v 0 0) (omega (arith, is-n)))

    module _
        (listed : s ≤ n)
        (from end : ℕ)
        (is-from : from ≡ calls_place v (s - 1))
        (is-end : end ≡ calls_place v s)
      where
        whole_list : calls_in v (record { from = from; end = end }) ≡ calls_of v s
        unfolding calls_of list_of
        whole_list = rw (le-leb 1 s some, le-leb s (get_or v 0 0) (omega (arith, is-n)), is-from, is-end)

        -- no words stand past the end of the slice
        pub cut_list : (e : ℕ) → e ≡ min end (length v) → calls_in v (record { from = from; end = e }) ≡ calls_of v s
        cut_list e is =
            ap (λ n. calls_in v (record { from = from; end = n })) is
            ∙ elim (ℕ_discrete (min end (length v)) end) [
              | yes d ↦ ap (λ n. calls_in v (record { from = from; end = n })) d ∙ whole_list
              | no d ↦ (
                  ap (λ l. pairs_of (drop from l))
                  (take_all (min end (length v)) v (omega arith) ∙ sym (take_all end v (omega arith)))
                  ∙ whole_list
                  )
            ]

-- ---- call by call
module _ (v : List ℕ) (k end : ℕ) where
  pub pairs_more : k + 1 < end → end ≤ length v
      → pairs_of (slice k end v) ≡ call_at v k ∷ pairs_of (slice (k + 2) end v)
  unfolding pairs_of
  pairs_more h g =
      let two : suc (suc k) ≡ k + 2 = omega arith in
      rw (
        slice-cons k end v 0 (omega arith) g,
        slice-cons (suc k) end v 0 (omega arith) g,
        two,
        ← add-one k,
      )

  pub pairs_none : end ≤ k + 1 → pairs_of (slice k end v) ≡ []
  unfolding pairs_of
  pairs_none h = short (slice k end v) (simp (length-drop, length-take) (omega arith))
    where
      short : (l : List ℕ) → length l ≤ 1 → pairs_of l ≡ []
      short [] h = refl
      short (a ∷ []) h = refl
      short (a ∷ b ∷ l) h = absurd (omega arith)

-- ---- what is left after a call
module _ (c d : Call) where
  pub line_before : c.line < d.line → true ≡ later c d
  unfolding later
  line_before h = rw (lt-ltb c.line d.line h)

  module _ (h : d.line ≤ c.line) where
    pub line_behind : d.line < c.line → false ≡ later c d
    unfolding later
    line_behind g = rw (le-ltb c.line d.line h, lt-ltb d.line c.line g)

    pub by_place : c.line ≤ d.line → ltb c.place d.place ≡ later c d
    unfolding later
    by_place g = rw (le-ltb c.line d.line h, le-ltb d.line c.line g)

module _ (v : List ℕ) (c : Call) (list : Piece) (k : ℕ) (inside : Inside v list)
    (so_far : after c (calls_in v list) ≡ after c (calls_in v (record { from = k; end = list.end }))) where
  pub none_after : list.end ≤ k + 1 → calls_in v (record { from = k; end = list.end }) ≡ after c (calls_in v list)
  unfolding after
  none_after h =
      let none = pairs_none v k list.end h in
      none ∙ sym (so_far ∙ ap (after c) none)

  module _
      (more : k + 1 < list.end)
      (d : Call)
      (is-d : d ≡ call_at v k)
      (b : Bool)
      (is_b : b ≡ later c d)
    where
      next : calls_in v (record { from = k; end = list.end })
          ≡ d ∷ calls_in v (record { from = k + 2; end = list.end })
      next =
          pairs_more v k list.end more inside.end_inside
          ∙ ap (λ d. d ∷ calls_in v (record { from = k + 2; end = list.end })) (sym is-d)

      pub found_after : b ≡ true → calls_in v (record { from = k; end = list.end }) ≡ after c (calls_in v list)
      unfolding after
      found_after e = next ∙ sym (so_far ∙ ap (after c) next ∙ rw (← is_b, e))

      pub passed_over : b ≡ false
          → after c (calls_in v list) ≡ after c (calls_in v (record { from = k + 2; end = list.end }))
      unfolding after
      passed_over e = so_far ∙ ap (after c) next ∙ rw (← is_b, e)
