-- Slots are read and listed as the code does it.
use mathlib.Core.Path.{◌≡◌, refl, sym, ap, ◌∙◌}
use mathlib.Core.Bool.{Bool, true, false}
use mathlib.Core.List.{List, [], ◌∷◌, ◌++◌, append_assoc}
use Prim.Native.Nat.{ℕ, suc, ◌+◌, ◌-◌, ◌*◌, ◌≤◌, ◌<◌}
use native.Mathlib.Omega.{arith}
use borrow.Author.Tests.{lt-ltb, le-ltb, eq-eqb, ne_eqb}
use lib.Dec.{ltb}
use lib.ListN.{length, take, set, length-append, length-set}
use Rattle.words.specs.Put.{put, put_none, put_one, put_append, take_put}
use Rattle.timetable.specs.Timetable.{Walk}
use Rattle.timetable.specs.Words.{station_count, walks_to, walk_count, walk_at, is_timetable}
use Rattle.timetable.specs.Access.{stations_few}
use Rattle.timetable.specs.Walks.{walks_few, walks_rise, good_walk}
use Rattle.store_slots.specs.Slots.{walk_slot, transfer_at, slots_from, slots}
use Rattle.store_slots.specs.SlotLaws.{slots_few}
use Rattle.store_slots.specs.Writing.{Writing, writing_first, writing_room, writing_more, writing_done}
use Rattle.store_slots.specs.Writing.{writing_end}
use Rattle.store_slots.specs.Listing.{beyond, walk_listed, side_slots, side_more, from_sides}
use Rattle.store_slots.specs.Listing.{slots_to, slots_more, slots_none, slots_all}

-- ---- what a slot stands for
module _ (w : List ℕ) (s : ℕ) where
  module _ (h : s < 64) where
    here_is : transfer_at w s ≡ record { alighted = suc s; boarded = suc s }
    unfolding transfer_at
    here_is = rw (lt-ltb s 64 h)

    pub here_alighted : s + 1 ≡ (transfer_at w s).alighted
    here_alighted = omega (arith, ap (λ x. x.alighted) here_is)

    pub here_boarded : s + 1 ≡ (transfer_at w s).boarded
    here_boarded = omega (arith, ap (λ x. x.boarded) here_is)

  module _ (h : 64 ≤ s) (v : Walk) (is : v ≡ walk_at w (s - 64)) where
    foot_is : transfer_at w s ≡ record { alighted = (walk_at w (s - 64)).from; boarded = (walk_at w (s - 64)).to }
    unfolding transfer_at
    foot_is = rw (le-ltb s 64 h)

    pub foot_alighted : v.from ≡ (transfer_at w s).alighted
    foot_alighted = ap (λ v. v.from) is ∙ sym (ap (λ x. x.alighted) foot_is)

    pub foot_boarded : v.to ≡ (transfer_at w s).boarded
    foot_boarded = ap (λ v. v.to) is ∙ sym (ap (λ x. x.boarded) foot_is)

-- ---- the slot of a walk
pub walk_few : (w : List ℕ) (k : ℕ) → is_timetable w ≡ true → k < walk_count w → k < 256
walk_few w k spelled known = omega (arith, walks_few w spelled)

module _ (w : List ℕ) (k : ℕ) (yes : is_timetable w ≡ true) (known : k < walk_count w) (v : Walk)
    (is : v ≡ walk_at w k) where
  pub from_some : 1 ≤ v.from
  from_some = omega (arith, (good_walk w yes k known).from_first, ap (λ v. v.from) is)

  pub from_small : v.from - 1 < 320
  from_small = omega (arith, (good_walk w yes k known).from_last, ap (λ v. v.from) is, stations_few w yes)

  pub slot_here : v.from ≡ v.to → v.from - 1 ≡ walk_slot w k
  unfolding walk_slot
  slot_here e = rw (← is, eq-eqb v.from v.to e)

  pub foot_small : 64 + k < 320
  foot_small = omega (arith, walks_few w yes)

  pub foot_fits : 64 + k < 18446744073709551616
  foot_fits = omega (arith, walks_few w yes)

  pub slot_foot : (v.from ≡ v.to → ⊥) → 64 + k ≡ walk_slot w k
  unfolding walk_slot
  slot_foot e = rw (← is, ne_eqb v.from v.to e)

-- ---- beyond a station
module _ (y to : ℕ) where
  pub is_above : (above : Bool) → above ≡ true → ltb y to ≡ beyond above y to
  unfolding beyond
  is_above above e = rw e

  pub is_below : (above : Bool) → above ≡ false → ltb to y ≡ beyond above y to
  unfolding beyond
  is_below above e = rw e

-- ---- one walk
module _ (w : List ℕ) (above t : Bool) (y k at : ℕ) (v : Walk) (is : v ≡ walk_at w k) (is_t : t ≡ beyond above y v.to)
    (old : List ℕ) where
  module _ (e : t ≡ true) where
    listed_is : walk_listed w above y k ≡ (64 + k) ∷ []
    unfolding walk_listed
    listed_is = rw (← is, ← is_t, e)

    pub walk_end : at + 1 ≡ at + length (walk_listed w above y k)
    walk_end = omega (arith, ap length listed_is)

    module _ (room : at + length (walk_listed w above y k) ≤ length old) where
      pub walk_room : at < length old
      walk_room = omega (arith, ap length listed_is)

      pub walk_written : set old at (64 + k) ≡ put at (walk_listed w above y k) old
      walk_written = put_one at old (64 + k) walk_room ∙ ap (λ l. put at l old) (sym listed_is)

  module _ (e : t ≡ false) where
    left_out : walk_listed w above y k ≡ []
    unfolding walk_listed
    left_out = rw (← is, ← is_t, e)

    pub none_end : at ≡ at + length (walk_listed w above y k)
    none_end = omega (arith, ap length left_out)

    pub none_written : old ≡ put at (walk_listed w above y k) old
    none_written = sym (ap (λ l. put at l old) left_out ∙ put_none at old)

-- ---- the walks on one side
pub side_room : (w old out : List ℕ) (above : Bool) (y first k end at here : ℕ)
    → Writing (side_slots w above y first end) (side_slots w above y k end) old out at here → k < end
    → here + length (walk_listed w above y k) ≤ length out
side_room w old out above y first k end at here s h =
    writing_room
    (side_slots w above y first end)
    (side_slots w above y k end)
    (walk_listed w above y k)
    (side_slots w above y (k + 1) end)
    old
    out
    at
    here
    s
    (side_more w above y k end h)

-- ---- the slots that begin with one station
module _ (w : List ℕ) (yes : is_timetable w ≡ true) (y : ℕ) (high : y ≤ station_count w) where
  pub end_few : (e : ℕ) → e ≡ walks_to w y → e ≤ 256
  end_few e is =
      omega (arith, is, walks_rise w yes y (station_count w) high (omega arith), walks_few w yes)

  module _ (first end : ℕ) (is-first : first ≡ walks_to w (y - 1)) (is-end : end ≡ walks_to w y) where
    sides : slots_from w y ≡ side_slots w false y first end ++ ((y - 1) ∷ side_slots w true y first end)
    sides =
        from_sides w y
        ∙ λ i.
        side_slots w false y (sym is-first i) (sym is-end i)
        ++ ((y - 1) ∷ side_slots w true y (sym is-first i) (sym is-end i))

    long : length (slots_from w y) ≡ length (side_slots w false y first end) +
        (1 + length (side_slots w true y first end))
    long =
        omega (
          arith,
          ap length sides,
          length-append (side_slots w false y first end) ((y - 1) ∷ side_slots w true y first end),
        )

    module _ (old : List ℕ) (at : ℕ) (room : at + length (slots_from w y) ≤ length old) where
      pub below_room : at + length (side_slots w false y first end) ≤ length old
      below_room = omega (arith, long)

      module _ (here : ℕ) (is_here : here ≡ at + length (side_slots w false y first end)) (mid : List ℕ)
          (kept : length mid ≡ length old) where
        pub here_room : here < length mid
        here_room = omega (arith, long)

        -- where there is room for all slots, indices are small
        module _ (all : length old ≡ 320) where
          pub here_twice : here * 2 < 18446744073709551616
          here_twice = omega (arith, long)

          pub here_next : here + 1 < 18446744073709551616
          here_next = omega (arith, long)

        pub above_room : (x : ℕ) → here + 1 + length (side_slots w true y first end) ≤ length (set mid here x)
        above_room x = omega (arith, long, length-set mid here x)

        pub from_end : (r : ℕ) → r ≡ here + 1 + length (side_slots w true y first end)
            → r ≡ at + length (slots_from w y)
        from_end r e = omega (arith, long)

        pub from_written : (out : List ℕ) → mid ≡ put at (side_slots w false y first end) old
            → out ≡ put (here + 1) (side_slots w true y first end) (set mid here (y - 1))
            → out ≡ put at (slots_from w y) old
        from_written out e f =
            let a = side_slots w false y first end in
            let b = side_slots w true y first end in
            let place : here + 1 ≡ at + (length a + 1) = omega arith in
            let more : length (a ++ ((y - 1) ∷ [])) ≡ length a + 1 = length-append a ((y - 1) ∷ []) in
            f
            ∙ ap (λ l. put (here + 1) b l) (put_one here mid (y - 1) here_room)
            ∙ (λ i. put (place i) b (put (is_here i) ((y - 1) ∷ []) (e i)))
            ∙ ap
            (put (at + (length a + 1)) b)
            (put_append at (length a) a ((y - 1) ∷ []) old refl (omega (arith, long)))
            ∙ put_append at (length a + 1) (a ++ ((y - 1) ∷ [])) b old more (omega (arith, long))
            ∙ ap (λ l. put at l old) (append_assoc a ((y - 1) ∷ []) b ∙ sym sides)

        pub from_kept : (out : List ℕ) → length out ≡ length (set mid here (y - 1)) → length out ≡ length old
        from_kept out e = e ∙ length-set mid here (y - 1) ∙ kept

-- ---- all slots
pub station_few : (w : List ℕ) (n y : ℕ) → is_timetable w ≡ true → n ≡ station_count w → y < n + 1 → y ≤ 64
station_few w n y spelled is-n h = omega (arith, stations_few w spelled)

pub station_last : (w : List ℕ) (n y : ℕ) → n ≡ station_count w → y < n + 1 → y ≤ station_count w
station_last w n y is-n h = omega arith

module _ (w : List ℕ) (yes : is_timetable w ≡ true) (n : ℕ) (is-n : n ≡ station_count w) where
  pub all_first : (old : List ℕ) → length old ≡ 320
      → Writing (slots_to w 1 (suc n)) (slots_to w 1 (suc n)) old old 0 0
  all_first old long = writing_first (slots_to w 1 (suc n)) old 0 (omega (arith, ap length all, slots_few w yes))
    where
      all : slots_to w 1 (suc n) ≡ slots w
      all = ap (λ n. slots_to w 1 (suc n)) is-n ∙ slots_all w

  module _
      (old out : List ℕ)
      (y here : ℕ)
      (s : Writing (slots_to w 1 (suc n)) (slots_to w y (suc n)) old out 0 here)
    where
      module _ (h : y < n + 1) where
        pub all_room : here + length (slots_from w y) ≤ length out
        all_room =
            writing_room
            (slots_to w 1 (suc n))
            (slots_to w y (suc n))
            (slots_from w y)
            (slots_to w (y + 1) (suc n))
            old
            out
            0
            here
            s
            (slots_more w y (suc n) (omega arith))

        pub all_more : (out' : List ℕ) (here' : ℕ) → out' ≡ put here (slots_from w y) out
            → here' ≡ here + length (slots_from w y)
            → Writing (slots_to w 1 (suc n)) (slots_to w (y + 1) (suc n)) old out' 0 here'
        all_more =
            writing_more
            (slots_to w 1 (suc n))
            (slots_to w y (suc n))
            (slots_from w y)
            (slots_to w (y + 1) (suc n))
            old
            out
            0
            here
            s
            (slots_more w y (suc n) (omega arith))

      module _ (h : n + 1 ≤ y) where
        over : slots_to w y (suc n) ≡ []
        over = slots_none w y (suc n) (omega arith)

        whole : slots_to w 1 (suc n) ≡ slots w
        whole = ap (λ n. slots_to w 1 (suc n)) is-n ∙ slots_all w

        pub all_counted : here ≡ length (slots w)
        all_counted =
            omega (
              arith,
              writing_end (slots_to w 1 (suc n)) (slots_to w y (suc n)) old out 0 here s over,
              ap length whole,
            )

        pub all_few : here ≤ 320
        all_few = omega (arith, all_counted, slots_few w yes)

        pub all_listed : take here out ≡ slots w
        all_listed =
            (λ i. take (all_counted i) (done i)) ∙ take_put (slots w) old
          where
            done : out ≡ put 0 (slots w) old
            done =
                writing_done (slots_to w 1 (suc n)) (slots_to w y (suc n)) old out 0 here s over
                ∙ ap (λ l. put 0 l old) whole
