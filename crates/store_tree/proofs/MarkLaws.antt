-- Stations and slots that are marked are counted and written flag by flag.
use mathlib.Core.Path.{◌≡◌, refl, sym, ap, ◌∙◌}
use mathlib.Core.Bool.{Bool, true, false}
use mathlib.Core.List.{List, [], ◌∷◌, ◌++◌, map}
use Prim.Native.Nat.{ℕ, ◌+◌, ◌≤◌, ◌<◌}
use native.Mathlib.Omega.{arith}
use lib.ListN.{length, get_or, drop, set, length-append, drop_of_length-le}
use lib.Dec.{eqb}
use Rattle.lists.specs.Lists.{keep}
use Rattle.words.specs.Put.{put, put_none, put_one}
use Rattle.store_tree.specs.Tree.{node_word}
use Rattle.store_tree.specs.Marks.{marked, marks_from, marks, marks_none, marks_more, marked_yes, marked_no}
use Rattle.store_tree.specs.Marks.{slot_marks, slots_none, slots_more, kid_words, kid_words_none}
use Rattle.store_tree.specs.Marks.{kid_words_append, kid_words_long}
use Rattle.store_slots.specs.Writing.{Writing, writing_first, writing_room, writing_more, writing_done}

-- ---- one flag
module _ (count flag : ℕ) where
  pub counted_yes : flag ≡ 1 → count + 1 ≡ count + length (marked flag 0)
  counted_yes e = omega (arith, ap length (marked_yes flag 0 e))

  pub counted_no : (flag ≡ 1 → ⊥) → count ≡ count + length (marked flag 0)
  counted_no e = omega (arith, ap length (marked_no flag 0 e))

module _ (flag b at : ℕ) (old : List ℕ) where
  module _ (e : flag ≡ 1) (room : at + length (marked flag b) ≤ length old) where
    pub mark_room : at < length old
    mark_room = omega (arith, ap length (marked_yes flag b e))

    pub mark_written : set old at b ≡ put at (marked flag b) old
    mark_written = put_one at old b mark_room ∙ ap (λ l. put at l old) (sym (marked_yes flag b e))

    kid_is : (v : ℕ) → kid_words v (marked flag b) ≡ node_word b v 0 ∷ []
    unfolding kid_words
    kid_is v = ap (map (λ b. node_word b v 0)) (marked_yes flag b e)

    pub kid_written : (v x : ℕ) → x ≡ node_word b v 0 → set old at x ≡ put at (kid_words v (marked flag b)) old
    kid_written v x is =
        ap (set old at) is
        ∙ put_one at old (node_word b v 0) mark_room
        ∙ ap (λ l. put at l old) (sym (kid_is v))

  pub mark_end : flag ≡ 1 → at + 1 ≡ at + length (marked flag b)
  mark_end e = omega (arith, ap length (marked_yes flag b e))

  module _ (e : flag ≡ 1 → ⊥) where
    pub mark_none : old ≡ put at (marked flag b) old
    mark_none = sym (ap (λ l. put at l old) (marked_no flag b e) ∙ put_none at old)

    pub kid_none : (v : ℕ) → old ≡ put at (kid_words v (marked flag b)) old
    kid_none v =
        sym
        (ap (λ l. put at (kid_words v l) old) (marked_no flag b e)
        ∙ ap (λ l. put at l old) (kid_words_none v)
        ∙ put_none at old)

    pub none_end : at ≡ at + length (marked flag b)
    none_end = omega (arith, ap length (marked_no flag b e))

-- ---- counted so far
marked_long : (flag b c : ℕ) → length (marked flag b) ≡ length (marked flag c)
unfolding marked
marked_long flag b c = go (eqb flag 1)
  where
    go : (t : Bool) → length (keep t b []) ≡ length (keep t c [])
    go true = refl
    go false = refl

module _
    (flags : List ℕ)
    (count j : ℕ)
    (so_far : length (marks flags) ≡ count + length (marks_from (j + 1) (drop j flags)))
  where
    pub count_more : (r : ℕ) → j < length flags → r ≡ count + length (marked (get_or flags j 0) 0)
        → length (marks flags) ≡ r + length (marks_from (j + 1 + 1) (drop (j + 1) flags))
    count_more r h is =
        omega (
          arith,
          so_far,
          is,
          ap length (marks_more flags j h),
          length-append (marked (get_or flags j 0) (j + 1)) (marks_from (j + 1 + 1) (drop (j + 1) flags)),
          marked_long (get_or flags j 0) (j + 1) 0,
        )

    pub count_done : length flags ≤ j → count ≡ length (marks flags)
    count_done h =
        omega (
          arith,
          so_far,
          ap (λ l. length (marks_from (j + 1) l)) (drop_of_length-le flags {i = j} h),
          ap length (marks_none (j + 1)),
        )

pub count_first : (flags : List ℕ) → length (marks flags) ≡ 0 + length (marks_from (0 + 1) (drop 0 flags))
count_first flags = omega arith

-- slots
module _
    (flags list : List ℕ)
    (count j : ℕ)
    (so_far : length (slot_marks flags list) ≡ count + length (slot_marks flags (drop j list)))
  where
    pub slots_counted : (r : ℕ) → j < length list → r ≡ count + length (marked (get_or flags (get_or list j 0) 0) 0)
        → length (slot_marks flags list) ≡ r + length (slot_marks flags (drop (j + 1) list))
    slots_counted r h is =
        let s = get_or list j 0 in
        omega (
          arith,
          so_far,
          is,
          ap length (slots_more flags list j h),
          length-append (marked (get_or flags s 0) s) (slot_marks flags (drop (j + 1) list)),
          marked_long (get_or flags s 0) s 0,
        )

    pub slots_done : length list ≤ j → count ≡ length (slot_marks flags list)
    slots_done h =
        omega (
          arith,
          so_far,
          ap (λ l. length (slot_marks flags l)) (drop_of_length-le list {i = j} h),
          ap length (slots_none flags),
        )

pub slots_first : (flags list : List ℕ) → length (slot_marks flags list) ≡ 0 + length (slot_marks flags (drop 0 list))
slots_first flags list = omega arith

-- ---- written so far: the targets
pub targets_first : (old flags : List ℕ) (at : ℕ) → at + length (marks flags) ≤ length old
    → Writing (marks flags) (marks_from (0 + 1) (drop 0 flags)) old old at at
targets_first old flags at h = writing_first (marks flags) old at h

module _
    (old out flags : List ℕ)
    (at here j : ℕ)
    (w : Writing (marks flags) (marks_from (j + 1) (drop j flags)) old out at here)
  where
    module _ (h : j < length flags) where
      abbrev this : List ℕ
      this = marked (get_or flags j 0) (j + 1)

      abbrev rest : List ℕ
      rest = marks_from (j + 1 + 1) (drop (j + 1) flags)

      pub target_room : here + length (marked (get_or flags j 0) (j + 1)) ≤ length out
      target_room =
          writing_room
          (marks flags)
          (marks_from (j + 1) (drop j flags))
          this
          rest
          old
          out
          at
          here
          w
          (marks_more flags j h)

      pub target_more : (out' : List ℕ) (here' : ℕ) → out' ≡ put here (marked (get_or flags j 0) (j + 1)) out
          → here' ≡ here + length (marked (get_or flags j 0) (j + 1))
          → Writing (marks flags) (marks_from (j + 1 + 1) (drop (j + 1) flags)) old out' at here'
      target_more =
          writing_more
          (marks flags)
          (marks_from (j + 1) (drop j flags))
          this
          rest
          old
          out
          at
          here
          w
          (marks_more flags j h)

    pub targets_done : length flags ≤ j → out ≡ put at (marks flags) old
    targets_done h =
        writing_done
        (marks flags)
        (marks_from (j + 1) (drop j flags))
        old
        out
        at
        here
        w
        (ap (marks_from (j + 1)) (drop_of_length-le flags {i = j} h) ∙ marks_none (j + 1))

-- ---- written so far: the words of kids
pub kids_first : (old flags list : List ℕ) (v at : ℕ) → at + length (slot_marks flags list) ≤ length old
    → Writing (kid_words v (slot_marks flags list)) (kid_words v (slot_marks flags (drop 0 list))) old old at at
kids_first old flags list v at h =
    writing_first
    (kid_words v (slot_marks flags list))
    old
    at
    (omega (arith, kid_words_long v (slot_marks flags list)))

module _
    (old out flags list : List ℕ)
    (v at here j : ℕ)
    (w : Writing (kid_words v (slot_marks flags list)) (kid_words v (slot_marks flags (drop j list))) old out at here)
  where
    module _ (h : j < length list) where
      abbrev slot : ℕ
      slot = get_or list j 0

      abbrev kid : List ℕ
      kid = kid_words v (marked (get_or flags slot 0) slot)

      abbrev others : List ℕ
      others = kid_words v (slot_marks flags (drop (j + 1) list))

      kid_long : length kid ≡ length (marked (get_or flags slot 0) slot)
      kid_long = kid_words_long v (marked (get_or flags slot 0) slot)

      next_kid : kid_words v (slot_marks flags (drop j list)) ≡ kid ++ others
      next_kid =
          ap (kid_words v) (slots_more flags list j h)
          ∙ kid_words_append v (marked (get_or flags slot 0) slot) (slot_marks flags (drop (j + 1) list))

      pub kid_room : here + length (marked (get_or flags (get_or list j 0) 0) (get_or list j 0)) ≤ length out
      kid_room =
          omega (
            arith,
            kid_long,
            writing_room
                (kid_words v (slot_marks flags list))
                (kid_words v (slot_marks flags (drop j list)))
                kid
                others
                old
                out
                at
                here
                w
                next_kid,
          )

      pub kid_more : (out' : List ℕ) (here' : ℕ)
          → out' ≡ put here (kid_words v (marked (get_or flags (get_or list j 0) 0) (get_or list j 0))) out
          → here' ≡ here + length (marked (get_or flags (get_or list j 0) 0) (get_or list j 0))
          → Writing (kid_words v (slot_marks flags list)) (kid_words v (slot_marks flags (drop (j + 1) list))) old out'
          at
          here'
      kid_more out' here' e f =
          writing_more
          (kid_words v (slot_marks flags list))
          (kid_words v (slot_marks flags (drop j list)))
          kid
          others
          old
          out
          at
          here
          w
          next_kid
          out'
          here'
          e
          (omega (arith, f, kid_long))

    pub kids_done : length list ≤ j → out ≡ put at (kid_words v (slot_marks flags list)) old
    kids_done h =
        writing_done
        (kid_words v (slot_marks flags list))
        (kid_words v (slot_marks flags (drop j list)))
        old
        out
        at
        here
        w
        (ap (λ l. kid_words v (slot_marks flags l)) (drop_of_length-le list {i = j} h)
        ∙ ap (kid_words v) (slots_none flags)
        ∙ kid_words_none v)

-- a slot of the list is one of the flags
pub slot_near : (list flags : List ℕ) (j : ℕ) → ((j : ℕ) → j < length list → get_or list j 0 < 320) → j < length list
    → length flags ≡ 320 → get_or list j 0 < length flags
slot_near list flags j few h long = omega (arith, few j h)

-- and a small number
module _ (list : List ℕ) (j : ℕ) (few : (j : ℕ) → j < length list → get_or list j 0 < 320) (h : j < length list) where
  pub slot_low : get_or list j 0 < 320
  slot_low = few j h

  pub slot_fits : get_or list j 0 < 18446744073709551616
  slot_fits = omega (arith, few j h)

  pub slot_narrow : get_or list j 0 < 4294967296
  slot_narrow = omega (arith, few j h)
