-- A comma and a number behind what was written, and the turns of the loops over the numbers of a line and over the
-- words of an answer. Each loop keeps that what is written, with what is left put behind it, is the whole.
use mathlib.Core.Path.{◌≡◌, refl, sym, ap, ◌∙◌}
use mathlib.Core.List.{List, [], ◌∷◌, ◌++◌}
use Prim.Native.Nat.{ℕ, suc, ◌+◌, ◌-◌, ◌*◌, ◌≤◌, ◌<◌}
use native.Mathlib.Omega.{arith}
use lib.ListN.{length, get_or, drop, length-append}
use Rattle.words.specs.Put.{put, put_none, put_append}
use Rattle.listing_printing.specs.Lines.{spelled, digits_few, fields, fields_more, fields_end, line_of}
use Rattle.listing_printing.specs.Lines.{lines_from, lines_short, lines_end, lines_ride, lines_cost}

-- ---- one field
module _ (old first : List ℕ) (at n : ℕ) (room : at + 11 ≤ length old) (small : n < 4294967296)
    (comma : first ≡ put at (44 ∷ []) old) (same : length first ≡ length old) where
  pub field_room : at + 1 + length (spelled n) ≤ length first
  field_room = omega (arith, digits_few n small)

  module _ (end : ℕ) (last : List ℕ) (to : end ≡ at + 1 + length (spelled n)) where
    pub field_end : end ≡ at + suc (length (spelled n))
    field_end = omega arith

    pub field_most : end ≤ at + 11
    field_most = omega (arith, digits_few n small)

    pub field_words : last ≡ put (at + 1) (spelled n) first → last ≡ put at (44 ∷ spelled n) old
    field_words e =
        e
        ∙ ap (put (at + 1) (spelled n)) comma
        ∙ put_append at 1 (44 ∷ []) (spelled n) old refl (omega arith)

-- ---- what is left, behind what was written
module _ (at n end : ℕ) (now next left rest : List ℕ) (piece whole : List ℕ)
    (is : left ≡ piece ++ rest) (long : length piece ≡ n) (fits : at + n ≤ length now) (to : end ≡ at + n)
    (words : next ≡ put at piece now) (so_far : put at left now ≡ whole) where
  went_on : put end rest next ≡ whole
  went_on = rw (to, words) (put_append at n piece rest now long fits ∙ rw (← is) so_far)

-- ---- the numbers of a line
module _ (first out : List ℕ) (start at k : ℕ) (numbers : List ℕ)
    (place : at + length (fields (drop k numbers)) ≡ start + 1 + length (fields numbers))
    (so_far : put at (fields (drop k numbers)) out ≡ put (start + 1) (fields numbers) first) where
  module _ (more : k < length numbers) (end : ℕ) (to : end ≡ at + suc (length (spelled (get_or numbers k 0)))) where
    pub line_place_lem : end + length (fields (drop (k + 1) numbers)) ≡ start + 1 + length (fields numbers)
    line_place_lem =
        let all : length (fields (drop k numbers))
        ≡ suc (length (spelled (get_or numbers k 0))) + length (fields (drop (k + 1) numbers)) =
        ap length (fields_more numbers k more) ∙ length-append (44 ∷ spelled (get_or numbers k 0)) _ in
        omega arith

    pub line_words_lem : (old next : List ℕ) → end ≤ at + 11 → start + 11 * length numbers + 2 ≤ length old
        → at ≤ start + 1 + 11 * k → length out ≡ length first → length first ≡ length old
        → next ≡ put at (44 ∷ spelled (get_or numbers k 0)) out
        → put end (fields (drop (k + 1) numbers)) next ≡ put (start + 1) (fields numbers) first
    line_words_lem old next most room place' same same' words =
        went_on at (suc (length (spelled (get_or numbers k 0)))) end out next _ _ (44 ∷ spelled (get_or numbers k 0)) _
        (fields_more numbers k more) refl (omega arith) to words so_far

  module _ (none : length numbers ≤ k) (old : List ℕ) (letter : ℕ) (begun : first ≡ put start (letter ∷ []) old)
      (room : start + 11 * length numbers + 2 ≤ length old) (most : at ≤ start + 1 + 11 * k) (few : k ≤ length numbers)
    where
      line_at : at ≡ start + suc (length (fields numbers))
      line_at = omega (arith, ap length (fields_end numbers k none))

      line_out : out ≡ put start (letter ∷ fields numbers) old
      line_out =
          sym (put_none at out)
          ∙ ap (λ f. put at f out) (sym (fields_end numbers k none))
          ∙ so_far
          ∙ ap (put (start + 1) (fields numbers)) begun
          ∙ put_append start 1 (letter ∷ []) (fields numbers) old refl (omega arith)

      pub line_end_lem : at + 1 ≡ start + length (line_of letter numbers)
      unfolding line_of
      line_end_lem = omega (arith, line_at, length-append (fields numbers) (10 ∷ []))

      pub line_whole : (last : List ℕ) → last ≡ put at (10 ∷ []) out → last ≡ put start (line_of letter numbers) old
      unfolding line_of
      line_whole last e =
          e
          ∙ rw (line_out, line_at)
          (put_append start (suc (length (fields numbers))) (letter ∷ fields numbers) (10 ∷ []) old refl
          (omega (arith, line_at)))

-- ---- the words of an answer: three more, and those behind them
module _ (out left words rest : List ℕ) (at : ℕ) (room : at + 12 * length left ≤ length out)
    (is : left ≡ words ++ rest) (size : ℕ) (exact : length words ≡ size) (chunks : size ≡ 3) where
  long : length left ≡ 3 + length rest
  long = omega (arith, ap length is, length-append words rest)

  pub line_room : at + 11 * length words + 2 ≤ length out
  line_room = omega (arith, long)

  pub room_left : (end : ℕ) (next : List ℕ) → length next ≡ length out → end ≤ at + 11 * length words + 2
      → end + 12 * length rest ≤ length next
  room_left end next same most = omega (arith, long)

module _ (first out : List ℕ) (start at rows more rides : ℕ) (answer left : List ℕ)
    (place : at + length (lines_from left more rides) ≡ start + length (lines_from answer rows 0))
    (so_far : put at (lines_from left more rides) out ≡ put start (lines_from answer rows 0) first) where
  -- nothing is left
  module _ (none : lines_from left more rides ≡ []) where
    ended_at : at ≡ start + length (lines_from answer rows 0)
    ended_at = omega (arith, ap length none)

    ended_out : out ≡ put start (lines_from answer rows 0) first
    ended_out = sym (put_none at out) ∙ ap (λ l. put at l out) (sym none) ∙ so_far

  module _ (size : ℕ) (chunks : size ≡ 3) where
    module _ (few : length left < size) where
      pub short_at : at ≡ start + length (lines_from answer rows 0)
      short_at = ended_at (lines_short left more rides (omega arith))

      pub short_out : out ≡ put start (lines_from answer rows 0) first
      short_out = ended_out (lines_short left more rides (omega arith))

  module _ (words rest : List ℕ) (is : left ≡ words ++ rest) (size : ℕ) (exact : length words ≡ size)
      (chunks : size ≡ 3) where
    three : length words ≡ 3
    three = exact ∙ chunks

    module _ (no-ride : rides ≡ 0) (no_row : more ≡ 0) where
      nothing : lines_from left more rides ≡ []
      nothing = rw (is, no-ride, no_row) (lines_end words rest three)

      pub all_at : at ≡ start + length (lines_from answer rows 0)
      all_at = ended_at nothing

      pub all_out : out ≡ put start (lines_from answer rows 0) first
      all_out = ended_out nothing

    -- a line more
    module _ (room : at + 12 * length left ≤ length out) (piece : List ℕ) (end more' rides' : ℕ)
        (to : end ≡ at + length piece) (more-is : lines_from left more rides ≡ piece ++ lines_from rest more' rides')
      where
        next_at : end + length (lines_from rest more' rides') ≡ start + length (lines_from answer rows 0)
        next_at = omega (arith, ap length more-is ∙ length-append piece (lines_from rest more' rides'))

        next_out : (next : List ℕ) → next ≡ put at piece out → end ≤ at + 11 * length words + 2
            → put end (lines_from rest more' rides') next ≡ put start (lines_from answer rows 0) first
        next_out next written most =
            went_on at (length piece) end out next _ _ piece _ more-is refl
            (omega (arith, line_room out left words rest at room is size exact chunks)) to written so_far

    module _ (room : at + 12 * length left ≤ length out) (end : ℕ) where
      module _ (some-ride : rides ≡ 0 → ⊥) (to : end ≡ at + length (line_of 82 words)) where
        ride_is : lines_from left more rides ≡ line_of 82 words ++ lines_from rest more (rides - 1)
        ride_is =
            let one : rides ≡ suc (rides - 1) = omega arith in
            (λ j. lines_from (is j) more (one j)) ∙ lines_ride words rest three more (rides - 1)

        pub ride_at_lem : end + length (lines_from rest more (rides - 1)) ≡ start + length (lines_from answer rows 0)
        ride_at_lem = next_at room (line_of 82 words) end more (rides - 1) to ride_is

        pub ride_out : (next : List ℕ) → next ≡ put at (line_of 82 words) out → end ≤ at + 11 * length words + 2
            → put end (lines_from rest more (rides - 1)) next ≡ put start (lines_from answer rows 0) first
        ride_out = next_out room (line_of 82 words) end more (rides - 1) to ride_is

      module _ (no-ride : rides ≡ 0) (some_row : more ≡ 0 → ⊥) (to : end ≡ at + length (line_of 67 words)) where
        cost_is : lines_from left more rides
            ≡ line_of 67 words ++ lines_from rest (more - 1) (get_or words 2 0)
        cost_is =
            let one : more ≡ suc (more - 1) = omega arith in
            (λ j. lines_from (is j) (one j) (no-ride j)) ∙ lines_cost words rest three (more - 1)

        pub cost_at_lem : end + length (lines_from rest (more - 1) (get_or words 2 0))
            ≡ start + length (lines_from answer rows 0)
        cost_at_lem = next_at room (line_of 67 words) end (more - 1) (get_or words 2 0) to cost_is

        pub cost_out : (next : List ℕ) → next ≡ put at (line_of 67 words) out → end ≤ at + 11 * length words + 2
            → put end (lines_from rest (more - 1) (get_or words 2 0)) next
            ≡ put start (lines_from answer rows 0) first
        cost_out = next_out room (line_of 67 words) end (more - 1) (get_or words 2 0) to cost_is
