-- The front, the lines and the lists of stations follow one another: what is written or compared so far is the
-- beginning of all words of the other layout.
use mathlib.Core.Path.{◌≡◌, refl, sym, ap, subst, ◌∙◌}
use mathlib.Core.Bool.{Bool, true, false, not, ◌&&◌}
use mathlib.Core.List.{List, [], ◌++◌}
use Prim.Native.Nat.{ℕ, ◌+◌, ◌≤◌, ◌<◌}
use native.Mathlib.Omega.{arith}
use borrow.Author.Tests.{not-true, not-false}
use lib.ListN.{length, get_or, take, drop, take-append-drop}
use lib.Seq.{slice, length-take-le, drop-drop}
use Rattle.words.specs.Put.{put, put_append}
use Rattle.timetable.specs.Timetable.{Timetable}
use Rattle.timetable.specs.Words.{timetable_of}
use Rattle.timetable.specs.Check.{length_stations}
use Rattle.lines.specs.Lines.{lines}
use Rattle.lines_lookup.specs.Lookup.{Line, line_at, calls_place}
use Rattle.lines_lookup.specs.Holding.{holding}
use Rattle.lines_check.specs.Built.{tables_fit}
use Rattle.lines_turned.specs.ByTrip.{line_by_trip, words_by_trip}
use Rattle.lines_turned.specs.Turned.{line_end, turned_line, starts, starts_append, starts_same}
use Rattle.lines_turned.specs.Laid.{line_start, start_first, start_last, start_next}
use Rattle.lines_turned.specs.Turning.{are_by_trip}
use Rattle.lines_turned.specs.Found.{
  same_length,
  line_next,
  line_inside,
  index_inside,
  place_found,
  line_turned,
  end_found,
  front_same,
  index_found,
  end_of_tables,
  lists_same,
}
use Rattle.lines_turned.specs.Held.{Held}

module _ (w v : List ℕ) (held : Held w v) where
  abbrev t : Timetable
  t = timetable_of w

  abbrev whole : List ℕ
  whole = words_by_trip t

  whole_fits : length whole ≤ 16384
  whole_fits = omega (arith, same_length t, tables_fit w held.accepted)

  -- ---- lines, of which there are count
  module _ (count : ℕ) (is_count : count ≡ get_or v 1 0) where
    counted : count ≡ length (lines t.trips)
    counted = is_count ∙ (holding v t held.holds).line_count_lem

    -- `x` is any slice lent
    pub front_inside : (x : List ℕ) → 16384 ≤ length x → 4 + count ≤ length x
    front_inside x h = omega (arith, counted, whole_fits, start_last t, index_inside t)

    pub line_few : (i : ℕ) → i < count → i < 65536
    line_few i h = omega (arith, counted, whole_fits, start_last t, index_inside t)

    front_ends : 4 + count ≡ line_start t 0
    front_ends = omega (arith, start_first t, counted)

    front_words : slice 0 (4 + count) v ≡ take (line_start t 0) whole
    front_words = ap (λ k. take k v) front_ends ∙ sym (front_same t v held.holds)

    module _ (i : ℕ) (h : i < count) (l : Line) (is_line : l ≡ line_at v i) where
      inside : i < length (lines t.trips)
      inside = omega (arith, counted)

      within : line_start t (i + 1) ≤ length whole
      within = line_inside t i inside

      pub line_fits : line_end l ≤ 16384
      line_fits =
          subst (λ x. line_end x ≤ 16384) (sym is_line)
          (omega (arith, end_found t v held.holds i inside, within, whole_fits))

      turned : turned_line v l ≡ line_by_trip t (get_or (lines t.trips) i [])
      turned = ap (turned_line v) is_line ∙ line_turned t v held.holds i inside

      -- the next words are those of the line
      next_words : drop (line_start t i) whole ≡ turned_line v l ++ drop (line_start t (i + 1)) whole
      next_words = line_next t i inside ∙ ap (λ x. x ++ drop (line_start t (i + 1)) whole) (sym turned)

      next_start : line_start t i + length (turned_line v l) ≡ line_start t (i + 1)
      next_start = omega (arith, ap length turned, start_next t i inside)

      here : l.at ≡ line_start t i
      unfolding line_at
      here = ap (λ x. x.at) is_line ∙ place_found t v held.holds i inside

  -- ---- the lists of stations
  module _ (stations index end : ℕ)
      (is-stations : stations ≡ get_or w 0 0)
      (is-index : index ≡ get_or v 3 0)
      (is-end : end ≡ get_or v (index + stations) 0) where
    last_line : index ≡ line_start t (length (lines t.trips))
    last_line = is-index ∙ index_found t v held.holds

    ends : end ≡ length whole
    unfolding calls_place
    ends =
        let same : stations ≡ get_or v 0 0 =
        is-stations ∙ sym (length_stations w) ∙ sym (holding v t held.holds).stations in
        is-end ∙ (λ z. get_or v (is-index z + same z) 0) ∙ end_of_tables t v held.holds

    pub lists_order : index ≤ end
    lists_order = omega (arith, ends, last_line, index_inside t)

    pub lists_inside : (x : List ℕ) → 16384 ≤ length x → end ≤ length x
    lists_inside x h = omega (arith, ends, whole_fits)

    list_words : slice index end v ≡ drop (line_start t (length (lines t.trips))) whole
    list_words = (λ z. slice (last_line z) (ends z) v) ∙ lists_same t v held.holds

  -- ---- written: behind the front, which stands in `mid`, the words from the next line on are left
  module _ (mid out : List ℕ) (i : ℕ)
      (left : put (line_start t 0) (drop (line_start t 0) whole) mid
      ≡ put (line_start t i) (drop (line_start t i) whole) out)
      (count : ℕ) (is_count : count ≡ get_or v 1 0) where
    pub line_more : (next : List ℕ) (l : Line) → i < count → 16384 ≤ length out → l ≡ line_at v i
        → next ≡ put l.at (turned_line v l) out
        → put (line_start t 0) (drop (line_start t 0) whole) mid
        ≡ put (line_start t (i + 1)) (drop (line_start t (i + 1)) whole) next
    line_more next l h room is_line written =
        let this = turned_line v l in
        let rest = drop (line_start t (i + 1)) whole in
        let on = next_start count is_count i h l is_line in
        let fits = within count is_count i h l is_line in
        left
        ∙ ap (λ x. put (line_start t i) x out) (next_words count is_count i h l is_line)
        ∙ sym (put_append (line_start t i) (length this) this rest out refl (omega (arith, fits, whole_fits)))
        ∙ (λ z. put (on z) rest (put (sym (here count is_count i h l is_line) z) this out))
        ∙ ap (put (line_start t (i + 1)) rest) (sym written)

    pub all_written : (old last : List ℕ) (stations index end : ℕ) → i ≤ count → count ≤ i → 16384 ≤ length old
        → mid ≡ put 0 (slice 0 (4 + count) v) old → stations ≡ get_or w 0 0 → index ≡ get_or v 3 0
        → end ≡ get_or v (index + stations) 0 → last ≡ put index (slice index end v) out → last ≡ put 0 whole old
    all_written old last stations index end h g room first is-stations is-index is-end written =
        let start = line_start t 0 in
        let is-i : length (lines t.trips) ≡ i = omega (arith, counted count is_count) in
        let place = last_line stations index end is-stations is-index is-end in
        let lists = list_words stations index end is-stations is-index is-end in
        let fits : start ≤ length whole =
        omega (arith, front_ends count is_count, counted count is_count, start_last t, index_inside t) in
        let none : start ≡ 0 + start = omega arith in
        written
        ∙ (λ z. put (place z) (lists z) out)
        ∙ ap (λ k. put (line_start t k) (drop (line_start t k) whole) out) is-i
        ∙ sym left
        ∙ ap (put start (drop start whole)) (first ∙ ap (λ x. put 0 x old) (front_words count is_count))
        ∙ ap (λ k. put k (drop start whole) (put 0 (take start whole) old)) none
        ∙ put_append 0 start (take start whole) (drop start whole) old (length-take-le start whole fits)
        (omega (arith, whole_fits))
        ∙ ap (λ x. put 0 x old) (take-append-drop start whole)

  -- ---- compared
  module _ (u : List ℕ) (count : ℕ) (is_count : count ≡ get_or v 1 0) where
    asked : are_by_trip w u ≡ starts whole u
    unfolding are_by_trip
    asked = sym (starts_same whole u)

    module _ (r : Bool) (is-r : r ≡ starts (slice 0 (4 + count) v) (drop 0 u)) where
      front_then : starts whole u ≡ (r && starts (drop (line_start t 0) whole) (drop (line_start t 0) u))
      front_then =
          let start = line_start t 0 in
          let long : length (take start whole) ≡ start =
          length-take-le start whole
          (omega (arith, front_ends count is_count, counted count is_count, start_last t, index_inside t)) in
          ap (λ x. starts x u) (sym (take-append-drop start whole))
          ∙ starts_append (take start whole) (drop start whole) u
          ∙ (λ z. (ap (λ x. starts x u) (sym (front_words count is_count)) ∙ sym is-r) z
          && starts (drop start whole) (drop (long z) u))

      pub front_differs : not r ≡ true → false ≡ are_by_trip w u
      front_differs denied = sym (asked ∙ front_then ∙ rw (not-true r denied))

      pub front_agrees : not r ≡ false
          → are_by_trip w u ≡ starts (drop (line_start t 0) whole) (drop (line_start t 0) u)
      front_agrees agreed = asked ∙ front_then ∙ rw (not-false r agreed)

    module _ (i : ℕ) (so_far : are_by_trip w u ≡ starts (drop (line_start t i) whole) (drop (line_start t i) u)) where
      module _ (h : i < count) (l : Line) (is_line : l ≡ line_at v i) (r : Bool)
          (is-r : r ≡ starts (turned_line v l) (drop l.at u)) where
        line_then : are_by_trip w u
            ≡ (r && starts (drop (line_start t (i + 1)) whole) (drop (line_start t (i + 1)) u))
        line_then =
            let rest = drop (line_start t (i + 1)) whole in
            let place = here count is_count i h l is_line in
            so_far
            ∙ ap (λ x. starts x (drop (line_start t i) u)) (next_words count is_count i h l is_line)
            ∙ starts_append (turned_line v l) rest (drop (line_start t i) u)
            ∙ (λ z. (ap (λ k. starts (turned_line v l) (drop k u)) (sym place) ∙ sym is-r) z
            && starts rest (drop-drop (length (turned_line v l)) (line_start t i) u z))
            ∙ ap (λ k. r && starts rest (drop k u)) (next_start count is_count i h l is_line)

        pub lines_differ : not r ≡ true → false ≡ are_by_trip w u
        lines_differ denied = sym (line_then ∙ rw (not-true r denied))

        pub lines_agree : not r ≡ false
            → are_by_trip w u ≡ starts (drop (line_start t (i + 1)) whole) (drop (line_start t (i + 1)) u)
        lines_agree agreed = line_then ∙ rw (not-false r agreed)

      pub lists_decide : (r : Bool) (stations index end : ℕ) → i ≤ count → count ≤ i → stations ≡ get_or w 0 0
          → index ≡ get_or v 3 0 → end ≡ get_or v (index + stations) 0
          → r ≡ starts (slice index end v) (drop index u) → r ≡ are_by_trip w u
      lists_decide r stations index end h g is-stations is-index is-end is-r =
          let is-i : i ≡ length (lines t.trips) = omega (arith, counted count is_count) in
          let lists = list_words stations index end is-stations is-index is-end in
          let place = last_line stations index end is-stations is-index is-end in
          is-r
          ∙ (λ z. starts (lists z) (drop (place z) u))
          ∙ sym (so_far ∙ ap (λ k. starts (drop (line_start t k) whole) (drop (line_start t k) u)) is-i)
