-- The words of a timetable, written part by part.
use mathlib.Core.Path.{◌≡◌, refl, sym, ap, ◌∙◌}
use mathlib.Core.List.{List, [], ◌∷◌, ◌++◌, append_assoc}
use Prim.Native.Nat.{ℕ, suc, ◌+◌, ◌*◌, ◌≤◌, ◌<◌}
use native.Mathlib.Nat.{zero-add}
use native.Mathlib.Omega.{arith}
use lib.ListN.{length, get_or, take, drop, set, length-append}
use lib.Seq.{drop-cons, length-take-le}
use Rattle.words.specs.Put.{put, put_none, put_append}
use Rattle.words.specs.Written.{write_one, write_done}
use Rattle.timetable.specs.Words.{count_to, foot_words, walks_in, front, joined}
use Rattle.timetable.specs.WordLaws.{length_foot_words}
use Rattle.timetable.specs.Access.{map_numbers}

-- ---- the counts of walks, station by station
module _ (stations walks at : ℕ) (walking old : List ℕ) (few : stations ≤ 64) (low : at ≤ 10884)
    (room : 16384 ≤ length old) where
  abbrev whole : List ℕ
  whole = foot_words stations (walks_in walking 0 walks)

  fits : at + length whole ≤ length old
  fits = omega (arith, length_foot_words stations (walks_in walking 0 walks))

  pub feet_none : old ≡ put at (take 0 (foot_words stations (walks_in walking 0 walks))) old
  feet_none = sym (put_none at old)

  module _ (y : ℕ) (table : List ℕ) (held : table ≡ put at (take y (foot_words stations (walks_in walking 0 walks)))
      old)
    where
      pub feet_more : y ≤ stations → (r : ℕ) → r ≡ count_to (walks_in walking 0 walks) y
          → set table (at + y) r ≡ put at (take (y + 1) (foot_words stations (walks_in walking 0 walks))) old
      unfolding foot_words
      feet_more h r e =
          let inside : y ≤ stations = h in
          let long = length_foot_words stations (walks_in walking 0 walks) in
          let there : get_or whole y 0 ≡ r =
          map_numbers (count_to (walks_in walking 0 walks)) 0 (suc stations) y 0 (omega arith)
          ∙ ap (count_to (walks_in walking 0 walks)) (omega arith)
          ∙ sym e in
          write_one whole old table at y held fits r (drop (suc y) whole)
          (drop-cons whole y 0 (omega arith) ∙ ap (λ x. x ∷ drop (suc y) whole) there)

      pub feet_written : stations < y
          → table ≡ put at (foot_words stations (walks_in walking 0 walks)) old
      feet_written h =
          write_done whole old table at y held fits
          (omega (arith, length_foot_words stations (walks_in walking 0 walks)))

-- the walks behind their counts
pub walks_written : (stations walks at : ℕ) (walking old footed table : List ℕ) → stations ≤ 64 → at ≤ 10884
    → 16384 ≤ length old → footed ≡ put at (foot_words stations (walks_in walking 0 walks)) old
    → table ≡ put (at + (stations + 1)) (take (4 * walks) walking) footed
    → table ≡ put at (foot_words stations (walks_in walking 0 walks) ++ take (4 * walks) walking) old
walks_written stations walks at walking old footed table few low room e f =
    f
    ∙ ap (put (at + (stations + 1)) (take (4 * walks) walking)) e
    ∙ put_append at (stations + 1) (foot_words stations (walks_in walking 0 walks)) (take (4 * walks) walking) old
    (length_foot_words stations (walks_in walking 0 walks)) (omega arith)

-- ---- the front, in four parts, and the walks behind it
module _ (stations trips stops : ℕ) (few_stations : stations ≤ 64) (few_trips : trips ≤ 256) (few_stops : stops ≤ 2048)
  where
    module _ (body starts numbers old : List ℕ) (room : 16384 ≤ length old) (long : length body ≡ 10368)
        (enough : length starts ≡ 257) where
      abbrev length_body : ℕ
      length_body = 2 * stations + 5 * stops

      abbrev counts : List ℕ
      counts = stations ∷ trips ∷ stops ∷ []

      abbrev bodies : List ℕ
      bodies = take length_body body

      abbrev begins : List ℕ
      begins = take (trips + 1) starts

      three : length (counts ++ bodies) ≡ 3 + length_body
      three = omega (arith, length-take-le length_body body (omega arith))

      four : length (counts ++ bodies ++ begins) ≡ 3 + length_body + (trips + 1)
      four =
          omega (
            arith,
            length-append (counts ++ bodies) begins,
            three,
            length-take-le (trips + 1) starts (omega arith),
          )

      pub front_written : (headed bodied started table : List ℕ)
          → table ≡ put (3 + (2 * stations + 5 * stops) + (trips + 1)) (take trips numbers) started
          → started ≡ put (3 + (2 * stations + 5 * stops)) (take (trips + 1) starts) bodied
          → bodied ≡ put 3 (take (2 * stations + 5 * stops) body) headed
          → headed ≡ put 0 (stations ∷ trips ∷ stops ∷ []) old
          → table ≡ put 0 (front stations trips stops body starts numbers) old
      front_written headed bodied started table k g f e =
          let two : bodied ≡ put 0 (counts ++ bodies) old =
          f ∙ ap (put 3 bodies) e ∙ put_append 0 3 counts bodies old refl (omega arith) in
          let most : started ≡ put 0 (counts ++ bodies ++ begins) old =
          g
          ∙ ap (put (3 + length_body) begins) two
          ∙ rw (← zero-add (3 + length_body))
          (put_append 0 (3 + length_body) (counts ++ bodies) begins old three (omega arith)) in
          let last = 3 + length_body + (trips + 1) in
          k
          ∙ ap (put last (take trips numbers)) most
          ∙ rw (← zero-add last)
          (put_append 0 last (counts ++ bodies ++ begins) (take trips numbers) old four (omega arith))

      pub table_written : (fronted table walking : List ℕ) (walks : ℕ) → length numbers ≡ 256
          → fronted ≡ put 0 (front stations trips stops body starts numbers) old
          → table
          ≡ put (3 + (2 * stations + 5 * stops) + (trips + 1) + trips)
          (foot_words stations (walks_in walking 0 walks) ++ take (4 * walks) walking) fronted
          → table ≡ put 0 (joined stations trips stops walks body starts numbers walking) old
      table_written fronted table walking walks many e f =
          let last = 3 + length_body + (trips + 1) + trips in
          let whole = front stations trips stops body starts numbers in
          let feet = foot_words stations (walks_in walking 0 walks) in
          let words = take (4 * walks) walking in
          let named : length (take trips numbers) ≡ trips = length-take-le trips numbers (omega arith) in
          let long_front : length whole ≡ last =
          omega (arith, length-append (counts ++ bodies ++ begins) (take trips numbers), four, named) in
          f
          ∙ ap (put last (feet ++ words)) e
          ∙ rw (← zero-add last) (put_append 0 last whole (feet ++ words) old long_front (omega arith))
          ∙ ap (λ l. put 0 l old) (sym (append_assoc whole feet words))
