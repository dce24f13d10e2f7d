-- Parts of a timetable's words that are copied: those of stations, of stops, the numbers of trips, and those of walks.
use mathlib.Core.Path.{◌≡◌, sym, ap, ◌∙◌}
use mathlib.Core.List.{List}
use Prim.Native.Nat.{ℕ, ◌+◌, ◌-◌, ◌*◌, ◌≤◌}
use native.Mathlib.Omega.{arith}
use lib.ListN.{length, get_or, take, drop, length-take, length-drop}
use Rattle.words.specs.Put.{put}
use Rattle.timetable.specs.Words.{
  station_words,
  stop_words,
  walk_words,
  station_count,
  trip_count,
  stop_count,
  foot_place,
  walks_to,
  walk_count,
}
use Rattle.timetable.specs.Check.{stations_at, stops_at, numbers_at, walks_at}
use Rattle.timetable_writing.specs.Parts.{stations_part, stops_part, numbers_part, walks_part}

-- all of a part
part_whole : (w : List ℕ) (from n : ℕ) → take (from + n - from) (drop from w) ≡ take n (drop from w)
part_whole w from n =
    let all : from + n - from ≡ n = omega arith in
    ap (λ m. take m (drop from w)) all

pub stations_copied : (w body out : List ℕ) (s : ℕ) → 16384 ≤ length w → get_or w 0 0 ≤ 64 → s ≡ get_or w 0 0
    → out ≡ put 0 (take (3 + 2 * s - 3) (drop 3 w)) body
    → out ≡ put 0 (station_words (stations_at w 0 (station_count w))) body
stations_copied w body out s long few is e =
    e
    ∙ ap (λ l. put 0 l body)
    (part_whole w 3 (2 * s)
    ∙ ap (λ k. take (2 * k) (drop 3 w)) is
    ∙ sym (stations_part w (station_count w) (omega arith)))

pub stops_copied : (w body out : List ℕ) (s first end at : ℕ) → 16384 ≤ length w → get_or w 0 0 ≤ 64
    → s ≡ get_or w 0 0 → first ≤ end → end ≤ 2048
    → out
    ≡ put at
    (take (3 + 2 * s + 5 * first + 5 * (end - first) - (3 + 2 * s + 5 * first)) (drop (3 + 2 * s + 5 * first) w))
    body
    → out ≡ put at (stop_words (stops_at w first end)) body
stops_copied w body out s first end at long few is h g e =
    e
    ∙ ap (λ l. put at l body)
    (part_whole w (3 + 2 * s + 5 * first) (5 * (end - first))
    ∙ ap (λ k. take (5 * (end - first)) (drop (3 + 2 * k + 5 * first) w)) is
    ∙ sym (stops_part w first end h (omega arith)))

pub numbers_copied : (w numbers out : List ℕ) (s t n first end at : ℕ) → 16384 ≤ length w → get_or w 0 0 ≤ 64
    → get_or w 1 0 ≤ 256 → get_or w 2 0 ≤ 2048 → s ≡ get_or w 0 0 → t ≡ get_or w 1 0 → n ≡ get_or w 2 0 → first ≤ end →
    end ≤ 256
    → out
    ≡ put at
    (take (3 + 2 * s + 5 * n + (t + 1) + first + (end - first) - (3 + 2 * s + 5 * n + (t + 1) + first))
    (drop (3 + 2 * s + 5 * n + (t + 1) + first) w))
    numbers
    → out ≡ put at (numbers_at w first end) numbers
numbers_copied w numbers out s t n first end at long few-s few-t few-n is-s is_t is-n h g e =
    e
    ∙ ap (λ l. put at l numbers)
    (part_whole w (3 + 2 * s + 5 * n + (t + 1) + first) (end - first)
    ∙ (λ i. take (end - first) (drop (3 + 2 * is-s i + 5 * is-n i + (is_t i + 1) + first) w))
    ∙ sym (numbers_part w first end h (omega arith)))

module _ (w : List ℕ) (long : 16384 ≤ length w) (few-s : station_count w ≤ 64) (few-t : trip_count w ≤ 256)
    (few-n : stop_count w ≤ 2048) (few : walk_count w ≤ 256) (s walks from : ℕ) (is-s : s ≡ station_count w)
    (is : walks ≡ walks_to w s) (there : from ≡ foot_place w + (station_count w + 1)) where
  pub all_walks : walks ≡ walk_count w
  all_walks = is ∙ ap (walks_to w) is-s

  pub walks_inside : from + 4 * walks ≤ length w
  walks_inside = omega (arith, all_walks)

  pub walks_room : (walking : List ℕ) → length walking ≡ 1024
      → 0 + length (take (from + 4 * walks - from) (drop from w)) ≤ length walking
  walks_room walking e = simp (length-take, length-drop) (omega (arith, walks_inside, all_walks))

  pub walks_copied : (walking out : List ℕ)
      → out ≡ put 0 (take (from + 4 * walks - from) (drop from w)) walking
      → out ≡ put 0 (walk_words (walks_at w 0 (walk_count w))) walking
  walks_copied walking out e =
      e
      ∙ ap (λ l. put 0 l walking)
      (part_whole w from (4 * walks)
      ∙ (λ i. take (4 * all_walks i) (drop (there i) w))
      ∙ sym (walks_part w (walk_count w) (omega arith)))
