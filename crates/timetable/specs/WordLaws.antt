-- The words of stations, stops, starts and walks, one more at a time, and of a timetable, part by part.
use Rattle.std.specs.Prelude.{◌≡◌, refl, List, [], ◌∷◌, ◌++◌, map, ℕ, suc, ◌+◌, ◌*◌, length, get_or, take, drop}
use Rattle.std.proofs.Common.{sym, ap, ◌∙◌, append_assoc, arith, length-append, get_or-drop, drop-drop}
use Rattle.std.proofs.lemmas.List.{length-map}
use Rattle.lists.specs.Lists.{range}
use Rattle.lists.specs.Ranges.{length_range}
use Rattle.words.specs.Put.{put, put_front, take_put}
use Rattle.timetable.specs.Timetable.{Station, Walk, Stop, Trip, Timetable, stops_of}
use Rattle.timetable.specs.Words.{
  station_words,
  stop_words,
  start_words,
  walk_words,
  count_to,
  foot_words,
  words,
  walk_in,
  walks_in,
  joined,
}

pub length_station_words : (l : List Station) → length (station_words l) ≡ 2 * length l
unfolding station_words
length_station_words [] = refl
length_station_words (s ∷ l) = omega (arith, length_station_words l)

pub length_stop_words : (l : List Stop) → length (stop_words l) ≡ 5 * length l
unfolding stop_words
length_stop_words [] = refl
length_stop_words (s ∷ l) = omega (arith, length_stop_words l)

pub length_start_words : (k : ℕ) (l : List Trip) → length (start_words k l) ≡ length l + 1
unfolding start_words
length_start_words k [] = refl
length_start_words k (t ∷ l) = omega (arith, length_start_words (k + length t) l)

pub station_words_append : (a b : List Station) → station_words (a ++ b) ≡ station_words a ++ station_words b
unfolding station_words
station_words_append [] b = refl
station_words_append (s ∷ a) b = ap (λ w. s.minutes ∷ s.points ∷ w) (station_words_append a b)

pub stop_words_append : (a b : List Stop) → stop_words (a ++ b) ≡ stop_words a ++ stop_words b
unfolding stop_words
stop_words_append [] b = refl
stop_words_append (s ∷ a) b =
    ap (λ w. s.station ∷ s.arrive ∷ s.depart ∷ s.points ∷ s.mark ∷ w) (stop_words_append a b)

pub stops_of_append : (a b : List Trip) → stops_of (a ++ b) ≡ stops_of a ++ stops_of b
stops_of_append [] b = refl
stops_of_append (t ∷ a) b = ap (λ l. t ++ l) (stops_of_append a b) ∙ sym (append_assoc t (stops_of a) (stops_of b))

pub start_words_append : (k : ℕ) (a : List Trip) (t : Trip)
    → start_words k (a ++ (t ∷ [])) ≡ start_words k a ++ ((k + length (stops_of a ++ t)) ∷ [])
unfolding start_words
start_words_append k [] t = refl
start_words_append k (u ∷ a) t =
    let sum : k + length u + length (stops_of a ++ t) ≡ k + length (u ++ stops_of a ++ t) =
    simp length-append (omega arith) in
    ap (λ l. k ∷ l) (rw sum at (start_words_append (k + length u) a t))

pub start_first : (k : ℕ) (l : List Trip) → (ws : List ℕ) × (start_words k l ≡ k ∷ ws)
unfolding start_words
start_first k [] = ([], refl)
start_first k (t ∷ l) = (start_words (k + length t) l, refl)

pub length_walk_words : (l : List Walk) → length (walk_words l) ≡ 4 * length l
unfolding walk_words
length_walk_words [] = refl
length_walk_words (w ∷ l) = omega (arith, length_walk_words l)

pub length_foot_words : (n : ℕ) (l : List Walk) → length (foot_words n l) ≡ n + 1
unfolding foot_words
length_foot_words n l =
    omega (arith, length-map (range 0 (suc n)) (count_to l), length_range 0 (suc n))

pub walk_words_append : (a b : List Walk) → walk_words (a ++ b) ≡ walk_words a ++ walk_words b
unfolding walk_words
walk_words_append [] b = refl
walk_words_append (w ∷ a) b = ap (λ l. w.from ∷ w.to ∷ w.minutes ∷ w.points ∷ l) (walk_words_append a b)

-- walks are read back from their words, wherever those stand
pub walks_from : (w : List ℕ) (p k : ℕ) (l : List Walk) (more : List ℕ) → drop (p + 4 * k) w ≡ walk_words l ++ more
    → map (walk_in w p) (range k (length l)) ≡ l
unfolding walk_words walk_in
walks_from w p k [] more e = refl
walks_from w p k (v ∷ l) more e =
    let at = p + 4 * k in
    let there : (j : ℕ) → get_or w (at + j) 0 ≡ get_or (walk_words (v ∷ l) ++ more) j 0 =
    λ j. sym (get_or-drop at w j 0) ∙ ap (λ r. get_or r j 0) e in
    let none : at ≡ at + 0 = omega arith in
    let next : p + 4 * suc k ≡ at + 4 = omega arith in
    λ i. record {
      from = (ap (λ j. get_or w j 0) none ∙ there 0) i;
      to = there 1 i;
      minutes = there 2 i;
      points = there 3 i;
    }
    ∷ walks_from w p (suc k) l more (ap (λ n. drop n w) next ∙ sym (drop-drop 4 at w) ∙ ap (drop 4) e) i

pub walks_back : (l : List Walk) (more : List ℕ) → walks_in (walk_words l ++ more) 0 (length l) ≡ l
walks_back l more = walks_from (walk_words l ++ more) 0 0 l more refl

-- a timetable's words, put together
module _
    (t : Timetable)
    (stations trips stops walks : ℕ)
    (is-stations : stations ≡ length t.stations)
    (is_trips : trips ≡ length t.trips)
    (is-stops : stops ≡ length (stops_of t.trips))
    (is-walks : walks ≡ length t.walks)
    (body starts numbers walking old₁ old₂ old₃ old₄ : List ℕ)
    (held : body ≡ put 0 (station_words t.stations ++ stop_words (stops_of t.trips)) old₁)
    (kept : starts ≡ put 0 (start_words 0 t.trips) old₂)
    (told : numbers ≡ put 0 t.numbers old₃)
    (walked : walking ≡ put 0 (walk_words t.walks) old₄)
    (all_told : length t.numbers ≡ length t.trips)
  where
    abbrev front : List ℕ
    front = station_words t.stations ++ stop_words (stops_of t.trips)

    body_taken : take (2 * stations + 5 * stops) body ≡ front
    body_taken =
        let many : 2 * stations + 5 * stops ≡ length front =
        omega (
          arith,
          is-stations,
          is-stops,
          length-append (station_words t.stations) (stop_words (stops_of t.trips)),
          length_station_words t.stations,
          length_stop_words (stops_of t.trips),
        ) in
        (λ i. take (many i) (held i)) ∙ take_put front old₁

    starts_taken : take (trips + 1) starts ≡ start_words 0 t.trips
    starts_taken =
        let many : trips + 1 ≡ length (start_words 0 t.trips) =
        omega (arith, is_trips, length_start_words 0 t.trips) in
        (λ i. take (many i) (kept i)) ∙ take_put (start_words 0 t.trips) old₂

    numbers_taken : take trips numbers ≡ t.numbers
    numbers_taken =
        let many : trips ≡ length t.numbers = omega (arith, is_trips, all_told) in
        (λ i. take (many i) (told i)) ∙ take_put t.numbers old₃

    walks_taken : take (4 * walks) walking ≡ walk_words t.walks
    walks_taken =
        let many : 4 * walks ≡ length (walk_words t.walks) = omega (arith, is-walks, length_walk_words t.walks) in
        (λ i. take (many i) (walked i)) ∙ take_put (walk_words t.walks) old₄

    feet_counted : foot_words stations (walks_in walking 0 walks) ≡ foot_words (length t.stations) t.walks
    feet_counted =
        let there = walked ∙ put_front (walk_words t.walks) old₄ in
        let all : walks_in walking 0 walks ≡ t.walks =
        (λ i. walks_in (there i) 0 (is-walks i))
        ∙ walks_back t.walks (drop (length (walk_words t.walks)) old₄) in
        λ i. foot_words (is-stations i) (all i)

    pub joined_words : joined stations trips stops walks body starts numbers walking ≡ words t
    unfolding words
    joined_words =
        λ i. is-stations i
        ∷ is_trips i
        ∷ is-stops i
        ∷ (body_taken i ++ starts_taken i ++ numbers_taken i ++ feet_counted i ++ walks_taken i)
