-- Where the words of stations, of stops, of numbers and of walks stand: a run of any of them is a part of the
-- timetable's words.
use Rattle.std.specs.Prelude.{◌≡◌, List, ◌∷◌, map, length, drop}
use Rattle.std.proofs.Math.Path.{refl, sym, ap}
use Rattle.std.proofs.Common.{◌∙◌, add-one, drop-cons}
use Prim.Native.Nat.{ℕ, zero, suc, ◌+◌, ◌-◌, ◌*◌, ◌≤◌, ◌<◌}
use native.Mathlib.Omega.{arith}
use Rattle.std.proofs.Math.ListN.{get_or, take}
use Rattle.lists.specs.Lists.{range}
use Rattle.timetable.specs.Words.{
  station_words,
  stop_words,
  walk_words,
  station_count,
  trip_count,
  stop_count,
  station_at,
  stop_in,
  stop_place,
  stop_at,
  number_at,
  foot_place,
  walk_place,
  walk_at,
}
use Rattle.timetable.specs.Check.{stations_at, stops_at, numbers_at, walks_at, between}

-- the words from i on begin with word i
pub take_one : (w : List ℕ) (i n : ℕ) → i < length w → take (suc n) (drop i w) ≡ get_or w i 0 ∷ take n (drop (i + 1) w)
take_one w i n h = ap (take (suc n)) (drop-cons w i 0 h) ∙ ap (λ k. get_or w i 0 ∷ take n (drop k w)) (sym (add-one i))

module _ (w : List ℕ) where
  stations_back : (k n : ℕ) → 3 + 2 * (k + n) ≤ length w
      → station_words (map (station_at w) (range k n)) ≡ take (2 * n) (drop (3 + 2 * k) w)
  unfolding station_words station_at
  stations_back k zero h = refl
  stations_back k (suc n) h =
      let two : 2 * suc n ≡ suc (suc (2 * n)) = omega arith in
      let next : 3 + 2 * k + 1 + 1 ≡ 3 + 2 * suc k = omega arith in
      sym
      (ap (λ m. take m (drop (3 + 2 * k) w)) two
      ∙ take_one w (3 + 2 * k) (suc (2 * n)) (omega arith)
      ∙ ap (λ l. get_or w (3 + 2 * k) 0 ∷ l)
      (take_one w (3 + 2 * k + 1) (2 * n) (omega arith)
      ∙ ap (λ l. get_or w (3 + 2 * k + 1) 0 ∷ l)
      (ap (λ j. take (2 * n) (drop j w)) next ∙ sym (stations_back (suc k) n (omega arith)))))

  pub stops_back : (k n : ℕ) → stop_place w (k + n) ≤ length w
      → stop_words (map (stop_at w) (range k n)) ≡ take (5 * n) (drop (stop_place w k) w)
  unfolding stop_words stop_at stop_in
  stops_back k zero h = refl
  stops_back k (suc n) h =
      let p = stop_place w k in
      let five : 5 * suc n ≡ suc (suc (suc (suc (suc (5 * n))))) = omega arith in
      let two : p + 1 + 1 ≡ p + 2 = omega arith in
      let three : p + 2 + 1 ≡ p + 3 = omega arith in
      let four : p + 3 + 1 ≡ p + 4 = omega arith in
      let next : p + 4 + 1 ≡ stop_place w (suc k) = omega arith in
      let rest = ap (λ j. take (5 * n) (drop j w)) next ∙ sym (stops_back (suc k) n (omega arith)) in
      let e = take_one w (p + 4) (5 * n) (omega arith) ∙ ap (λ l. get_or w (p + 4) 0 ∷ l) rest in
      let d = take_one w (p + 3) (suc (5 * n)) (omega arith)
      ∙ ap (λ l. get_or w (p + 3) 0 ∷ l) (ap (λ j. take (suc (5 * n)) (drop j w)) four ∙ e) in
      let c = take_one w (p + 2) (suc (suc (5 * n))) (omega arith)
      ∙ ap (λ l. get_or w (p + 2) 0 ∷ l) (ap (λ j. take (suc (suc (5 * n))) (drop j w)) three ∙ d) in
      let b = take_one w (p + 1) (suc (suc (suc (5 * n)))) (omega arith)
      ∙ ap (λ l. get_or w (p + 1) 0 ∷ l) (ap (λ j. take (suc (suc (suc (5 * n)))) (drop j w)) two ∙ c) in
      sym
      (ap (λ m. take m (drop p w)) five
      ∙ take_one w p (suc (suc (suc (suc (5 * n))))) (omega arith)
      ∙ ap (λ l. get_or w p 0 ∷ l) b)

  -- where the numbers begin
  abbrev pub numbers_place : ℕ
  numbers_place = stop_place w (stop_count w) + (trip_count w + 1)

  numbers_back : (k n : ℕ) → numbers_place + (k + n) ≤ length w
      → map (number_at w) (range k n) ≡ take n (drop (numbers_place + k) w)
  unfolding number_at
  numbers_back k zero h = refl
  numbers_back k (suc n) h =
      let next : numbers_place + k + 1 ≡ numbers_place + suc k = omega arith in
      sym
      (take_one w (numbers_place + k) n (omega arith)
      ∙ ap (λ l. get_or w (numbers_place + k) 0 ∷ l)
      (ap (λ j. take n (drop j w)) next ∙ sym (numbers_back (suc k) n (omega arith))))

  walks_back : (k n : ℕ) → walk_place w (k + n) ≤ length w
      → walk_words (map (walk_at w) (range k n)) ≡ take (4 * n) (drop (walk_place w k) w)
  unfolding walk_words walk_at
  walks_back k zero h = refl
  walks_back k (suc n) h =
      let p = walk_place w k in
      let four : 4 * suc n ≡ suc (suc (suc (suc (4 * n)))) = omega arith in
      let two : p + 1 + 1 ≡ p + 2 = omega arith in
      let three : p + 2 + 1 ≡ p + 3 = omega arith in
      let next : p + 3 + 1 ≡ walk_place w (suc k) = omega arith in
      let rest = ap (λ j. take (4 * n) (drop j w)) next ∙ sym (walks_back (suc k) n (omega arith)) in
      let d = take_one w (p + 3) (4 * n) (omega arith) ∙ ap (λ l. get_or w (p + 3) 0 ∷ l) rest in
      let c = take_one w (p + 2) (suc (4 * n)) (omega arith)
      ∙ ap (λ l. get_or w (p + 2) 0 ∷ l) (ap (λ j. take (suc (4 * n)) (drop j w)) three ∙ d) in
      let b = take_one w (p + 1) (suc (suc (4 * n))) (omega arith)
      ∙ ap (λ l. get_or w (p + 1) 0 ∷ l) (ap (λ j. take (suc (suc (4 * n))) (drop j w)) two ∙ c) in
      sym
      (ap (λ m. take m (drop p w)) four
      ∙ take_one w p (suc (suc (suc (4 * n)))) (omega arith)
      ∙ ap (λ l. get_or w p 0 ∷ l) b)

  -- ---- from one place up to another
  pub stations_part : (n : ℕ) → 3 + 2 * n ≤ length w → station_words (stations_at w 0 n) ≡ take (2 * n) (drop 3 w)
  unfolding between
  stations_part n h =
      let all : n - 0 ≡ n = omega arith in
      ap (λ m. station_words (map (station_at w) (range 0 m))) all ∙ stations_back 0 n (omega arith)

  pub stops_part : (i n : ℕ) → i ≤ n → stop_place w n ≤ length w
      → stop_words (stops_at w i n) ≡ take (5 * (n - i)) (drop (stop_place w i) w)
  unfolding between
  stops_part i n h g =
      let whole : i + (n - i) ≡ n = omega arith in
      stops_back i (n - i) (omega (arith, ap (stop_place w) whole))

  pub numbers_part : (i n : ℕ) → i ≤ n → numbers_place + n ≤ length w
      → numbers_at w i n ≡ take (n - i) (drop (numbers_place + i) w)
  unfolding between
  numbers_part i n h g = numbers_back i (n - i) (omega arith)

  pub walks_part : (n : ℕ) → walk_place w n ≤ length w
      → walk_words (walks_at w 0 n) ≡ take (4 * n) (drop (foot_place w + (station_count w + 1)) w)
  unfolding between
  walks_part n h =
      let all : n - 0 ≡ n = omega arith in
      let none : walk_place w 0 ≡ foot_place w + (station_count w + 1) = omega arith in
      ap (λ m. walk_words (map (walk_at w) (range 0 m))) all
      ∙ walks_back 0 n (omega arith)
      ∙ ap (λ j. take (4 * n) (drop j w)) none
