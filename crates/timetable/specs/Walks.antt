-- The walks of a timetable by its words: those of one station stand together, in rising order.
use Rattle.std.specs.Prelude.{◌≡◌, Bool, ◌&&◌, ◌⊎◌, ltb, eqb}
use Rattle.std.proofs.Math.Path.{refl, sym, ap}
use Rattle.std.proofs.Common.{subst, ◌∙◌, inl, inr, leb→le}
use Rattle.std.proofs.Math.Bool.{true, false, cond}
use mathlib.Core.List.Memᴰ
use mathlib.Core.List.{List, [], ◌∷◌, map}
use Prim.Native.Nat.{ℕ, zero, suc, ◌+◌, ◌-◌, ◌≤◌, ◌<◌}
use native.Mathlib.Omega.{arith}
use borrow.Author.Tests.{leb-true, leb-false, ltb-true, eqb-true}
use Rattle.std.proofs.Math.Dec.{T, leb, nleb→lt}
use Rattle.std.proofs.Math.ListN.{length, get_or}
use Rattle.lists.specs.Lists.{◌∈◌, range}
use Rattle.lists.specs.Members.{range_in, range_out, same_eq}
use Rattle.lists.specs.Tests.{either, and_left, and_right, or_other}
use Rattle.timetable.specs.Timetable.{Walk, walks_most, valid_walk, walk_before, valid_walks, valid}
use Rattle.timetable.specs.Words.{
  count_to,
  foot_words,
  station_count,
  walks_to,
  walk_count,
  walk_at,
  timetable_of,
  footed,
  is_timetable,
}
use Rattle.timetable.specs.Check.{length_stations, length_walks, few_walks, decision, decided}
use Rattle.timetable.specs.Access.{map_numbers, spelled_valid, is_footed}

-- what question 9 asks of a walk: "minutes 1 to 60, penalty 1 to 1,000", stations listed, of n stations
pub record GoodWalk (n : ℕ) (v : Walk) : Type 0 where
  pub from_first : 1 ≤ v.from
  pub from_last : v.from ≤ n
  pub to_first : 1 ≤ v.to
  pub to_last : v.to ≤ n
  pub minutes_least : 1 ≤ v.minutes
  pub minutes_most : v.minutes ≤ 60
  pub points_least : 1 ≤ v.points
  pub points_most : v.points ≤ 1000

-- walk k is one of those from station y
pub record FromStation (w : List ℕ) (y k : ℕ) : Type 0 where
  pub begun : walks_to w (y - 1) ≤ k
  pub inside : k < walks_to w y

-- ---- valid walks
is_good : (n : ℕ) (v : Walk) → valid_walk n v ≡ true → GoodWalk n v
unfolding valid_walk
is_good n v e =
    record {
      from_first = search (and_left, leb-true) depth 12;
      from_last = search (and_left, and_right, leb-true) depth 12;
      to_first = search (and_left, and_right, leb-true) depth 12;
      to_last = search (and_left, and_right, leb-true) depth 12;
      minutes_least = search (and_left, and_right, leb-true) depth 12;
      minutes_most = search (and_left, and_right, leb-true) depth 12;
      points_least = search (and_left, and_right, leb-true) depth 12;
      points_most = search (and_right, leb-true) depth 12;
    }

-- "strictly rising by from, then to"
abbrev pub Before : Walk → Walk → Type 0
Before w v = (w.from < v.from) ⊎ ((w.from ≡ v.from) × (w.to < v.to))

is_before : (w v : Walk) → walk_before w v ≡ true → Before w v
unfolding walk_before
is_before w v e = apart (ltb w.from v.from) refl
  where
    apart : (b : Bool) → ltb w.from v.from ≡ b → Before w v
    apart true h = inl (ltb-true w.from v.from h)
    apart false h =
        let both = or_other (ltb w.from v.from) (eqb w.from v.from && ltb w.to v.to) e h in
        inr (search (and_left, eqb-true), search (and_right, ltb-true))

before_trans : (w v u : Walk) → Before w v → Before v u → Before w u
before_trans w v u (inl h) (inl g) = inl (omega arith)
before_trans w v u (inl h) (inr g) = inl (omega arith)
before_trans w v u (inr h) (inl g) = inl (omega arith)
before_trans w v u (inr h) (inr g) = inr (omega arith, omega arith)

before_from : (w v : Walk) → Before w v → w.from ≤ v.from
before_from w v (inl h) = omega arith
before_from w v (inr h) = omega arith

module _ (n : ℕ) (d : Walk) where
  valid_rest : (w : Walk) (l : List Walk) → valid_walks n (w ∷ l) ≡ true → valid_walks n l ≡ true
  unfolding valid_walks
  valid_rest w [] e = refl
  valid_rest w (v ∷ l) e = search and_right

  valid_at : (l : List Walk) (k : ℕ) → valid_walks n l ≡ true → k < length l → valid_walk n (get_or l k d) ≡ true
  unfolding valid_walks
  valid_at [] k e h = absurd (omega arith)
  valid_at (w ∷ []) zero e h = e
  valid_at (w ∷ []) (suc k) e h = absurd (omega arith)
  valid_at (w ∷ v ∷ l) zero e h = search (and_left)
  valid_at (w ∷ v ∷ l) (suc k) e h = valid_at (v ∷ l) k (search and_right) (omega arith)

  rises_at_lem : (l : List Walk) (i j : ℕ) → valid_walks n l ≡ true → i < j → j < length l
      → Before (get_or l i d) (get_or l j d)
  unfolding valid_walks
  rises_at_lem [] i j e h g = absurd (omega arith)
  rises_at_lem (w ∷ []) i j e h g = absurd (omega arith)
  rises_at_lem (w ∷ v ∷ l) zero zero e h g = absurd (omega arith)
  rises_at_lem (w ∷ v ∷ l) zero (suc zero) e h g = is_before w v (search (and_left, and_right))
  rises_at_lem (w ∷ v ∷ l) zero (suc (suc j)) e h g =
      before_trans w v (get_or l j d)
      (is_before w v (search (and_left, and_right)))
      (rises_at_lem (v ∷ l) zero (suc j) (search and_right) (omega arith) (omega arith))
  rises_at_lem (w ∷ v ∷ l) (suc i) zero e h g = absurd (omega arith)
  rises_at_lem (w ∷ v ∷ l) (suc i) (suc j) e h g =
      rises_at_lem (v ∷ l) i j (search and_right) (omega arith) (omega arith)

  -- ---- how many there are from stations up to y
  count_few : (l : List Walk) (y : ℕ) → count_to l y ≤ length l
  unfolding count_to
  count_few [] y = omega arith
  count_few (w ∷ l) y = go (leb w.from y) (count_few l y)
    where
      go : (b : Bool) → count_to l y ≤ length l → cond b (suc (count_to l y)) (count_to l y) ≤ suc (length l)
      go true h = omega arith
      go false h = omega arith

  -- they are the first
  count_in : (l : List Walk) (k y : ℕ) → valid_walks n l ≡ true → k < length l → (get_or l k d).from ≤ y → k < count_to
      l y
  unfolding count_to
  count_in [] k y e h g = absurd (omega arith)
  count_in (w ∷ l) zero y e h g = go (leb w.from y) refl
    where
      go : (b : Bool) → leb w.from y ≡ b → 0 < cond b (suc (count_to l y)) (count_to l y)
      go true f = omega arith
      go false f = absurd (omega (arith, leb-false w.from y f))
  count_in (w ∷ l) (suc k) y e h g =
      go (leb w.from y) refl (count_in l k y (valid_rest w l e) (omega arith) g)
    where
      go : (b : Bool) → leb w.from y ≡ b → k < count_to l y → suc k < cond b (suc (count_to l y)) (count_to l y)
      go true f i = omega arith
      go false f i =
          let up = before_from w (get_or l k d) (rises_at_lem (w ∷ l) zero (suc k) e (omega arith) h) in
          absurd (omega (arith, up, leb-false w.from y f))

  count_out : (l : List Walk) (k y : ℕ) → valid_walks n l ≡ true → k < count_to l y → (get_or l k d).from ≤ y
  unfolding count_to
  count_out [] k y e h = absurd (omega arith)
  count_out (w ∷ l) zero y e h = go (leb w.from y) refl h (count_out l 0 y (valid_rest w l e))
    where
      go : (b : Bool) → leb w.from y ≡ b → 0 < cond b (suc (count_to l y)) (count_to l y)
          → (0 < count_to l y → (get_or l 0 d).from ≤ y) → w.from ≤ y
      go true f g i = leb-true w.from y f
      go false f g i =
          let some : 0 < length l = omega (arith, count_few l y) in
          let up = before_from w (get_or l 0 d) (rises_at_lem (w ∷ l) zero (suc zero) e (omega arith) (omega arith)) in
          absurd (omega (arith, up, i g, leb-false w.from y f))
  count_out (w ∷ l) (suc k) y e h = go (leb w.from y) refl h (λ j. count_out l j y (valid_rest w l e))
    where
      go : (b : Bool) → leb w.from y ≡ b → suc k < cond b (suc (count_to l y)) (count_to l y)
          → ((j : ℕ) → j < count_to l y → (get_or l j d).from ≤ y) → (get_or l k d).from ≤ y
      go true f g i = i k (omega arith)
      go false f g i = i k (omega arith)

count_rise : (l : List Walk) (y z : ℕ) → y ≤ z → count_to l y ≤ count_to l z
unfolding count_to
count_rise [] y z h = omega arith
count_rise (w ∷ l) y z h = go (leb w.from y) refl (leb w.from z) refl (count_rise l y z h)
  where
    go : (a : Bool) → leb w.from y ≡ a → (b : Bool) → leb w.from z ≡ b → count_to l y ≤ count_to l z
        → cond a (suc (count_to l y)) (count_to l y) ≤ cond b (suc (count_to l z)) (count_to l z)
    go true f true g i = omega arith
    go true f false g i = absurd (omega (arith, leb-true w.from y f, leb-false w.from z g))
    go false f true g i = omega arith
    go false f false g i = i

-- ---- the walks of a timetable
walk_is : (w : List ℕ) (k : ℕ) (d : Walk) → k < walk_count w → get_or (timetable_of w).walks k d ≡ walk_at w k
unfolding timetable_of
walk_is w k d h = map_numbers (walk_at w) 0 (walk_count w) k d h ∙ ap (walk_at w) (omega arith)

module _ (w : List ℕ) (yes : is_timetable w ≡ true) where
  abbrev all : List Walk
  all = (timetable_of w).walks

  abbrev first : Walk
  first = walk_at w 0

  all_valid : valid_walks (station_count w) all ≡ true
  unfolding valid
  all_valid =
      let v = spelled_valid w yes in
      let there : valid_walks (length (timetable_of w).stations) all ≡ true = search (and_left, and_right) in
      rw (length_stations w) at there

  count_is : (y : ℕ) → y ≤ station_count w → walks_to w y ≡ count_to all y
  unfolding footed foot_words
  count_is y h =
      let there : List ℕ = map (walks_to w) (range 0 (suc (station_count w))) in
      let whole : there ≡ foot_words (station_count w) all =
      same_eq there (foot_words (station_count w) all) (subst T (sym (is_footed w yes)) tt) in
      let here : 0 + y ≡ y = omega arith in
      sym (ap (walks_to w) here)
      ∙ sym (map_numbers (walks_to w) 0 (suc (station_count w)) y 0 (omega arith))
      ∙ ap (λ l. get_or l y 0) whole
      ∙ map_numbers (count_to all) 0 (suc (station_count w)) y 0 (omega arith)
      ∙ ap (count_to all) here

  pub walks_few : walk_count w ≤ walks_most
  walks_few =
      let d : decision w ≡ true = sym (decided w) ∙ yes in
      let few : few_walks w ≡ true = search (and_left, and_right) depth 12 in
      leb-true (walk_count w) 256 few

  pub walks_rise : (y z : ℕ) → y ≤ z → z ≤ station_count w → walks_to w y ≤ walks_to w z
  walks_rise y z h g =
      omega (arith, count_is y (omega arith), count_is z g, count_rise all y z h)

  pub good_walk : (k : ℕ) → k < walk_count w → GoodWalk (station_count w) (walk_at w k)
  good_walk k h =
      let v = valid_at (station_count w) first all k all_valid (omega (arith, length_walks w)) in
      is_good (station_count w) (walk_at w k) (rw (walk_is w k first h) at v)

  from_least : (y k : ℕ) → k < walk_count w → y ≤ station_count w → walks_to w y ≤ k → y < (walk_at w k).from
  from_least y k h g f =
      either
      (leb (walk_at w k).from y)
      (λ t. absurd (omega (
        arith,
        count_is y g,
        count_in (station_count w) first all k y all_valid (omega (arith, length_walks w))
            (rw (walk_is w k first h) (leb→le (walk_at w k).from y t)),
      )))
      (λ t. nleb→lt (walk_at w k).from y t)

  from_most : (y k : ℕ) → k < walk_count w → y ≤ station_count w → k < walks_to w y → (walk_at w k).from ≤ y
  from_most y k h g f =
      rw (walk_is w k first h) at
      (count_out (station_count w) first all k y all_valid (omega (arith, count_is y g)))

  -- a walk stands among those of the station that it is from, and no other does
  pub walk_place_lem : (k : ℕ) → k < walk_count w → FromStation w (walk_at w k).from k
  walk_place_lem k h =
      let good = good_walk k h in
      let y = (walk_at w k).from in
      record {
        begun =
            either
            (leb (walks_to w (y - 1)) k)
            (λ t. leb→le (walks_to w (y - 1)) k t)
            (λ t. absurd (omega (
              arith,
              good.from_first,
              from_most (y - 1) k h (omega (arith, good.from_last)) (nleb→lt (walks_to w (y - 1)) k t),
            )));
        inside =
            either
            (leb (walks_to w y) k)
            (λ t. absurd (omega (arith, from_least y k h good.from_last (leb→le (walks_to w y) k t))))
            (λ t. nleb→lt (walks_to w y) k t);
      }

  pub walk_from : (y k : ℕ) → 1 ≤ y → y ≤ station_count w → FromStation w y k → (walk_at w k).from ≡ y
  walk_from y k h g f =
      let within : k < walk_count w = omega (arith, f.inside, walks_rise y (station_count w) g (omega arith)) in
      omega (arith, from_least (y - 1) k within (omega arith) f.begun, from_most y k within g f.inside)

  -- "strictly rising by from, then to"
  pub walk_rises : (i j : ℕ) → i < j → j < walk_count w
      → ((walk_at w i).from < (walk_at w j).from)
      ⊎ (((walk_at w i).from ≡ (walk_at w j).from) × ((walk_at w i).to < (walk_at w j).to))
  walk_rises i j h g =
      let r = rises_at_lem (station_count w) first all i j all_valid h (omega (arith, length_walks w)) in
      rw (walk_is w i first (omega arith), walk_is w j first g) at r

pub walk_in_lem : (w : List ℕ) (k : ℕ) → k < walk_count w → walk_at w k ∈ (timetable_of w).walks
unfolding timetable_of
walk_in_lem w k h = Memᴰ.map (walk_at w) (range_in 0 (walk_count w) k (omega arith) (omega arith))

pub walk_out : (w : List ℕ) (v : Walk) → v ∈ (timetable_of w).walks → (k : ℕ) × (k < walk_count w) × (walk_at w k ≡ v)
unfolding timetable_of
walk_out w v m =
    let r = Memᴰ.of_map (walk_at w) (range 0 (walk_count w)) m in
    (r.0, omega (arith, range_out 0 (walk_count w) r.0 r.1), r.2)
