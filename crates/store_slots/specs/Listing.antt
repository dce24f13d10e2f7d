-- The slots one after the other, as loops list them.
use Rattle.std.specs.Prelude.{◌≡◌, refl, Bool, true, false, cond, List, [], ◌∷◌, ◌++◌, map}
use Rattle.std.proofs.Math.Path.{ap}
use Prim.Native.Nat.{ℕ, suc, ◌+◌, ◌-◌, ◌≤◌, ◌<◌}
use native.Mathlib.Omega.{arith}
use Rattle.std.proofs.Math.Dec.{ltb}
use Rattle.lists.specs.Lists.{keep, filter, concat_map, range}
use Rattle.lists.specs.Ranges.{range_more, range_none}
use Rattle.timetable.specs.Words.{station_count, walks_to, walk_at}
use Rattle.store_slots.specs.Slots.{here_slot, walks_from, slots_from, slots}

-- a station is above station y, or below it
unfoldable pub beyond : (above : Bool) (y to : ℕ) → Bool
beyond above y to = cond above (ltb y to) (ltb to y)

-- a list that is kept element by element
kept_each : {A : Type 0} (f : ℕ → A) (p : ℕ → Bool) (l : List ℕ)
    → map f (filter p l) ≡ concat_map (λ k. keep (p k) (f k) []) l
kept_each f p [] = refl
kept_each f p (k ∷ l) = go (p k) (kept_each f p l)
  where
    go : (t : Bool) → map f (filter p l) ≡ concat_map (λ k. keep (p k) (f k) []) l
        → map f (keep t k (filter p l)) ≡ keep t (f k) [] ++ concat_map (λ k. keep (p k) (f k) []) l
    go true ih = ap (λ m. f k ∷ m) ih
    go false ih = ih

module _ (w : List ℕ) where
  -- the slot of walk k, if it leads beyond station y
  unfoldable pub walk_listed : (above : Bool) (y k : ℕ) → List ℕ
  walk_listed above y k = keep (beyond above y (walk_at w k).to) (64 + k) []

  -- those of the walks from k to before end
  unfoldable pub side_slots : (above : Bool) (y k end : ℕ) → List ℕ
  side_slots above y k end = concat_map (walk_listed above y) (range k (end - k))

  module _ (above : Bool) (y k end : ℕ) where
    pub side_more : k < end → side_slots above y k end ≡ walk_listed above y k ++ side_slots above y (k + 1) end
    unfolding side_slots
    side_more h = ap (concat_map (walk_listed above y)) (range_more k end h)

    pub side_none : end ≤ k → side_slots above y k end ≡ []
    unfolding side_slots
    side_none h = ap (concat_map (walk_listed above y)) (range_none k end h)

  -- the slots that begin with station y, from the walks below it on
  pub from_sides : (y : ℕ)
      → slots_from w y
      ≡ side_slots false y (walks_to w (y - 1)) (walks_to w y)
      ++ (here_slot y ∷ side_slots true y (walks_to w (y - 1)) (walks_to w y))
  unfolding slots_from side_slots walk_listed beyond
  from_sides y =
      λ i.
      kept_each (λ k. 64 + k) (λ k. ltb (walk_at w k).to y) (walks_from w y) i
      ++ (here_slot y ∷ kept_each (λ k. 64 + k) (λ k. ltb y (walk_at w k).to) (walks_from w y) i)

  -- the slots that begin with stations from y to before end
  unfoldable pub slots_to : (y end : ℕ) → List ℕ
  slots_to y end = concat_map (slots_from w) (range y (end - y))

  pub slots_more : (y end : ℕ) → y < end → slots_to y end ≡ slots_from w y ++ slots_to (y + 1) end
  unfolding slots_to
  slots_more y end h = ap (concat_map (slots_from w)) (range_more y end h)

  pub slots_none : (y end : ℕ) → end ≤ y → slots_to y end ≡ []
  unfolding slots_to
  slots_none y end h = ap (concat_map (slots_from w)) (range_none y end h)

  pub slots_all : slots_to 1 (suc (station_count w)) ≡ slots w
  unfolding slots_to slots
  slots_all =
      let many : suc (station_count w) - 1 ≡ station_count w = omega arith in
      ap (λ k. concat_map (slots_from w) (range 1 k)) many
