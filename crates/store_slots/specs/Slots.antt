-- The slots of a timetable: a number below 320 for each pair of stations that a change can name. A change at station y
-- itself has slot y - 1, walk k slot 64 + k, but a walk from a station to itself has the slot of that station, since
-- both have one pattern.
use Rattle.std.specs.Prelude.{cond, List, ◌∷◌, ◌++◌, map, ℕ, suc, ◌+◌, ◌-◌, ltb, eqb}
use Rattle.lists.specs.Lists.{filter, concat_map, range}
use Rattle.timetable.specs.Words.{station_count, walks_to, walk_at}
use Rattle.connections.specs.Connections.{Transfer}

-- 64 stations and 256 walks
abbrev pub slots_most : ℕ
slots_most = 320

abbrev pub here_slot : (y : ℕ) → ℕ
here_slot y = y - 1

module _ (w : List ℕ) where
  unfoldable pub walk_slot : (k : ℕ) → ℕ
  walk_slot k = cond (eqb (walk_at w k).from (walk_at w k).to) (here_slot (walk_at w k).from) (64 + k)

  -- the stations that a slot stands for
  unfoldable pub transfer_at : (slot : ℕ) → Transfer
  transfer_at s =
      cond (ltb s 64)
      (record { alighted = suc s; boarded = suc s })
      (record { alighted = (walk_at w (s - 64)).from; boarded = (walk_at w (s - 64)).to })

  -- the walks from station y
  abbrev pub walks_from : (y : ℕ) → List ℕ
  walks_from y = range (walks_to w (y - 1)) (walks_to w y - walks_to w (y - 1))

  -- the slots of the pairs that begin with station y, in the order of the stations boarded at
  unfoldable pub slots_from : (y : ℕ) → List ℕ
  slots_from y =
      map (λ k. 64 + k) (filter (λ k. ltb (walk_at w k).to y) (walks_from y))
      ++ (here_slot y ∷ map (λ k. 64 + k) (filter (λ k. ltb y (walk_at w k).to) (walks_from y)))

  -- all slots, in the order of the pairs that they stand for
  unfoldable pub slots : List ℕ
  slots = concat_map slots_from (range 1 (station_count w))
