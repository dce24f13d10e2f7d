-- The list that a store keeps and the answer from it: the feasible connections whose sequence is read from its words,
-- and the result of that list.
use Rattle.std.specs.Prelude.{◌↔◌, List, ℕ}
use mathlib.Core.List.Memᴰ
use Rattle.lists.specs.Lists.{◌∈◌, same}
use Rattle.lists.specs.Members.{filter_in, filter_out, any_in, any_out, same_eq, same_refl}
use Rattle.connections.specs.Connections.{Net, Connection, Feasible, stations}
use Rattle.connections.specs.Planner.{planner_list}
use Rattle.connections.proofs.Sound.{Sound}
use Rattle.connections.proofs.Listed.{listed}
use Rattle.stores.specs.Words.{readable, holds, kept_list}

module _ (n : Net) (ok : Sound n) (w : List ℕ) (a m b : ℕ) where
  pub record Kept (c : Connection) : Type 0 where
    pub feasible : Feasible n a m b c
    pub held : stations c ∈ readable w

  kept_out : (c : Connection) → c ∈ kept_list n w a m b → Kept c
  unfolding kept_list
  kept_out c i =
      let f = filter_out (holds (readable w)) (planner_list n a m b) i in
      let s = any_out (same (stations c)) (readable w) f.1 in
      record {
        feasible = (listed n ok a m b c).0 f.0;
        held = Memᴰ.cast (same_eq (stations c) s.0 s.2) s.1;
      }

  kept_in : (c : Connection) → Kept c → c ∈ kept_list n w a m b
  unfolding kept_list
  kept_in c k =
      filter_in
      (holds (readable w))
      ((listed n ok a m b c).1 k.feasible)
      (any_in (same (stations c)) k.held (same_refl (stations c)))

  pub kept_exactly : (c : Connection) → c ∈ kept_list n w a m b ↔ Kept c
  kept_exactly c = (kept_out c, kept_in c)
