-- Theorem 1: a connection is on the planner's list exactly if it is feasible. The list is finite because rides take
-- time.
use Rattle.std.proofs.Math.Path.{refl}
use Rattle.std.specs.Prelude.{◌↔◌, List, eqb}
use mathlib.Core.List.Memᴰ
use Prim.Native.Nat.{ℕ, zero, suc, ◌≤◌}
use Rattle.std.proofs.Common.{arith}
use Rattle.std.proofs.Math.Dec.{eqb→eq}
use Rattle.lists.specs.Lists.{◌∈◌, filter}
use Rattle.lists.specs.Tests.{reads, writes, eq→eqb}
use Rattle.lists.specs.Members.{none, kept_cases, keep_here, keep_there, filter_in, filter_out, concat_map_in}
use Rattle.lists.specs.Members.{concat_map_out}
use Rattle.results.specs.Results.{Undominated, undominated}
use Rattle.connections.specs.Rides.{Ride}
use Rattle.connections.specs.Connections.{Change, Net, Connection, direct, onward, Boards, Changes, Feasible}
use Rattle.connections.specs.Connections.{Optimal, ready}
use Rattle.connections.specs.Planner.{boardable, changeable, after_change, after_ride, by_ride, connections}
use Rattle.connections.specs.Planner.{most_rides, planner_list, ride_count, measure}
use Rattle.connections.proofs.Sound.{Sound}
use Rattle.connections.proofs.Feasibility.{takes_time, ends_in_time}

module _ (n : Net) where
  boards_out : (a t : ℕ) (r : Ride) → r ∈ filter (boardable a t) n.rides → Boards n a t r
  boards_out a t r m =
      let h = filter_out (boardable a t) n.rides m in
      let b = h.1 in
      record { listed = h.0; here = search reads; timely = search reads }

  boards_in : (a t : ℕ) (r : Ride) → Boards n a t r → r ∈ filter (boardable a t) n.rides
  boards_in a t r b = filter_in (boardable a t) b.listed (search writes)

  changes_out : (r : Ride) (w : Change) → w ∈ filter (changeable r) n.changes → Changes n r w
  changes_out r w m =
      let h = filter_out (changeable r) n.changes m in
      record { listed = h.0; here = eqb→eq w.from r.to h.1 }

  changes_in : (r : Ride) (w : Change) → Changes n r w → w ∈ filter (changeable r) n.changes
  changes_in r w h = filter_in (changeable r) h.listed (eq→eqb w.from r.to h.here)

  -- what goes on after the first ride, in at most k rides
  abbrev on : (k b x u : ℕ) → List Connection
  on k b x u = connections n k x u b

  pub listed_feasible : (k a t b : ℕ) (c : Connection) → c ∈ connections n k a t b → Feasible n a t b c
  unfolding connections
  listed_feasible zero a t b c m = none m
  listed_feasible (suc k) a t b c m = go (listed_feasible k)
    where
      go : ((a t b : ℕ) (c : Connection) → c ∈ connections n k a t b → Feasible n a t b c) → Feasible n a t b c
      go ih =
          let i = concat_map_out (by_ride n b (on k b)) (filter (boardable a t) n.rides) m in
          let r = i.0 in
          let board = boards_out a t r i.1 in
          kept_cases (eqb r.to b) i.2 (λ e h. rw e (board, eqb→eq r.to b h)) (rest r board)
        where
          rest : (r : Ride) → Boards n a t r → c ∈ after_ride n (on k b) r → Feasible n a t b c
          rest r board j =
              let p = concat_map_out (after_change (on k b) r) (filter (changeable r) n.changes) j in
              let w = p.0 in
              let q = Memᴰ.of_map (onward r w) (connections n k w.to (ready r w) b) p.2 in
              rw (← q.2) (board, changes_out r w p.1, ih w.to (ready r w) b q.0 q.1)

  pub feasible_listed : (k a t b : ℕ) (c : Connection) → Feasible n a t b c → ride_count c ≤ k
      → c ∈ connections n k a t b
  unfolding connections
  feasible_listed zero a t b (direct r) f h = absurd (omega arith)
  feasible_listed zero a t b (onward r w c) f h = absurd (omega arith)
  feasible_listed (suc k) a t b (direct r) f h =
      let there = keep_here (after_ride n (on k b) r) (eqb r.to b) refl (eq→eqb r.to b f.1) in
      concat_map_in (by_ride n b (on k b)) (boards_in a t r f.0) there
  feasible_listed (suc k) a t b (onward r w c) f h =
      let rest = feasible_listed k w.to (ready r w) b c f.2 (omega arith) in
      let changing = concat_map_in (after_change (on k b) r) (changes_in r w f.1) (Memᴰ.map (onward r w) rest) in
      concat_map_in (by_ride n b (on k b)) (boards_in a t r f.0) (keep_there (direct r) (eqb r.to b) changing)

  module _ (ok : Sound n) where
    pub listed : (a t b : ℕ) (c : Connection) → c ∈ planner_list n a t b ↔ Feasible n a t b c
    unfolding planner_list
    listed a t b c = (
      listed_feasible most_rides a t b c,
      λ f. feasible_listed most_rides a t b c f (omega (arith, takes_time n ok a t b c f, ends_in_time n ok a t b c f)),
    )

    -- undominated on the list is optimal
    pub optimal_out : (a t b : ℕ) (c : Connection) → Undominated (measure t) (planner_list n a t b) c → Optimal n a t b
        c
    optimal_out a t b c u =
        record {
          feasible = (listed a t b c).0 u.listed;
          undominated = λ e f. u.free e ((listed a t b e).1 f);
        }

    pub optimal_in : (a t b : ℕ) (c : Connection) → Optimal n a t b c → Undominated (measure t) (planner_list n a t b) c
    optimal_in a t b c o =
        record {
          listed = (listed a t b c).1 o.feasible;
          free = λ e i. o.undominated e ((listed a t b e).0 i);
        }
