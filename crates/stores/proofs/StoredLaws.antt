-- The stored sequences in words: exactly the patterns of optimal connections at some minute. By theorem 2 the departure
-- minutes of the source are enough to find them all, and by theorem 3 the words of a store are well made.
use Rattle.std.specs.Prelude.{◌≡◌, not, ◌↔◌, ℕ, suc, ◌*◌, ◌≤◌, T, eqb, length}
use Rattle.std.proofs.Common.{sym, subst, arith, eqb→eq, T_not}
use Rattle.std.proofs.Math.Path.{ap}
use mathlib.Core.List.Memᴰ
use mathlib.Core.List.{List, ◌∷◌, ◌++◌, map}
use Rattle.std.proofs.Math.Dec.{not_T}
use Rattle.timetable.specs.Timetable.{last_minute}
use Rattle.lists.specs.Lists.{◌∈◌, concat_map, range, tail}
use Rattle.lists.specs.Tests.{eq→eqb}
use Rattle.lists.specs.Members.{filter_in, filter_out, concat_map_in, concat_map_out, range_in, range_out}
use Rattle.lists.specs.Pigeonhole.{Within}
use Rattle.lists.specs.Sorting.{sort_in, sort_out}
use Rattle.results.specs.Results.{undominated}
use Rattle.results.proofs.Picks.{undominated_in, undominated_out}
use Rattle.connections.specs.Connections.{Net, Connection, direct, onward, Optimal, stations}
use Rattle.connections.specs.Planner.{planner_list, measure}
use Rattle.connections.proofs.Sound.{Sound}
use Rattle.connections.proofs.Feasibility.{stations_listed}
use Rattle.connections.proofs.Listed.{optimal_in, optimal_out}
use Rattle.connections.proofs.OptimalLaws.{pattern_short}
use Rattle.stores.specs.Stored.{minutes, targets, optimals, optimal_stations, stored, Target, Sequence}
use Rattle.stores.specs.Words.{nodes, arcs, rides_most, entries_most, readable, store_words, well_made}
use Rattle.stores.specs.Sequences.{Odd}
use Rattle.stores.specs.RoundTrip.{read_back}
use Rattle.stores.proofs.WellMade.{well_made_lem}

pub target_in : (n : Net) (a b : ℕ) → Target n a b → b ∈ targets n a
target_in n a b h =
    filter_in
    (λ b. not (eqb b a))
    (range_in 1 n.stations b h.first (omega arith))
    (not_T (eqb b a) (λ t. h.other (eqb→eq b a t)))

pub target_out : (n : Net) (a b : ℕ) → b ∈ targets n a → Target n a b
target_out n a b m =
    let r = filter_out (λ b. not (eqb b a)) (range 1 n.stations) m in
    let h = range_out 1 n.stations b r.0 in
    record { first = omega arith; last = omega arith; other = λ e. T_not (eqb b a) r.1 (eq→eqb b a e) }

-- two stations for each change, and then the target
stations_odd : (c : Connection) → Odd (stations c)
stations_odd (direct r) = tt
stations_odd (onward r w c) = stations_odd c

module _ (n : Net) (ok : Sound n) where
  optimals_in : (a t b : ℕ) (c : Connection) → Optimal n a t b c → c ∈ optimals n a t b
  unfolding optimals
  optimals_in a t b c o =
      let l = planner_list n a t b in
      let u = optimal_in n ok a t b c o in
      filter_in (undominated (measure t) l) u.listed (undominated_in (measure t) l c u)

  optimals_out : (a t b : ℕ) (c : Connection) → c ∈ optimals n a t b → Optimal n a t b c
  unfolding optimals
  optimals_out a t b c m =
      let l = planner_list n a t b in
      let r = filter_out (undominated (measure t) l) l m in
      optimal_out n ok a t b c (undominated_out (measure t) l c r.0 r.1)

  -- the pattern of an optimal connection at one of the minutes and to one of the targets given
  record Found (a : ℕ) (ts bs q : List ℕ) : Type 0 where
    minute : ℕ
    target : ℕ
    connection : Connection
    in_minutes : minute ∈ ts
    in_targets : target ∈ bs
    optimal : Optimal n a minute target connection
    is : stations connection ≡ q

  -- the sequences of one minute and target, and those of one minute
  abbrev at_minute : (a : ℕ) (bs : List ℕ) (t : ℕ) → List (List ℕ)
  at_minute a bs t = concat_map (λ b. map stations (optimals n a t b)) bs

  found_out : (a : ℕ) (ts bs q : List ℕ) → q ∈ optimal_stations n a ts bs → Found a ts bs q
  unfolding optimal_stations
  found_out a ts bs q m =
      let x = concat_map_out (at_minute a bs) ts m in
      let y = concat_map_out (λ b. map stations (optimals n a x.0 b)) bs x.2 in
      let z = Memᴰ.of_map stations (optimals n a x.0 y.0) y.2 in
      record {
        minute = x.0;
        target = y.0;
        connection = z.0;
        in_minutes = x.1;
        in_targets = y.1;
        optimal = optimals_out a x.0 y.0 z.0 z.1;
        is = z.2;
      }

  found_in : (a : ℕ) (ts bs q : List ℕ) → Found a ts bs q → q ∈ optimal_stations n a ts bs
  unfolding optimal_stations
  found_in a ts bs q h =
      let t = h.minute in
      let o = optimals_in a t h.target h.connection h.optimal in
      let to-target = Memᴰ.cast (sym h.is) (Memᴰ.map stations o) in
      let in-minute = concat_map_in (λ b. map stations (optimals n a t b)) h.in_targets to-target in
      concat_map_in (at_minute a bs) h.in_minutes in-minute

  pub stored_out : (a : ℕ) (q : List ℕ) → q ∈ stored n a → Sequence n a q
  unfolding stored
  stored_out a q m =
      let h = found_out a minutes (targets n a) q (sort_out (optimal_stations n a minutes (targets n a)) m) in
      let u = range_out 0 (suc last_minute) h.minute h.in_minutes in
      record {
        minute = h.minute;
        target = h.target;
        connection = h.connection;
        in_time_lem = omega arith;
        elsewhere = target_out n a h.target h.in_targets;
        optimal = h.optimal;
        is = ap (λ q. a ∷ q) h.is;
      }

  -- without the source
  pub sequence_is : (a : ℕ) (q : List ℕ) (s : Sequence n a q) → stations s.connection ≡ q
  sequence_is a q s = ap tail s.is

  pub stored_in : (a : ℕ) (q : List ℕ) → Sequence n a q → q ∈ stored n a
  unfolding stored
  stored_in a q s = sort_in (found_in a minutes (targets n a) q found)
    where
      found : Found a minutes (targets n a) q
      found =
          record {
            minute = s.minute;
            target = s.target;
            connection = s.connection;
            in_minutes = range_in 0 (suc last_minute) s.minute (omega arith) (omega (arith, s.in_time_lem));
            in_targets = target_in n a s.target s.elsewhere;
            optimal = s.optimal;
            is = sequence_is a q s;
          }

  pub stored_odd : (a : ℕ) (q : List ℕ) → q ∈ stored n a → Odd q
  stored_odd a q m =
      let s = stored_out a q m in
      subst Odd (sequence_is a q s) (stations_odd s.connection)

  -- theorem 4 for the store of a source
  pub store_read : (a : ℕ) (post q : List ℕ) → q ∈ readable (store_words n a ++ post) ↔ q ∈ stored n a
  unfolding store_words
  store_read a post q = read_back (stored n a) (stored_odd a) post q

  module _ (a : ℕ) where
    stored_within : (q : List ℕ) → q ∈ stored n a → Within n.stations q
    stored_within q m =
        let s = stored_out a q m in
        subst
        (Within n.stations)
        (sequence_is a q s)
        (stations_listed n ok a s.minute s.target s.connection s.optimal.feasible)

    -- "a pattern has at most 64 rides"
    pub stored_short : (q : List ℕ) → q ∈ stored n a → suc (length q) ≤ 2 * rides_most
    stored_short q m =
        let s = stored_out a q m in
        subst
        (λ q. suc (length q) ≤ 2 * rides_most)
        (sequence_is a q s)
        (pattern_short n ok a s.minute s.target s.connection s.optimal)

    pub store_well_made : (post : List ℕ) → length (nodes (stored n a)) ≤ entries_most
        → length (arcs (stored n a)) ≤ entries_most → T (well_made n.stations (store_words n a ++ post))
    unfolding store_words
    store_well_made = well_made_lem n.stations (stored n a) (stored_odd a) stored_within stored_short
